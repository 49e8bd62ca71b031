-- A list inside one record, read and written there, as all records say it.
use Rattle.std.proofs.Common.{◌≡◌, List, [], ◌∷◌, ◌++◌, Bool, true, false, cond, Some, sym, ap, ◌∙◌}
use Rattle.ir_model.specs.declared.ids.ArenaIndex.{ArenaIndex}
use Rattle.ir_base_arenas.specs.Arena.{get, fill}
use Rattle.ir_core_records.specs.declared.record.Definer.TheVariants.{Op, Block}
use Rattle.ir_core_records.specs.declared.record.ValueIndex.{ValueIndex}
use Rattle.ir_core_records.specs.declared.record.BlockIndex.{BlockIndex}
use Rattle.ir_core_records.specs.declared.record.UseIndex.{UseIndex}
use Rattle.ir_core_records.specs.declared.record.UsePlace.{UsePlace}
use Rattle.ir_core_records.specs.declared.record.Definition.{Definition}
use Rattle.ir_core_records.specs.declared.record.Operation.{Operation}
use Rattle.ir_core_records.specs.declared.record.BasicBlock.{BasicBlock}
use Rattle.ir_core_records.specs.declared.records.Records.{Records}
use Rattle.ir_core_records.specs.Lists.{uses_with, put_uses}
use Rattle.ir_core_records.specs.Table.{operands_at, successors_at, block_uses_at, definitions_at, uses_at, with_operands, with_successors, with_block_uses, with_uses_by, with_uses}
use Rattle.ir_core_chains.specs.Edits.{edited-lent, in_record-lent}

-- what was written where there was memory, and else written as it stood
pub written_or_same : {S X : Type 0} (b : Bool) (put : List X → S) (xs ys zs : List X) (t s : S) → s ≡ put ys → ys ≡ cond b zs xs → put xs ≡ t → s ≡ cond b (put zs) t
written_or_same true put xs ys zs t s written items self = written ∙ ap put items
written_or_same false put xs ys zs t s written items self = written ∙ ap put items ∙ self

pub pushed_or_same : {S X : Type 0} (b : Bool) (put : List X → S) (xs ys : List X) (y : X) (t s : S) → s ≡ put ys → ys ≡ cond b (xs ++ y ∷ []) xs → put xs ≡ t → s ≡ cond b (put (xs ++ y ∷ [])) t
pushed_or_same b put xs ys y t s written items self = written_or_same b put xs ys (xs ++ y ∷ []) t s written items self

module _ {D A K B S X L : Type 0} (t : Records D A K B S X L) where
  -- lists of an operation
  module _ (o p : ArenaIndex) (x : Operation D A K B S X L) (e : p ≡ o) (at : get t.ops p ≡ Some x) where
    pub operands-read : x.operands ≡ operands_at t o
    operands-read = in_record-lent (λ (op : Operation D A K B S X L). op.operands) [] t.ops o p x e at

    pub operands-written : (xs : List (UsePlace ValueIndex)) → ◌≡◌ {A = Records D A K B S X L} (record t { ops = fill t.ops p (record x { operands = xs }) }) (with_operands t o xs)
    operands-written xs = λ i. record t { ops = edited-lent (λ (op : Operation D A K B S X L). record op { operands = xs }) t.ops o p x e at i }

    pub successors-read : x.successors ≡ successors_at t o
    successors-read = in_record-lent (λ (op : Operation D A K B S X L). op.successors) [] t.ops o p x e at

    pub successors-written : (xs : List (UsePlace BlockIndex)) → ◌≡◌ {A = Records D A K B S X L} (record t { ops = fill t.ops p (record x { successors = xs }) }) (with_successors t o xs)
    successors-written xs = λ i. record t { ops = edited-lent (λ (op : Operation D A K B S X L). record op { successors = xs }) t.ops o p x e at i }

    -- the uses of a result
    pub result_uses-read : (v : ValueIndex) → v.definer ≡ Op o → uses_with x.results v.number ≡ uses_at t v
    result_uses-read v is =
        ap (λ (ds : List Definition). uses_with ds v.number) (in_record-lent (λ (op : Operation D A K B S X L). op.results) [] t.ops o p x e at)
        ∙ (λ i. uses_with (definitions_at t (sym is i)) v.number)

    pub result_uses-written : (v : ValueIndex) (us : List UseIndex) → v.definer ≡ Op o → ◌≡◌ {A = Records D A K B S X L} (record t { ops = fill t.ops p (record x { results = put_uses x.results v.number us }) }) (with_uses t v us)
    result_uses-written v us is =
        (λ i. record t { ops = edited-lent (λ (op : Operation D A K B S X L). record op { results = put_uses op.results v.number us }) t.ops o p x e at i })
        ∙ (λ i. with_uses_by t (sym is i) v.number us)

  -- lists of a block
  module _ (b p : ArenaIndex) (x : BasicBlock D A K B S X L) (e : p ≡ b) (at : get t.blocks p ≡ Some x) where
    -- the uses of an argument
    pub argument_uses-read : (v : ValueIndex) → v.definer ≡ Block b → uses_with x.arguments v.number ≡ uses_at t v
    argument_uses-read v is =
        ap (λ (ds : List Definition). uses_with ds v.number) (in_record-lent (λ (y : BasicBlock D A K B S X L). y.arguments) [] t.blocks b p x e at)
        ∙ (λ i. uses_with (definitions_at t (sym is i)) v.number)

    pub argument_uses-written : (v : ValueIndex) (us : List UseIndex) → v.definer ≡ Block b → ◌≡◌ {A = Records D A K B S X L} (record t { blocks = fill t.blocks p (record x { arguments = put_uses x.arguments v.number us }) }) (with_uses t v us)
    argument_uses-written v us is =
        (λ i. record t { blocks = edited-lent (λ (y : BasicBlock D A K B S X L). record y { arguments = put_uses y.arguments v.number us }) t.blocks b p x e at i })
        ∙ (λ i. with_uses_by t (sym is i) v.number us)

  module _ (b : BlockIndex) (p : ArenaIndex) (x : BasicBlock D A K B S X L) (e : p ≡ b.index) (at : get t.blocks p ≡ Some x) where
    pub block_uses-read : x.uses ≡ block_uses_at t b
    block_uses-read = in_record-lent (λ (y : BasicBlock D A K B S X L). y.uses) [] t.blocks b.index p x e at

    pub block_uses-written : (us : List UseIndex) → ◌≡◌ {A = Records D A K B S X L} (record t { blocks = fill t.blocks p (record x { uses = us }) }) (with_block_uses t b us)
    block_uses-written us = λ i. record t { blocks = edited-lent (λ (y : BasicBlock D A K B S X L). record y { uses = us }) t.blocks b.index p x e at i }
