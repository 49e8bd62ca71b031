-- The records of operations and blocks stand under the indices that they know, and a block has the ends of its list.
use Rattle.std.proofs.Common.{◌≡◌, ◌↔◌, List, refl, sym, ap, ◌∙◌, Option, Some, None, IfSome, IsSome, Result, Ok, Err, IfOk}
use Rattle.std.specs.Option.{option_map}
use Rattle.ir_model.specs.declared.ids.ArenaIndex.{ArenaIndex}
use Rattle.ir_model.specs.ContextIds.{context_ids}
use Rattle.ir_model.specs.Forest.{BlockRecord, a_block, a_region, an_op}
use Rattle.ir_model.specs.Nesting.{IsLive, list_of, ops_of}
use Rattle.ir_model.specs.Parent.{first_of, last_of}
use Rattle.ir_base_arenas.specs.Arena.{get, IsLiveIn}
use Rattle.ir_core_records.specs.declared.record.Operation.{Operation}
use Rattle.ir_core_records.specs.declared.record.BasicBlock.{BasicBlock}
use Rattle.ir_core_records.specs.declared.record.Region.{Region}
use Rattle.ir_core_records.specs.Meaning.{closed, op_record, block_record}
use Rattle.ir_core_records.specs.Tree.{block_ends, blocks_in, ops_in, tree_of}
use Rattle.ir_core_context.specs.Calls.{IsBlock, IsOperation, IsRegion}
use Rattle.ir_core_context.specs.Sound.{IsSound}
use Rattle.ir_core_context.specs.State.{ContextState, forest_of}
use Rattle.ir_core_context.specs.Ends.{head-is, tail-is}
use Rattle.ir_core_context.proofs.Parents.{region-parent}

-- what is read of a record is there where the record is
read-there : {U V : Type 0} (f : U → V) (m : Option U) → IsSome m ↔ IsSome (option_map f m)
read-there f None = (λ h. h, λ h. h)
read-there f (Some x) = (λ h. refl, λ h. refl)

module _ {D A K B S X L : Type 0} (s : ContextState D A K B S X L) where
  pub ops-live : (o : ArenaIndex) → IsLiveIn s.records.ops o ↔ IsLive (forest_of s) (an_op o)
  ops-live o = read-there op_record (get s.records.ops o)

  pub blocks-live : (b : ArenaIndex) → IsLiveIn s.records.blocks b ↔ IsLive (forest_of s) (a_block b)
  blocks-live b = read-there (block_record (ops_in (tree_of s.records) b)) (get s.records.blocks b)

  pub regions-live : (g : ArenaIndex) → IsLiveIn s.records.regions g ↔ IsLive (forest_of s) (a_region g)
  regions-live g = read-there (λ (_ : Region). blocks_in (tree_of s.records) g) (get s.records.regions g)

  module _ (sound : IsSound s) where
    op-stands : (o : ArenaIndex) (x : Operation D A K B S X L) → get s.records.ops o ≡ Some x → IsOperation (forest_of s) o x
    op-stands o x at = record { found = ap (option_map op_record) at; own = sound.own.ops o x at }

    pub block-stands : (b : ArenaIndex) (x : BasicBlock D A K B S X L) → get s.records.blocks b ≡ Some x → IsBlock (forest_of s) b x
    block-stands b x at =
        let list : List ArenaIndex = ops_in (tree_of s.records) b in
        let ends = sound.nested.op_lists.ends b (block_ends x) (ap (option_map block_ends) at) in
        let ops : ops_of (forest_of s) b ≡ list = ap (λ (m : Option (BasicBlock D A K B S X L)). list_of (λ (r : BlockRecord context_ids (closed A K B S X L)). r.ops) (option_map (block_record list) m)) at in
        record {
          found = ap (option_map (block_record list)) at ∙ (λ i. Some (block_record (sym ops i) x));
          own = sound.own.blocks b x at;
          first = head-is (block_ends x) list ends ∙ sym (ap (λ (xs : List ArenaIndex). first_of xs) ops);
          last = tail-is (block_ends x) list ends ∙ sym (ap (λ (xs : List ArenaIndex). last_of xs) ops);
        }

    -- a look-up that may answer a fault
    pub blocks-found : {T E : Type 0} (b : ArenaIndex) (now : T → BasicBlock D A K B S X L) (answer : Result T E) → IfOk answer (λ x. get s.records.blocks b ≡ Some (now x)) → IfOk answer (λ x. IsBlock (forest_of s) b (now x))
    blocks-found b now (Ok x) at = block-stands b (now x) at
    blocks-found b now (Err e) at = tt

    -- whatever stands under an index
    pub ops-stand : (o : ArenaIndex) → IfSome (get s.records.ops o) (λ x. IsOperation (forest_of s) o x)
    ops-stand o = by (get s.records.ops o) refl
      where
        by : (m : Option (Operation D A K B S X L)) → get s.records.ops o ≡ m → IfSome m (λ x. IsOperation (forest_of s) o x)
        by None at = tt
        by (Some x) at = op-stands o x at

    pub blocks-stand : (b : ArenaIndex) → IfSome (get s.records.blocks b) (λ x. IsBlock (forest_of s) b x)
    blocks-stand b = by (get s.records.blocks b) refl
      where
        by : (m : Option (BasicBlock D A K B S X L)) → get s.records.blocks b ≡ m → IfSome m (λ x. IsBlock (forest_of s) b x)
        by None at = tt
        by (Some x) at = block-stands b x at

    pub regions-stand : (g : ArenaIndex) → IfSome (get s.records.regions g) (λ x. IsRegion (forest_of s) g x)
    regions-stand g = by (get s.records.regions g) refl
      where
        by : (m : Option Region) → get s.records.regions g ≡ m → IfSome m (λ x. IsRegion (forest_of s) g x)
        by None at = tt
        by (Some x) at = region-parent s sound g x at
