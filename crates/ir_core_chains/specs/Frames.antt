-- What writes of one chain leave: the tree, the ids of all records, and the other chain.
use Rattle.std.proofs.Common.{◌≡◌, ℕ, List, [], refl, sym, subst}
use Rattle.ir_model.specs.declared.ids.ArenaIndex.{ArenaIndex}
use Rattle.ir_core_records.specs.declared.record.Definer.{Definer}
use Rattle.ir_core_records.specs.declared.record.Definer.TheVariants.{Op, Block}
use Rattle.ir_core_records.specs.declared.record.ValueIndex.{ValueIndex}
use Rattle.ir_core_records.specs.declared.record.BlockIndex.{BlockIndex}
use Rattle.ir_core_records.specs.declared.record.UseIndex.{UseIndex}
use Rattle.ir_core_records.specs.declared.record.UsePlace.{UsePlace}
use Rattle.ir_core_records.specs.declared.record.Operation.{Operation}
use Rattle.ir_core_records.specs.declared.record.BasicBlock.{BasicBlock}
use Rattle.ir_core_records.specs.declared.records.Records.{Records}
use Rattle.ir_core_records.specs.Lists.{in_record, uses_with, put_uses}
use Rattle.ir_core_records.specs.Links.{LinkedBut, NoHole}
use Rattle.ir_core_chains.specs.Chain.{Rewrites}
use Rattle.ir_core_records.specs.Chains.{AreLinked, chains_of}
use Rattle.ir_core_records.specs.Table.{operands_at, successors_at, block_uses_at, definitions_at, uses_at, with_operands, with_successors, with_block_uses, with_uses_by, with_uses}
use Rattle.ir_core_records.specs.Frames.{KeepsTree}
use Rattle.ir_core_chains.specs.Edits.{edited-kept}
use Rattle.ir_core_chains.specs.TableLaws.{chain-values, chain-blocks}
use Rattle.ir_core_records.specs.KeptTrees.{keeps-refl, keeps-trans, keeps-by_ops, keeps-by_blocks}
use Rattle.ir_core_chains.specs.ChainEdits.{rewrites-keep, rewrites-hold}

module _ {D A K B S X L : Type 0} where
  keeps-with_uses_by : (t : Records D A K B S X L) (d : Definer) (n : ℕ) (us : List UseIndex) → KeepsTree t (with_uses_by t d n us)
  keeps-with_uses_by t (Op o) n us = keeps-by_ops (λ op. record op { results = put_uses op.results n us }) (λ x. refl) (λ x. refl) (λ x. refl) t o
  keeps-with_uses_by t (Block b) n us = keeps-by_blocks (λ x. record x { arguments = put_uses x.arguments n us }) (λ x. refl) (λ x. refl) (λ x. refl) t b

  -- writes of one chain leave the tree
  pub keeps-by_values : (t s : Records D A K B S X L) → Rewrites with_operands with_uses t s → KeepsTree t s
  keeps-by_values t s w =
      rewrites-hold chain-values KeepsTree keeps-refl keeps-trans
      (λ r o xs. keeps-by_ops (λ op. record op { operands = xs }) (λ x. refl) (λ x. refl) (λ x. refl) r o)
      (λ r v us. keeps-with_uses_by r v.definer v.number us) t s w

  pub keeps-by_successors : (t s : Records D A K B S X L) → Rewrites with_successors with_block_uses t s → KeepsTree t s
  keeps-by_successors t s w =
      rewrites-hold chain-blocks KeepsTree keeps-refl keeps-trans
      (λ r o xs. keeps-by_ops (λ op. record op { successors = xs }) (λ x. refl) (λ x. refl) (λ x. refl) r o)
      (λ r b us. keeps-by_blocks (λ x. record x { uses = us }) (λ x. refl) (λ x. refl) (λ x. refl) r b.index) t s w

  -- the other chain, after writes of operands and values' uses
  successors-with_operands : (t : Records D A K B S X L) (o : ArenaIndex) (xs : List (UsePlace ValueIndex)) → successors_at (with_operands t o xs) ≡ successors_at t
  successors-with_operands t o xs = λ i p. edited-kept (in_record (λ (op : Operation D A K B S X L). op.successors) []) (λ op. record op { operands = xs }) (λ x. refl) t.ops o p i

  successors-with_uses_by : (t : Records D A K B S X L) (d : Definer) (n : ℕ) (us : List UseIndex) (p : ArenaIndex) → successors_at (with_uses_by t d n us) p ≡ successors_at t p
  successors-with_uses_by t (Op o) n us p = edited-kept (in_record (λ (op : Operation D A K B S X L). op.successors) []) (λ op. record op { results = put_uses op.results n us }) (λ x. refl) t.ops o p
  successors-with_uses_by t (Block b) n us p = refl

  block_uses-with_uses_by : (t : Records D A K B S X L) (d : Definer) (n : ℕ) (us : List UseIndex) (p : BlockIndex) → block_uses_at (with_uses_by t d n us) p ≡ block_uses_at t p
  block_uses-with_uses_by t (Op o) n us p = refl
  block_uses-with_uses_by t (Block b) n us p = edited-kept (in_record (λ (x : BasicBlock D A K B S X L). x.uses) []) (λ x. record x { arguments = put_uses x.arguments n us }) (λ x. refl) t.blocks b p.index

  -- the other chain, after writes of successors and blocks' uses
  operands-with_successors : (t : Records D A K B S X L) (o : ArenaIndex) (xs : List (UsePlace BlockIndex)) → operands_at (with_successors t o xs) ≡ operands_at t
  operands-with_successors t o xs = λ i p. edited-kept (in_record (λ (op : Operation D A K B S X L). op.operands) []) (λ op. record op { successors = xs }) (λ x. refl) t.ops o p i

  definitions-with_successors : (t : Records D A K B S X L) (o : ArenaIndex) (xs : List (UsePlace BlockIndex)) (d : Definer) → definitions_at (with_successors t o xs) d ≡ definitions_at t d
  definitions-with_successors t o xs (Op p) = edited-kept (in_record (λ (op : Operation D A K B S X L). op.results) []) (λ op. record op { successors = xs }) (λ x. refl) t.ops o p
  definitions-with_successors t o xs (Block b) = refl

  definitions-with_block_uses : (t : Records D A K B S X L) (b : BlockIndex) (us : List UseIndex) (d : Definer) → definitions_at (with_block_uses t b us) d ≡ definitions_at t d
  definitions-with_block_uses t b us (Op p) = refl
  definitions-with_block_uses t b us (Block c) = edited-kept (in_record (λ (x : BasicBlock D A K B S X L). x.arguments) []) (λ x. record x { uses = us }) (λ x. refl) t.blocks b.index c

  uses-by_definitions : (s t : Records D A K B S X L) → ((d : Definer) → definitions_at s d ≡ definitions_at t d) → uses_at s ≡ uses_at t
  uses-by_definitions s t same = λ i v. uses_with (same v.definer i) v.number

  -- writes of one chain keep the other one linked
  pub linked-by_values : (t s : Records D A K B S X L) → AreLinked (chains_of t) → Rewrites with_operands with_uses t s → LinkedBut NoHole (operands_at s) (uses_at s) → AreLinked (chains_of s)
  linked-by_values t s old w values =
      let ps = rewrites-keep chain-values successors_at successors-with_operands (λ r v us. λ i p. successors-with_uses_by r v.definer v.number us p i) t s w in
      let us = rewrites-keep chain-values block_uses_at (λ r o xs. refl) (λ r v us. λ i p. block_uses-with_uses_by r v.definer v.number us p i) t s w in
      record { values = values; blocks = subst (λ (q : ArenaIndex → List (UsePlace BlockIndex)). LinkedBut NoHole q (block_uses_at s)) (sym ps) (subst (λ (q : BlockIndex → List UseIndex). LinkedBut NoHole (successors_at t) q) (sym us) old.blocks) }

  pub linked-by_blocks : (t s : Records D A K B S X L) → AreLinked (chains_of t) → Rewrites with_successors with_block_uses t s → LinkedBut NoHole (successors_at s) (block_uses_at s) → AreLinked (chains_of s)
  linked-by_blocks t s old w blocks =
      let ps = rewrites-keep chain-blocks operands_at operands-with_successors (λ r b us. refl) t s w in
      let us = rewrites-keep chain-blocks uses_at (λ r o xs. uses-by_definitions (with_successors r o xs) r (definitions-with_successors r o xs)) (λ r b us. uses-by_definitions (with_block_uses r b us) r (definitions-with_block_uses r b us)) t s w in
      record { blocks = blocks; values = subst (λ (q : ArenaIndex → List (UsePlace ValueIndex)). LinkedBut NoHole q (uses_at s)) (sym ps) (subst (λ (q : ValueIndex → List UseIndex). LinkedBut NoHole (operands_at t) q) (sym us) old.values) }
