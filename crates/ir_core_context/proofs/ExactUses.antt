-- The kept lists of uses have exactly the uses of a value or of a block.
use Rattle.std.proofs.Common.{◌≡◌, refl, ap, ℕ}
use Rattle.ir_model.specs.declared.ids.ArenaIndex.{ArenaIndex}
use Rattle.ir_model.specs.ContextIds.{context_ids}
use Rattle.ir_model.specs.Forest.{Operand, Successor, a_value, the_block}
use Rattle.ir_model.specs.Nesting.{operands_of, successors_of}
use Rattle.ir_model.specs.Uses.{AreUses}
use Rattle.ir_core_records.specs.declared.record.ValueIndex.{ValueIndex}
use Rattle.ir_core_records.specs.declared.record.BlockIndex.{BlockIndex}
use Rattle.ir_core_records.specs.Chains.{AreLinked, chains_of}
use Rattle.ir_core_records.specs.Meaning.{value_of}
use Rattle.ir_core_records.specs.Table.{block_uses_at, operands_at, successors_at, uses_at}
use Rattle.ir_core_records.specs.KeptUses.{kept-exact, kept-once}
use Rattle.ir_core_records.specs.Meant.{operands-meant, successors-meant, value-same}
use Rattle.ir_core_context.specs.Named.{operand_like, successor_like}
use Rattle.ir_core_context.specs.State.{ContextState, block_uses_of, forest_of, uses_of}

operand-same : (m n : ℕ) (v w : ValueIndex) → operand_like m v ≡ operand_like n w → (m ≡ n) × (v ≡ w)
operand-same m n v w e = (ap (λ (p : Operand context_ids). p.use_number) e, value-same v w (ap (λ (p : Operand context_ids). p.value) e))

successor-same : (m n : ℕ) (b c : BlockIndex) → successor_like m b ≡ successor_like n c → (m ≡ n) × (b ≡ c)
successor-same m n b c e =
    let p : b.index ≡ c.index = ap (λ (q : Successor context_ids). q.block) e in
    (ap (λ (q : Successor context_ids). q.use_number) e, λ i. record { index = p i })

module _ {D A K B S X L : Type 0} (s : ContextState D A K B S X L) (linked : AreLinked (chains_of s.records)) where
  -- the kept list of a value has exactly its uses, each once
  pub uses-exact : (v : ValueIndex) → AreUses (forest_of s) (a_value (value_of v)) (uses_of s v)
  uses-exact v = record {
    once = kept-once (operands_at s.records) (uses_at s.records) linked.values v;
    exact = kept-exact (operands_at s.records) (uses_at s.records) linked.values operand_like operand-same (operands_of (forest_of s)) (operands-meant s.records) v;
  }

  -- and that of a block
  pub block-uses-exact : (b : ArenaIndex) → AreUses (forest_of s) (the_block b) (block_uses_of s b)
  block-uses-exact b = record {
    once = kept-once (successors_at s.records) (block_uses_at s.records) linked.blocks (record { index = b });
    exact = kept-exact (successors_at s.records) (block_uses_at s.records) linked.blocks successor_like successor-same (successors_of (forest_of s)) (successors-meant s.records) (record { index = b });
  }
