-- Whether a context has an operation, a block or a region.
use Rattle.std.proofs.Common.{◌≡◌, ◌⊎◌, ◌<◌, ◌↔◌, ◌==◌, Bool, true, Option, Some, None, IsTrue, refl, sym, ap, ◌∙◌, inl, inr, arith, eqb-true, eq-eqb}
use Rattle.std.specs.Option.{option_map}
use Rattle.ir_model.proofs.ArenaRoom.{len-none}
use Rattle.ir_base_arenas.specs.Arena.{arena_len, get}
use Rattle.ir_core_records.specs.Meaning.{op_record, block_record}
use Rattle.ir_core_records.specs.Tree.{tree_of, ops_in, blocks_in}
use Rattle.ir_core_context.specs.Calls.{NoEntity}
use Rattle.ir_core_context.specs.State.{ContextState, forest_of}

unmap : {T U : Type 0} (f : T → U) (m : Option T) → option_map f m ≡ None → m ≡ None
unmap f None e = refl
unmap f (Some x) e = cc

module _ {D A K B S X L : Type 0} (s : ContextState D A K B S X L) where
  pub some-entity : (0 < arena_len s.records.ops) ⊎ (0 < arena_len s.records.blocks) → NoEntity (forest_of s) → ⊥
  some-entity (inl some) none = let e : arena_len s.records.ops ≡ 0 = (len-none s.records.ops).1 (λ i. unmap op_record _ (none.ops i)) in omega (arith, some, e)
  some-entity (inr some) none = let e : arena_len s.records.blocks ≡ 0 = (len-none s.records.blocks).1 (λ i. unmap (block_record (ops_in (tree_of s.records) i)) _ (none.blocks i)) in omega (arith, some, e)

  pub all-none : arena_len s.records.ops ≡ 0 → arena_len s.records.blocks ≡ 0 → (b : Bool) → b ≡ (arena_len s.records.regions == 0) → IsTrue b ↔ NoEntity (forest_of s)
  all-none ops blocks b is = (
    λ h. record {
      ops = λ i. ap (option_map op_record) ((len-none s.records.ops).0 ops i);
      blocks = λ i. ap (option_map (block_record (ops_in (tree_of s.records) i))) ((len-none s.records.blocks).0 blocks i);
      regions = λ i. ap (option_map (λ _. blocks_in (tree_of s.records) i)) ((len-none s.records.regions).0 (eqb-true _ 0 (sym is ∙ h)) i);
    },
    λ n. is ∙ eq-eqb _ 0 ((len-none s.records.regions).1 (λ i. unmap (λ _. blocks_in (tree_of s.records) i) _ (n.regions i))),
  )
