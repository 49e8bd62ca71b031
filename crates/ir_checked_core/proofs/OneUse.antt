-- A use is of one definition.
use Rattle.std.proofs.Common.{◌≡◌, refl, ap, subst, ℕ, Bool, true}
use Rattle.std.specs.Prelude.{◌↔◌}
use Rattle.ir_model.specs.declared.ids.ArenaIndex.{ArenaIndex}
use Rattle.ir_model.specs.ContextIds.{context_ids}
use Rattle.ir_model.specs.Forest.{Dialect, Forest, Operand, Successor, Value, a_value, the_block}
use Rattle.ir_model.specs.Nesting.{WellFormed, operands_of, successors_of}
use Rattle.ir_model.specs.Uses.{IsUse, Use}
use Rattle.ir_model.proofs.Redirected.{Distinct-back, Distinct-front, one_of}
use Rattle.ir_core_records.specs.declared.record.Definer.{Definer}
use Rattle.ir_core_records.specs.declared.record.Definer.TheVariants.{Block, Op}
use Rattle.ir_core_records.specs.declared.record.ValueIndex.{ValueIndex}
use Rattle.ir_core_records.specs.Meaning.{definer_of, value_of}

one_definer : (d e : Definer) → definer_of d ≡ definer_of e → d ≡ e
one_definer (Op o) (Op p) same = cc
one_definer (Op o) (Block b) same = absurd cc
one_definer (Block b) (Op o) same = absurd cc
one_definer (Block b) (Block c) same = cc

-- an index means one value
one_index : (v w : ValueIndex) → value_of v ≡ value_of w → v ≡ w
one_index v w same = let definer = one_definer v.definer w.definer (ap (λ (x : Value context_ids). x.definer) same) in λ i. record { definer = definer i; number = (same i).number }

module _ {W : Dialect} (f : Forest context_ids W) (keys : ℕ) (formed : WellFormed f keys) (u : Use context_ids) where
  one_value : (v w : Value context_ids) → IsUse f (a_value v) u → IsUse f (a_value w) u → v ≡ w
  one_value v w h k = ap (λ (p : Operand context_ids). p.value) (one_of (λ (p : Operand context_ids). p.use_number) (operands_of f u.user) (Distinct-front _ _ (formed.uses_once u.user)) (record { use_number = u.number; value = v }) (record { use_number = u.number; value = w }) h k refl)

  one_block : (b c : ArenaIndex) → IsUse f (the_block b) u → IsUse f (the_block c) u → b ≡ c
  one_block b c h k = ap (λ (p : Successor context_ids). p.block) (one_of (λ (p : Successor context_ids). p.use_number) (successors_of f u.user) (Distinct-back _ _ (formed.uses_once u.user)) (record { use_number = u.number; block = b }) (record { use_number = u.number; block = c }) h k refl)

  -- a use of a value is one of another exactly where both are one
  pub of_value : (v w : ValueIndex) → IsUse f (a_value (value_of v)) u → (b : Bool) → (b ≡ true) ↔ (v ≡ w) → (b ≡ true) ↔ IsUse f (a_value (value_of w)) u
  of_value v w h b tells = (λ e. subst (λ (x : ValueIndex). IsUse f (a_value (value_of x)) u) (tells.0 e) h, λ k. tells.1 (one_index v w (one_value (value_of v) (value_of w) h k)))

  -- a use of a block is one of another exactly where both are one
  pub of_block_use : (x y : ArenaIndex) → IsUse f (the_block x) u → (b : Bool) → (b ≡ true) ↔ (x ≡ y) → (b ≡ true) ↔ IsUse f (the_block y) u
  of_block_use x y h b tells = (λ e. subst (λ (z : ArenaIndex). IsUse f (the_block z) u) (tells.0 e) h, λ k. tells.1 (one_block x y h k))
