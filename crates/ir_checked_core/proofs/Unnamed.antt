-- A result or an argument at a place, by its number in the record and by what its value is asked.
use Rattle.std.proofs.Common.{◌≡◌, ap, subst, sym, ◌∙◌, ℕ, Bool, true, map, Option, Some}
use Rattle.std.specs.Prelude.{◌↔◌, not, slice_get}
use Rattle.std.specs.Option.{option_map}
use Rattle.std.proofs.lemmas.Option.{slice_get-map}
use Rattle.ir_model.specs.declared.ids.ArenaIndex.{ArenaIndex}
use Rattle.ir_model.specs.ContextIds.{context_ids}
use Rattle.ir_model.specs.Edits.{The, Unused}
use Rattle.ir_model.specs.Forest.{BlockRecord, Definer, Definition, Dialect, Forest, OpRecord, Value, a_value, of_block, of_op}
use Rattle.ir_model.specs.Nesting.{list_of, numbers_of}
use Rattle.ir_model.specs.Uses.{IsUse, Use}
use Rattle.ir_core_context.specs.Definitions.{UnusedAt}
use Rattle.ir_core_context.specs.Named.{unused-value, use-names}
use Rattle.ir_checked_core.proofs.Placing.{negated}

module _ {W : Dialect} (f : Forest context_ids W) (i : ArenaIndex) where
  abbrev number_in : Definition context_ids W → ℕ
  number_in x = x.number

  pub result_number : (r : OpRecord context_ids W) → f.ops i ≡ Some r → (at n : ℕ) → option_map number_in (slice_get r.results at) ≡ Some n → slice_get (numbers_of f (of_op i)) at ≡ Some n
  result_number r is at n there = ap (λ q. slice_get (map number_in (list_of (λ (x : OpRecord context_ids W). x.results) q)) at) is ∙ slice_get-map number_in r.results at ∙ there

  pub argument_number : (r : BlockRecord context_ids W) → f.blocks i ≡ Some r → (at n : ℕ) → option_map number_in (slice_get r.arguments at) ≡ Some n → slice_get (numbers_of f (of_block i)) at ≡ Some n
  argument_number r is at n there = ap (λ q. slice_get (map number_in (list_of (λ (x : BlockRecord context_ids W). x.arguments) q)) at) is ∙ slice_get-map number_in r.arguments at ∙ there

module _ {W : Dialect} (f : Forest context_ids W) (d : Definer context_ids) (at : ℕ) (v : Value context_ids) (own : v.definer ≡ d) (found : slice_get (numbers_of f d) at ≡ Some v.number) where
  -- a value without uses, which stands at the place, isn't named
  unused_there : ((u : Use context_ids) × IsUse f (a_value v) u → ⊥) → UnusedAt f d at
  unused_there none = record { value = v.number; found = found; holds = subst (λ (e : Definer context_ids). Unused f (a_value (record { definer = e; number = v.number }))) own (unused-value f v none) }

  -- a value with a use, which stands at the place, is named
  used_there : (u : Use context_ids) × IsUse f (a_value v) u → UnusedAt f d at → ⊥
  used_there used unused =
      let number : unused.value ≡ v.number = let both : Some unused.value ≡ Some v.number = sym unused.found ∙ found in cc in
      let holds : Unused f (a_value (record { definer = d; number = v.number })) = subst (λ (n : ℕ). Unused f (a_value (record { definer = d; number = n }))) number unused.holds in
      let free : Unused f (a_value v) = subst (λ (e : Definer context_ids). Unused f (a_value (record { definer = e; number = v.number }))) (sym own) holds in
      free used.0.user (use-names f v used.0 used.1)

  -- what stands at the place isn't named exactly where its value has no use
  pub unnamed : (b : Bool) → (b ≡ true) ↔ ((u : Use context_ids) × IsUse f (a_value v) u) → (not b ≡ true) ↔ UnusedAt f d at
  unnamed b tells = negated b ((u : Use context_ids) × IsUse f (a_value v) u) (UnusedAt f d at) tells used_there unused_there

-- the place has this, and so what is said of what is there is said of this
pub said_there : {A : Type 0} {m : Option A} {P : A → Type 0} (x : A) → m ≡ Some x → (b : Bool) → (b ≡ true) ↔ P x → (b ≡ true) ↔ The m P
said_there {A} {m} {P} x found b tells = (
  λ e. record { value = x; found = found; holds = tells.0 e },
  λ the. tells.1 (subst P (let both : Some the.value ≡ Some x = sym the.found ∙ found in cc) the.holds),
)
