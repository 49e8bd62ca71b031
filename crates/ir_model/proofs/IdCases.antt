-- Two ids are the same or they differ, and an id is in a list or it isn't.
use Rattle.std.proofs.Common.{◌≡◌, ◌⊎◌, true, false, List, ap, inl, inr}
use Rattle.std.proofs.lemmas.Bool.{cases_eq}
use Rattle.ir_model.specs.declared.ids.ArenaIndex.{ArenaIndex}
use Rattle.ir_model.specs.ContextIds.{same_id}
use Rattle.ir_model.specs.Nesting.{In}
use Rattle.ir_model.proofs.KeepsNew.{any_in}
use Rattle.ir_model.proofs.Relinks.{same_refl, differs}
use Rattle.ir_model.proofs.TwoRuns.{id_tells}

pub id_same : (i : ArenaIndex) → same_id i i ≡ true
id_same i = same_refl same_id id_tells i

pub id_cases : (i j : ArenaIndex) → (i ≡ j) ⊎ (i ≡ j → ⊥)
id_cases i j = elim (cases_eq i.slot j.slot) [
  | inl s ↦ elim (cases_eq i.version j.version) [
    | inl v ↦ inl (λ k. record { slot = s k; version = v k })
    | inr ne ↦ inr (λ e. ne (ap (λ (x : ArenaIndex). x.version) e))
  ]
  | inr ne ↦ inr (λ e. ne (ap (λ (x : ArenaIndex). x.slot) e))
]

pub id_differs : (i j : ArenaIndex) → (i ≡ j → ⊥) → same_id i j ≡ false
id_differs i j ne = differs same_id id_tells i j ne

pub In-either : (y : ArenaIndex) (xs : List ArenaIndex) → In y xs ⊎ (In y xs → ⊥)
In-either y xs = elim (any_in same_id id_tells y xs) [ inl h ↦ inl h.1 | inr h ↦ inr h.1 ]
