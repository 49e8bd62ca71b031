-- What is saved, by the kinds of its values.
use Rattle.std.proofs.Common.{◌≡◌, ◌≢◌, ◌↔◌, ℕ, Bool, true, false, Option, Some, None, is_some, nat_eq, option_and_then, refl, sym, ap, subst, ◌∙◌}
use Rattle.std.proofs.lemmas.Bool.{eq-eqb, eqb-true, false_from_ne_true}
use Rattle.std.specs.Prelude.{slice_get}
use Rattle.std.specs.Cmp.{IsEquivalence}
use Rattle.ir_model.specs.Forest.{Dialect}
use Rattle.ir_model.specs.Kinds.{Kinds}
use Rattle.ir_model.specs.Saved.{IsSavedAt, IsSavedKind, saved_place, with_saved}
use Rattle.ir_model.specs.Sessions.{Beside}
use Rattle.ir_model.specs.StoreLaws.{SavedAreLawful}
use Rattle.ir_model.proofs.Saving.{saved_are_exact}
use Rattle.ir_core_records.specs.Meaning.{closed}
use Rattle.ir_core_records.specs.DialectAnswers.{kinds}

-- the code of a dialect is lawful
pub lawful : {A K B S X L : Type 0} (attr_kind : A → ℕ) (type_kind : K → ℕ) (type_impls : ℕ → ℕ → Bool) (saved_kind : S → ℕ) (same : S → S → Bool) (dominates : ℕ → ℕ → Bool)
    → IsEquivalence same → ((x y : S) → same x y ≡ true → saved_kind x ≡ saved_kind y) → SavedAreLawful (kinds {A = A} {K = K} {B = B} {S = S} {X = X} {L = L} attr_kind type_kind type_impls saved_kind same dominates)
lawful attr_kind type_kind type_impls saved_kind same dominates laws alike = record {
  itself = laws.refl;
  turned = λ x y h. laws.symm y x ∙ h;
  joined = λ x y z h k. laws.congr x y z h ∙ k;
  kinds = alike;
}

-- what a value is saved as has its kind
pub kind-is : {S T : Type 0} (saved_kind : S → ℕ) (kind : ℕ) (saved_of : T → S) (value_of : S → Option T) (a : T)
    → value_of (saved_of a) ≡ Some a → is_some (value_of (saved_of a)) ≡ nat_eq (saved_kind (saved_of a)) kind → saved_kind (saved_of a) ≡ kind
kind-is saved_kind kind saved_of value_of a back of_kind = eqb-true (saved_kind (saved_of a)) kind (sym of_kind ∙ ap is_some back)

-- and where the kinds differ, so does what is saved
pub kinds-apart : {S : Type 0} (same : S → S → Bool) (saved_kind : S → ℕ) (x y : S) (k l : ℕ) → ((x y : S) → same x y ≡ true → saved_kind x ≡ saved_kind y)
    → saved_kind x ≡ k → saved_kind y ≡ l → k ≢ l → same x y ≡ false
kinds-apart same saved_kind x y k l alike is js differ = false_from_ne_true (same x y) (λ h. differ (sym is ∙ alike x y h ∙ js))

module _ {W : Dialect} (K : Kinds W) (laws : SavedAreLawful K) (b c : Beside W) (v w : W.Saved) (n m : ℕ) (is : w ≡ v) (place : m ≡ saved_place K b w) (after : c ≡ with_saved K b w) (at : n ≡ m) where
  after-is : c ≡ with_saved K b v
  after-is = after ∙ ap (with_saved K b) is

  place-is : n ≡ saved_place K b v
  place-is = at ∙ place ∙ ap (saved_place K b) is

  -- a value that was saved is there
  pub saved-there : IsSavedAt K c n v
  saved-there = subst (λ d. IsSavedAt K d n v) (sym after-is) (subst (λ k. IsSavedAt K (with_saved K b v) k v) (sym place-is) (saved_are_exact W K b v laws).saved)

  -- with its kind
  pub saved-known : (kind : ℕ) → K.saved_kind v ≡ kind → IsSavedKind K c n kind
  saved-known kind of =
      subst (IsSavedKind K c n) of
      (subst (λ d. IsSavedKind K d n (K.saved_kind v)) (sym after-is) (subst (λ k. IsSavedKind K (with_saved K b v) k (K.saved_kind v)) (sym place-is) (saved_are_exact W K b v laws).its_kind))

-- the kind at a place is that of what is saved there
pub known-kind : {W : Dialect} (K : Kinds W) (b : Beside W) (n kind : ℕ) (x : W.Saved) → Some x ≡ slice_get b.saved n → (nat_eq (K.saved_kind x) kind ≡ true) ↔ IsSavedKind K b n kind
known-kind {W} K b n kind x there = (
  λ h. record { value = x; found = sym there; holds = eqb-true (K.saved_kind x) kind h },
  λ known.
      let one : Some x ≡ Some known.value = there ∙ known.found in
      let same : x ≡ known.value = cc in
      subst (λ k. nat_eq (K.saved_kind x) k ≡ true) (ap K.saved_kind same ∙ known.holds) (itself (K.saved_kind x)),
)
  where
    itself : (k : ℕ) → nat_eq k k ≡ true
    itself k = eq-eqb k k refl

-- and where nothing is saved there is none
pub unknown-kind : {W : Dialect} (K : Kinds W) (b : Beside W) (n kind : ℕ) → slice_get b.saved n ≡ None → IsSavedKind K b n kind → ⊥
unknown-kind K b n kind none known = (let one : None ≡ Some known.value = sym none ∙ known.found in absurd (cc))
