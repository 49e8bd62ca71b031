-- Types with distinct keys are equal exactly where their keys are.
use Rattle.std.proofs.Common.{◌≡◌, refl, sym, ap, ◌∙◌, ℕ, zero, suc, Bool, true, false, List, [], ◌∷◌, map, Some}
use Rattle.std.specs.Prelude.{slice_get}
use Rattle.std.specs.Cmp.{IsEquivalence}
use Rattle.std.specs.List.{IsDistinct, AllByRecursion}
use Rattle.std.specs.Map.{keys_of}
use Rattle.std.proofs.lemmas.Map.Keys.{IsDistinct-head, IsDistinct-tail}
use Rattle.ir_model.specs.Edits.{StoredType}
use Rattle.ir_core_context.specs.Calls.{TypesAreExact}
use Rattle.ir_core_records.specs.Meaning.{closed}
use Rattle.ir_core_records.specs.DialectAnswers.{behaviour}

absurd_bool : {A : Type 0} (b : Bool) → b ≡ true → b ≡ false → A
absurd_bool b t f = absurd (cc)

module _ (A K B S X L : Type 0) (same : K → K → Bool) (first : B) (unknown : L) (impls : ℕ → ℕ → Bool) (laws : IsEquivalence same) where
  abbrev stored : K × B → StoredType (closed A K B S X L)
  stored p = record { key = p.0; body = p.1 }

  apart : (key : K) (ps : List (K × B)) (k : ℕ) (b : StoredType (closed A K B S X L)) → AllByRecursion (λ y. same key y ≡ false) (keys_of ps) → slice_get (map stored ps) k ≡ Some b → same key b.key ≡ false
  apart key [] k b all h = absurd (cc)
  apart key (p ∷ ps) zero b all h = let e : stored p ≡ b = cc in ap (λ x. same key x.key) (sym e) ∙ all.0
  apart key (p ∷ ps) (suc k) b all h = apart key ps k b all.1 h

  one_place : (ps : List (K × B)) (j k : ℕ) (a b : StoredType (closed A K B S X L)) → IsDistinct same (keys_of ps)
      → slice_get (map stored ps) j ≡ Some a → slice_get (map stored ps) k ≡ Some b → same a.key b.key ≡ true → j ≡ k
  one_place [] j k a b d h i e = absurd (cc)
  one_place (p ∷ ps) zero zero a b d h i e = refl
  one_place (p ∷ ps) zero (suc k) a b d h i e =
      let is : stored p ≡ a = cc in
      absurd_bool (same p.0 b.key) (ap (λ x. same x.key b.key) is ∙ e) (apart p.0 ps k b (IsDistinct-head same p.0 (keys_of ps) d) i)
  one_place (p ∷ ps) (suc j) zero a b d h i e =
      let is : stored p ≡ b = cc in
      absurd_bool (same p.0 a.key) (ap (λ x. same x.key a.key) is ∙ laws.symm b.key a.key ∙ e) (apart p.0 ps j a (IsDistinct-head same p.0 (keys_of ps) d) h)
  one_place (p ∷ ps) (suc j) (suc k) a b d h i e = ap suc (one_place ps j k a b (IsDistinct-tail same p.0 (keys_of ps) d) h i e)

  pub types_exact : (ps : List (K × B)) → IsDistinct same (keys_of ps) → TypesAreExact (behaviour {A = A} {S = S} {X = X} same first unknown impls) (map stored ps)
  types_exact ps d = record {
    exact = λ j k a b h i. (
      λ e. one_place ps j k a b d h i e,
      λ e.
          let there : Some a ≡ Some b = sym h ∙ ap (slice_get (map stored ps)) e ∙ i in
          let is : a ≡ b = cc in
          ap (λ x. same a.key x.key) (sym is) ∙ laws.refl a.key,
    );
  }
