-- Where nothing stands deeper than in the list of an entity, what is inside it is that list and itself.
use Rattle.std.proofs.Common.{◌≡◌, Bool, true, false, List, [], ◌∷◌, All, map, length, inl, inr, refl, sym, subst, arith}
use Rattle.std.specs.Bool.{MatchBool}
use Rattle.std.specs.Prelude.{IsTrue}
use Rattle.std.specs.List.{AllWithin}
use Rattle.std.proofs.lemmas.List.Elements.{All-head, All-tail}
use Rattle.ir_model.specs.Nesting.{In, Within, itself, below}
use Rattle.ir_core_queries.specs.Shallow.{IsAt, IsShallow}

module _ {E : Type 0} (lists : E → List E) (e : E) where
  one_down : (a c : E) → IsShallow lists e → In a (lists c) → IsAt lists e c → IsAt lists e a
  one_down a c shallow h (inl same) = inr (subst (λ z. In a (lists z)) same h)
  one_down a c shallow h (inr inside) = absurd (subst (λ xs. In a xs) (shallow c inside) h)

  pub at_top : (a : E) → IsShallow lists e → Within lists e a → IsAt lists e a
  at_top a shallow itself = inl refl
  at_top a shallow (below {c = c} h w) = one_down a c shallow h (at_top c shallow w)

  pub at-within : (a : E) → IsAt lists e a → Within lists e a
  at-within a (inl same) = subst (Within lists e) (sym same) itself
  at-within a (inr h) = below h itself

  -- an empty list
  pub empty-shallow : lists e ≡ [] → IsShallow lists e
  empty-shallow none c h = absurd (subst (λ xs. In c xs) none h)

  module _ {A : Type 0} (of : A → E) where
    in_empty : (xs : List A) (c : E) → All (λ x. lists (of x) ≡ []) xs → In c (map of xs) → lists c ≡ []
    in_empty [] c all h = absurd h
    in_empty (x ∷ xs) c all (inl same) = subst (λ z. lists z ≡ []) (sym same) (All-head (λ y. lists (of y) ≡ []) x xs all)
    in_empty (x ∷ xs) c all (inr h) = in_empty xs c (All-tail (λ y. lists (of y) ≡ []) x xs all) h

    -- a list of what is empty
    pub listed-shallow : (xs : List A) → lists e ≡ map of xs → All (λ x. lists (of x) ≡ []) xs → IsShallow lists e
    listed-shallow xs is all c h = in_empty xs c all (subst (λ ys. In c ys) is h)

-- all items have P where a test says so
pub all-yes : {A : Type 0} (P : A → Type 0) (No : Type 0) (r : Bool) (xs : List A) → MatchBool r (AllWithin P xs 0 (length xs)) No → IsTrue r → All P xs
all-yes P No true xs all t = λ k d under. all k d (omega arith) under
all-yes P No false xs none t = absurd cc
