-- Changes of a forest keep it well formed.
use mathlib.Core.Path.{◌≡◌, refl, subst}
use Rattle.std.proofs.Common.{◌≢◌, ◌⊎◌, inl, inr, Bool, true, false, Option, Some, None, List, [], ◌∷◌, map, is_some}
use Rattle.std.specs.Option.{option_map}
use Rattle.ir_model.specs.Ids.{Ids, Distinct}
use Rattle.ir_model.specs.Forest.{Dialect, Entity, a_region, Forest}
use Rattle.ir_model.specs.Nesting.{In, list_of, children, IsLive, Nested, regions_of}
use Rattle.ir_model.specs.Changes.{rewrite}
use Rattle.ir_model.proofs.Renaming.{Tells}
use Rattle.ir_model.proofs.Nests.{In-map, Absent-not_in, not_in-Absent, NoCycle-fewer, OneList-fewer}

-- the map at a key, after the record under a key was rewritten
pub rewrite_at : {A B : Type 0} (same : A → A → Bool) → Tells same → (key : A) (g : B → B) (m : A → Option B) (x : A)
    → ((x ≡ key) × (rewrite same key g m x ≡ option_map g (m x))) ⊎ ((x ≢ key) × (rewrite same key g m x ≡ m x))
rewrite_at same tells key g m x = by (same x key) refl
  where
    by : (b : Bool) → same x key ≡ b → ((x ≡ key) × (rewrite same key g m x ≡ option_map g (m x))) ⊎ ((x ≢ key) × (rewrite same key g m x ≡ m x))
    by true e = inl ((tells x key).0 e, rw e)
    by false e = inr (λ h. (let e' : same x key ≡ true = (tells x key).1 h in cc), rw e)

pub list_of-map : {B X : Type 0} (of : B → List X) (g : B → B) → ((r : B) → of (g r) ≡ of r) → (o : Option B) → list_of of (option_map g o) ≡ list_of of o
list_of-map of g keeps None = refl
list_of-map of g keeps (Some r) = keeps r

pub is_some-map : {B : Type 0} (g : B → B) (o : Option B) → is_some (option_map g o) ≡ is_some o
is_some-map g None = refl
is_some-map g (Some r) = refl

module _ {N : Ids} {W : Dialect} where
  -- where children and what is live are as before
  pub Nested-same : (f g : Forest N W) → ((y : Entity N) → children g y ≡ children f y) → ((o : N.Op) → regions_of g o ≡ regions_of f o) → ((x : Entity N) → IsLive f x → IsLive g x) → ((r : N.Region) → IsLive g (a_region r) → IsLive f (a_region r)) → Nested f → Nested g
  Nested-same f g same regions lives back n = record {
    one_list = OneList-fewer (children f) (children g) to n.one_list;
    once = λ y. rw (same y) (n.once y);
    live = λ x y h. lives x (n.live x y (to x y h));
    no_cycle = NoCycle-fewer (children f) (children g) to n.no_cycle;
    regions_linked = λ r h. let at = n.regions_linked r (back r h) in (at.0, rw (regions at.0) at.1);
  }
    where
      to : (x y : Entity N) → In x (children g y) → In x (children f y)
      to x y h = subst (λ l. In x l) (same y) h

-- the rest of a list that a node joins
pub Distinct-unmap : {A B : Type 0} (f : A → B) (xs : List A) → Distinct (map f xs) → Distinct xs
Distinct-unmap f [] d = tt
Distinct-unmap f (x ∷ xs) d = (Absent-not_in x xs (λ h. not_in-Absent (f x) (map f xs) d.0 (In-map f x xs h)), Distinct-unmap f xs d.1)
