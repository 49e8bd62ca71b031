-- To ask of each definition of a subtree whether its users are inside is to ask whether the subtree is closed.
use mathlib.Core.Path.{refl, sym, subst}
use Rattle.std.proofs.Common.{ℕ, inl, inr, List, [], ◌∷◌, ◌++◌, map}
use Rattle.std.specs.Prelude.{◌↔◌}
use Rattle.ir_model.specs.Ids.{Ids}
use Rattle.ir_model.specs.Forest.{Dialect, Definer, of_op, of_block, definer_entity, Entity, an_op, a_block, a_region, Forest, Named, a_value, the_block, owner, Operand, Successor}
use Rattle.ir_model.specs.Nesting.{In, Inside, IsLiveNamed, IsClosed, WellFormed, names_of, numbers_of, operands_of, successors_of}
use Rattle.ir_model.specs.Subtree.{DefinedInside, ListsSubtree}
use Rattle.ir_model.specs.Uses.{Use, IsUse}
use Rattle.ir_core_erasing.specs.Closed.{UsersInside, EntityClosed}
use Rattle.ir_model.proofs.Nests.{In-map, In-map_back, In-append, In-left, In-right}

module _ {N : Ids} {W : Dialect} where
  -- every entity of the list is so
  abbrev pub AllClosed : Forest N W → Entity N → List (Entity N) → Type 0
  AllClosed f e [] = Unit {0}
  AllClosed f e (x ∷ xs) = EntityClosed f e x × AllClosed f e xs

  -- a use is a name, and a name a use
  pub use-named : (f : Forest N W) (d : Named N) (u : Use N) → IsUse f d u → In d (names_of f u.user)
  use-named f (a_value v) u h = In-left _ _ _ (In-map (λ (x : Operand N). a_value x.value) _ (operands_of f u.user) h)
  use-named f (the_block b) u h = In-right _ _ _ (In-map (λ (x : Successor N). the_block x.block) _ (successors_of f u.user) h)

  pub named-use : (f : Forest N W) (o : N.Op) (d : Named N) → In d (names_of f o) → (number : N.UseNumber) × IsUse f d (record { user = o; number = number })
  named-use f o d h = elim (In-append d (map (λ (p : Operand N). a_value p.value) (operands_of f o)) (map (λ (p : Successor N). the_block p.block) (successors_of f o)) h) [
    | inl k ↦ (let at = In-map_back (λ (p : Operand N). a_value p.value) d (operands_of f o) k in
        (at.0.use_number, subst (λ c. IsUse f c (record { user = o; number = at.0.use_number })) (sym at.2) at.1))
    | inr k ↦ (let at = In-map_back (λ (p : Successor N). the_block p.block) d (successors_of f o) k in
        (at.0.use_number, subst (λ c. IsUse f c (record { user = o; number = at.0.use_number })) (sym at.2) at.1))
  ]

  module _ (f : Forest N W) (e : Entity N) where
    -- closed: every user of every definition inside is inside
    pub closed-by_uses : (keys : ℕ) → WellFormed f keys → IsClosed f e ↔ ((d : Named N) → DefinedInside f e d → UsersInside f e d)
    closed-by_uses keys w = (
      λ closed d in' u h. closed u.user d (use-named f d u h) in'.1,
      λ by o d h i. (let at = named-use f o d h in by d (w.named o d h, i) (record { user = o; number = at.0 }) at.1),
    )

    value_of : (c : Definer N) (n : N.ValueNumber) → EntityClosed f e (definer_entity N c) → In n (numbers_of f c) → UsersInside f e (a_value (record { definer = c; number = n }))
    value_of (of_op o) n k live = k n live
    value_of (of_block b) n k live = k.1 n live

    entity_of : (d : Named N) → EntityClosed f e (owner N d) → IsLiveNamed f d → UsersInside f e d
    entity_of (a_value v) k live = value_of v.definer v.number k live
    entity_of (the_block b) k live = k.0

  all_in : (f : Forest N W) (e : Entity N) (xs : List (Entity N)) → AllClosed f e xs → (x : Entity N) → In x xs → EntityClosed f e x
  all_in f e [] all x h = elim h [ ]
  all_in f e (y ∷ ys) all x (inl s) = subst (EntityClosed f e) (sym s) all.0
  all_in f e (y ∷ ys) all x (inr h) = all_in f e ys all.1 x h

  in_all : (f : Forest N W) (e : Entity N) (xs : List (Entity N)) → ((x : Entity N) → In x xs → EntityClosed f e x) → AllClosed f e xs
  in_all f e [] by = tt
  in_all f e (y ∷ ys) by = (by y (inl refl), in_all f e ys (λ x h. by x (inr h)))

  -- a closed entity is so at each entity inside
  pub closed-entity : (f : Forest N W) (e x : Entity N) → IsClosed f e → Inside f e x → EntityClosed f e x
  closed-entity f e (an_op o) closed i = λ n h u use_. closed u.user _ (use-named f (a_value (record { definer = of_op o; number = n })) u use_) i
  closed-entity f e (a_block b) closed i = (λ u use_. closed u.user _ (use-named f (the_block b) u use_) i, λ n h u use_. closed u.user _ (use-named f (a_value (record { definer = of_block b; number = n })) u use_) i)
  closed-entity f e (a_region r) closed i = tt

  -- for a loop over a listing of the subtree
  pub closed-listed : (f : Forest N W) (e : Entity N) (keys : ℕ) → WellFormed f keys → (entities : List (Entity N)) → ListsSubtree f e entities → IsClosed f e ↔ AllClosed f e entities
  closed-listed f e keys w entities lists = (
    λ closed. in_all f e entities (λ x h. closed-entity f e x closed ((lists.exact x).0 h)),
    λ all. (closed-by_uses f e keys w).1 (λ d in'. entity_of f e d (all_in f e entities all (owner N d) ((lists.exact (owner N d)).1 in'.1)) in'.0),
  )

  -- the list so far, and what comes after it
  pub all-append : (f : Forest N W) (e : Entity N) (xs ys : List (Entity N)) → AllClosed f e (xs ++ ys) ↔ (AllClosed f e xs × AllClosed f e ys)
  all-append f e xs ys = (
    λ all. (in_all f e xs (λ x h. all_in f e (xs ++ ys) all x (In-left x xs ys h)), in_all f e ys (λ x h. all_in f e (xs ++ ys) all x (In-right x xs ys h))),
    λ both. in_all f e (xs ++ ys) (λ x h. elim (In-append x xs ys h) [ inl k ↦ all_in f e xs both.0 x k | inr k ↦ all_in f e ys both.1 x k ]),
  )
