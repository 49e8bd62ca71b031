-- What is dead inside an operation of a small forest, and what is not.
use mathlib.Core.Path.{◌≡◌, refl, sym, ap, ◌∙◌, subst}
use Rattle.std.proofs.Common.{ℕ, suc, ◌⊎◌, inl, inr, true, false, cond, Some, None, List, [], ◌∷◌, length, arith}
use Rattle.std.specs.Prelude.{IsTrue}
use Rattle.ir_model.specs.Forest.{OpRecord, Forest, Value, Named, a_value, owner, Entity, an_op, a_block, a_region}
use Rattle.ir_model.specs.Nesting.{In, Inside, itself, below, children, regions_of, ops_of, blocks_of, names_of, IsClosed}
use Rattle.ir_model.specs.BlockGraph.{implements, pure_interface}
use Rattle.ir_model.specs.SmallForests.{Small, n0, n1, n2, n3, n4, n5, small_ids, result, operand}
use Rattle.ir_model.proofs.Nests.{In-map_back}
use Rattle.ir_model_passes.specs.SweepInside.{ListedInside, DeadInside, dead, GoesAlong, inside_it, inside_dead, IsSweptInside, SweptCount, NoneIsClosedInside, SweepsInside}
use Rattle.ir_model_passes.specs.MarkedForests.{marked, two_pure, constant}
use Rattle.ir_model_passes.specs.SweepRows.{module_with_three, SweepRows}
use Rattle.ir_model_passes.proofs.Going.{none_is_not_some}
use Rattle.ir_model_passes.proofs.FlatForests.{alone}

abbrev Inner : Entity small_ids → Entity small_ids → Type 0
Inner e x = Inside module_with_three e x

abbrev IsDead : Small → Type 0
IsDead o = DeadInside two_pure module_with_three (an_op n0) o

-- the block is inside the root
block_inside : Inner (an_op n0) (a_block n0)
block_inside = below {c = a_region n0} (inl refl) (below {c = an_op n0} (inl refl) itself)

-- who names what
named_one : (user : Small) (d : Named small_ids) → In d (names_of module_with_three user) → ((user ≡ n3) × (d ≡ a_value (result n2 n2))) ⊎ ((user ≡ n4) × (d ≡ a_value (result n1 n1)))
named_one n0 d h = elim h [ ]
named_one n1 d h = elim h [ ]
named_one n2 d h = elim h [ ]
named_one n3 d (inl e) = inl (refl, e)
named_one n3 d (inr h) = elim h [ ]
named_one n4 d (inl e) = inr (refl, e)
named_one n4 d (inr h) = elim h [ ]
named_one n5 d h = elim h [ ]

-- the owner of what is named
owner_one : (user : Small) (d : Named small_ids) → In d (names_of module_with_three user) → ((user ≡ n3) × (owner small_ids d ≡ an_op n2)) ⊎ ((user ≡ n4) × (owner small_ids d ≡ an_op n1))
owner_one user d h = elim (named_one user d h) [
  | inl k ↦ inl (k.0, ap (owner small_ids) k.1)
  | inr k ↦ inr (k.0, ap (owner small_ids) k.1)
]

-- nothing names what is inside n3
none_names_last : (user : Small) (d : Named small_ids) → In d (names_of module_with_three user) → Inner (an_op n3) (owner small_ids d) → ⊥
none_names_last user d h i = elim (owner_one user d h) [
  | inl k ↦ (let e : an_op n2 ≡ an_op n3 = sym k.1 ∙ alone module_with_three n3 refl (owner small_ids d) i in cc)
  | inr k ↦ (let e : an_op n1 ≡ an_op n3 = sym k.1 ∙ alone module_with_three n3 refl (owner small_ids d) i in cc)
]

unnamed : IsDead n3
unnamed = dead (n0, block_inside, inr (inr (inl refl))) refl (λ user d h i. absurd (none_names_last user d h i))

named_by_dead : IsDead n2
named_by_dead = dead (n0, block_inside, inr (inl refl)) refl users
  where
    users : (user : Small) (d : Named small_ids) → In d (names_of module_with_three user) → Inner (an_op n2) (owner small_ids d) → GoesAlong two_pure module_with_three (an_op n0) n2 user
    users user d h i = elim (owner_one user d h) [
      | inl k ↦ inside_dead {p = n3} unnamed (subst (λ z. Inner (an_op n3) (an_op z)) (sym k.0) itself)
      | inr k ↦ absurd (let e : an_op n1 ≡ an_op n2 = sym k.1 ∙ alone module_with_three n2 refl (owner small_ids d) i in cc)
    ]

-- what stands in which block
listed : (c o : Small) → In o (ops_of module_with_three c) → ((c ≡ n0) × ((o ≡ n1) ⊎ ((o ≡ n2) ⊎ (o ≡ n3)))) ⊎ ((c ≡ n1) × (o ≡ n5))
listed n0 o (inl e) = inl (refl, inl e)
listed n0 o (inr (inl e)) = inl (refl, inr (inl e))
listed n0 o (inr (inr (inl e))) = inl (refl, inr (inr e))
listed n0 o (inr (inr (inr h))) = elim h [ ]
listed n1 o (inl e) = inr (refl, e)
listed n1 o (inr h) = elim h [ ]
listed n2 o h = elim h [ ]
listed n3 o h = elim h [ ]
listed n4 o h = elim h [ ]
listed n5 o h = elim h [ ]

-- the second block stands in no region
block_unlinked : (y : Entity small_ids) → In (a_block n1) (children module_with_three y) → ⊥
block_unlinked (an_op o) h = (let at = In-map_back a_region (a_block n1) (regions_of module_with_three o) h in let e : a_block n1 ≡ a_region at.0 = at.2 in cc)
block_unlinked (a_block c) h = (let at = In-map_back an_op (a_block n1) (ops_of module_with_three c) h in let e : a_block n1 ≡ an_op at.0 = at.2 in cc)
block_unlinked (a_region n0) (inl e) = cc
block_unlinked (a_region n0) (inr h) = elim h [ ]
block_unlinked (a_region n1) h = elim h [ ]
block_unlinked (a_region n2) h = elim h [ ]
block_unlinked (a_region n3) h = elim h [ ]
block_unlinked (a_region n4) h = elim h [ ]
block_unlinked (a_region n5) h = elim h [ ]

-- what is in no list is inside nothing else
alone_outside : (z : Entity small_ids) → ((y : Entity small_ids) → In z (children module_with_three y) → ⊥) → (e : Entity small_ids) → Inner e z → e ≡ z
alone_outside z none e i = by z i refl
  where
    by : (x : Entity small_ids) → Inner e x → x ≡ z → e ≡ z
    by x itself is = is
    by x (below {c = c} h w) is = absurd (none c (subst (λ t. In t (children module_with_three c)) is h))

not_listed : {P Q : Type 0} (o : Small) → n4 ≡ o → (P × ((o ≡ n1) ⊎ ((o ≡ n2) ⊎ (o ≡ n3)))) ⊎ (Q × (o ≡ n5)) → ⊥
not_listed o is (inl (p, inl e)) = (let z : n4 ≡ n1 = is ∙ e in cc)
not_listed o is (inl (p, inr (inl e))) = (let z : n4 ≡ n2 = is ∙ e in cc)
not_listed o is (inl (p, inr (inr e))) = (let z : n4 ≡ n3 = is ∙ e in cc)
not_listed o is (inr (q, e)) = (let z : n4 ≡ n5 = is ∙ e in cc)

-- n4 stands in no list
unlinked : (y : Entity small_ids) → In (an_op n4) (children module_with_three y) → ⊥
unlinked (an_op o) h = (let at = In-map_back a_region (an_op n4) (regions_of module_with_three o) h in let e : an_op n4 ≡ a_region at.0 = at.2 in cc)
unlinked (a_block c) h =
    let at = In-map_back an_op (an_op n4) (ops_of module_with_three c) h in
    let is : n4 ≡ at.0 = (let e : an_op n4 ≡ an_op at.0 = at.2 in cc) in
    not_listed at.0 is (listed c at.0 at.1)
unlinked (a_region r) h = (let at = In-map_back a_block (an_op n4) (blocks_of module_with_three r) h in let e : an_op n4 ≡ a_block at.0 = at.2 in cc)

inside_nothing : (e : Entity small_ids) → Inner e (an_op n4) → e ≡ an_op n4
inside_nothing e i = alone_outside (an_op n4) unlinked e i

not_the_effect : IsDead n4 → ⊥
not_the_effect (dead here is_pure goes) = (let k : false ≡ true = is_pure in cc)

named_outside : IsDead n1 → ⊥
named_outside (dead here is_pure goes) = by (goes n4 (a_value (result n1 n1)) (inl refl) itself)
  where
    by : GoesAlong two_pure module_with_three (an_op n0) n1 n4 → ⊥
    by (inside_it v) = (let e : an_op n1 ≡ an_op n4 = inside_nothing (an_op n1) v in cc)
    by (inside_dead {p = p} d v) =
        let e : an_op p ≡ an_op n4 = inside_nothing (an_op p) v in
        let is : p ≡ n4 = cc in
        not_the_effect (subst IsDead is d)

-- what is dead is listed in the block inside the root
dead_listed : (o : Small) → IsDead o → (o ≡ n1) ⊎ ((o ≡ n2) ⊎ (o ≡ n3))
dead_listed o (dead here is_pure goes) = elim (listed here.0 o here.2) [
  | inl k ↦ k.1
  | inr k ↦ (let e : an_op n0 ≡ a_block n1 = alone_outside (a_block n1) block_unlinked (an_op n0) (subst (λ c. Inner (an_op n0) (a_block c)) k.0 here.1) in absurd cc)
]

outside_stays : IsDead n5 → ⊥
outside_stays d = elim (dead_listed n5 d) [
  | inl e ↦ cc
  | inr (inl e) ↦ cc
  | inr (inr e) ↦ cc
]

root_stays : IsDead n0 → ⊥
root_stays d = elim (dead_listed n0 d) [
  | inl e ↦ cc
  | inr (inl e) ↦ cc
  | inr (inr e) ↦ cc
]

-- so two are dead
two_dead : (o : Small) → IsDead o → (o ≡ n2) ⊎ (o ≡ n3)
two_dead o d = elim (dead_listed o d) [
  | inl e ↦ absurd (named_outside (subst IsDead e d))
  | inr k ↦ k
]

swept_so : (o : Small) → IsSweptInside two_pure module_with_three (an_op n0) (an_op o) → In o (n2 ∷ n3 ∷ [])
swept_so o (p, d, i) = elim (two_dead p d) [
  | inl e ↦ (let k : an_op o ≡ an_op n2 = alone module_with_three n2 refl (an_op o) (subst (λ z. Inner (an_op z) (an_op o)) e i) in let is : o ≡ n2 = cc in inl is)
  | inr e ↦ (let k : an_op o ≡ an_op n3 = alone module_with_three n3 refl (an_op o) (subst (λ z. Inner (an_op z) (an_op o)) e i) in let is : o ≡ n3 = cc in inr (inl is))
]

is_swept : (o : Small) → In o (n2 ∷ n3 ∷ []) → IsSweptInside two_pure module_with_three (an_op n0) (an_op o)
is_swept o (inl e) = (n2, named_by_dead, subst (λ z. Inner (an_op n2) (an_op z)) (sym e) itself)
is_swept o (inr (inl e)) = (n3, unnamed, subst (λ z. Inner (an_op n3) (an_op z)) (sym e) itself)
is_swept o (inr (inr h)) = elim h [ ]

two_go : SweptCount two_pure module_with_three (an_op n0) 2
two_go = (n2 ∷ n3 ∷ [], ((λ e. cc, tt), (tt, tt)), λ o. (is_swept o, swept_so o), refl)

not_one : SweptCount two_pure module_with_three (an_op n0) 1 → ⊥
not_one (gone, once, exactly, so_many) = by gone ((exactly n2).1 (is_swept n2 (inl refl))) ((exactly n3).1 (is_swept n3 (inr (inl refl)))) so_many
  where
    by : (xs : List Small) → In n2 xs → In n3 xs → length xs ≡ 1 → ⊥
    by [] h k e = elim h [ ]
    by (x ∷ []) (inl h) (inl k) e = (let z : n2 ≡ n3 = h ∙ sym k in cc)
    by (x ∷ []) (inl h) (inr k) e = elim k [ ]
    by (x ∷ []) (inr h) k e = elim h [ ]
    by (x ∷ y ∷ ys) h k e = (let z : ◌≡◌ {A = ℕ} (suc (suc (length ys))) 1 = e in omega (arith, z))

dead_left : (count : ℕ) → SweepsInside two_pure module_with_three (an_op n0) module_with_three count → ⊥
dead_left count s =
    let told = (s.decides (an_op n3)).1 (n3, unnamed, itself) in
    none_is_not_some (record (constant n3 1) { operands = operand n1 (result n2 n2) ∷ [] }) (sym (s.ops n3 ∙ ap (λ t. cond t None (module_with_three.ops n3)) told))

still_closed : NoneIsClosedInside two_pure (an_op n0) module_with_three → ⊥
still_closed none = none n3 (n0, block_inside, inr (inr (inl refl))) refl (λ user d h i. absurd (none_names_last user d h i))

pub sweep_rows : SweepRows
sweep_rows = record {
  unnamed = unnamed;
  named_by_dead = named_by_dead;
  named_outside = named_outside;
  root_stays = root_stays;
  unlinked_stays = not_the_effect;
  outside_stays = outside_stays;
  two_go = two_go;
  not_one = not_one;
  dead_left = dead_left;
  still_closed = still_closed;
}
