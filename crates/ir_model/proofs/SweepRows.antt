-- Which operations of the small forests are dead.
use mathlib.Core.Path.{◌≡◌, refl, sym, ap, ◌∙◌, subst, fun_ext}
use Rattle.std.proofs.Common.{ℕ, ◌⊎◌, inl, inr, Bool, true, false, not, cond, ◌||◌, Option, None, List, [], ◌∷◌, map}
use Rattle.std.proofs.lemmas.Bool.{eqb-true}
use Rattle.std.specs.Prelude.{◌↔◌, IsTrue, filter, count_by, slice_index_or}
use Rattle.std.specs.Option.{option_map}
use Rattle.std.specs.List.{list_any}
use Rattle.ir_model.specs.Forest.{Forest, BlockRecord, Entity, an_op, a_block, a_region, Named, a_value, owner}
use Rattle.ir_model.specs.Nesting.{In, Inside, itself, below, children, list_of, names_of, regions_of, ops_of}
use Rattle.ir_model.specs.Changes.{on_ops}
use Rattle.ir_model.specs.BlockGraph.{implements, pure_interface}
use Rattle.ir_model.specs.Dead.{Dead, dead, GoesWith, inside_it, inside_dead, IsSwept}
use Rattle.ir_model.specs.SmallForests.{Small, n0, n1, n2, n3, n4, n5, place, same_small, small_ids, bare, behaviour, result}
use Rattle.ir_model.specs.WorkedRows.{AreDead, SweepsTo, SweptRows, nothing_there, kept_constant, ring, constant_behind, own_sum, used_elsewhere, used_inside}

small_same : (x : Small) → same_small x x ≡ true
small_same n0 = refl
small_same _ = refl

listed : (x : Small) (xs : List Small) → In x xs → list_any (same_small x) xs ≡ true
listed x [] h = elim h [ ]
listed x (y ∷ ys) (inl e) = ap (λ z. same_small x z || list_any (same_small x) ys) (sym e) ∙ ap (λ b. b || list_any (same_small x) ys) (small_same x)
listed x (y ∷ ys) (inr h) = by (same_small x y) (listed x ys h)
  where
    by : (b : Bool) → list_any (same_small x) ys ≡ true → (b || list_any (same_small x) ys) ≡ true
    by true e = refl
    by false e = e

not_listed : (x : Small) (xs : List Small) → list_any (same_small x) xs ≡ false → In x xs → ⊥
not_listed x xs e h = let k = listed x xs h in cc

module _ (f : Forest small_ids bare) where
  -- an operation without regions has nothing inside but itself
  alone : (o : Small) → regions_of f o ≡ [] → (x : Entity small_ids) → Inside f (an_op o) x → x ≡ an_op o
  alone o e x itself = refl
  alone o e x (below {c = c} h w) =
      let k : In x (children f (an_op o)) = subst (λ y. In x (children f y)) (alone o e c w) h in
      absurd (let n : In x (map a_region []) = subst (λ (rs : List Small). In x (map {A = Small} {B = Entity small_ids} a_region rs)) e k in n)

  -- it is dead where it is pure and each user of its results goes with it
  dead_alone : (o : Small) → regions_of f o ≡ [] → In o (ops_of f n0) → implements behaviour f pure_interface o ≡ true
      → ((user : Small) (d : Named small_ids) → In d (names_of f user) → owner small_ids d ≡ an_op o → GoesWith behaviour f n0 o user) → Dead behaviour f n0 o
  dead_alone o e here pure goes = dead here pure (λ user d h i. goes user d h (alone o e (owner small_ids d) i))

  -- what does not implement the interface is not dead, nor is what stands elsewhere
  not_pure : (o : Small) → implements behaviour f pure_interface o ≡ false → Dead behaviour f n0 o → ⊥
  not_pure o e (dead here pure goes) = cc

  not_there : (o : Small) → list_any (same_small o) (ops_of f n0) ≡ false → Dead behaviour f n0 o → ⊥
  not_there o e (dead here pure goes) = not_listed o (ops_of f n0) e here

-- the sum goes, then the first constant; the second has a user that stays
sum_dead : Dead behaviour kept_constant n0 n2
sum_dead = dead_alone kept_constant n2 refl (inr (inr (inl refl))) refl by
  where
    by : (user : Small) (d : Named small_ids) → In d (names_of kept_constant user) → owner small_ids d ≡ an_op n2 → GoesWith behaviour kept_constant n0 n2 user
    by n0 d h e = elim h [ ]
    by n1 d h e = elim h [ ]
    by n2 d h e = inside_it itself
    by n3 d (inl s) e = absurd (let t : ◌≡◌ {A = Entity small_ids} (an_op n1) (an_op n2) = sym (ap (owner small_ids) s) ∙ e in cc)
    by n3 d (inr k) e = elim k [ ]
    by _ d h e = elim h [ ]

first_dead : Dead behaviour kept_constant n0 n0
first_dead = dead_alone kept_constant n0 refl (inl refl) refl by
  where
    by : (user : Small) (d : Named small_ids) → In d (names_of kept_constant user) → owner small_ids d ≡ an_op n0 → GoesWith behaviour kept_constant n0 n0 user
    by n0 d h e = elim h [ ]
    by n1 d h e = elim h [ ]
    by n2 d h e = inside_dead sum_dead itself
    by n3 d (inl s) e = absurd (let t : ◌≡◌ {A = Entity small_ids} (an_op n1) (an_op n0) = sym (ap (owner small_ids) s) ∙ e in cc)
    by n3 d (inr k) e = elim k [ ]
    by _ d h e = elim h [ ]

-- a user that is not inside, and stands in no operation that is dead, keeps an operation
second_stays : Dead behaviour kept_constant n0 n1 → ⊥
second_stays (dead here pure goes) = by (goes n3 (a_value (result n1 n1)) (inl refl) itself)
  where
    of : (p : Small) → Dead behaviour kept_constant n0 p → Inside kept_constant (an_op p) (an_op n3) → ⊥
    of n0 d i = let e = alone kept_constant n0 refl (an_op n3) i in cc
    of n1 d i = let e = alone kept_constant n1 refl (an_op n3) i in cc
    of n2 d i = let e = alone kept_constant n2 refl (an_op n3) i in cc
    of n3 d i = not_pure kept_constant n3 refl d
    of o d i = let e = alone kept_constant o refl (an_op n3) i in cc

    by : GoesWith behaviour kept_constant n0 n1 n3 → ⊥
    by (inside_it i) = let e = alone kept_constant n1 refl (an_op n3) i in cc
    by (inside_dead {p = p} d i) = of p d i

constant_stays : AreDead kept_constant (n0 ∷ n2 ∷ [])
constant_stays n0 = (λ _. inl refl, λ _. first_dead)
constant_stays n1 = (λ d. absurd (second_stays d), λ h. absurd (not_listed n1 (n0 ∷ n2 ∷ []) refl h))
constant_stays n2 = (λ _. inr (inl refl), λ _. sum_dead)
constant_stays n3 = (λ d. absurd (not_pure kept_constant n3 refl d), λ h. absurd (not_listed n3 (n0 ∷ n2 ∷ []) refl h))
constant_stays o = (λ d. absurd (not_there kept_constant o refl d), λ h. absurd (not_listed o (n0 ∷ n2 ∷ []) refl h))

-- in a ring each would have to go first
mutual
  ring_op : (o : Small) → Dead behaviour ring n0 o → ⊥
  ring_op n0 (dead here pure goes) = ring_user n0 n1 (λ i. (let e = alone ring n0 refl (an_op n1) i in cc)) (goes n1 (a_value (result n0 n0)) (inl refl) itself)
  ring_op n1 (dead here pure goes) = ring_user n1 n0 (λ i. (let e = alone ring n1 refl (an_op n0) i in cc)) (goes n0 (a_value (result n1 n1)) (inl refl) itself)
  ring_op o (dead here pure goes) = not_listed o (n0 ∷ n1 ∷ []) refl here

  ring_user : (o user : Small) → (Inside ring (an_op o) (an_op user) → ⊥) → GoesWith behaviour ring n0 o user → ⊥
  ring_user o user out (inside_it i) = out i
  ring_user o user out (inside_dead {p = p} d i) = ring_op p d

ring_stays : AreDead ring []
ring_stays o = (λ d. absurd (ring_op o d), λ h. elim h [ ])

sum_goes : Dead behaviour constant_behind n0 n0
sum_goes = dead_alone constant_behind n0 refl (inl refl) refl by
  where
    by : (user : Small) (d : Named small_ids) → In d (names_of constant_behind user) → owner small_ids d ≡ an_op n0 → GoesWith behaviour constant_behind n0 n0 user
    by n0 d h e = inside_it itself
    by _ d h e = elim h [ ]

constant_goes : Dead behaviour constant_behind n0 n1
constant_goes = dead_alone constant_behind n1 refl (inr (inl refl)) refl by
  where
    by : (user : Small) (d : Named small_ids) → In d (names_of constant_behind user) → owner small_ids d ≡ an_op n1 → GoesWith behaviour constant_behind n0 n1 user
    by n0 d h e = inside_dead sum_goes itself
    by _ d h e = elim h [ ]

both_go : AreDead constant_behind (n0 ∷ n1 ∷ [])
both_go n0 = (λ _. inl refl, λ _. sum_goes)
both_go n1 = (λ _. inr (inl refl), λ _. constant_goes)
both_go o = (λ d. absurd (not_there constant_behind o refl d), λ h. absurd (not_listed o (n0 ∷ n1 ∷ []) refl h))

own_dead : Dead behaviour own_sum n0 n0
own_dead = dead_alone own_sum n0 refl (inl refl) refl by
  where
    by : (user : Small) (d : Named small_ids) → In d (names_of own_sum user) → owner small_ids d ≡ an_op n0 → GoesWith behaviour own_sum n0 n0 user
    by n0 d h e = inside_it itself
    by _ d h e = elim h [ ]

own_goes : AreDead own_sum (n0 ∷ [])
own_goes n0 = (λ _. inl refl, λ _. own_dead)
own_goes o = (λ d. absurd (not_there own_sum o refl d), λ h. absurd (not_listed o (n0 ∷ []) refl h))

-- the user stands in another block, so in no operation of this one
elsewhere_stays : Dead behaviour used_elsewhere n0 n0 → ⊥
elsewhere_stays (dead here pure goes) = by (goes n1 (a_value (result n0 n0)) (inl refl) itself)
  where
    of : (p : Small) → Dead behaviour used_elsewhere n0 p → Inside used_elsewhere (an_op p) (an_op n1) → ⊥
    of n0 d i = let e = alone used_elsewhere n0 refl (an_op n1) i in cc
    of o d i = not_there used_elsewhere o refl d

    by : GoesWith behaviour used_elsewhere n0 n0 n1 → ⊥
    by (inside_it i) = let e = alone used_elsewhere n0 refl (an_op n1) i in cc
    by (inside_dead {p = p} d i) = of p d i

other_block : AreDead used_elsewhere []
other_block n0 = (λ d. absurd (elsewhere_stays d), λ h. elim h [ ])
other_block o = (λ d. absurd (not_there used_elsewhere o refl d), λ h. elim h [ ])

user_inside : Inside used_inside (an_op n1) (an_op n2)
user_inside = below {c = a_block n1} (inl refl) (below {c = a_region n0} (inl refl) (below {c = an_op n1} (inl refl) itself))

holder_goes : Dead behaviour used_inside n0 n1
holder_goes = dead (inr (inl refl)) refl by
  where
    by : (user : Small) (d : Named small_ids) → In d (names_of used_inside user) → Inside used_inside (an_op n1) (owner small_ids d) → GoesWith behaviour used_inside n0 n1 user
    by n0 d h i = elim h [ ]
    by n1 d h i = elim h [ ]
    by n2 d h i = inside_it user_inside
    by _ d h i = elim h [ ]

inner_goes : Dead behaviour used_inside n0 n0
inner_goes = dead_alone used_inside n0 refl (inl refl) refl by
  where
    by : (user : Small) (d : Named small_ids) → In d (names_of used_inside user) → owner small_ids d ≡ an_op n0 → GoesWith behaviour used_inside n0 n0 user
    by n0 d h e = elim h [ ]
    by n1 d h e = elim h [ ]
    by n2 d h e = inside_dead holder_goes user_inside
    by _ d h e = elim h [ ]

with_inside : AreDead used_inside (n0 ∷ n1 ∷ [])
with_inside n0 = (λ _. inl refl, λ _. inner_goes)
with_inside n1 = (λ _. inr (inl refl), λ _. holder_goes)
with_inside o = (λ d. absurd (not_there used_inside o refl d), λ h. absurd (not_listed o (n0 ∷ n1 ∷ []) refl h))

-- ## What a sweep leaves

-- two lists of dead operations have the same items
same_dead : (f : Forest small_ids bare) (xs ys : List Small) → AreDead f xs → AreDead f ys → (o : Small) → In o xs → In o ys
same_dead f xs ys a b o h = (b o).0 ((a o).1 h)

-- the name at a place
abbrev named_at : ℕ → Small
named_at k = slice_index_or (n0 ∷ n1 ∷ n2 ∷ n3 ∷ n4 ∷ n5 ∷ []) k n5

at_place : (x : Small) → named_at (place x) ≡ x
at_place n0 = refl
at_place n1 = refl
at_place n2 = refl
at_place n3 = refl
at_place n4 = refl
at_place n5 = refl

any_listed : (x : Small) (xs : List Small) → list_any (same_small x) xs ≡ true → In x xs
any_listed x [] e = absurd cc
any_listed x (y ∷ ys) e = by (any_listed x ys) (same_small x y) refl e
  where
    by : (list_any (same_small x) ys ≡ true → In x ys) → (b : Bool) → same_small x y ≡ b → (b || list_any (same_small x) ys) ≡ true → In x (y ∷ ys)
    by more true t e = inl (sym (at_place x) ∙ ap named_at (eqb-true (place x) (place y) t) ∙ at_place y)
    by more false t e = inr (more e)

-- whether it stands in the list
abbrev among : List Small → Small → Bool
among xs x = list_any (same_small x) xs

-- a test that is true of exactly the items of a list
is_among : (xs : List Small) (o : Small) (b : Bool) → (b ≡ true → In o xs) → (In o xs → b ≡ true) → b ≡ among xs o
is_among xs o true there back = sym (listed o xs (there refl))
is_among xs o false there back = by (list_any (same_small o) xs) refl
  where
    by : (t : Bool) → list_any (same_small o) xs ≡ t → false ≡ t
    by true e = back (any_listed o xs e)
    by false e = refl

-- the map without what stands in the list, and a map as the other at all else
module _ {R : Type 0} (xs : List Small) (m : Small → Option R) where
  without_these : Small → Option R
  without_these x = cond (among xs x) None (m x)

  gone_there : (x : Small) → In x xs → without_these x ≡ None
  unfolding without_these
  gone_there x h = ap (λ b. cond b None (m x)) (listed x xs h)

  left_there : (x : Small) → (In x xs → ⊥) → without_these x ≡ m x
  unfolding without_these
  left_there x out = by (list_any (same_small x) xs) refl
    where
      by : (b : Bool) → list_any (same_small x) xs ≡ b → cond b None (m x) ≡ m x
      by true e = absurd (out (any_listed x xs e))
      by false e = refl

module _ (f : Forest small_ids bare) (dead left : List Small) (count : ℕ) (are : AreDead f dead) where
  abbrev Swept : Entity small_ids → Type 0
  Swept = IsSwept behaviour f n0

  abbrev kept_by : (Small → Bool) → Small → Option (BlockRecord small_ids bare)
  kept_by is_dead c = option_map (on_ops (filter (λ o. not (is_dead o)))) (f.blocks c)

  -- what is swept, how many of the block's list, and what is left of it
  swept_to : (ops blocks regions : List Small)
      → ((o : Small) → Swept (an_op o) ↔ In o ops) → ((c : Small) → Swept (a_block c) ↔ In c blocks) → ((r : Small) → Swept (a_region r) ↔ In r regions)
      → (In n0 blocks → ⊥) → count ≡ count_by (among dead) (ops_of f n0) → list_of (λ r. r.ops) (kept_by (among dead) n0) ≡ left → SweepsTo f dead count left
  swept_to ops blocks regions of_ops of_blocks of_regions here counted rest = record {
    are_dead = are;
    can_be = (
      record { ops = without_these ops f.ops; blocks = without_these blocks (kept_by (among dead)); regions = without_these regions f.regions },
      record {
        is_dead = among dead;
        decides = decides;
        ops_gone = λ o s. gone_there ops f.ops o ((of_ops o).0 s);
        ops_left = λ o s. left_there ops f.ops o (λ h. s ((of_ops o).1 h));
        blocks_gone = λ c s. gone_there blocks (kept_by (among dead)) c ((of_blocks c).0 s);
        blocks_left = λ c s. left_there blocks (kept_by (among dead)) c (λ h. s ((of_blocks c).1 h));
        regions_gone = λ r s. gone_there regions f.regions r ((of_regions r).0 s);
        regions_left = λ r s. left_there regions f.regions r (λ h. s ((of_regions r).1 h));
        counted = counted;
      },
    );
    answers = λ g answer s. s.counted ∙ ap (λ p. count_by p (ops_of f n0)) (tests s.is_dead s.decides) ∙ sym counted;
    leaves = λ g answer s. ap (list_of (λ (r : BlockRecord small_ids bare). r.ops)) (s.blocks_left n0 (λ h. here ((of_blocks n0).0 h)) ∙ ap (λ p. kept_by p n0) (tests s.is_dead s.decides)) ∙ rest;
  }
    where
      decides : (o : Small) → IsTrue (among dead o) ↔ Dead behaviour f n0 o
      decides o = (λ e. (are o).1 (any_listed o dead e), λ d. listed o dead ((are o).0 d))

      tests : (is_dead : Small → Bool) → ((o : Small) → IsTrue (is_dead o) ↔ Dead behaviour f n0 o) → is_dead ≡ among dead
      tests is_dead decides = fun_ext (λ o. is_among dead o (is_dead o) (λ e. (are o).0 ((decides o).0 e)) (λ h. (decides o).1 ((are o).1 h)))

  -- where no operation has regions nothing is swept but the dead
  swept_flat : ((o : Small) → regions_of f o ≡ []) → count ≡ count_by (among dead) (ops_of f n0) → list_of (λ r. r.ops) (kept_by (among dead) n0) ≡ left → SweepsTo f dead count left
  swept_flat flat = swept_to dead [] [] of_ops of_blocks of_regions (λ h. h)
    where
      of_ops : (o : Small) → Swept (an_op o) ↔ In o dead
      of_ops o = (
        λ s. (let e : ◌≡◌ {A = Entity small_ids} (an_op o) (an_op s.0) = alone f s.0 (flat s.0) (an_op o) s.2 in let t : o ≡ s.0 = cc in (are o).0 (subst (Dead behaviour f n0) (sym t) s.1)),
        λ h. (o, (are o).1 h, itself),
      )

      of_blocks : (c : Small) → Swept (a_block c) ↔ In c []
      of_blocks c = (λ s. (let e : ◌≡◌ {A = Entity small_ids} (a_block c) (an_op s.0) = alone f s.0 (flat s.0) (a_block c) s.2 in absurd cc), λ h. absurd h)

      of_regions : (r : Small) → Swept (a_region r) ↔ In r []
      of_regions r = (λ s. (let e : ◌≡◌ {A = Entity small_ids} (a_region r) (an_op s.0) = alone f s.0 (flat s.0) (a_region r) s.2 in absurd cc), λ h. absurd h)

no_regions : (f : Forest small_ids bare) → regions_of f n0 ≡ [] → regions_of f n1 ≡ [] → regions_of f n2 ≡ [] → regions_of f n3 ≡ [] → regions_of f n4 ≡ [] → regions_of f n5 ≡ [] → (o : Small) → regions_of f o ≡ []
no_regions f first_none second_none third_none fourth_none fifth_none sixth_none n0 = first_none
no_regions f first_none second_none third_none fourth_none fifth_none sixth_none n1 = second_none
no_regions f first_none second_none third_none fourth_none fifth_none sixth_none n2 = third_none
no_regions f first_none second_none third_none fourth_none fifth_none sixth_none n3 = fourth_none
no_regions f first_none second_none third_none fourth_none fifth_none sixth_none n4 = fifth_none
no_regions f first_none second_none third_none fourth_none fifth_none sixth_none n5 = sixth_none

-- what stands inside the two dead operations of the last forest with regions
data InHolder : Entity small_ids → Type 0 where
  the_holder : InHolder (an_op n1)
  the_region : InHolder (a_region n0)
  the_block : InHolder (a_block n1)
  the_user : InHolder (an_op n2)

in_holder : (x : Entity small_ids) → Inside used_inside (an_op n1) x → InHolder x
in_holder x itself = the_holder
in_holder x (below {c = c} h w) = by c x (in_holder c w) h
  where
    by : (c x : Entity small_ids) → InHolder c → In x (children used_inside c) → InHolder x
    by c x the_holder (inl e) = subst InHolder (sym e) the_region
    by c x the_holder (inr k) = elim k [ ]
    by c x the_region (inl e) = subst InHolder (sym e) the_block
    by c x the_region (inr k) = elim k [ ]
    by c x the_block (inl e) = subst InHolder (sym e) the_user
    by c x the_block (inr k) = elim k [ ]
    by c x the_user k = elim k [ ]

-- what is swept is the constant, or stands in the holder
swept_there : (x : Entity small_ids) → IsSwept behaviour used_inside n0 x → (x ≡ an_op n0) ⊎ InHolder x
swept_there x s = by s.0 ((with_inside s.0).0 s.1) s.2
  where
    by : (o : Small) → In o (n0 ∷ n1 ∷ []) → Inside used_inside (an_op o) x → (x ≡ an_op n0) ⊎ InHolder x
    by o (inl e) i = inl (alone used_inside n0 refl x (subst (λ p. Inside used_inside (an_op p) x) e i))
    by o (inr (inl e)) i = inr (in_holder x (subst (λ p. Inside used_inside (an_op p) x) e i))
    by o (inr (inr k)) i = elim k [ ]

holder_swept : SweepsTo used_inside (n0 ∷ n1 ∷ []) 2 []
holder_swept = swept_to used_inside (n0 ∷ n1 ∷ []) [] 2 with_inside (n0 ∷ n1 ∷ n2 ∷ []) (n1 ∷ []) (n0 ∷ []) of_ops of_blocks of_regions (λ h. elim h [ inl e ↦ cc | inr k ↦ k ]) refl refl
  where
    op_there : (x : Entity small_ids) → InHolder x → (o : Small) → x ≡ an_op o → In o (n0 ∷ n1 ∷ n2 ∷ [])
    op_there x the_holder o e = inr (inl cc)
    op_there x the_user o e = inr (inr (inl cc))
    op_there x the_region o e = absurd cc
    op_there x the_block o e = absurd cc

    block_there : (x : Entity small_ids) → InHolder x → (c : Small) → x ≡ a_block c → In c (n1 ∷ [])
    block_there x the_block c e = inl cc
    block_there x the_holder c e = absurd cc
    block_there x the_user c e = absurd cc
    block_there x the_region c e = absurd cc

    region_there : (x : Entity small_ids) → InHolder x → (r : Small) → x ≡ a_region r → In r (n0 ∷ [])
    region_there x the_region r e = inl cc
    region_there x the_holder r e = absurd cc
    region_there x the_user r e = absurd cc
    region_there x the_block r e = absurd cc

    of_ops : (o : Small) → IsSwept behaviour used_inside n0 (an_op o) ↔ In o (n0 ∷ n1 ∷ n2 ∷ [])
    of_ops o = (λ s. elim (swept_there (an_op o) s) [ inl e ↦ inl cc | inr h ↦ op_there (an_op o) h o refl ], back o)
      where
        back : (o : Small) → In o (n0 ∷ n1 ∷ n2 ∷ []) → IsSwept behaviour used_inside n0 (an_op o)
        back o (inl e) = subst (λ p. IsSwept behaviour used_inside n0 (an_op p)) (sym e) (n0, inner_goes, itself)
        back o (inr (inl e)) = subst (λ p. IsSwept behaviour used_inside n0 (an_op p)) (sym e) (n1, holder_goes, itself)
        back o (inr (inr (inl e))) = subst (λ p. IsSwept behaviour used_inside n0 (an_op p)) (sym e) (n1, holder_goes, user_inside)
        back o (inr (inr (inr k))) = elim k [ ]

    of_blocks : (c : Small) → IsSwept behaviour used_inside n0 (a_block c) ↔ In c (n1 ∷ [])
    of_blocks c = (λ s. elim (swept_there (a_block c) s) [ inl e ↦ absurd cc | inr h ↦ block_there (a_block c) h c refl ], back c)
      where
        back : (c : Small) → In c (n1 ∷ []) → IsSwept behaviour used_inside n0 (a_block c)
        back c (inl e) = subst (λ d. IsSwept behaviour used_inside n0 (a_block d)) (sym e) (n1, holder_goes, below {c = a_region n0} (inl refl) (below {c = an_op n1} (inl refl) itself))
        back c (inr k) = elim k [ ]

    of_regions : (r : Small) → IsSwept behaviour used_inside n0 (a_region r) ↔ In r (n0 ∷ [])
    of_regions r = (λ s. elim (swept_there (a_region r) s) [ inl e ↦ absurd cc | inr h ↦ region_there (a_region r) h r refl ], back r)
      where
        back : (r : Small) → In r (n0 ∷ []) → IsSwept behaviour used_inside n0 (a_region r)
        back r (inl e) = subst (λ q. IsSwept behaviour used_inside n0 (a_region q)) (sym e) (n1, holder_goes, below {c = an_op n1} (inl refl) itself)
        back r (inr k) = elim k [ ]

nothing_dead : AreDead nothing_there []
nothing_dead o = (λ d. absurd (not_there nothing_there o refl d), λ h. elim h [ ])

pub sweeps : SweptRows
sweeps = record {
  constant_stays = swept_flat kept_constant (n0 ∷ n2 ∷ []) (n1 ∷ n3 ∷ []) 2 constant_stays (no_regions kept_constant refl refl refl refl refl refl) refl refl;
  not_the_sum_alone = λ a. not_listed n0 (n2 ∷ []) refl (same_dead kept_constant (n0 ∷ n2 ∷ []) (n2 ∷ []) constant_stays a n0 (inl refl));
  ring_stays = swept_flat ring [] (n0 ∷ n1 ∷ []) 0 ring_stays (no_regions ring refl refl refl refl refl refl) refl refl;
  not_the_ring = λ a. same_dead ring (n0 ∷ n1 ∷ []) [] a ring_stays n0 (inl refl);
  both_go = swept_flat constant_behind (n0 ∷ n1 ∷ []) [] 2 both_go (no_regions constant_behind refl refl refl refl refl refl) refl refl;
  not_the_front_alone = λ a. not_listed n1 (n0 ∷ []) refl (same_dead constant_behind (n0 ∷ n1 ∷ []) (n0 ∷ []) both_go a n1 (inr (inl refl)));
  own_goes = swept_flat own_sum (n0 ∷ []) [] 1 own_goes (no_regions own_sum refl refl refl refl refl refl) refl refl;
  not_kept_by_itself = λ a. same_dead own_sum (n0 ∷ []) [] own_goes a n0 (inl refl);
  other_block = swept_flat used_elsewhere [] (n0 ∷ []) 0 other_block (no_regions used_elsewhere refl refl refl refl refl refl) refl refl;
  not_without_the_user = λ a. same_dead used_elsewhere (n0 ∷ []) [] a other_block n0 (inl refl);
  with_inside = holder_swept;
  not_kept_by_the_inside = λ a. not_listed n0 (n1 ∷ []) refl (same_dead used_inside (n0 ∷ n1 ∷ []) (n1 ∷ []) with_inside a n0 (inl refl));
  nothing = swept_flat nothing_there [] [] 0 nothing_dead (no_regions nothing_there refl refl refl refl refl refl) refl refl;
  not_something = λ a. same_dead nothing_there (n0 ∷ []) [] a nothing_dead n0 (inl refl);
}
