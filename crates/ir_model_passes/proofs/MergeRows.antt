-- Which operations are alike and which are not, what is a merging and what is not.
use mathlib.Core.Path.{◌≡◌, refl, sym, ap, ◌∙◌, subst}
use Rattle.std.proofs.Common.{ℕ, ◌⊎◌, inl, inr, true, false, Option, Some, None, List, [], ◌∷◌, map}
use Rattle.std.specs.Prelude.{IsTrue}
use Rattle.std.specs.List.{AllZip}
use Rattle.ir_model.specs.Forest.{Definer, of_op, Definition, OpRecord, BlockRecord, Forest, Value, Operand, Entity, an_op, a_block, a_region}
use Rattle.ir_model.specs.Nesting.{In, Inside, itself, ops_of, operands_of}
use Rattle.ir_model.specs.Changes.{unlist, Removes}
use Rattle.ir_model.specs.SmallForests.{Small, n0, n1, n2, n3, n4, n5, small_ids, result, operand, successor}
use Rattle.ir_model.proofs.SmallChecks.{lawful_small}
use Rattle.ir_model_passes.specs.Meaning.{IsPlain, named_values, result_types}
use Rattle.ir_model_passes.specs.Merging.{StandsBefore, redirect_results, Alike, MergesOne, MovesBack, IsGoneWith, OperandsMoveBack}
use Rattle.ir_model_passes.specs.InOrder.{InOrder}
use Rattle.ir_model_passes.specs.MarkedForests.{marked, two_pure, same_mark, constant, effect, block_with, one_block, two_marks, one_mark}
use Rattle.ir_model_passes.specs.WrongPasses.{used_between, named_behind}
use Rattle.ir_model_passes.specs.MergeRows.{AreAlike, negation, pair, AlikeRows, names_two, two_pairs, one_pair, uses_moved, two_blocks, named_across, MergeRows, MoveRows, OrderRows}
use Rattle.ir_model_passes.proofs.Going.{none_is_not_some, some_one}
use Rattle.ir_model_passes.proofs.Merged.{one_moves_back, of_op_one}
use Rattle.ir_model_passes.proofs.FlatForests.{alone}
use Rattle.ir_model_passes.proofs.WrongPasses.{merged, two_marks_formed, heads}

abbrev Op : Type 0
Op = OpRecord small_ids marked

-- ## Alike or not

-- what makes two records alike
record Fits (one other : Op) : Type 0 where
  one_plain : IsPlain two_pure one
  other_plain : IsPlain two_pure other
  kinds : one.kind ≡ other.kind
  attributes : IsTrue (same_mark one.attributes other.attributes)
  operands : named_values one ≡ named_values other
  types : result_types one ≡ result_types other

fit : (one other : Op) → Fits one other → AreAlike one other
fit one other s = record {
  one = one;
  other = other;
  one_is = refl;
  other_is = refl;
  one_plain = s.one_plain;
  other_plain = s.other_plain;
  kinds = s.kinds;
  attributes = s.attributes;
  operands = s.operands;
  types = s.types;
}

-- records that don't fit are not alike
apart : (one other : Op) → (Fits one other → ⊥) → AreAlike one other → ⊥
apart one other differs k =
    let first = sym (some_one one k.one k.one_is) in
    let second = sym (some_one other k.other k.other_is) in
    differs (subst (λ (r : Op). Fits r other) first (subst (λ (q : Op). Fits k.one q) second (record {
      one_plain = k.one_plain;
      other_plain = k.other_plain;
      kinds = k.kinds;
      attributes = k.attributes;
      operands = k.operands;
      types = k.types;
    })))

list_differs : {A : Type 0} (x : A) (xs : List A) → x ∷ xs ≡ [] → ⊥
list_differs x xs e = cc

longer_differs : {A : Type 0} (x y : A) → x ∷ [] ≡ x ∷ y ∷ [] → ⊥
longer_differs x y e = cc

plain : (r : Op) → r.kind ≡ 0 → r.regions ≡ [] → r.successors ≡ [] → IsPlain two_pure r
plain r k e s = record { is_pure = subst (λ n. IsTrue (two_pure.op_impls n 6)) (sym k) refl; no_regions = e; no_successors = s }

other_attributes : Fits (constant n0 1) (constant n1 2) → ⊥
other_attributes s = (let e : false ≡ true = s.attributes in cc)

other_operands : Fits (negation n0 n0) (record (constant n1 1) { operands = operand n1 (result n3 n3) ∷ [] }) → ⊥
other_operands s = (let e : n4 ≡ n3 = ap (λ (v : Value small_ids). v.number) (heads (result n4 n4) (result n3 n3) [] [] s.operands) in cc)

no_effect : Fits (record (constant n0 1) { kind = 1 }) (record (constant n1 1) { kind = 1 }) → ⊥
no_effect s = (let e : false ≡ true = s.one_plain.is_pure in cc)

pub alike_rows : AlikeRows
alike_rows = record {
  constants = fit (constant n0 1) (constant n1 1) (record { one_plain = plain _ refl refl refl; other_plain = plain _ refl refl refl; kinds = refl; attributes = refl; operands = refl; types = refl });
  operands = fit (negation n0 n0) (negation n1 n1) (record { one_plain = plain _ refl refl refl; other_plain = plain _ refl refl refl; kinds = refl; attributes = refl; operands = refl; types = refl });
  locations_may_differ = fit (constant n0 1) (record (constant n1 1) { loc = 7 }) (record { one_plain = plain _ refl refl refl; other_plain = plain _ refl refl refl; kinds = refl; attributes = refl; operands = refl; types = refl });
  other_attributes = apart (constant n0 1) (constant n1 2) other_attributes;
  other_kind = apart (constant n0 1) (record (constant n1 1) { kind = 2 }) (λ s. (let e : ◌≡◌ {A = ℕ} 0 2 = s.kinds in cc));
  other_operands = apart (negation n0 n0) (record (constant n1 1) { operands = operand n1 (result n3 n3) ∷ [] }) other_operands;
  other_types = apart (constant n0 1) (record (constant n1 1) { results = record { number = n1; ty = 1; name = None } ∷ [] }) (λ s. (let e : ◌≡◌ {A = ℕ} 0 1 = heads 0 1 [] [] s.types in cc));
  more_results = apart (constant n0 1) (pair n1 n2) (λ s. longer_differs 0 1 s.types);
  effects = apart (record (constant n0 1) { kind = 1 }) (record (constant n1 1) { kind = 1 }) no_effect;
  with_regions = apart (record (constant n0 1) { regions = n0 ∷ [] }) (record (constant n1 1) { regions = n1 ∷ [] }) (λ s. list_differs n0 [] s.one_plain.no_regions);
  with_successors = apart (record (constant n0 1) { successors = successor n2 n0 ∷ [] }) (record (constant n1 1) { successors = successor n3 n0 ∷ [] }) (λ s. list_differs _ [] s.one_plain.no_successors);
}

-- ## Mergings

-- of three in a row, which stands before which
before_three : {A : Type 0} (a b x y z : A) → StandsBefore a b (x ∷ y ∷ z ∷ []) → (b ≡ y) ⊎ ((b ≡ z) × ((a ≡ x) ⊎ (a ≡ y)))
before_three a b x y z (inl (e, inl k)) = inl k
before_three a b x y z (inl (e, inr (inl k))) = inr (k, inl e)
before_three a b x y z (inl (e, inr (inr h))) = elim h [ ]
before_three a b x y z (inr (inl (e, inl k))) = inr (k, inr e)
before_three a b x y z (inr (inl (e, inr h))) = elim h [ ]
before_three a b x y z (inr (inr (inl (e, h)))) = elim h [ ]
before_three a b x y z (inr (inr (inr h))) = absurd h

-- what goes by a merging is not there any more
goes_by : (f g : Forest small_ids marked) (b : Small) → (m : MergesOne two_pure same_mark f b g) → g.ops m.later ≡ None
goes_by f g b m = m.removes.ops_inside m.later itself

-- so it is none that is still there
still_there : (f g : Forest small_ids marked) (b : Small) (m : MergesOne two_pure same_mark f b g) (o : Small) (r : Op) → g.ops o ≡ Some r → m.later ≡ o → ⊥
still_there f g b m o r e is = none_is_not_some r (sym (goes_by f g b m) ∙ ap g.ops is ∙ e)

-- no other than the second of a list of three goes, where the third is still there
second_goes : (f g : Forest small_ids marked) (x y z : Small) (r : Op) (m : MergesOne two_pure same_mark f n0 g) → ops_of f n0 ≡ x ∷ y ∷ z ∷ [] → g.ops z ≡ Some r → m.later ≡ y
second_goes f g x y z r m list here = elim (before_three m.earlier m.later x y z (subst (StandsBefore m.earlier m.later) list m.in_order)) [
  | inl e ↦ e
  | inr k ↦ absurd (still_there f g n0 m z r here k.0)
]

first_of_two : {A : Type 0} (a b x y z : A) → (b ≡ y) → StandsBefore a b (x ∷ y ∷ z ∷ []) → (y ≡ z → ⊥) → (a ≡ x)
first_of_two a b x y z is (inl (e, h)) n = e
first_of_two a b x y z is (inr (inl (e, inl k))) n = absurd (n (sym is ∙ k))
first_of_two a b x y z is (inr (inl (e, inr h))) n = elim h [ ]
first_of_two a b x y z is (inr (inr (inl (e, h)))) n = elim h [ ]
first_of_two a b x y z is (inr (inr (inr h))) n = absurd h

swapped : MergesOne two_pure same_mark two_pairs n0 (one_pair n1 n0) → ⊥
swapped m = by (subst (λ z. Removes (redirect_results two_pairs n2 z) (an_op n2) (one_pair n1 n0)) earlier_is (subst (λ z. Removes (redirect_results two_pairs z m.earlier) (an_op z) (one_pair n1 n0)) later_is m.removes))
  where
    later_is : m.later ≡ n2
    later_is = second_goes two_pairs (one_pair n1 n0) n0 n2 n1 (names_two n0 n1 n0) m refl refl

    earlier_is : m.earlier ≡ n0
    earlier_is = first_of_two m.earlier m.later n0 n2 n1 later_is m.in_order (λ e. cc)

    outside : Inside (redirect_results two_pairs n2 n0) (an_op n2) (an_op n1) → ⊥
    outside i = (let e : an_op n1 ≡ an_op n2 = alone (redirect_results two_pairs n2 n0) n2 refl (an_op n1) i in cc)

    by : Removes (redirect_results two_pairs n2 n0) (an_op n2) (one_pair n1 n0) → ⊥
    by r =
        let e = some_one (names_two n0 n1 n0) (names_two n0 n0 n1) (r.ops_outside n1 outside) in
        let first = heads (operand n0 (result n0 n1)) (operand n0 (result n0 n0)) (operand n1 (result n0 n0) ∷ []) (operand n1 (result n0 n1) ∷ []) (ap (λ (x : Op). x.operands) e) in
        let z : n1 ≡ n0 = ap (λ (p : Operand small_ids). p.value.number) first in
        cc

place_by_place : MergesOne two_pure same_mark two_pairs n0 (one_pair n0 n1)
place_by_place = record {
  earlier = n0;
  later = n2;
  in_order = inl (refl, inl refl);
  alike = record {
    one = pair n0 n1;
    other = pair n2 n3;
    one_is = refl;
    other_is = refl;
    one_plain = plain _ refl refl refl;
    other_plain = plain _ refl refl refl;
    kinds = refl;
    attributes = refl;
    operands = refl;
    types = refl;
  };
  removes = record {
    ops_inside = λ o i. (let e : an_op o ≡ an_op n2 = later_alone (an_op o) i in let is : o ≡ n2 = cc in subst (λ z. (one_pair n0 n1).ops z ≡ None) (sym is) refl);
    ops_outside = ops;
    blocks_inside = λ c i. (let e : a_block c ≡ an_op n2 = later_alone (a_block c) i in absurd cc);
    blocks_outside = λ c out. blocks c;
    regions_inside = λ r i. (let e : a_region r ≡ an_op n2 = later_alone (a_region r) i in absurd cc);
    regions_outside = λ r out. refl;
  };
}
  where
    later_alone : (x : Entity small_ids) → Inside (redirect_results two_pairs n2 n0) (an_op n2) x → x ≡ an_op n2
    later_alone x h = alone (redirect_results two_pairs n2 n0) n2 refl x h

    ops : (o : Small) → (Inside (redirect_results two_pairs n2 n0) (an_op n2) (an_op o) → ⊥) → (one_pair n0 n1).ops o ≡ (unlist (an_op n2) (redirect_results two_pairs n2 n0)).ops o
    ops n0 out = refl
    ops n1 out = refl
    ops n2 out = absurd (out itself)
    ops n3 out = refl
    ops n4 out = refl
    ops n5 out = refl

    blocks : (c : Small) → (one_pair n0 n1).blocks c ≡ (unlist (an_op n2) (redirect_results two_pairs n2 n0)).blocks c
    blocks n0 = refl
    blocks n1 = refl
    blocks n2 = refl
    blocks n3 = refl
    blocks n4 = refl
    blocks n5 = refl

other_marks : MergesOne two_pure same_mark (two_marks 1 2) n0 (one_mark 1) → ⊥
other_marks m = by (subst (λ z. Alike two_pure same_mark (two_marks 1 2) z n2) earlier_is (subst (λ z. Alike two_pure same_mark (two_marks 1 2) m.earlier z) later_is m.alike))
  where
    later_is : m.later ≡ n2
    later_is = second_goes (two_marks 1 2) (one_mark 1) n0 n2 n1 (effect (result n0 n0)) m refl refl

    earlier_is : m.earlier ≡ n0
    earlier_is = first_of_two m.earlier m.later n0 n2 n1 later_is m.in_order (λ e. cc)

    by : Alike two_pure same_mark (two_marks 1 2) n0 n2 → ⊥
    by k = (let e : false ≡ true = subst (λ (r : Op). IsTrue (same_mark r.attributes (constant n2 2).attributes)) (sym (some_one (constant n0 1) k.one k.one_is))
        (subst (λ (r : Op). IsTrue (same_mark k.one.attributes r.attributes)) (sym (some_one (constant n2 2) k.other k.other_is)) k.attributes) in cc)

left_in_place : MergesOne two_pure same_mark (two_marks 1 1) n0 uses_moved → ⊥
left_in_place m = still_there (two_marks 1 1) uses_moved n0 m n2 (constant n2 1) refl (second_goes (two_marks 1 1) uses_moved n0 n2 n1 (effect (result n0 n0)) m refl refl)

into_the_later : MergesOne two_pure same_mark used_between n0 named_behind → ⊥
into_the_later m = still_there used_between named_behind n0 m n1 (effect (result n0 n0)) refl (second_goes used_between named_behind n2 n1 n0 (constant n0 1) m refl refl)

-- in one list the two don't stand
none_before : {A : Type 0} (a b x : A) → StandsBefore a b (x ∷ []) → ⊥
none_before a b x (inl (e, h)) = h
none_before a b x (inr h) = h

last_of_two : {A : Type 0} (a b x y : A) → StandsBefore a b (x ∷ y ∷ []) → b ≡ y
last_of_two a b x y (inl (e, inl k)) = k
last_of_two a b x y (inl (e, inr h)) = elim h [ ]
last_of_two a b x y (inr (inl (e, h))) = elim h [ ]
last_of_two a b x y (inr (inr h)) = absurd h

across_blocks : (b : Small) → MergesOne two_pure same_mark two_blocks b named_across → ⊥
across_blocks n0 m = none_before m.earlier m.later n0 m.in_order
across_blocks n1 m = still_there two_blocks named_across n1 m n1 (effect (result n0 n0)) refl (last_of_two m.earlier m.later n2 n1 m.in_order)
across_blocks n2 m = m.in_order
across_blocks n3 m = m.in_order
across_blocks n4 m = m.in_order
across_blocks n5 m = m.in_order

pub merge_rows : MergeRows
merge_rows = record {
  merged = merged 1 1 same_mark refl;
  place_by_place = place_by_place;
  places_swapped = swapped;
  other_attributes = other_marks;
  left_in_place = left_in_place;
  into_the_later = into_the_later;
  across_blocks = across_blocks;
  in_another_block = λ m. m.in_order;
}

-- ## Operands

-- an operand that names another value moved back only if what gave the old one is gone and an earlier operation of its block gives the new one
moved_so : (f g : Forest small_ids marked) (now was : Operand small_ids) → MovesBack f g was now → (now ≡ was → ⊥) → IsGoneWith g was.value
moved_so f g now was (inl e) n = absurd (n e)
moved_so f g now was (inr k) n = k.0

not_gone : OperandsMoveBack (two_marks 1 1) uses_moved → ⊥
not_gone k =
    let gone = moved_so (two_marks 1 1) uses_moved (operand n0 (result n0 n0)) (operand n0 (result n2 n2)) (k n1 refl).0 (λ e. (let z : n0 ≡ n2 = ap (λ (p : Operand small_ids). p.value.number) e in cc)) in
    let is : n2 ≡ gone.0 = of_op_one gone.1 in
    none_is_not_some (constant n2 1) (sym (subst (λ z. uses_moved.ops z ≡ None) (sym is) gone.2))

other_use_number : MovesBack (two_marks 1 1) (one_block (constant n0 1 ∷ record (effect (result n0 n0)) { operands = operand n1 (result n0 n0) ∷ [] } ∷ []) (n0 ∷ n1 ∷ [])) (operand n0 (result n2 n2)) (operand n1 (result n0 n0)) → ⊥
other_use_number (inl e) = (let z : n1 ≡ n0 = ap (λ (p : Operand small_ids). p.use_number) e in cc)
other_use_number (inr k) = (let z : n1 ≡ n0 = k.2 in cc)

to_another_block : MovesBack two_blocks named_across (operand n0 (result n2 n2)) (operand n0 (result n0 n0)) → ⊥
to_another_block (inl e) = (let z : n0 ≡ n2 = ap (λ (p : Operand small_ids). p.value.number) e in cc)
to_another_block (inr k) = by k.1.0 k.1.1 k.1.2 (of_op_one k.1.3) (of_op_one k.1.4) k.1.5
  where
    by : (c o p : Small) → n0 ≡ o → n2 ≡ p → StandsBefore o p (ops_of two_blocks c) → ⊥
    by n0 o p e i h = none_before o p n0 h
    by n1 o p e i h = (let z : n2 ≡ n1 = i ∙ last_of_two o p n2 n1 h in cc)
    by n2 o p e i h = h
    by n3 o p e i h = h
    by n4 o p e i h = h
    by n5 o p e i h = h

pub move_rows : MoveRows
move_rows = record {
  back = one_moves_back lawful_small two_pure same_mark (two_marks 1 1) 1 n0 (one_mark 1) (two_marks_formed 1 1) (merged 1 1 same_mark refl);
  not_gone = not_gone;
  other_use_number = λ k. other_use_number (k n1 refl).0;
  operand_gone = λ k. k n1 refl;
  to_another_block = λ k. to_another_block (k n1 refl).0;
}

-- ## Order

-- the constant's value is named behind it
in_order : InOrder (two_marks 1 1) n0
in_order n1 o p (inl e) is before = before_three_last before
  where
    before_three_last : StandsBefore n1 o (n0 ∷ n2 ∷ n1 ∷ []) → ⊥
    before_three_last (inl (k, h)) = cc
    before_three_last (inr (inl (k, h))) = cc
    before_three_last (inr (inr (inl (k, h)))) = h
    before_three_last (inr (inr (inr h))) = h
in_order n0 o p h is before = elim h [ ]
in_order n1 o p (inr h) is before = elim h [ ]
in_order n2 o p h is before = elim h [ ]
in_order n3 o p h is before = elim h [ ]
in_order n4 o p h is before = elim h [ ]
in_order n5 o p h is before = elim h [ ]

own_result : InOrder (one_block (record (constant n0 1) { operands = operand n0 (result n0 n0) ∷ [] } ∷ []) (n0 ∷ [])) n0
own_result user o p h is before = none_before user o n0 before

other_block : InOrder two_blocks n1
other_block n1 o p h is (inl (k, before)) = cc
other_block n1 o p h is (inr (inl (k, before))) = before
other_block n1 o p h is (inr (inr before)) = before
other_block n0 o p h is before = elim h [ ]
other_block n2 o p h is before = elim h [ ]
other_block n3 o p h is before = elim h [ ]
other_block n4 o p h is before = elim h [ ]
other_block n5 o p h is before = elim h [ ]

pub order_rows : OrderRows
order_rows = record {
  in_order = in_order;
  out_of_order = λ k. k n1 n0 (operand n0 (result n0 n0)) (inl refl) refl (inl (refl, inl refl));
  own_result = own_result;
  other_block = other_block;
}
