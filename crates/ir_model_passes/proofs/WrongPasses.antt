-- Each wrong pass lacks its point, and has the other three.
use mathlib.Core.Path.{◌≡◌, refl, sym, ap, ◌∙◌, subst}
use Rattle.std.proofs.Common.{ℕ, true, false, not, zero, suc, inl, inr, Some, None, List, [], ◌∷◌, map, is_some, IsSome}
use Rattle.std.specs.Prelude.{IsTrue, slice_get, slice_index_or}
use Rattle.std.specs.List.{filter}
use Rattle.std.specs.Option.{option_map}
use Rattle.ir_model.specs.Forest.{Definer, of_op, Definition, OpRecord, BlockRecord, Forest, Value, Operand, a_value, Entity, an_op, a_block, a_region}
use Rattle.ir_model.specs.Nesting.{Inside, itself, ops_of, IsLive, WellFormed}
use Rattle.ir_model.specs.Changes.{on_ops, unlist}
use Rattle.ir_model.specs.BlockGraph.{implements}
use Rattle.ir_model.specs.SmallForests.{Small, n0, n1, n2, n3, n4, n5, place, same_small, small_ids, result}
use Rattle.ir_model.proofs.SmallChecks.{lawful_small}
use Rattle.ir_model_passes.specs.Meaning.{Interpretation, SameAttributes, IsPlain, Consistent, SameButNamed, GoesWithPure, OnlyPureGo, SeesTheSame, KeepsValues, sees, given_by, result_types}
use Rattle.ir_model_passes.specs.Merging.{StandsBefore, redirect_results, MergesOne, OperandsMoveBack}
use Rattle.ir_model_passes.specs.RightPasses.{IsRight}
use Rattle.ir_model_passes.specs.MarkedForests.{marked, two_pure, same_mark, gives_mark, constant, effect, two_marks, one_mark}
use Rattle.ir_model_passes.specs.WrongPasses.{left_dangling, no_effect, used_between, named_behind, Point, is_formed, only_pure_go, same_values, move_back, Has, LacksAlone, WrongPasses}
use Rattle.ir_model_passes.proofs.Going.{none_is_not_some, some_one, TakesOut, sees_the_same}
use Rattle.ir_model_passes.proofs.Going as going
use Rattle.ir_model_passes.proofs.Merged.{one_formed, one_moves_back}
use Rattle.ir_model_passes.proofs.Merged as merged_ones
use Rattle.ir_model_passes.proofs.Right.{none_moved}
use Rattle.ir_model_passes.proofs.FlatForests.{alone, FlatOp, flat_none, flat_constant, flat_effect, one_block_formed, takes_one}

-- the only one of a list
only_one : {A : Type 0} (x y : A) (i : ℕ) → slice_get (x ∷ []) i ≡ Some y → x ≡ y
only_one x y zero e = some_one x y e
only_one x y (suc i) e = absurd (none_is_not_some y e)

pub heads : {A : Type 0} (x y : A) (xs ys : List A) → x ∷ xs ≡ y ∷ ys → x ≡ y
heads x y xs ys e = cc

-- what an assignment has to say of one record
abbrev RecordSays : {V : Type 0} → Interpretation marked V → (Value small_ids → V) → Small → OpRecord small_ids marked → ℕ → Definition small_ids marked → Type 0
RecordSays gives a o r i d = slice_get r.results i ≡ Some d → a (given_by o d) ≡ gives r.kind r.attributes (map (λ p. a p.value) r.operands) (result_types r) i

-- ## The forests are well formed

pub two_marks_formed : (one other : ℕ) → WellFormed (two_marks one other) 1
two_marks_formed one other = one_block_formed (constant n0 one ∷ effect (result n2 n2) ∷ constant n2 other ∷ []) (n0 ∷ n2 ∷ n1 ∷ []) ops ((λ e. cc, (λ e. cc, tt)), ((λ e. cc, tt), (tt, tt))) (refl, (refl, (refl, tt)))
  where
    ops : (o : Small) → FlatOp (two_marks one other) o ((two_marks one other).ops o)
    ops n0 = flat_constant (two_marks one other) n0 one
    ops n1 = flat_effect (two_marks one other) (result n2 n2) (inl refl)
    ops n2 = flat_constant (two_marks one other) n2 other
    ops n3 = flat_none (two_marks one other) n3
    ops n4 = flat_none (two_marks one other) n4
    ops n5 = flat_none (two_marks one other) n5

pub one_mark_formed : (one : ℕ) → WellFormed (one_mark one) 1
one_mark_formed one = one_block_formed (constant n0 one ∷ effect (result n0 n0) ∷ []) (n0 ∷ n1 ∷ []) ops ((λ e. cc, tt), (tt, tt)) (refl, (refl, tt))
  where
    ops : (o : Small) → FlatOp (one_mark one) o ((one_mark one).ops o)
    ops n0 = flat_constant (one_mark one) n0 one
    ops n1 = flat_effect (one_mark one) (result n0 n0) (inl refl)
    ops n2 = flat_none (one_mark one) n2
    ops n3 = flat_none (one_mark one) n3
    ops n4 = flat_none (one_mark one) n4
    ops n5 = flat_none (one_mark one) n5

pub no_effect_formed : WellFormed no_effect 1
no_effect_formed = one_block_formed (constant n0 1 ∷ []) (n0 ∷ []) ops (tt, tt) (refl, tt)
  where
    ops : (o : Small) → FlatOp no_effect o (no_effect.ops o)
    ops n0 = flat_constant no_effect n0 1
    ops n1 = flat_none no_effect n1
    ops n2 = flat_none no_effect n2
    ops n3 = flat_none no_effect n3
    ops n4 = flat_none no_effect n4
    ops n5 = flat_none no_effect n5

pub used_between_formed : WellFormed used_between 1
used_between_formed = one_block_formed (constant n0 1 ∷ effect (result n2 n2) ∷ constant n2 1 ∷ []) (n2 ∷ n1 ∷ n0 ∷ []) ops ((λ e. cc, (λ e. cc, tt)), ((λ e. cc, tt), (tt, tt))) (refl, (refl, (refl, tt)))
  where
    ops : (o : Small) → FlatOp used_between o (used_between.ops o)
    ops n0 = flat_constant used_between n0 1
    ops n1 = flat_effect used_between (result n2 n2) (inl refl)
    ops n2 = flat_constant used_between n2 1
    ops n3 = flat_none used_between n3
    ops n4 = flat_none used_between n4
    ops n5 = flat_none used_between n5

pub named_behind_formed : WellFormed named_behind 1
named_behind_formed = one_block_formed (constant n0 1 ∷ effect (result n0 n0) ∷ []) (n1 ∷ n0 ∷ []) ops ((λ e. cc, tt), (tt, tt)) (refl, (refl, tt))
  where
    ops : (o : Small) → FlatOp named_behind o (named_behind.ops o)
    ops n0 = flat_constant named_behind n0 1
    ops n1 = flat_effect named_behind (result n0 n0) (inl refl)
    ops n2 = flat_none named_behind n2
    ops n3 = flat_none named_behind n3
    ops n4 = flat_none named_behind n4
    ops n5 = flat_none named_behind n5

-- ## Operations with different attributes are merged

module _ (one other : ℕ) (same : SameAttributes marked) (alike : IsTrue (same (constant n0 one).attributes (constant n2 other).attributes)) where
  -- nothing is inside the later constant but itself
  later_alone : (x : Entity small_ids) → Inside (redirect_results (two_marks one other) n2 n0) (an_op n2) x → x ≡ an_op n2
  later_alone x h = alone (redirect_results (two_marks one other) n2 n0) n2 refl x h

  pub merged : MergesOne two_pure same (two_marks one other) n0 (one_mark one)
  merged = record {
    earlier = n0;
    later = n2;
    in_order = inl (refl, inl refl);
    alike = record {
      one = constant n0 one;
      other = constant n2 other;
      one_is = refl;
      other_is = refl;
      one_plain = record { is_pure = refl; no_regions = refl; no_successors = refl };
      other_plain = record { is_pure = refl; no_regions = refl; no_successors = refl };
      kinds = refl;
      attributes = alike;
      operands = refl;
      types = refl;
    };
    removes = record {
      ops_inside = λ o i. (let e : an_op o ≡ an_op n2 = later_alone (an_op o) i in let is : o ≡ n2 = cc in subst (λ z. (one_mark one).ops z ≡ None) (sym is) refl);
      ops_outside = ops;
      blocks_inside = λ c i. (let e : a_block c ≡ an_op n2 = later_alone (a_block c) i in absurd cc);
      blocks_outside = λ c out. blocks c;
      regions_inside = λ r i. (let e : a_region r ≡ an_op n2 = later_alone (a_region r) i in absurd cc);
      regions_outside = λ r out. regions r;
    };
  }
    where
      ops : (o : Small) → (Inside (redirect_results (two_marks one other) n2 n0) (an_op n2) (an_op o) → ⊥) → (one_mark one).ops o ≡ (unlist (an_op n2) (redirect_results (two_marks one other) n2 n0)).ops o
      ops n0 out = refl
      ops n1 out = refl
      ops n2 out = absurd (out itself)
      ops n3 out = refl
      ops n4 out = refl
      ops n5 out = refl

      blocks : (c : Small) → (one_mark one).blocks c ≡ (unlist (an_op n2) (redirect_results (two_marks one other) n2 n0)).blocks c
      blocks n0 = refl
      blocks n1 = refl
      blocks n2 = refl
      blocks n3 = refl
      blocks n4 = refl
      blocks n5 = refl

      regions : (r : Small) → (one_mark one).regions r ≡ (unlist (an_op n2) (redirect_results (two_marks one other) n2 n0)).regions r
      regions n0 = refl
      regions n1 = refl
      regions n2 = refl
      regions n3 = refl
      regions n4 = refl
      regions n5 = refl

by_number : Value small_ids → ℕ
by_number v = slice_index_or (1 ∷ 0 ∷ 2 ∷ []) (place v.number) 0

by_number_consistent : Consistent two_pure gives_mark by_number (two_marks 1 2)
unfolding by_number
by_number_consistent o r i d e plain = by o r e
  where
    by : (o : Small) (r : OpRecord small_ids marked) → (two_marks 1 2).ops o ≡ Some r → RecordSays gives_mark by_number o r i d
    by n0 r e = subst (λ r. RecordSays gives_mark by_number n0 r i d) (some_one (constant n0 1) r e) (λ k. ap (λ (x : Definition small_ids marked). slice_index_or (1 ∷ 0 ∷ 2 ∷ []) (place x.number) 0) (sym (only_one _ d i k)))
    by n1 r e = subst (λ r. RecordSays gives_mark by_number n1 r i d) (some_one (effect (result n2 n2)) r e) (λ k. absurd (none_is_not_some d k))
    by n2 r e = subst (λ r. RecordSays gives_mark by_number n2 r i d) (some_one (constant n2 2) r e) (λ k. ap (λ (x : Definition small_ids marked). slice_index_or (1 ∷ 0 ∷ 2 ∷ []) (place x.number) 0) (sym (only_one _ d i k)))
    by n3 r e = absurd (none_is_not_some r e)
    by n4 r e = absurd (none_is_not_some r e)
    by n5 r e = absurd (none_is_not_some r e)

one_is_not_two : ◌≡◌ {A = List ℕ} (1 ∷ []) (2 ∷ []) → ⊥
one_is_not_two e = let k : ◌≡◌ {A = ℕ} 1 2 = heads 1 2 [] [] e in absurd cc

other_attributes : KeepsValues two_pure gives_mark (two_marks 1 2) (one_mark 1) → ⊥
unfolding by_number
other_attributes k = one_is_not_two ((k by_number by_number_consistent).values n1 refl)

-- ## An effect goes

effect_gone : OnlyPureGo two_pure (one_mark 1) no_effect → ⊥
effect_gone k = (let live : IsSome {T = OpRecord small_ids marked} None = k.stays (an_op n1) refl not_pure in absurd cc)
  where
    not_pure : GoesWithPure two_pure (one_mark 1) no_effect (an_op n1) → ⊥
    not_pure (p, is_pure, gone, inside) = by p is_pure gone inside
      where
        by : (p : Small) → implements two_pure (one_mark 1) 6 p ≡ true → no_effect.ops p ≡ None → Inside (one_mark 1) (an_op p) (an_op n1) → ⊥
        by n0 e k i = none_is_not_some (constant n0 1) (sym k)
        by n1 e k i = absurd cc
        by n2 e k i = absurd cc
        by n3 e k i = absurd cc
        by n4 e k i = absurd cc
        by n5 e k i = absurd cc

-- without the effect nothing else changed
without_effect : TakesOut (one_mark 1) (λ o. o ≡ n1) no_effect
without_effect = takes_one (one_mark 1) no_effect n1 refl refl left lists (λ r. refl)
  where
    left : (o : Small) → (o ≡ n1 → ⊥) → no_effect.ops o ≡ (one_mark 1).ops o
    left n0 out = refl
    left n1 out = absurd (out refl)
    left n2 out = refl
    left n3 out = refl
    left n4 out = refl
    left n5 out = refl

    lists : (c : Small) → no_effect.blocks c ≡ option_map (on_ops (filter (λ o. not (same_small o n1)))) ((one_mark 1).blocks c)
    lists n0 = refl
    lists n1 = refl
    lists n2 = refl
    lists n3 = refl
    lists n4 = refl
    lists n5 = refl

-- ## A name that leads nowhere

dangling : WellFormed left_dangling 1 → ⊥
dangling w = w.named n1 (a_value (result n2 n2)) (inl refl)

without_constant : TakesOut (two_marks 1 1) (λ o. o ≡ n2) left_dangling
without_constant = takes_one (two_marks 1 1) left_dangling n2 refl refl left lists (λ r. refl)
  where
    left : (o : Small) → (o ≡ n2 → ⊥) → left_dangling.ops o ≡ (two_marks 1 1).ops o
    left n0 out = refl
    left n1 out = refl
    left n2 out = absurd (out refl)
    left n3 out = refl
    left n4 out = refl
    left n5 out = refl

    lists : (c : Small) → left_dangling.blocks c ≡ option_map (on_ops (filter (λ o. not (same_small o n2)))) ((two_marks 1 1).blocks c)
    lists n0 = refl
    lists n1 = refl
    lists n2 = refl
    lists n3 = refl
    lists n4 = refl
    lists n5 = refl

constant_pure : (o : Small) → o ≡ n2 → IsTrue (implements two_pure (two_marks 1 1) 6 o)
constant_pure o e = subst (λ z. IsTrue (implements two_pure (two_marks 1 1) 6 z)) (sym e) refl

-- ## An operation is merged into a later one

only_pure : OnlyPureGo two_pure used_between named_behind
only_pure = record {
  stays = stays;
  ops = ops;
  blocks = blocks;
  regions = λ c bs e. absurd (none_is_not_some bs e);
  goes = goes;
}
  where
    stays : (x : Entity small_ids) → IsLive used_between x → (GoesWithPure two_pure used_between named_behind x → ⊥) → IsLive named_behind x
    stays (an_op n0) live alone = refl
    stays (an_op n1) live alone = refl
    stays (an_op n2) live alone = absurd (alone (n2, refl, refl, itself))
    stays (an_op n3) live alone = live
    stays (an_op n4) live alone = live
    stays (an_op n5) live alone = live
    stays (a_block c) live alone = by c live
      where
        by : (c : Small) → IsLive used_between (a_block c) → IsLive named_behind (a_block c)
        by n0 l = refl
        by n1 l = l
        by n2 l = l
        by n3 l = l
        by n4 l = l
        by n5 l = l
    stays (a_region r) live alone = live

    goes : (x : Entity small_ids) → GoesWithPure two_pure used_between named_behind x → IsLive named_behind x → ⊥
    goes x z = by z.0 z.1 z.2 z.3
      where
        by : (p : Small) → implements two_pure used_between 6 p ≡ true → named_behind.ops p ≡ None → Inside used_between (an_op p) x → IsLive named_behind x → ⊥
        by n0 e k i l = none_is_not_some (constant n0 1) (sym k)
        by n1 e k i l = absurd cc
        by n2 e k i l = (let no : IsLive named_behind (an_op n2) = subst (IsLive named_behind) (alone used_between n2 refl x i) l in cc)
        by n3 e k i l = absurd cc
        by n4 e k i l = absurd cc
        by n5 e k i l = absurd cc

    ops : (o : Small) (r : OpRecord small_ids marked) → named_behind.ops o ≡ Some r → (q : OpRecord small_ids marked) × (used_between.ops o ≡ Some q) × SameButNamed q r
    ops n0 r e = (r, e, record { rest = refl; uses = refl })
    ops n1 r e = (effect (result n2 n2), refl, subst (SameButNamed (effect (result n2 n2))) (some_one (effect (result n0 n0)) r e) (record { rest = refl; uses = refl }))
    ops n2 r e = absurd (none_is_not_some r e)
    ops n3 r e = absurd (none_is_not_some r e)
    ops n4 r e = absurd (none_is_not_some r e)
    ops n5 r e = absurd (none_is_not_some r e)

    blocks : (c : Small) (r : BlockRecord small_ids marked) → named_behind.blocks c ≡ Some r → (q : BlockRecord small_ids marked) × (used_between.blocks c ≡ Some q)
        × (r ≡ on_ops (filter (λ o. is_some (named_behind.ops o))) q)
    blocks n0 r e = (record { label = None; arguments = []; ops = n2 ∷ n1 ∷ n0 ∷ []; attributes = []; loc = 0 }, refl, sym (some_one _ r e))
    blocks n1 r e = absurd (none_is_not_some r e)
    blocks n2 r e = absurd (none_is_not_some r e)
    blocks n3 r e = absurd (none_is_not_some r e)
    blocks n4 r e = absurd (none_is_not_some r e)
    blocks n5 r e = absurd (none_is_not_some r e)

module _ {V : Type 0} (gives : Interpretation marked V) (a : Value small_ids → V) (was : Consistent two_pure gives a used_between) where
  plain : (n : Small) → IsPlain two_pure (constant n 1)
  plain n = record { is_pure = refl; no_regions = refl; no_successors = refl }

  one_value : a (result n0 n0) ≡ a (result n2 n2)
  one_value = was n0 (constant n0 1) 0 (record { number = n0; ty = 0; name = None }) refl (plain n0) refl ∙ sym (was n2 (constant n2 1) 0 (record { number = n2; ty = 0; name = None }) refl (plain n2) refl)

  seen : SeesTheSame two_pure gives used_between named_behind a
  seen = record { consistent = λ o r i d e p. by o r e p; values = values }
    where
      by : {i : ℕ} {d : Definition small_ids marked} (o : Small) (r : OpRecord small_ids marked) → named_behind.ops o ≡ Some r → IsPlain two_pure r → RecordSays gives a o r i d
      by {i = i} {d = d} n0 r e p = was n0 r i d e p
      by {i = i} {d = d} n1 r e p = subst (λ r. RecordSays gives a n1 r i d) (some_one (effect (result n0 n0)) r e) (λ k. absurd (none_is_not_some d k))
      by n2 r e p = absurd (none_is_not_some r e)
      by n3 r e p = absurd (none_is_not_some r e)
      by n4 r e p = absurd (none_is_not_some r e)
      by n5 r e p = absurd (none_is_not_some r e)

      values : (o : Small) → IsLive named_behind (an_op o) → sees a named_behind o ≡ sees a used_between o
      values n0 l = refl
      values n1 l = ap (λ v. v ∷ []) one_value
      values n2 l = absurd cc
      values n3 l = refl
      values n4 l = refl
      values n5 l = refl

not_back : OperandsMoveBack used_between named_behind → ⊥
not_back k = elim (k n1 refl).0 [
  | inl e ↦ (let n : n0 ≡ n2 = ap (λ (p : Operand small_ids). p.value.number) e in absurd cc)
  | inr b ↦ by b.1.0 b.1.1 b.1.2 b.1.3 b.1.4 b.1.5
]
  where
    stands : (c : Small) → StandsBefore n0 n2 (ops_of used_between c) → ⊥
    stands n0 (inl h) = (let e = h.0 in absurd cc)
    stands n0 (inr (inl h)) = (let e = h.0 in absurd cc)
    stands n0 (inr (inr (inl h))) = absurd h.1
    stands n0 (inr (inr (inr h))) = absurd h
    stands n1 h = h
    stands n2 h = h
    stands n3 h = h
    stands n4 h = h
    stands n5 h = h

    by : (c o p : Small) → ◌≡◌ {A = Definer small_ids} (of_op n0) (of_op o) → ◌≡◌ {A = Definer small_ids} (of_op n2) (of_op p) → StandsBefore o p (ops_of used_between c) → ⊥
    by c o p e k h =
        let first : n0 ≡ o = cc in
        let second : n2 ≡ p = cc in
        stands c (subst (λ x. StandsBefore x n2 (ops_of used_between c)) (sym first) (subst (λ x. StandsBefore o x (ops_of used_between c)) (sym second) h))

-- ## Each lacks one point alone

module _ {V : Type 0} (gives : Interpretation marked V) where
  otherwise : (point : Point) (f g : Forest small_ids marked) → WellFormed f 1 → (Has gives point f g → ⊥) → ((other : Point) → (other ≡ point → ⊥) → Has gives other f g) → LacksAlone gives point f g
  otherwise point f g begins lacks others = record { begins = begins; lacks = lacks; others = others; not_right = λ r. lacks (by r point) }
    where
      by : IsRight two_pure gives 1 f g → (p : Point) → Has gives p f g
      by r is_formed = r.formed
      by r only_pure_go = r.only_pure
      by r same_values = r.values
      by r move_back = r.moves_back

  dangling_alone : LacksAlone gives is_formed (two_marks 1 1) left_dangling
  dangling_alone = otherwise is_formed (two_marks 1 1) left_dangling (two_marks_formed 1 1) dangling others
    where
      others : (p : Point) → (p ≡ is_formed → ⊥) → Has gives p (two_marks 1 1) left_dangling
      others is_formed n = absurd (n refl)
      others only_pure_go n = going.only_pure (two_marks 1 1) (λ o. o ≡ n2) left_dangling without_constant two_pure constant_pure (two_marks_formed 1 1).nested
      others same_values n = sees_the_same (two_marks 1 1) (λ o. o ≡ n2) left_dangling without_constant two_pure gives
      others move_back n = none_moved two_pure gives 1 (two_marks 1 1) left_dangling (two_marks_formed 1 1) (λ o. o ≡ n2) without_constant

  effect_alone : LacksAlone gives only_pure_go (one_mark 1) no_effect
  effect_alone = otherwise only_pure_go (one_mark 1) no_effect (one_mark_formed 1) effect_gone others
    where
      others : (p : Point) → (p ≡ only_pure_go → ⊥) → Has gives p (one_mark 1) no_effect
      others is_formed n = no_effect_formed
      others only_pure_go n = absurd (n refl)
      others same_values n = sees_the_same (one_mark 1) (λ o. o ≡ n1) no_effect without_effect two_pure gives
      others move_back n = none_moved two_pure gives 1 (one_mark 1) no_effect (one_mark_formed 1) (λ o. o ≡ n1) without_effect

  forward_alone : LacksAlone gives move_back used_between named_behind
  forward_alone = otherwise move_back used_between named_behind used_between_formed not_back others
    where
      others : (p : Point) → (p ≡ move_back → ⊥) → Has gives p used_between named_behind
      others is_formed n = named_behind_formed
      others only_pure_go n = only_pure
      others same_values n = seen gives
      others move_back n = absurd (n refl)

marks_alone : LacksAlone gives_mark same_values (two_marks 1 2) (one_mark 1)
marks_alone = otherwise gives_mark same_values (two_marks 1 2) (one_mark 1) (two_marks_formed 1 2) other_attributes others
  where
    any_attributes : MergesOne two_pure (λ one other. true) (two_marks 1 2) n0 (one_mark 1)
    any_attributes = merged 1 2 (λ one other. true) refl

    others : (p : Point) → (p ≡ same_values → ⊥) → Has gives_mark p (two_marks 1 2) (one_mark 1)
    others is_formed n = one_mark_formed 1
    others only_pure_go n = merged_ones.only_pure lawful_small two_pure (λ one other. true) (two_marks 1 2) 1 n0 (one_mark 1) (two_marks_formed 1 2) any_attributes
    others same_values n = absurd (n refl)
    others move_back n = one_moves_back lawful_small two_pure (λ one other. true) (two_marks 1 2) 1 n0 (one_mark 1) (two_marks_formed 1 2) any_attributes

pub wrong_passes : {V : Type 0} (gives : Interpretation marked V) → WrongPasses gives
wrong_passes gives = record { dangling = dangling_alone gives; effect_gone = effect_alone gives; other_attributes = marks_alone; merged_forward = forward_alone gives }
