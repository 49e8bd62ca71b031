-- The facts of the examples of uses that move.
use mathlib.Core.Path.{◌≡◌, refl, sym, ap, ◌∙◌}
use Rattle.std.proofs.Common.{ℕ, zero, suc, inl, inr, Bool, true, false, Option, Some, None, List, [], ◌∷◌, map, length, arith}
use Rattle.std.specs.Prelude.{slice_index_or, if◌then◌else◌}
use Rattle.ir_model.specs.Ids.{Fresh}
use Rattle.ir_model.specs.Forest.{Operand, OpRecord, a_value}
use Rattle.ir_model.specs.Nesting.{operands_of}
use Rattle.ir_model.specs.Edits.{State, Change, over, ReplaceAllUses, RemoveOperand, ReplaceOperand}
use Rattle.ir_model.specs.Redirect.{redirect_uses}
use Rattle.ir_model.specs.Uses.{Use, IsUse, AreUses, IsOperandAt}
use Rattle.ir_model.specs.SmallForests.{Small, n0, n1, n2, n3, n4, n5, place, small_ids, bare, behaviour, operand}
use Rattle.ir_model.specs.WorkedRows.{use_, one_use_made}
use Rattle.ir_model.specs.MovedUseRows.{v, w, x, y, with_operands, naming, mixed, all_w, ReplaceAll, four, three_left, RemovedOperand, of_both, own_operands, not_moved, one_moved, both_moved, TwoResultsMoved, all_v, first_w, the_three, HasThreeUses, AskedOf, AskedBefore}
use Rattle.ir_model.proofs.Unique.{Change-unique}
use Rattle.ir_model.proofs.Removal.{length-same}
use Rattle.ir_model.proofs.SmallChecks.{are_uses, use_told, answered, uses_value}

-- the use number of the operand at this place of the operation, as a number
number_at : Small → ℕ → State small_ids bare → ℕ
number_at o index s = slice_index_or (map (λ (p : Operand small_ids). place p.use_number) (operands_of s.forest o)) index 9

-- the number of the value that it names
value_at : Small → ℕ → State small_ids bare → ℕ
value_at o index s = slice_index_or (map (λ (p : Operand small_ids). place p.value.number) (operands_of s.forest o)) index 9

-- the same records under each name
over_rows : (s : State small_ids bare) (ops others : Small → Option (OpRecord small_ids bare)) → ops n0 ≡ others n0 → ops n1 ≡ others n1 → ops n2 ≡ others n2 → ops n3 ≡ others n3 → ops n4 ≡ others n4 → ops n5 ≡ others n5
    → over s (record (s.forest) { ops = ops }) ≡ over s (record (s.forest) { ops = others })
over_rows s ops others e0 e1 e2 e3 e4 e5 = λ i. over s (record (s.forest) { ops = λ o. by o i })
  where
    by : (o : Small) → ops o ≡ others o
    by n0 = e0
    by n1 = e1
    by n2 = e2
    by n3 = e3
    by n4 = e4
    by n5 = e5

all_replaced : (new : Fresh small_ids) → Change behaviour (naming mixed) (ReplaceAllUses 0 1) new (naming all_w)
all_replaced new = record { value = v; found = refl; holds = record { value = w; found = refl; holds = over_rows (naming mixed) _ _ refl refl refl refl refl refl } }

other_replacement : (new : Fresh small_ids) (t : State small_ids bare) → Change behaviour (naming mixed) (ReplaceAllUses 0 1) new t → t ≡ naming all_w
other_replacement new t c = Change-unique behaviour (ReplaceAllUses 0 1) (naming mixed) t (naming all_w) new c (all_replaced new)

pub replace_all : ReplaceAll
unfolding number_at value_at
replace_all = record {
  allowed = record { value = v; found = refl; holds = (inl refl, record { value = w; found = refl; holds = (inl refl, tt) }) };
  replaced = all_replaced;
  answer = refl;
  unused = are_uses (with_operands all_w) v [] refl refl;
  three = are_uses (with_operands all_w) w (use_ n2 n0 ∷ use_ n2 n1 ∷ use_ n2 n2 ∷ []) refl refl;
  first_old = (w, refl);
  second_old = (w, refl);
  not_renumbered = λ new c. (let n : 3 ≡ 0 = ap (number_at n2 0) (other_replacement new _ c) in omega (arith, n));
  not_the_first_alone = λ new c. (let n : 0 ≡ 1 = ap (value_at n2 1) (other_replacement new _ c) in omega (arith, n));
  not_the_other_way = λ new c. (let n : 0 ≡ 1 = ap (value_at n2 0) (other_replacement new _ c) in omega (arith, n));
}

first_removed : (new : Fresh small_ids) → Change behaviour (naming four) (RemoveOperand 2 0) new (naming three_left)
first_removed new = record { value = n2; found = refl; holds = over_rows (naming four) _ _ refl refl refl refl refl refl }

other_removal : (new : Fresh small_ids) (t : State small_ids bare) → Change behaviour (naming four) (RemoveOperand 2 0) new t → t ≡ naming three_left
other_removal new t c = Change-unique behaviour (RemoveOperand 2 0) (naming four) t (naming three_left) new c (first_removed new)

-- no operand of those that are left has the number
no_operand : (index : ℕ) → IsOperandAt (with_operands three_left) (use_ n2 n0) index → ⊥
no_operand zero h = let e : Some (operand n1 v) ≡ Some (operand n0 h.0) = h.1 in let s : operand n1 v ≡ operand n0 h.0 = cc in let t : n1 ≡ n0 = ap (λ (p : Operand small_ids). p.use_number) s in cc
no_operand (suc zero) h = let e : Some (operand n2 v) ≡ Some (operand n0 h.0) = h.1 in let s : operand n2 v ≡ operand n0 h.0 = cc in let t : n2 ≡ n0 = ap (λ (p : Operand small_ids). p.use_number) s in cc
no_operand (suc (suc zero)) h = let e : Some (operand n3 w) ≡ Some (operand n0 h.0) = h.1 in let s : operand n3 w ≡ operand n0 h.0 = cc in let t : n3 ≡ n0 = ap (λ (p : Operand small_ids). p.use_number) s in cc
no_operand (suc (suc (suc index))) h = let e : ◌≡◌ {A = Option (Operand small_ids)} None (Some (operand n0 h.0)) = h.1 in absurd cc

pub removed_operand : RemovedOperand
unfolding number_at
removed_operand = record {
  allowed = record { value = n2; found = refl; holds = record { value = _; found = refl; holds = omega arith } };
  removed = first_removed;
  two_left = are_uses (with_operands three_left) v (use_ n2 n1 ∷ use_ n2 n2 ∷ []) refl refl;
  second_moves_up = (v, refl);
  third_moves_up = (v, refl);
  removed_use_gone = no_operand;
  no_gap_filled = λ new c. (let n : 3 ≡ 1 = ap (number_at n2 0) (other_removal new _ c) in omega (arith, n));
  not_the_next = λ new c. (let n : 0 ≡ 1 = ap (number_at n2 0) (other_removal new _ c) in omega (arith, n));
}

first_moved : Change behaviour (own_operands not_moved) (ReplaceOperand 0 0 1) (one_use_made n3) (own_operands one_moved)
first_moved = record { value = n0; found = refl; holds = record { value = y; found = refl; holds = record { value = n3; found = refl; holds = over_rows (own_operands not_moved) _ _ refl refl refl refl refl refl } } }

other_move : (t : State small_ids bare) → Change behaviour (own_operands not_moved) (ReplaceOperand 0 0 1) (one_use_made n3) t → t ≡ own_operands one_moved
other_move t c = Change-unique behaviour (ReplaceOperand 0 0 1) (own_operands not_moved) t (own_operands one_moved) (one_use_made n3) c first_moved

pub two_results_moved : TwoResultsMoved
unfolding number_at
two_results_moved = record {
  first_replaced = first_moved;
  one_is_left = are_uses (of_both one_moved) x (use_ n0 n1 ∷ []) refl refl;
  two_so_far = are_uses (of_both one_moved) y (use_ n0 n3 ∷ use_ n0 n2 ∷ []) refl refl;
  second_replaced = record { value = n0; found = refl; holds = record { value = y; found = refl; holds = record { value = n4; found = refl; holds = over_rows (own_operands one_moved) _ _ refl refl refl refl refl refl } } };
  none_is_left = are_uses (of_both both_moved) x [] refl refl;
  three = are_uses (of_both both_moved) y (use_ n0 n3 ∷ use_ n0 n4 ∷ use_ n0 n2 ∷ []) refl refl;
  not_the_old_number = λ c. (let n : 0 ≡ 3 = ap (number_at n0 0) (other_move _ c) in omega (arith, n));
  not_behind = λ c. (let n : 1 ≡ 3 = ap (number_at n0 0) (other_move _ c) in omega (arith, n));
}

three_before : HasThreeUses (with_operands all_v)
three_before = (use_ n2 n0 ∷ use_ n2 n1 ∷ use_ n2 n2 ∷ [], are_uses (with_operands all_v) v (use_ n2 n0 ∷ use_ n2 n1 ∷ use_ n2 n2 ∷ []) refl refl, refl)

two_after : AreUses (with_operands first_w) (a_value v) (use_ n2 n1 ∷ use_ n2 n2 ∷ [])
two_after = are_uses (with_operands first_w) v (use_ n2 n1 ∷ use_ n2 n2 ∷ []) refl refl

fewer : HasThreeUses (with_operands first_w) → ⊥
fewer h =
    let two : length h.0 ≡ 2 = length-same h.0 (use_ n2 n1 ∷ use_ n2 n2 ∷ []) h.1.once two_after.once (λ u k. (two_after.exact u).1 ((h.1.exact u).0 k)) (λ u k. (h.1.exact u).1 ((two_after.exact u).0 k)) in
    let three : length h.0 ≡ 3 = h.2 in
    omega (arith, two, three)

false_by : (b : Bool) → (b ≡ true → ⊥) → b ≡ false
false_by true h = absurd (h refl)
false_by false h = refl

-- a set with all three, and one with none
redirects : (set : Use small_ids → Bool) (ps : List (Operand small_ids)) (qs : List (Operand small_ids))
    → map (λ (a : Operand small_ids). if set (record { user = n2; number = a.use_number }) then record a { value = w } else a) ps ≡ qs → redirect_uses (with_operands ps) set w ≡ with_operands qs
redirects set ps qs e = λ i. record (with_operands ps) { ops = λ o. by o i }
  where
    by : (o : Small) → (redirect_uses (with_operands ps) set w).ops o ≡ (with_operands qs).ops o
    by n0 = refl
    by n1 = refl
    by n2 = ap (λ os. (with_operands os).ops n2) e
    by n3 = refl
    by n4 = refl
    by n5 = refl

all_redirected : (set : Use small_ids → Bool) → AskedOf (with_operands all_v) set → redirect_uses (with_operands all_v) set w ≡ with_operands all_w
all_redirected set asked = redirects set all_v all_w (rw (said n0 (inl refl), said n1 (inr (inl refl)), said n2 (inr (inr (inl refl)))))
  where
    said : (n : Small) → IsUse (with_operands all_v) (a_value v) (use_ n2 n) → set (use_ n2 n) ≡ true
    said n h = (asked (use_ n2 n)).1 (h, three_before)

none_after : (set : Use small_ids → Bool) → AskedOf (with_operands first_w) set → redirect_uses (with_operands first_w) set w ≡ with_operands first_w
none_after set asked = redirects set first_w first_w (rw (no n0, no n1, no n2))
  where
    no : (n : Small) → set (use_ n2 n) ≡ false
    no n = false_by (set (use_ n2 n)) (λ t. fewer ((asked (use_ n2 n)).0 t).1)

pub asked_before : AskedBefore
unfolding value_at
asked_before = record {
  three_before = three_before;
  fewer_after_one = fewer;
  answers = λ u. (
    λ t. ((use_told (with_operands all_v) v u).0 (sym (answered the_three (uses_value (with_operands all_v) v) refl u) ∙ t), three_before),
    λ h. answered the_three (uses_value (with_operands all_v) v) refl u ∙ (use_told (with_operands all_v) v u).1 h.0,
  );
  all_redirected = all_redirected;
  none_after_one = none_after;
  not_one_alone = λ set asked e. (let n : 1 ≡ 0 = ap (λ f. value_at n2 1 (over (naming all_v) f)) (sym (all_redirected set asked) ∙ e) in omega (arith, n));
}
