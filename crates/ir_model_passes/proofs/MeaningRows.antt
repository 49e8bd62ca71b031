-- What consistent assignments of small blocks give.
use mathlib.Core.Path.{◌≡◌, refl, sym, ap, ◌∙◌, subst}
use Rattle.std.proofs.Common.{ℕ, true, false, Option, Some, None, List, [], ◌∷◌, map, zero, suc}
use Rattle.std.specs.Prelude.{slice_get}
use Rattle.ir_model.specs.Forest.{Definition, OpRecord, Value, Operand}
use Rattle.ir_model.specs.SmallForests.{Small, n0, n1, n2, n3, n4, n5, small_ids, result, successor, table}
use Rattle.ir_model_passes.specs.Meaning.{Interpretation, IsPlain, given_by, result_types}
use Rattle.ir_model_passes.specs.MarkedForests.{marked, two_pure, constant, one_block}
use Rattle.ir_model_passes.specs.MeaningRows.{user_of_first, gives_two, ConsistentIn, ConsistentRows}
use Rattle.ir_model_passes.proofs.Going.{some_one, none_is_not_some}

abbrev Op : Type 0
Op = OpRecord small_ids marked

plain : (r : Op) → two_pure.op_impls r.kind 6 ≡ true → r.regions ≡ [] → r.successors ≡ [] → IsPlain two_pure r
plain r k e s = record { is_pure = k; no_regions = e; no_successors = s }

list_differs : {A : Type 0} (x : A) (xs : List A) → x ∷ xs ≡ [] → ⊥
list_differs x xs e = cc

module _ {V : Type 0} (gives : Interpretation marked V) where
  -- what is asked of one operation alone
  abbrev AskedOf : (Value small_ids → V) → Small → Op → Type 0
  AskedOf a o r = IsPlain two_pure r → (place : ℕ) (d : Definition small_ids marked) → slice_get r.results place ≡ Some d
      → a (given_by o d) ≡ gives r.kind r.attributes (map (λ (p : Operand small_ids). a p.value) r.operands) (result_types r) place

  -- an assignment is consistent in a block of one operation where it has what is asked of that one
  of_one : (a : Value small_ids → V) (r : Op) → AskedOf a n0 r → ConsistentIn gives (r ∷ []) (n0 ∷ []) a
  of_one a r asked n0 q place d e is at = subst (AskedOf a n0) (some_one r q e) asked is place d at
  of_one a r asked n1 q place d e is at = absurd (none_is_not_some q e)
  of_one a r asked n2 q place d e is at = absurd (none_is_not_some q e)
  of_one a r asked n3 q place d e is at = absurd (none_is_not_some q e)
  of_one a r asked n4 q place d e is at = absurd (none_is_not_some q e)
  of_one a r asked n5 q place d e is at = absurd (none_is_not_some q e)

  -- of what isn't plain nothing is asked
  free : (a : Value small_ids → V) (r : Op) → (IsPlain two_pure r → ⊥) → ConsistentIn gives (r ∷ []) (n0 ∷ []) a
  free a r not_plain = of_one a r (λ is. absurd (not_plain is))

  pub consistent_rows : ConsistentRows gives
  consistent_rows = record {
    kinds = λ a c. c n0 (record (constant n0 1) { kind = 2 }) 0 (record { number = n0; ty = 0; name = None }) refl (plain _ refl refl refl) refl;
    attributes = λ a c. (
      c n0 (constant n0 1) 0 (record { number = n0; ty = 0; name = None }) refl (plain _ refl refl refl) refl,
      c n2 (constant n2 2) 0 (record { number = n2; ty = 0; name = None }) refl (plain _ refl refl refl) refl,
    );
    operands = λ a c. c n1 user_of_first 0 (record { number = n1; ty = 0; name = None }) refl (plain _ refl refl refl) refl;
    places = λ a c. (
      c n0 gives_two 0 (record { number = n0; ty = 3; name = None }) refl (plain _ refl refl refl) refl,
      c n0 gives_two 1 (record { number = n1; ty = 4; name = None }) refl (plain _ refl refl refl) refl,
    );
    effects_are_free = λ a. free a (record (constant n0 1) { kind = 1 }) (λ is. (let e : false ≡ true = is.is_pure in cc));
    regions_are_free = λ a. free a (record (constant n0 1) { regions = n0 ∷ [] }) (λ is. list_differs n0 [] is.no_regions);
    successors_are_free = λ a. free a (record (constant n0 1) { successors = successor n0 n0 ∷ [] }) (λ is. list_differs _ [] is.no_successors);
    enough = λ a asked. of_one a (constant n0 1) (λ is place d at. by a asked place d at);
  }
    where
      by : (a : Value small_ids → V) → a (result n0 n0) ≡ gives 0 (([], 1) ∷ []) [] (0 ∷ []) 0 → (place : ℕ) (d : Definition small_ids marked) → slice_get (constant n0 1).results place ≡ Some d
          → a (given_by n0 d) ≡ gives 0 (([], 1) ∷ []) [] (0 ∷ []) place
      by a asked zero d at = subst (λ (x : Definition small_ids marked). a (given_by n0 x) ≡ gives 0 (([], 1) ∷ []) [] (0 ∷ []) 0) (some_def (record { number = n0; ty = 0; name = None }) d at) asked
        where
          some_def : (x y : Definition small_ids marked) → Some x ≡ Some y → x ≡ y
          some_def x y e = cc
      by a asked (suc n) d at = absurd (none_is_not_some d at)
