-- Where plain operations don't use each other in a ring, any values of the others are completed to a consistent assignment.
use mathlib.Core.Path.{◌≡◌, refl, sym, ap, ◌∙◌, subst}
use Rattle.std.proofs.Common.{ℕ, zero, suc, ◌<◌, inl, inr, Bool, true, false, cond, ◌&&◌, Option, Some, None, List, [], ◌∷◌, map, arith}
use Rattle.std.specs.Prelude.{slice_get}
use Rattle.std.specs.Option.{option_map}
use Rattle.ir_model.specs.Ids.{Ids, Distinct}
use Rattle.ir_model.specs.Forest.{Dialect, Behaviour, Definer, of_op, of_block, Definition, OpRecord, Forest, Value, Operand}
use Rattle.ir_model.specs.Nesting.{In, list_of, WellFormed}
use Rattle.ir_model.specs.BlockGraph.{pure_interface}
use Rattle.ir_model.proofs.Loops.{Lawful}
use Rattle.ir_model.proofs.Nests.{In-map, not_in-Absent}
use Rattle.ir_model.proofs.Back.{slice_get-in}
use Rattle.ir_model_passes.specs.Meaning.{Interpretation, IsPlain, Consistent, given_by, result_types}
use Rattle.ir_model_passes.specs.Assignments.{IsPlainResult, IsRanked, CanBeCompleted}
use Rattle.ir_model_passes.proofs.Going.{some_one}

abbrev is_nil : {A : Type 0} → List A → Bool
is_nil [] = true
is_nil (x ∷ xs) = false

nil_is : {A : Type 0} (xs : List A) → is_nil xs ≡ true → xs ≡ []
nil_is [] e = refl
nil_is (x ∷ xs) e = absurd (let k : false ≡ true = e in cc)

is_nil_so : {A : Type 0} (xs : List A) → xs ≡ [] → is_nil xs ≡ true
is_nil_so xs e = ap is_nil e

three_true : (p q r : Bool) → (p && (q && r)) ≡ true → (p ≡ true) × (q ≡ true) × (r ≡ true)
three_true true true r e = (refl, refl, e)
three_true true false r e = absurd (let k : false ≡ true = e in cc)
three_true false q r e = absurd (let k : false ≡ true = e in cc)

all_true : (p q r : Bool) → p ≡ true → q ≡ true → r ≡ true → (p && (q && r)) ≡ true
all_true true true true a b c = refl
all_true true true false a b c = c
all_true true false r a b c = b
all_true false q r a b c = a

map_within : {A C : Type 0} (g h : A → C) (xs : List A) → ((x : A) → In x xs → g x ≡ h x) → map g xs ≡ map h xs
map_within g h [] e = refl
map_within g h (x ∷ xs) e = ap (λ y. y ∷ map g xs) (e x (inl refl)) ∙ ap (λ ys. h x ∷ ys) (map_within g h xs (λ y k. e y (inr k)))

module _ {N : Ids} {W : Dialect} (L : Lawful N) where
  -- the place of the definition with this number
  abbrev place_in : List (Definition N W) → N.ValueNumber → Option ℕ
  place_in [] n = None
  place_in (d ∷ ds) n = cond (N.same_number d.number n) (Some zero) (option_map suc (place_in ds n))

  place_at : (ds : List (Definition N W)) (i : ℕ) (d : Definition N W) → Distinct (map (λ (x : Definition N W). x.number) ds) → slice_get ds i ≡ Some d → place_in ds d.number ≡ Some i
  place_at [] i d once e = absurd cc
  place_at (x ∷ ds) zero d once e =
      let one = some_one x d e in
      ap (λ t. cond t (Some zero) (option_map suc (place_in ds d.number))) ((L.numbers x.number d.number).1 (ap (λ (z : Definition N W). z.number) one))
  place_at (x ∷ ds) (suc i) d once e = by (place_at ds i d once.1 e) (N.same_number x.number d.number) refl
    where
      by : place_in ds d.number ≡ Some i → (t : Bool) → N.same_number x.number d.number ≡ t → cond t (Some zero) (option_map suc (place_in ds d.number)) ≡ Some (suc i)
      by more true k = absurd (not_in-Absent x.number (map (λ (z : Definition N W). z.number) ds) once.0
          (subst (λ n. In n (map (λ (z : Definition N W). z.number) ds)) (sym ((L.numbers x.number d.number).0 k)) (In-map (λ (z : Definition N W). z.number) d ds (slice_get-in ds i d e))))
      by more false k = ap (option_map suc) more

  placed_in : (ds : List (Definition N W)) (n : N.ValueNumber) (i : ℕ) → place_in ds n ≡ Some i → In n (map (λ (x : Definition N W). x.number) ds)
  placed_in [] n i e = absurd cc
  placed_in (x ∷ ds) n i e = by (λ j s. placed_in ds n j s) (N.same_number x.number n) refl (place_in ds n) refl e
    where
      by : ((j : ℕ) → place_in ds n ≡ Some j → In n (map (λ (z : Definition N W). z.number) ds)) → (t : Bool) → N.same_number x.number n ≡ t → (m : Option ℕ) → place_in ds n ≡ m → cond t (Some zero) (option_map suc m) ≡ Some i → In n (x.number ∷ map (λ (z : Definition N W). z.number) ds)
      by more true k m s q = inl (sym ((L.numbers x.number n).0 k))
      by more false k None s q = absurd cc
      by more false k (Some j) s q = inr (more j s)

  module _ (B : Behaviour W) {V : Type 0} (gives : Interpretation W V) (f : Forest N W) (base : Value N → V) where
    abbrev plain_test : OpRecord N W → Bool
    plain_test r = B.op_impls r.kind pure_interface && (is_nil r.regions && is_nil r.successors)

    plain_so : (r : OpRecord N W) → plain_test r ≡ true → IsPlain B r
    plain_so r e = let t = three_true (B.op_impls r.kind pure_interface) (is_nil r.regions) (is_nil r.successors) e in record { is_pure = t.0; no_regions = nil_is r.regions t.1; no_successors = nil_is r.successors t.2 }

    so_plain : (r : OpRecord N W) → IsPlain B r → plain_test r ≡ true
    so_plain r p = all_true (B.op_impls r.kind pure_interface) (is_nil r.regions) (is_nil r.successors) p.is_pure (is_nil_so r.regions p.no_regions) (is_nil_so r.successors p.no_successors)

    -- what a plain operation gives where its operands have these values, and the other values
    abbrev by_place : (Value N → V) → Value N → OpRecord N W → Option ℕ → V
    by_place known v r None = base v
    by_place known v r (Some i) = gives r.kind r.attributes (map (λ p. known p.value) r.operands) (result_types r) i

    abbrev by_record : (Value N → V) → Value N → Option (OpRecord N W) → V
    by_record known v None = base v
    by_record known v (Some r) = cond (plain_test r) (by_place known v r (place_in r.results v.number)) (base v)

    abbrev by_definer : (Value N → V) → Value N → Definer N → V
    by_definer known v (of_op q) = by_record known v (f.ops q)
    by_definer known v (of_block b) = base v

    -- so many steps of what plain operations give
    abbrev approx : ℕ → Value N → V
    approx zero v = base v
    approx (suc n) v = by_definer (approx n) v v.definer

    module _ (ranked : IsRanked B f) where
      -- the plain operation that defines it has a lower rank
      abbrev Above : ℕ → Value N → Type 0
      Above n v = (q : N.Op) (s : OpRecord N W) → v.definer ≡ of_op q → f.ops q ≡ Some s → IsPlain B s → ranked.rank q < n

      none_below : {A : Type 0} (n : ℕ) → n < zero → A
      none_below n h = absurd (omega (arith, h))

      flat : (known : Value N → V) (v : Value N) → Above zero v → by_definer known v v.definer ≡ base v
      flat known v above = by v.definer refl
        where
          by_r : (q : N.Op) → v.definer ≡ of_op q → (m : Option (OpRecord N W)) → f.ops q ≡ m → by_record known v m ≡ base v
          by_r q k None e = refl
          by_r q k (Some r) e = by_t (plain_test r) refl
            where
              by_t : (t : Bool) → plain_test r ≡ t → cond t (by_place known v r (place_in r.results v.number)) (base v) ≡ base v
              by_t true z = none_below (ranked.rank q) (above q r k e (plain_so r z))
              by_t false z = refl

          by : (d : Definer N) → v.definer ≡ d → by_definer known v d ≡ base v
          by (of_op q) k = by_r q k (f.ops q) refl
          by (of_block b) k = refl

      operand_above : (n : ℕ) (q : N.Op) (r : OpRecord N W) → f.ops q ≡ Some r → IsPlain B r → ranked.rank q < suc n → (p : Operand N) → In p r.operands → Above n p.value
      operand_above n q r e plain low p here o s k l is =
          let less = ranked.rises q o r s p.value e plain l is (In-map (λ (x : Operand N). x.value) p r.operands here) k in
          omega (arith, less, low)

      -- one step more on both sides
      deeper : (n m : ℕ) (v : Value N) → Above (suc n) v → Above (suc m) v → ((u : Value N) → Above n u → Above m u → approx n u ≡ approx m u) → by_definer (approx n) v v.definer ≡ by_definer (approx m) v v.definer
      deeper n m v a b more = by v.definer refl
        where
          by_p : (q : N.Op) (r : OpRecord N W) → v.definer ≡ of_op q → f.ops q ≡ Some r → IsPlain B r → (i : Option ℕ) → by_place (approx n) v r i ≡ by_place (approx m) v r i
          by_p q r k e plain None = refl
          by_p q r k e plain (Some i) = ap (λ vs. gives r.kind r.attributes vs (result_types r) i) (map_within (λ (p : Operand N). approx n p.value) (λ (p : Operand N). approx m p.value) r.operands
              (λ p h. more p.value (operand_above n q r e plain (a q r k e plain) p h) (operand_above m q r e plain (b q r k e plain) p h)))

          by_t : (q : N.Op) (r : OpRecord N W) → v.definer ≡ of_op q → f.ops q ≡ Some r → (t : Bool) → plain_test r ≡ t
              → cond t (by_place (approx n) v r (place_in r.results v.number)) (base v) ≡ cond t (by_place (approx m) v r (place_in r.results v.number)) (base v)
          by_t q r k e true z = by_p q r k e (plain_so r z) (place_in r.results v.number)
          by_t q r k e false z = refl

          by_r : (q : N.Op) → v.definer ≡ of_op q → (o : Option (OpRecord N W)) → f.ops q ≡ o → by_record (approx n) v o ≡ by_record (approx m) v o
          by_r q k None e = refl
          by_r q k (Some r) e = by_t q r k e (plain_test r) refl

          by : (d : Definer N) → v.definer ≡ d → by_definer (approx n) v d ≡ by_definer (approx m) v d
          by (of_op q) k = by_r q k (f.ops q) refl
          by (of_block b) k = refl

      -- more steps change nothing
      stable : (n m : ℕ) (v : Value N) → Above n v → Above m v → approx n v ≡ approx m v
      stable zero zero v a b = refl
      stable zero (suc m) v a b = sym (flat (approx m) v a)
      stable (suc n) zero v a b = flat (approx n) v b
      stable (suc n) (suc m) v a b = deeper n m v a b (λ u x y. stable n m u x y)

      abbrev rank_of : Definer N → ℕ
      rank_of (of_op q) = ranked.rank q
      rank_of (of_block b) = zero

      abbrev whole : Value N → V
      whole v = approx (suc (rank_of v.definer)) v

      own_above : (v : Value N) → Above (suc (rank_of v.definer)) v
      own_above v q s k l is = let e : rank_of v.definer ≡ ranked.rank q = ap rank_of k in omega (arith, e)

      is_consistent : (keys : ℕ) → WellFormed f keys → Consistent B gives whole f
      is_consistent keys w o r place d e plain at =
          ap (by_record (approx (ranked.rank o)) (given_by o d)) e
          ∙ ap (λ t. cond t (by_place (approx (ranked.rank o)) (given_by o d) r (place_in r.results d.number)) (base (given_by o d))) (so_plain r plain)
          ∙ ap (by_place (approx (ranked.rank o)) (given_by o d) r) (place_at r.results place d numbers at)
          ∙ ap (λ vs. gives r.kind r.attributes vs (result_types r) place) (map_within (λ (p : Operand N). approx (ranked.rank o) p.value) (λ (p : Operand N). whole p.value) r.operands
          (λ p h. stable (ranked.rank o) (suc (rank_of p.value.definer)) p.value (below p h) (own_above p.value)))
        where
          numbers : Distinct (map (λ (x : Definition N W). x.number) r.results)
          numbers = subst (λ m. Distinct (map (λ (x : Definition N W). x.number) (list_of (λ (q : OpRecord N W). q.results) m))) e (w.numbers_once (of_op o))

          below : (p : Operand N) → In p r.operands → Above (ranked.rank o) p.value
          below p h q s k l is = ranked.rises o q r s p.value e plain l is (In-map (λ (x : Operand N). x.value) p r.operands h) k

      others_are : (v : Value N) → (IsPlainResult B f v → ⊥) → whole v ≡ base v
      others_are v other = by v.definer refl
        where
          known : Value N → V
          known = approx (rank_of v.definer)

          by_r : (q : N.Op) → v.definer ≡ of_op q → (m : Option (OpRecord N W)) → f.ops q ≡ m → by_record known v m ≡ base v
          by_r q k None e = refl
          by_r q k (Some r) e = by_t (plain_test r) refl (place_in r.results v.number) refl
            where
              by_t : (t : Bool) → plain_test r ≡ t → (i : Option ℕ) → place_in r.results v.number ≡ i → cond t (by_place known v r i) (base v) ≡ base v
              by_t true z None l = refl
              by_t true z (Some i) l = absurd (other (q, r, k, e, plain_so r z, placed_in r.results v.number i l))
              by_t false z i l = refl

          by : (d : Definer N) → v.definer ≡ d → by_definer known v d ≡ base v
          by (of_op q) k = by_r q k (f.ops q) refl
          by (of_block b) k = refl

  pub completed : (B : Behaviour W) {V : Type 0} (gives : Interpretation W V) (f : Forest N W) (keys : ℕ) → WellFormed f keys → IsRanked B f → CanBeCompleted B gives f
  completed B gives f keys w ranked base = (whole B gives f base ranked, is_consistent B gives f base ranked keys w, others_are B gives f base ranked)
