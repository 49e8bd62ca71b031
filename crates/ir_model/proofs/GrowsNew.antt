-- A stored type and a new operation keep a session sound.
use mathlib.Core.Path.{◌≡◌, refl, sym, ap, subst}
use Rattle.std.proofs.Common.{ℕ, ◌+◌, ◌<◌, ◌≤◌, inl, inr, Bool, true, false, not, ◌||◌, cond, None, List, [], ◌∷◌, ◌++◌, map, length, take, drop, is_some, arith}
use Rattle.std.specs.List.{list_any, position_or_len, zip}
use Rattle.std.proofs.lemmas.List.Sums.{prefix_len-le-length}
use Rattle.ir_model.specs.Ids.{Ids, Fresh, Counts, counts}
use Rattle.ir_model.specs.Forest.{Dialect, Behaviour, Definer, of_op, Value, Definition, Operand, Successor, Forest, Named, a_value, the_block}
use Rattle.ir_model.specs.Nesting.{In, IsLiveNamed, WellFormed}
use Rattle.ir_model.specs.Changes.{definition, operand, successor}
use Rattle.ir_model.specs.Edits.{State, StoredType, The, Condition, Change, NewType, NewOp, these, numbered, type_place, with_type, needs}
use Rattle.ir_model.proofs.Loops.{Lawful}
use Rattle.ir_model.proofs.Nests.{In-append, In-right, In-left, In-map, Distinct-append}
use Rattle.ir_model.proofs.KeepsNew.{NewOp-keeps, definitions_case, uses_case}
use Rattle.ir_model.proofs.Back.{slice_get-in}
use Rattle.ir_model.proofs.Fresh.{NotIn, only, no_more, take-in, drop-in, take-distinct, drop-distinct, take-drop-apart, these-in, these-each, zip-firsts, zip-seconds, zip-distinct}
use Rattle.ir_model.proofs.Grows.{Grows, GrowsBy}

module _ {A : Type 0} where
  pub append_none : (xs new : List A) → length new ≡ 0 → xs ≡ xs ++ new
  append_none [] new l = sym (no_more new l)
  append_none (x ∷ xs) new l = ap (λ ys. x ∷ ys) (append_none xs new l)

  found_within : (p : A → Bool) (xs : List A) → list_any p xs ≡ true → position_or_len p xs < length xs
  found_within p [] e = absurd cc
  found_within p (x ∷ xs) e = by (found_within p xs) (p x) e
    where
      by : (list_any p xs ≡ true → position_or_len p xs < length xs) → (b : Bool) → (b || list_any p xs) ≡ true → cond (not b) (1 + position_or_len p xs) 0 < length (x ∷ xs)
      by more true e = omega arith
      by more false e = (let k = more e in omega arith)

  length_push : (xs : List A) (x : A) → length (xs ++ x ∷ []) ≡ length xs + 1
  length_push [] x = refl
  length_push (y ∷ xs) x = (let k = length_push xs x in omega arith)

module _ {W : Dialect} (B : Behaviour W) where
  -- the key has a place among the types that are then stored
  pub stored_within : (store : List (StoredType W)) (key : W.Key) → (length store ≤ length (with_type B store key)) × (type_place B store key < length (with_type B store key))
  stored_within store key = by (list_any (λ t. B.same_key t.key key) store) refl
    where
      by : (b : Bool) → list_any (λ t. B.same_key t.key key) store ≡ b
          → (length store ≤ length (cond b store (store ++ record { key = key; body = B.first_body } ∷ []))) × (type_place B store key < length (cond b store (store ++ record { key = key; body = B.first_body } ∷ [])))
      by true e = (omega arith, found_within _ store e)
      by false e =
          let l = length_push store (record { key = key; body = B.first_body }) in
          let k = prefix_len-le-length (λ t. not (B.same_key t.key key)) store in
          (omega arith, omega arith)

module _ {N : Ids} where
  pub numbers_more : (d : Definer N) (values : List (Value N)) (ns : List N.ValueNumber) → map (λ (v : Value N). v.number) (values ++ numbered d ns) ≡ map (λ (v : Value N). v.number) values ++ ns
  numbers_more d [] [] = refl
  numbers_more d [] (n ∷ ns) = ap (λ xs. n ∷ xs) (numbers_more d [] ns)
  numbers_more d (v ∷ values) ns = ap (λ xs. v.number ∷ xs) (numbers_more d values ns)

  -- the new numbers of an operation or block are values of its own
  pub numbered_in : (v : Value N) (d : Definer N) (ns : List N.ValueNumber) → v.definer ≡ d → In v.number ns → In v (numbered d ns)
  numbered_in v d ns e h = subst (λ x. In v (numbered x ns)) e (In-map (λ n. record { definer = v.definer; number = n }) v.number ns h)

module _ {N : Ids} {W : Dialect} where
  -- a forest stays well formed where more types are known
  pub WellFormed-more : (f : Forest N W) (keys more : ℕ) → keys ≤ more → WellFormed f keys → WellFormed f more
  WellFormed-more f keys more h w = record {
    nested = w.nested;
    numbers = w.numbers;
    numbers_once = w.numbers_once;
    uses = w.uses;
    uses_once = w.uses_once;
    named = w.named;
    known = λ d t i. (let k = w.known d t i in omega arith);
  }

  pub grows_NewType : (B : Behaviour W) (key : W.Key) → GrowsBy N B (NewType key)
  grows_NewType B key s t new w stored c many fresh d =
      let more = stored_within B s.store key in
      rw d (record {
        forest = WellFormed-more s.forest _ _ more.0 w;
        stored = λ k h. elim (In-append k s.tables.types _ h) [
          | inl i ↦ (let before = stored k i in omega arith)
          | inr (inl e) ↦ rw e more.1
          | inr (inr i) ↦ elim i [ ]
        ];
        ops = append_none _ _ (ap (λ (n : Counts). n.ops) many);
        blocks = append_none _ _ (ap (λ (n : Counts). n.blocks) many);
        regions = append_none _ _ (ap (λ (n : Counts). n.regions) many);
        numbers = append_none _ _ (ap (λ (n : Counts). n.numbers) many);
        values = λ v h. h;
        live_values = λ v h. inl h;
        uses = λ o u h. inl h;
      })

module _ {N : Ids} {W : Dialect} (B : Behaviour W) (L : Lawful N) (kind : ℕ) (types operands successors : List ℕ) (regions : ℕ)
    (s t : State N W) (new : Fresh N) (w : WellFormed s.forest (length s.store)) (stored : (k : ℕ) → In k s.tables.types → k < length s.store)
    (c : Condition s (NewOp kind types operands successors regions)) (many : counts N new ≡ needs {W = W} (NewOp kind types operands successors regions))
    (fresh : NotIn s.forest new) (d : Change B s (NewOp kind types operands successors regions) new t) where
  abbrev results : List (Definition N W)
  results = map definition (zip new.numbers (these s.tables.types types))

  abbrev used : List (Operand N)
  used = map operand (zip (take (length operands) new.uses) (these s.tables.values operands))

  abbrev targets : List (Successor N)
  targets = map successor (zip (drop (length operands) new.uses) (these s.tables.blocks successors))

  new_number : (n : N.ValueNumber) → In n (map (λ (x : Definition N W). x.number) results) → In n new.numbers
  new_number n h = zip-firsts definition (λ (x : Definition N W). x.number) (λ p. refl) new.numbers (these s.tables.types types) n h

  used_number : (u : N.UseNumber) → In u (map (λ (p : Operand N). p.use_number) used) → In u (take (length operands) new.uses)
  used_number u h = zip-firsts operand (λ (p : Operand N). p.use_number) (λ p. refl) (take (length operands) new.uses) (these s.tables.values operands) u h

  target_number : (u : N.UseNumber) → In u (map (λ (p : Successor N). p.use_number) targets) → In u (drop (length operands) new.uses)
  target_number u h = zip-firsts successor (λ (p : Successor N). p.use_number) (λ p. refl) (drop (length operands) new.uses) (these s.tables.blocks successors) u h

  new_use : (u : N.UseNumber) → In u (map (λ (p : Operand N). p.use_number) used ++ map (λ (p : Successor N). p.use_number) targets) → In u new.uses
  new_use u h = elim (In-append u (map (λ (p : Operand N). p.use_number) used) _ h) [
    | inl k ↦ take-in (length operands) new.uses u (used_number u k)
    | inr k ↦ drop-in (length operands) new.uses u (target_number u k)
  ]

  live : (x : Named N) → In x (map (λ (p : Operand N). a_value p.value) used ++ map (λ (p : Successor N). the_block p.block) targets) → IsLiveNamed s.forest x
  live x h = elim (In-append x (map (λ (p : Operand N). a_value p.value) used) _ h) [
    | inl k ↦ (let at = zip-seconds operand a_value (λ (p : Operand N). a_value p.value) (λ p. refl) (take (length operands) new.uses) (these s.tables.values operands) x k in
        rw at.2 (these-each (λ v. IsLiveNamed s.forest (a_value v) × Unit {0}) s.tables.values operands at.0 c.1 at.1).0)
    | inr k ↦ (let at = zip-seconds successor (λ (b : N.Block). the_block b) (λ (p : Successor N). the_block p.block) (λ p. refl) (drop (length operands) new.uses) (these s.tables.blocks successors) x k in
        let block = these-each (λ b. The (s.forest.blocks b) λ r. Unit {0}) s.tables.blocks successors at.0 c.2 at.1 in
        rw at.2 (ap is_some block.found))
  ]

  dead : s.forest.ops d.value ≡ None
  dead = fresh.ops d.value (slice_get-in new.ops 0 d.value d.found)

  grown_NewOp : Grows s t new
  grown_NewOp = rw d.holds (record {
    forest = NewOp-keeps L s.forest (length s.store) w d.value B.unknown kind results used targets new.regions dead fresh.regions fresh.distinct.regions
        (zip-distinct definition (λ (x : Definition N W). x.number) (λ p. refl) new.numbers (these s.tables.types types) fresh.distinct.numbers)
        (Distinct-append _ _ (zip-distinct operand (λ (p : Operand N). p.use_number) (λ p. refl) _ (these s.tables.values operands) (take-distinct (length operands) new.uses fresh.distinct.uses))
        (zip-distinct successor (λ (p : Successor N). p.use_number) (λ p. refl) _ (these s.tables.blocks successors) (drop-distinct (length operands) new.uses fresh.distinct.uses))
        (λ u h k. take-drop-apart (length operands) new.uses fresh.distinct.uses u (used_number u h) (target_number u k)))
        (λ e n h k. fresh.numbers e n (new_number n h) k)
        (λ p u h k. fresh.uses p u (new_use u h) k)
        live
        (λ k h. let at = zip-seconds definition (λ y. y) (λ (x : Definition N W). x.ty) (λ p. refl) new.numbers (these s.tables.types types) k h in rw at.2 (stored at.0 (these-in s.tables.types types at.0 at.1)));
    stored = stored;
    ops = ap (λ xs. s.tables.ops ++ xs) (sym (only new.ops d.value (ap (λ (n : Counts). n.ops) many) d.found));
    blocks = append_none _ _ (ap (λ (n : Counts). n.blocks) many);
    regions = refl;
    numbers = numbers_more (of_op d.value) s.tables.values new.numbers;
    values = λ v h. In-left v s.tables.values _ h;
    live_values = λ v h. elim (definitions_case L s.forest (length s.store) w d.value B.unknown kind results used targets new.regions dead fresh.regions v.definer) [
      | inl e ↦ (let n = new_number v.number (rw e.1 at h) in inr (In-right v s.tables.values _ (numbered_in v (of_op d.value) new.numbers e.0 n), n))
      | inr e ↦ inl (rw e at h)
    ];
    uses = λ o u h. elim (uses_case L s.forest (length s.store) w d.value B.unknown kind results used targets new.regions dead fresh.regions o) [
      | inl e ↦ inr (new_use u (rw e.1 at h))
      | inr e ↦ inl (rw e.0 at h)
    ];
  })

pub grows_NewOp : {N : Ids} {W : Dialect} (B : Behaviour W) → Lawful N → (kind : ℕ) (types operands successors : List ℕ) (regions : ℕ) → GrowsBy N B (NewOp kind types operands successors regions)
grows_NewOp B L kind types operands successors regions s t new w stored c many fresh d = grown_NewOp B L kind types operands successors regions s t new w stored c many fresh d
