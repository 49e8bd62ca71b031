-- The uses of a set come to name another definition, and nothing else changes.
use mathlib.Core.Path.{◌≡◌, refl, sym, ap, ap₂, ◌∙◌, subst, fun_ext}
use Rattle.std.proofs.Common.{ℕ, zero, suc, ◌<◌, ◌≢◌, ◌⊎◌, inl, inr, Bool, true, false, not, cond, Option, Some, None, List, [], ◌∷◌, ◌++◌, map}
use Rattle.std.specs.Prelude.{◌↔◌, IsTrue, slice_get}
use Rattle.std.specs.List.{filter}
use Rattle.std.specs.Option.{option_map}
use Rattle.ir_model.specs.Ids.{Ids, Distinct}
use Rattle.ir_model.specs.ContextIds.{context_ids}
use Rattle.ir_model.specs.declared.ids.ArenaIndex.{ArenaIndex}
use Rattle.ir_model.specs.Forest.{Dialect, Definer, Definition, Value, same_value, OpRecord, Operand, Successor, Forest, Named, a_value, the_block}
use Rattle.ir_model.specs.Nesting.{In, list_of, IsLiveNamed, WellFormed, definitions_of, definition_types_of, use_numbers_of, names_of, operands_of, successors_of}
use Rattle.ir_model.specs.Changes.{on_operands, on_successors}
use Rattle.ir_model.specs.Uses.{Use, IsUse}
use Rattle.ir_model.specs.Redirect.{redirect_uses, retarget_uses}
use Rattle.ir_model.specs.Calls.{Part, the_types, the_names, the_labels, the_locations, the_attributes, ChangesAlone, HasType, set_type, set_name, set_label, set_loc, set_attributes}
use Rattle.ir_model.specs.CallLaws.{CallsKeepWellFormed, SetsOfUsesMove, SomeUsesMove, SomePredsMove, SameDefinitionStays, MovedAreListed, MovedUsesAreListed}
use Rattle.ir_model.proofs.Loops.{Lawful}
use Rattle.ir_model.proofs.TwoRuns.{lawful}
use Rattle.ir_model.proofs.Nests.{In-append, In-left, In-right, In-map, In-map_back, Distinct-append}
use Rattle.ir_model.proofs.Filters.{In-filter, In-kept, Distinct-filter}
use Rattle.ir_model.proofs.KeepsUses.{kept_uses}
use Rattle.ir_model.proofs.Redirected.{Entries, operand_entries, successor_entries, one_of, Distinct-front, Distinct-back, value_tells}
use Rattle.ir_model.proofs.Calls.{formed_alike, type_is_set, alone_type, alone_name, alone_label, alone_loc, alone_attributes}

get_map : {A B : Type 0} (h : A → B) (xs : List A) (i : ℕ) → slice_get (map h xs) i ≡ option_map h (slice_get xs i)
get_map h [] i = refl
get_map h (x ∷ xs) zero = refl
get_map h (x ∷ xs) (suc i) = get_map h xs i

map_itself : {A : Type 0} (h : A → A) (xs : List A) → ((x : A) → In x xs → h x ≡ x) → map h xs ≡ xs
map_itself h [] e = refl
map_itself h (x ∷ xs) e = let more = map_itself h xs (λ y k. e y (inr k)) in λ i. e x (inl refl) i ∷ more i

-- entries whose number is chosen name the new definition
module _ {E U D : Type 0} (L : Entries E U D) (c : U → Bool) (new : D) where
  abbrev pub step : E → E
  step e = cond (c (L.number e)) (L.entry (L.number e) new) e

  data Case (e : E) : Type 0 where
    taken : c (L.number e) ≡ true → step e ≡ L.entry (L.number e) new → Case e
    kept : c (L.number e) ≡ false → step e ≡ e → Case e

  case : (e : E) → Case e
  case e = by (c (L.number e)) refl
    where
      by : (t : Bool) → c (L.number e) ≡ t → Case e
      by true s = taken s (rw s)
      by false s = kept s (rw s)

  step_number : (e : E) → L.number (step e) ≡ L.number e
  step_number e = elim (case e) [ taken s k ↦ ap L.number k ∙ L.number_is (L.number e) new | kept s k ↦ ap L.number k ]

  pub numbers_stay : (xs : List E) → map L.number (map step xs) ≡ map L.number xs
  numbers_stay [] = refl
  numbers_stay (e ∷ xs) = ap₂ (λ u us. u ∷ us) (step_number e) (numbers_stay xs)

  pub named_or : (d : D) (xs : List E) → In d (map L.named (map step xs)) → In d (map L.named xs) ⊎ (d ≡ new)
  named_or d [] h = elim h [ ]
  named_or d (e ∷ xs) (inl p) = elim (case e) [ taken s k ↦ inr (p ∙ ap L.named k ∙ L.named_is (L.number e) new) | kept s k ↦ inl (inl (p ∙ ap L.named k)) ]
  named_or d (e ∷ xs) (inr h) = elim (named_or d xs h) [ inl k ↦ inl (inr k) | inr k ↦ inr k ]

  -- an entry is its number and what it names
  as_entry : (e : E) (u : U) → L.number e ≡ u → e ≡ L.entry u (L.named e)
  as_entry e u n = sym (L.entry_is e) ∙ ap (λ z. L.entry z (L.named e)) n

  pub moved_from : (u : U) (d : D) (xs : List E) → c u ≡ true → In (L.entry u d) (map step xs) → (d ≡ new) × ((old : D) × In (L.entry u old) xs)
  moved_from u d xs chosen h =
      let at = In-map_back step (L.entry u d) xs h in
      let n : L.number at.0 ≡ u = sym (step_number at.0) ∙ sym (ap L.number at.2) ∙ L.number_is u d in
      elim (case at.0) [
        | taken s k ↦ (sym (L.named_is u d) ∙ ap L.named (at.2 ∙ k) ∙ L.named_is (L.number at.0) new, (L.named at.0, subst (λ z. In z xs) (as_entry at.0 u n) at.1))
        | kept s k ↦ absurd (let t : c u ≡ false = sym (ap c n) ∙ s in cc)
      ]

  pub moved_to : (u : U) (old : D) (xs : List E) → c u ≡ true → In (L.entry u old) xs → In (L.entry u new) (map step xs)
  moved_to u old xs chosen h = elim (case (L.entry u old)) [
    | taken s k ↦ subst (λ z. In z (map step xs)) (k ∙ ap (λ z. L.entry z new) (L.number_is u old)) (In-map step (L.entry u old) xs h)
    | kept s k ↦ absurd (let t : c u ≡ false = sym (ap c (L.number_is u old)) ∙ s in cc)
  ]

  pub others_from : (u : U) (d : D) (xs : List E) → c u ≡ false → In (L.entry u d) (map step xs) → In (L.entry u d) xs
  others_from u d xs left h =
      let at = In-map_back step (L.entry u d) xs h in
      let n : L.number at.0 ≡ u = sym (step_number at.0) ∙ sym (ap L.number at.2) ∙ L.number_is u d in
      elim (case at.0) [
        | taken s k ↦ absurd (let t : c u ≡ true = sym (ap c n) ∙ s in cc)
        | kept s k ↦ subst (λ z. In z xs) (sym (at.2 ∙ k)) at.1
      ]

  pub others_to : (u : U) (d : D) (xs : List E) → c u ≡ false → In (L.entry u d) xs → In (L.entry u d) (map step xs)
  others_to u d xs left h = elim (case (L.entry u d)) [
    | taken s k ↦ absurd (let t : c u ≡ true = sym (ap c (L.number_is u d)) ∙ s in cc)
    | kept s k ↦ subst (λ z. In z (map step xs)) k (In-map step (L.entry u d) xs h)
  ]

  pub place_to : (xs : List E) (i : ℕ) (u : U) (d : D) → slice_get xs i ≡ Some (L.entry u d) → (w : D) × (slice_get (map step xs) i ≡ Some (L.entry u w))
  place_to xs i u d e =
      let at = get_map step xs i ∙ ap (option_map step) e in
      elim (case (L.entry u d)) [
        | taken s k ↦ (new, at ∙ ap Some (k ∙ ap (λ z. L.entry z new) (L.number_is u d)))
        | kept s k ↦ (d, at ∙ ap Some k)
      ]

  pub place_from : (xs : List E) (i : ℕ) (u : U) (w : D) → slice_get (map step xs) i ≡ Some (L.entry u w) → (d : D) × (slice_get xs i ≡ Some (L.entry u d))
  place_from xs i u w e = by (slice_get xs i) refl (sym (get_map step xs i) ∙ e)
    where
      by : (m : Option E) → slice_get xs i ≡ m → option_map step m ≡ Some (L.entry u w) → (d : D) × (slice_get xs i ≡ Some (L.entry u d))
      by None s k = absurd cc
      by (Some a) s k = (let f : step a ≡ L.entry u w = cc in (L.named a, s ∙ ap Some (as_entry a u (sym (step_number a) ∙ ap L.number f ∙ L.number_is u w))))

  -- where what is chosen names the definition already, nothing changes
  pub stays : (xs : List E) → Distinct (map L.number xs) → ((u : U) → c u ≡ true → In (L.entry u new) xs) → map step xs ≡ xs
  stays xs once already = map_itself step xs (λ e h. elim (case e) [
    | taken s k ↦ k ∙ one_of L.number xs once (L.entry (L.number e) new) e (already (L.number e) s) h (L.number_is (L.number e) new)
    | kept s k ↦ k
  ])

-- the lists of the uses of two definitions, after the uses of a set went from the first to the second
module _ {N : Ids} (set : Use N → Bool) (was_old was_new now_old now_new : Use N → Type 0)
    (inside : (u : Use N) → IsTrue (set u) → was_old u) (apart : (u : Use N) → was_old u → was_new u → ⊥)
    (none : (u : Use N) → IsTrue (set u) → now_old u → ⊥) (all : (u : Use N) → IsTrue (set u) → was_old u → now_new u)
    (old_stays : (u : Use N) → set u ≡ false → now_old u ↔ was_old u) (new_stays : (u : Use N) → set u ≡ false → now_new u ↔ was_new u) where
  outside : (u : Use N) → not (set u) ≡ true → set u ≡ false
  outside u = by (set u)
    where
      by : (t : Bool) → not t ≡ true → t ≡ false
      by true e = absurd cc
      by false e = refl

  pub left_listed : (us : List (Use N)) → ((u : Use N) → In u us ↔ was_old u) → (u : Use N) → In u (filter (λ v. not (set v)) us) ↔ now_old u
  left_listed us exact u = (
    λ h. let k = In-filter (λ v. not (set v)) u us h in (old_stays u (outside u k.1)).1 ((exact u).0 k.0),
    λ h. by (set u) refl h,
  )
    where
      by : (t : Bool) → set u ≡ t → now_old u → In u (filter (λ v. not (set v)) us)
      by true s h = absurd (none u s h)
      by false s h = In-kept (λ v. not (set v)) u us ((exact u).1 ((old_stays u s).0 h)) (ap not s)

  pub taken_listed : (us vs : List (Use N)) → ((u : Use N) → In u us ↔ was_old u) → ((u : Use N) → In u vs ↔ was_new u) → (u : Use N) → In u (vs ++ filter set us) ↔ now_new u
  taken_listed us vs exact others u = (
    λ h. elim (In-append u vs (filter set us) h) [ inl k ↦ to (set u) refl ((others u).0 k) | inr k ↦ (let i = In-filter set u us k in all u i.1 ((exact u).0 i.0)) ],
    λ h. from (set u) refl h,
  )
    where
      to : (t : Bool) → set u ≡ t → was_new u → now_new u
      to true s h = all u s (inside u s)
      to false s h = (new_stays u s).1 h

      from : (t : Bool) → set u ≡ t → now_new u → In u (vs ++ filter set us)
      from true s h = In-right u vs (filter set us) (In-kept set u us ((exact u).1 (inside u s)) s)
      from false s h = In-left u vs (filter set us) ((others u).1 ((new_stays u s).0 h))

  pub taken_once : (us vs : List (Use N)) → ((u : Use N) → In u us ↔ was_old u) → ((u : Use N) → In u vs ↔ was_new u) → Distinct us → Distinct vs → Distinct (vs ++ filter set us)
  taken_once us vs exact others d e = Distinct-append vs (filter set us) e (Distinct-filter set us d) (λ u h k. apart u ((exact u).0 (In-filter set u us k).0) ((others u).0 h))

module _ {N : Ids} {W : Dialect} (f : Forest N W) (set : Use N → Bool) where
  abbrev chosen : N.Op → N.UseNumber → Bool
  chosen o n = set (record { user = o; number = n })

  module _ (new : Value N) where
    operands_after : (o : N.Op) → operands_of (redirect_uses f set new) o ≡ map (step (operand_entries N) (chosen o) new) (operands_of f o)
    operands_after o = by (f.ops o)
      where
        by : (m : Option (OpRecord N W)) → list_of (λ (r : OpRecord N W). r.operands) (option_map (on_operands (map (step (operand_entries N) (chosen o) new))) m) ≡ map (step (operand_entries N) (chosen o) new) (list_of (λ (r : OpRecord N W). r.operands) m)
        by None = refl
        by (Some r) = refl

    successors_stay : (o : N.Op) → successors_of (redirect_uses f set new) o ≡ successors_of f o
    successors_stay o = by (f.ops o)
      where
        by : (m : Option (OpRecord N W)) → list_of (λ (r : OpRecord N W). r.successors) (option_map (on_operands (map (step (operand_entries N) (chosen o) new))) m) ≡ list_of (λ (r : OpRecord N W). r.successors) m
        by None = refl
        by (Some r) = refl

    pub value_numbers : (o : N.Op) → use_numbers_of (redirect_uses f set new) o ≡ use_numbers_of f o
    value_numbers o = ap₂ (λ us vs. map (λ (p : Operand N). p.use_number) us ++ map (λ (p : Successor N). p.use_number) vs) (operands_after o) (successors_stay o)
        ∙ ap (λ us. us ++ map (λ (p : Successor N). p.use_number) (successors_of f o)) (numbers_stay (operand_entries N) (chosen o) new (operands_of f o))

    value_names : (o : N.Op) (d : Named N) → In d (names_of (redirect_uses f set new) o) → In d (names_of f o) ⊎ (d ≡ a_value new)
    value_names o d h = elim (In-append d (map (λ (p : Operand N). a_value p.value) (operands_of (redirect_uses f set new) o)) (map (λ (p : Successor N). the_block p.block) (successors_of (redirect_uses f set new) o)) h) [
      | inl k ↦
          let at = In-map_back (λ (p : Operand N). a_value p.value) d (operands_of (redirect_uses f set new) o) k in
          let i = subst (λ l. In at.0.value (map (λ (p : Operand N). p.value) l)) (operands_after o) (In-map (λ (p : Operand N). p.value) at.0 (operands_of (redirect_uses f set new) o) at.1) in
          elim (named_or (operand_entries N) (chosen o) new at.0.value (operands_of f o) i) [
            | inl j ↦ let was = In-map_back (λ (p : Operand N). p.value) at.0.value (operands_of f o) j in
                inl (In-left d (map (λ (p : Operand N). a_value p.value) (operands_of f o)) _ (subst (λ z. In z (map (λ (p : Operand N). a_value p.value) (operands_of f o))) (sym (at.2 ∙ ap a_value was.2)) (In-map (λ (p : Operand N). a_value p.value) was.0 (operands_of f o) was.1)))
            | inr e ↦ inr (at.2 ∙ ap a_value e)
          ]
      | inr k ↦ inl (In-right d (map (λ (p : Operand N). a_value p.value) (operands_of f o)) _ (subst (λ l. In d (map (λ (p : Successor N). the_block p.block) l)) (successors_stay o) k))
    ]

    pub redirected_formed : (keys : ℕ) → WellFormed f keys → IsLiveNamed f (a_value new) → WellFormed (redirect_uses f set new) keys
    redirected_formed keys w live =
        let kept = kept_uses f (redirect_uses f set new).ops (λ o. map (step (operand_entries N) (chosen o) new)) (λ o ps. ps) (λ o. refl) keys [] w
        (λ o p u h k. w.uses o p u (subst (In u) (value_numbers o) h) (subst (In u) (value_numbers p) k))
        (λ o. subst Distinct (sym (value_numbers o)) (w.uses_once o))
        (λ o d h. elim (value_names o d h) [ inl k ↦ w.named o d k | inr e ↦ subst (IsLiveNamed f) (sym e) live ])
        (λ o u h. inl (subst (In u) (value_numbers o) h)) in
        kept.forest

  module _ (new : N.Block) where
    successors_after : (o : N.Op) → successors_of (retarget_uses f set new) o ≡ map (step (successor_entries N) (chosen o) new) (successors_of f o)
    successors_after o = by (f.ops o)
      where
        by : (m : Option (OpRecord N W)) → list_of (λ (r : OpRecord N W). r.successors) (option_map (on_successors (map (step (successor_entries N) (chosen o) new))) m) ≡ map (step (successor_entries N) (chosen o) new) (list_of (λ (r : OpRecord N W). r.successors) m)
        by None = refl
        by (Some r) = refl

    operands_stay : (o : N.Op) → operands_of (retarget_uses f set new) o ≡ operands_of f o
    operands_stay o = by (f.ops o)
      where
        by : (m : Option (OpRecord N W)) → list_of (λ (r : OpRecord N W). r.operands) (option_map (on_successors (map (step (successor_entries N) (chosen o) new))) m) ≡ list_of (λ (r : OpRecord N W). r.operands) m
        by None = refl
        by (Some r) = refl

    pub block_numbers : (o : N.Op) → use_numbers_of (retarget_uses f set new) o ≡ use_numbers_of f o
    block_numbers o = ap₂ (λ us vs. map (λ (p : Operand N). p.use_number) us ++ map (λ (p : Successor N). p.use_number) vs) (operands_stay o) (successors_after o)
        ∙ ap (λ us. map (λ (p : Operand N). p.use_number) (operands_of f o) ++ us) (numbers_stay (successor_entries N) (chosen o) new (successors_of f o))

    block_names : (o : N.Op) (d : Named N) → In d (names_of (retarget_uses f set new) o) → In d (names_of f o) ⊎ (d ≡ the_block new)
    block_names o d h = elim (In-append d (map (λ (p : Operand N). a_value p.value) (operands_of (retarget_uses f set new) o)) (map (λ (p : Successor N). the_block p.block) (successors_of (retarget_uses f set new) o)) h) [
      | inr k ↦
          let at = In-map_back (λ (p : Successor N). the_block p.block) d (successors_of (retarget_uses f set new) o) k in
          let i = subst (λ l. In at.0.block (map (λ (p : Successor N). p.block) l)) (successors_after o) (In-map (λ (p : Successor N). p.block) at.0 (successors_of (retarget_uses f set new) o) at.1) in
          elim (named_or (successor_entries N) (chosen o) new at.0.block (successors_of f o) i) [
            | inl j ↦ let was = In-map_back (λ (p : Successor N). p.block) at.0.block (successors_of f o) j in
                inl (In-right d (map (λ (p : Operand N). a_value p.value) (operands_of f o)) (map (λ (p : Successor N). the_block p.block) (successors_of f o)) (subst (λ z. In z (map (λ (p : Successor N). the_block p.block) (successors_of f o))) (sym (at.2 ∙ ap the_block was.2)) (In-map (λ (p : Successor N). the_block p.block) was.0 (successors_of f o) was.1)))
            | inr e ↦ inr (at.2 ∙ ap the_block e)
          ]
      | inl k ↦ inl (In-left d (map (λ (p : Operand N). a_value p.value) (operands_of f o)) _ (subst (λ l. In d (map (λ (p : Operand N). a_value p.value) l)) (operands_stay o) k))
    ]

    pub retargeted_formed : (keys : ℕ) → WellFormed f keys → IsLiveNamed f (the_block new) → WellFormed (retarget_uses f set new) keys
    retargeted_formed keys w live =
        let kept = kept_uses f (retarget_uses f set new).ops (λ o ps. ps) (λ o. map (step (successor_entries N) (chosen o) new)) (λ o. refl) keys [] w
        (λ o p u h k. w.uses o p u (subst (In u) (block_numbers o) h) (subst (In u) (block_numbers p) k))
        (λ o. subst Distinct (sym (block_numbers o)) (w.uses_once o))
        (λ o d h. elim (block_names o d h) [ inl k ↦ w.named o d k | inr e ↦ subst (IsLiveNamed f) (sym e) live ])
        (λ o u h. inl (subst (In u) (block_numbers o) h)) in
        kept.forest

-- where no type changes
untyped : {N : Ids} {W : Dialect} (f g : Forest N W) (keys : ℕ) (part : Part) → the_types ≢ part → ChangesAlone part f g → WellFormed f keys → WellFormed g keys
untyped f g keys part n a w = formed_alike f g keys a.structure (λ d t h. w.known d t (subst (In t) (a.others the_types n d) h)) w

-- each type is the one that was set, or was there
typed : {N : Ids} {W : Dialect} (L : Lawful N) (f : Forest N W) (keys : ℕ) (v : Value N) (ty : ℕ) → ty < keys → WellFormed f keys → WellFormed (set_type f v ty) keys
typed {N = N} {W = W} L f keys v ty lt w = formed_alike f (set_type f v ty) keys (alone_type f v ty).structure known w
  where
    known : (d : Definer N) (t : ℕ) → In t (definition_types_of (set_type f v ty) d) → t < keys
    known d t h = by (same_value N (record { definer = d; number = at.0.number }) v) refl
      where
        at : (x : Definition N W) × In x (definitions_of (set_type f v ty) d) × (t ≡ x.ty)
        at = In-map_back (λ (x : Definition N W). x.ty) t (definitions_of (set_type f v ty) d) h

        has : HasType (set_type f v ty) (record { definer = d; number = at.0.number }) t
        has = (at.0, at.1, refl, sym at.2)

        by : (b : Bool) → same_value N (record { definer = d; number = at.0.number }) v ≡ b → t < keys
        by true e = (let s = (type_is_set L f v ty).1 t (subst (λ z. HasType (set_type f v ty) z t) ((value_tells L _ v).0 e) has) in subst (λ z. z < keys) (sym s) lt)
        by false e =
            let k = ((type_is_set L f v ty).2 (record { definer = d; number = at.0.number }) t (λ s. (let q : same_value N (record { definer = d; number = at.0.number }) v ≡ true = (value_tells L _ v).1 s in cc))).0 has in
            w.known d t (subst (λ z. In z (definition_types_of f d)) k.3 (In-map (λ (x : Definition N W). x.ty) k.0 (definitions_of f d) k.1))

pub calls_keep_well_formed : (W : Dialect) → CallsKeepWellFormed W
calls_keep_well_formed W f keys w = record {
  types = λ v ty lt. typed lawful f keys v ty lt w;
  names = λ v name. untyped f (set_name f v name) keys the_names (λ e. cc) (alone_name f v name) w;
  labels = λ b label. untyped f (set_label f b label) keys the_labels (λ e. cc) (alone_label f b label) w;
  locations = λ d loc. untyped f (set_loc f d loc) keys the_locations (λ e. cc) (alone_loc f d loc) w;
  attributes = λ d pairs. untyped f (set_attributes f d pairs) keys the_attributes (λ e. cc) (alone_attributes f d pairs) w;
  some_uses = λ set new live. redirected_formed f set new keys w live;
  some_preds = λ set new live. retargeted_formed f set new keys w live;
}

module _ {W : Dialect} (f : Forest context_ids W) (set : Use context_ids → Bool) where
  some_uses_move : (new : Value context_ids) → SomeUsesMove f set new
  some_uses_move new = record {
    moved = λ d u s. (
      λ h. moved_from (operand_entries context_ids) (chosen f set u.user) new u.number d (operands_of f u.user) s (subst (In _) (operands_after f set new u.user) h),
      λ h. subst (λ z. IsUse (redirect_uses f set new) (a_value z) u) (sym h.0)
          (subst (In (record { use_number = u.number; value = new })) (sym (operands_after f set new u.user)) (moved_to (operand_entries context_ids) (chosen f set u.user) new u.number h.1.0 (operands_of f u.user) s h.1.1)),
    );
    others = λ d u s. (
      λ h. others_from (operand_entries context_ids) (chosen f set u.user) new u.number d (operands_of f u.user) s (subst (In _) (operands_after f set new u.user) h),
      λ h. subst (In (record { use_number = u.number; value = d })) (sym (operands_after f set new u.user)) (others_to (operand_entries context_ids) (chosen f set u.user) new u.number d (operands_of f u.user) s h),
    );
    blocks = λ b u. (λ h. subst (In (record { use_number = u.number; block = b })) (successors_stay f set new u.user) h, λ h. subst (In (record { use_number = u.number; block = b })) (sym (successors_stay f set new u.user)) h);
    places = λ u index. (
      λ h. place_from (operand_entries context_ids) (chosen f set u.user) new (operands_of f u.user) index u.number h.0 (sym (ap (λ l. slice_get l index) (operands_after f set new u.user)) ∙ h.1),
      λ h. let k = place_to (operand_entries context_ids) (chosen f set u.user) new (operands_of f u.user) index u.number h.0 h.1 in (k.0, ap (λ l. slice_get l index) (operands_after f set new u.user) ∙ k.1),
    );
    numbers = value_numbers f set new;
    rest = λ o. by (f.ops o) (map (step (operand_entries context_ids) (chosen f set o) new));
    elsewhere = (refl, refl);
  }
    where
      by : (m : Option (OpRecord context_ids W)) (h : List (Operand context_ids) → List (Operand context_ids)) → option_map (on_operands (λ _. [])) (option_map (on_operands h) m) ≡ option_map (on_operands (λ _. [])) m
      by None h = refl
      by (Some r) h = refl

  some_preds_move : (new : ArenaIndex) → SomePredsMove f set new
  some_preds_move new = record {
    moved = λ d u s. (
      λ h. moved_from (successor_entries context_ids) (chosen f set u.user) new u.number d (successors_of f u.user) s (subst (In _) (successors_after f set new u.user) h),
      λ h. subst (λ z. IsUse (retarget_uses f set new) (the_block z) u) (sym h.0)
          (subst (In (record { use_number = u.number; block = new })) (sym (successors_after f set new u.user)) (moved_to (successor_entries context_ids) (chosen f set u.user) new u.number h.1.0 (successors_of f u.user) s h.1.1)),
    );
    others = λ d u s. (
      λ h. others_from (successor_entries context_ids) (chosen f set u.user) new u.number d (successors_of f u.user) s (subst (In _) (successors_after f set new u.user) h),
      λ h. subst (In (record { use_number = u.number; block = d })) (sym (successors_after f set new u.user)) (others_to (successor_entries context_ids) (chosen f set u.user) new u.number d (successors_of f u.user) s h),
    );
    values = λ v u. (λ h. subst (In (record { use_number = u.number; value = v })) (operands_stay f set new u.user) h, λ h. subst (In (record { use_number = u.number; value = v })) (sym (operands_stay f set new u.user)) h);
    places = λ u index. (
      λ h. place_from (successor_entries context_ids) (chosen f set u.user) new (successors_of f u.user) index u.number h.0 (sym (ap (λ l. slice_get l index) (successors_after f set new u.user)) ∙ h.1),
      λ h. let k = place_to (successor_entries context_ids) (chosen f set u.user) new (successors_of f u.user) index u.number h.0 h.1 in (k.0, ap (λ l. slice_get l index) (successors_after f set new u.user) ∙ k.1),
    );
    numbers = block_numbers f set new;
    rest = λ o. by (f.ops o) (map (step (successor_entries context_ids) (chosen f set o) new));
    elsewhere = (refl, refl);
  }
    where
      by : (m : Option (OpRecord context_ids W)) (h : List (Successor context_ids) → List (Successor context_ids)) → option_map (on_successors (λ _. [])) (option_map (on_successors h) m) ≡ option_map (on_successors (λ _. [])) m
      by None h = refl
      by (Some r) h = refl

pub sets_of_uses_move : (W : Dialect) → SetsOfUsesMove W
sets_of_uses_move W = record { values = some_uses_move; blocks = some_preds_move }

pub same_definition_stays : (W : Dialect) → SameDefinitionStays W
same_definition_stays W f keys w = record {
  values = λ set v already. ap (λ (ops : context_ids.Op → Option (OpRecord context_ids W)). record f { ops = ops }) (fun_ext (λ o. operands (f.ops o) (map (step (operand_entries context_ids) (chosen f set o) v))
      (stays (operand_entries context_ids) (chosen f set o) v (operands_of f o) (Distinct-front _ _ (w.uses_once o)) (λ u s. already (record { user = o; number = u }) s))));
  blocks = λ set b already. ap (λ (ops : context_ids.Op → Option (OpRecord context_ids W)). record f { ops = ops }) (fun_ext (λ o. successors (f.ops o) (map (step (successor_entries context_ids) (chosen f set o) b))
      (stays (successor_entries context_ids) (chosen f set o) b (successors_of f o) (Distinct-back (map (λ (p : Operand context_ids). p.use_number) (operands_of f o)) _ (w.uses_once o)) (λ u s. already (record { user = o; number = u }) s))));
}
  where
    operands : (m : Option (OpRecord context_ids W)) (h : List (Operand context_ids) → List (Operand context_ids)) → h (list_of (λ (r : OpRecord context_ids W). r.operands) m) ≡ list_of (λ (r : OpRecord context_ids W). r.operands) m → option_map (on_operands h) m ≡ m
    operands None h e = refl
    operands (Some r) h e = ap (λ xs. Some (record r { operands = xs })) e

    successors : (m : Option (OpRecord context_ids W)) (h : List (Successor context_ids) → List (Successor context_ids)) → h (list_of (λ (r : OpRecord context_ids W). r.successors) m) ≡ list_of (λ (r : OpRecord context_ids W). r.successors) m → option_map (on_successors h) m ≡ m
    successors None h e = refl
    successors (Some r) h e = ap (λ xs. Some (record r { successors = xs })) e

module _ {W : Dialect} (f : Forest context_ids W) (keys : ℕ) (set : Use context_ids → Bool) (w : WellFormed f keys) where
  -- one use names one definition
  one_value : (v x : Value context_ids) (u : Use context_ids) → IsUse f (a_value v) u → IsUse f (a_value x) u → v ≡ x
  one_value v x u h k = ap (λ (p : Operand context_ids). p.value) (one_of (λ (p : Operand context_ids). p.use_number) (operands_of f u.user) (Distinct-front _ _ (w.uses_once u.user)) _ _ h k refl)

  one_block : (b c : ArenaIndex) (u : Use context_ids) → IsUse f (the_block b) u → IsUse f (the_block c) u → b ≡ c
  one_block b c u h k = ap (λ (p : Successor context_ids). p.block) (one_of (λ (p : Successor context_ids). p.use_number) (successors_of f u.user) (Distinct-back (map (λ (p : Operand context_ids). p.use_number) (operands_of f u.user)) _ (w.uses_once u.user)) _ _ h k refl)

  values_listed : (old new : Value context_ids) → old ≢ new → ((u : Use context_ids) → IsTrue (set u) → IsUse f (a_value old) u) → MovedAreListed f (redirect_uses f set new) set (a_value old) (a_value new)
  values_listed old new differ inside = record {
    left = λ us p. record {
      once = Distinct-filter (λ u. not (set u)) us p.once;
      exact = left_listed set (IsUse f (a_value old)) (IsUse f (a_value new)) (IsUse (redirect_uses f set new) (a_value old)) (IsUse (redirect_uses f set new) (a_value new)) inside apart none all stay stay_new us p.exact;
    };
    taken = λ us vs p q. record {
      once = taken_once set (IsUse f (a_value old)) (IsUse f (a_value new)) (IsUse (redirect_uses f set new) (a_value old)) (IsUse (redirect_uses f set new) (a_value new)) inside apart none all stay stay_new us vs p.exact q.exact p.once q.once;
      exact = taken_listed set (IsUse f (a_value old)) (IsUse f (a_value new)) (IsUse (redirect_uses f set new) (a_value old)) (IsUse (redirect_uses f set new) (a_value new)) inside apart none all stay stay_new us vs p.exact q.exact;
    };
  }
    where
      moves : SomeUsesMove f set new
      moves = some_uses_move f set new

      apart : (u : Use context_ids) → IsUse f (a_value old) u → IsUse f (a_value new) u → ⊥
      apart u h k = differ (one_value old new u h k)

      none : (u : Use context_ids) → IsTrue (set u) → IsUse (redirect_uses f set new) (a_value old) u → ⊥
      none u s h = differ ((moves.moved old u s).0 h).0

      all : (u : Use context_ids) → IsTrue (set u) → IsUse f (a_value old) u → IsUse (redirect_uses f set new) (a_value new) u
      all u s h = (moves.moved new u s).1 (refl, (old, h))

      stay : (u : Use context_ids) → set u ≡ false → IsUse (redirect_uses f set new) (a_value old) u ↔ IsUse f (a_value old) u
      stay u s = moves.others old u s

      stay_new : (u : Use context_ids) → set u ≡ false → IsUse (redirect_uses f set new) (a_value new) u ↔ IsUse f (a_value new) u
      stay_new u s = moves.others new u s

  blocks_listed : (old new : ArenaIndex) → old ≢ new → ((u : Use context_ids) → IsTrue (set u) → IsUse f (the_block old) u) → MovedAreListed f (retarget_uses f set new) set (the_block old) (the_block new)
  blocks_listed old new differ inside = record {
    left = λ us p. record {
      once = Distinct-filter (λ u. not (set u)) us p.once;
      exact = left_listed set (IsUse f (the_block old)) (IsUse f (the_block new)) (IsUse (retarget_uses f set new) (the_block old)) (IsUse (retarget_uses f set new) (the_block new)) inside apart none all stay stay_new us p.exact;
    };
    taken = λ us vs p q. record {
      once = taken_once set (IsUse f (the_block old)) (IsUse f (the_block new)) (IsUse (retarget_uses f set new) (the_block old)) (IsUse (retarget_uses f set new) (the_block new)) inside apart none all stay stay_new us vs p.exact q.exact p.once q.once;
      exact = taken_listed set (IsUse f (the_block old)) (IsUse f (the_block new)) (IsUse (retarget_uses f set new) (the_block old)) (IsUse (retarget_uses f set new) (the_block new)) inside apart none all stay stay_new us vs p.exact q.exact;
    };
  }
    where
      moves : SomePredsMove f set new
      moves = some_preds_move f set new

      apart : (u : Use context_ids) → IsUse f (the_block old) u → IsUse f (the_block new) u → ⊥
      apart u h k = differ (one_block old new u h k)

      none : (u : Use context_ids) → IsTrue (set u) → IsUse (retarget_uses f set new) (the_block old) u → ⊥
      none u s h = differ ((moves.moved old u s).0 h).0

      all : (u : Use context_ids) → IsTrue (set u) → IsUse f (the_block old) u → IsUse (retarget_uses f set new) (the_block new) u
      all u s h = (moves.moved new u s).1 (refl, (old, h))

      stay : (u : Use context_ids) → set u ≡ false → IsUse (retarget_uses f set new) (the_block old) u ↔ IsUse f (the_block old) u
      stay u s = moves.others old u s

      stay_new : (u : Use context_ids) → set u ≡ false → IsUse (retarget_uses f set new) (the_block new) u ↔ IsUse f (the_block new) u
      stay_new u s = moves.others new u s

pub moved_uses_are_listed : (W : Dialect) → MovedUsesAreListed W
moved_uses_are_listed W = record {
  values = λ f keys set old new w differ inside. values_listed f keys set w old new differ inside;
  blocks = λ f keys set old new w differ inside. blocks_listed f keys set w old new differ inside;
}
