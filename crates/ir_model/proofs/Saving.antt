-- Saved values are found where they are, and the bodies of types are set alone.
use mathlib.Core.Path.{◌≡◌, refl, sym, ap, ◌∙◌, subst, fun_ext}
use Rattle.std.proofs.Common.{ℕ, zero, suc, ◌+◌, ◌<◌, inl, inr, Bool, true, false, not, ◌||◌, cond, eqb, Some, List, [], ◌∷◌, ◌++◌, map, length, arith}
use Rattle.std.specs.Prelude.{◌↔◌, slice_get}
use Rattle.std.specs.List.{list_any, find, position_or_len}
use Rattle.std.proofs.lemmas.List.Folds.{find_at, position_or_len_push}
use Rattle.ir_model.specs.Forest.{Dialect, Behaviour}
use Rattle.ir_model.specs.Edits.{StoredType, The, type_place, with_key}
use Rattle.ir_model.specs.Saved.{set_body}
use Rattle.ir_model.specs.StoreLaws.{SavedAreExact, BodiesAreSet}
use Rattle.ir_model.proofs.Uniquing.{still_at, last_or_was, earlier, none_passes}

module _ {A : Type 0} where
  any_at : (p : A → Bool) (xs : List A) (i : ℕ) (x : A) → slice_get xs i ≡ Some x → p x ≡ true → list_any p xs ≡ true
  any_at p [] i x e h = absurd cc
  any_at p (y ∷ ys) zero x e h = (let s : y ≡ x = cc in let t : p y ≡ true = ap p s ∙ h in ap (λ b. b || list_any p ys) t)
  any_at p (y ∷ ys) (suc i) x e h = by (p y) (any_at p ys i x e h)
    where
      by : (b : Bool) → list_any p ys ≡ true → (b || list_any p ys) ≡ true
      by true k = refl
      by false k = k

  pub any_last : (p : A → Bool) (xs : List A) (y : A) → p y ≡ true → list_any p (xs ++ y ∷ []) ≡ true
  any_last p [] y h = ap (λ b. b || false) h
  any_last p (x ∷ xs) y h = by (p x) (any_last p xs y h)
    where
      by : (b : Bool) → list_any p (xs ++ y ∷ []) ≡ true → (b || list_any p (xs ++ y ∷ [])) ≡ true
      by true k = refl
      by false k = k

  found_passes : (p : A → Bool) (xs : List A) (x : A) → find p xs ≡ Some x → p x ≡ true
  found_passes p [] x e = absurd cc
  found_passes p (y ∷ ys) x e = by (p y) refl e (found_passes p ys x)
    where
      by : (b : Bool) → p y ≡ b → cond b (Some y) (find p ys) ≡ Some x → (find p ys ≡ Some x → p x ≡ true) → p x ≡ true
      by true s k more = (let f : y ≡ x = cc in sym (ap p f) ∙ s)
      by false s k more = more k

  any_found : (p : A → Bool) (xs : List A) → list_any p xs ≡ true → (x : A) × (find p xs ≡ Some x)
  any_found p [] h = absurd cc
  any_found p (y ∷ ys) h = by (p y) h (any_found p ys)
    where
      by : (b : Bool) → (b || list_any p ys) ≡ true → (list_any p ys ≡ true → (x : A) × (find p ys ≡ Some x)) → (x : A) × (cond b (Some y) (find p ys) ≡ Some x)
      by true k more = (y, refl)
      by false k more = more k

  -- the first that passes stands at its place
  pub first_found : (p : A → Bool) (xs : List A) → list_any p xs ≡ true → The (slice_get xs (position_or_len p xs)) (λ x. p x ≡ true)
  first_found p xs h = let at = any_found p xs h in record { value = at.0; found = sym (find_at p xs) ∙ at.1; holds = found_passes p xs at.0 at.1 }

  nowhere : (p : A → Bool) (xs : List A) → list_any p xs ≡ false → position_or_len p xs ≡ length xs
  nowhere p [] h = refl
  nowhere p (y ∷ ys) h = by (p y) h (nowhere p ys)
    where
      by : (b : Bool) → (b || list_any p ys) ≡ false → (list_any p ys ≡ false → position_or_len p ys ≡ length ys) → cond (not b) (1 + position_or_len p ys) 0 ≡ suc (length ys)
      by true k more = absurd cc
      by false k more = let same = more k in omega (arith, same)

  -- the place of one more that passes, where none passed
  pub pushed : (p : A → Bool) (xs : List A) (y : A) → list_any p xs ≡ false → p y ≡ true → position_or_len p (xs ++ y ∷ []) ≡ position_or_len p xs
  pushed p xs y n h = position_or_len_push p xs y ∙ by (eqb (position_or_len p xs) (length xs))
    where
      by : (b : Bool) → cond b (length xs + cond (p y) 0 1) (position_or_len p xs) ≡ position_or_len p xs
      by true = ap (λ t. length xs + cond t 0 1) h ∙ (let e = nowhere p xs n in omega (arith, e))
      by false = refl

bool_same : (a b : Bool) → (a ≡ true → b ≡ true) → (b ≡ true → a ≡ true) → a ≡ b
bool_same true b to from = sym (to refl)
bool_same false true to from = from refl
bool_same false false to from = refl

module _ {S : Type 0} (same : S → S → Bool) (itself : (x : S) → same x x ≡ true) (turned : (x y : S) → same x y ≡ true → same y x ≡ true)
    (joined : (x y z : S) → same x y ≡ true → same y z ≡ true → same x z ≡ true) (xs : List S) (v : S) where
  abbrev is_v : S → Bool
  is_v k = same k v

  there : list_any is_v (with_key same xs v) ≡ true
  there = by (list_any is_v xs) refl
    where
      by : (b : Bool) → list_any is_v xs ≡ b → list_any is_v (cond b xs (xs ++ v ∷ [])) ≡ true
      by true e = e
      by false e = any_last is_v xs v (itself v)

  place_stays : position_or_len is_v (with_key same xs v) ≡ position_or_len is_v xs
  place_stays = by (list_any is_v xs) refl
    where
      by : (b : Bool) → list_any is_v xs ≡ b → position_or_len is_v (cond b xs (xs ++ v ∷ [])) ≡ position_or_len is_v xs
      by true e = refl
      by false e = pushed is_v xs v e (itself v)

  at_its_place : The (slice_get (with_key same xs v) (position_or_len is_v xs)) (λ kept. same kept v ≡ true)
  at_its_place = subst (λ n. The (slice_get (with_key same xs v) n) (λ kept. same kept v ≡ true)) place_stays (first_found is_v (with_key same xs v) there)

  found_before : (place : ℕ) → The (slice_get xs place) (λ kept. same kept v ≡ true) → with_key same xs v ≡ xs
  found_before place h = ap (λ b. cond b xs (xs ++ v ∷ [])) (any_at is_v xs place h.value h.found h.holds)

  goes_last : ((place : ℕ) → The (slice_get xs place) (λ kept. same kept v ≡ true) → ⊥) → (with_key same xs v ≡ xs ++ v ∷ []) × (position_or_len is_v xs ≡ length xs)
  goes_last none = by (list_any is_v xs) refl
    where
      by : (b : Bool) → list_any is_v xs ≡ b → (cond b xs (xs ++ v ∷ []) ≡ xs ++ v ∷ []) × (position_or_len is_v xs ≡ length xs)
      by true e = absurd (none (position_or_len is_v xs) (first_found is_v xs e))
      by false e = (refl, nowhere is_v xs e)

  stays_at : (place : ℕ) (x : S) → slice_get xs place ≡ Some x → slice_get (with_key same xs v) place ≡ Some x
  stays_at place x e = by (list_any is_v xs)
    where
      by : (b : Bool) → slice_get (cond b xs (xs ++ v ∷ [])) place ≡ Some x
      by true = e
      by false = still_at xs (v ∷ []) place x e

  abbrev Apart : List S → Type 0
  Apart ys = (i j : ℕ) (x y : S) → i < j → slice_get ys i ≡ Some x → slice_get ys j ≡ Some y → same x y ≡ false

  stay_apart : Apart xs → Apart (with_key same xs v)
  stay_apart apart = by (list_any is_v xs) refl
    where
      by : (b : Bool) → list_any is_v xs ≡ b → Apart (cond b xs (xs ++ v ∷ []))
      by true n = apart
      by false n = λ i j x y h e f.
          let was = earlier xs v i j x y h e f in
          elim (last_or_was xs v j y f) [
            | inl s ↦ subst (λ z. same x z ≡ false) (sym s) (none_passes is_v xs n i x was)
            | inr g ↦ apart i j x y h was g
          ]

  one_place : (w : S) → (position_or_len is_v xs ≡ position_or_len (λ k. same k w) (with_key same xs v)) ↔ (same v w ≡ true)
  one_place w = (
    λ e. let at = first_found is_v (with_key same xs v) there in
        let k : find (λ z. same z w) (with_key same xs v) ≡ Some at.value = find_at (λ z. same z w) (with_key same xs v) ∙ ap (slice_get (with_key same xs v)) (sym (place_stays ∙ e)) ∙ at.found in
        joined v at.value w (turned at.value v at.holds) (found_passes (λ z. same z w) (with_key same xs v) at.value k),
    λ h. sym place_stays ∙ ap (λ (p : S → Bool). position_or_len p (with_key same xs v)) (fun_ext (λ k. bool_same (same k v) (same k w) (λ e. joined k v w e h) (λ e. joined k w v e (turned v w h)))),
  )

pub saved_are_exact : (W : Dialect) → SavedAreExact W
saved_are_exact W K b value laws = record {
  saved = at_its_place K.same_saved laws.itself laws.turned laws.joined b.saved value;
  its_kind =
      let at = at_its_place K.same_saved laws.itself laws.turned laws.joined b.saved value in
      record { value = at.value; found = at.found; holds = laws.kinds at.value value at.holds };
  found = λ place h. ap (λ (l : List W.Saved). record b { saved = l }) (found_before K.same_saved laws.itself laws.turned laws.joined b.saved value place h);
  last = goes_last K.same_saved laws.itself laws.turned laws.joined b.saved value;
  stay = stays_at K.same_saved laws.itself laws.turned laws.joined b.saved value;
  apart = stay_apart K.same_saved laws.itself laws.turned laws.joined b.saved value;
  places = one_place K.same_saved laws.itself laws.turned laws.joined b.saved value;
  kinds = λ other differ e. differ (laws.kinds value other ((one_place K.same_saved laws.itself laws.turned laws.joined b.saved value other).0 e));
  aux = (refl, refl, refl);
}

module _ {W : Dialect} (body : W.Body) where
  body_there : (store : List (StoredType W)) (place : ℕ) (t : StoredType W) → slice_get store place ≡ Some t → slice_get (set_body store place body) place ≡ Some (record t { body = body })
  body_there [] place t e = absurd cc
  body_there (x ∷ store) zero t e = (let s : x ≡ t = cc in ap (λ (y : StoredType W). Some (record y { body = body })) s)
  body_there (x ∷ store) (suc place) t e = body_there store place t e

  body_elsewhere : (store : List (StoredType W)) (place other : ℕ) → (other ≡ place → ⊥) → slice_get (set_body store place body) other ≡ slice_get store other
  body_elsewhere [] place other n = refl
  body_elsewhere (x ∷ store) zero zero n = absurd (n refl)
  body_elsewhere (x ∷ store) zero (suc other) n = refl
  body_elsewhere (x ∷ store) (suc place) zero n = refl
  body_elsewhere (x ∷ store) (suc place) (suc other) n = body_elsewhere store place other (λ e. n (ap suc e))

  body_keys : (store : List (StoredType W)) (place : ℕ) → map (λ (t : StoredType W). t.key) (set_body store place body) ≡ map (λ (t : StoredType W). t.key) store
  body_keys [] place = refl
  body_keys (x ∷ store) zero = refl
  body_keys (x ∷ store) (suc place) = ap (λ l. x.key ∷ l) (body_keys store place)

  body_count : (store : List (StoredType W)) (place : ℕ) → length (set_body store place body) ≡ length store
  body_count [] place = refl
  body_count (x ∷ store) zero = refl
  body_count (x ∷ store) (suc place) = ap suc (body_count store place)

  body_places : (B : Behaviour W) (key : W.Key) (store : List (StoredType W)) (place : ℕ) → type_place B (set_body store place body) key ≡ type_place B store key
  body_places B key [] place = refl
  body_places B key (x ∷ store) zero = refl
  body_places B key (x ∷ store) (suc place) = ap (λ n. cond (not (B.same_key x.key key)) (1 + n) 0) (body_places B key store place)

pub bodies_are_set : (W : Dialect) → BodiesAreSet W
bodies_are_set W store place body = record {
  there = body_there body store place;
  others = body_elsewhere body store place;
  keys = body_keys body store place;
  count = body_count body store place;
  places = λ B key. body_places body B key store place;
}
