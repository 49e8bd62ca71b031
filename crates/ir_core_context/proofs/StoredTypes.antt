-- The store of types: keys with bodies, found by their keys.
use Rattle.std.proofs.Common.{◌≡◌, refl, sym, ap, ap₂, subst, ◌∙◌, ℕ, zero, suc, Some, slice_get, ◌+◌, ◌≤◌, Bool, true, false, not, ◌||◌, cond, List, [], ◌∷◌, ◌++◌, map, length, arith}
use Rattle.std.specs.Prelude.{MatchBool, Result, Ok, Err, OnErr, None, nat_lt, position}
use Rattle.std.specs.List.{list_any}
use Rattle.std.specs.Map.{keys_of, values_of}
use Rattle.std.specs.Option.{option_map}
use Rattle.std.proofs.lemmas.List.{length-map}
use Rattle.ir_model.specs.Edits.{StoredType, place_of, type_place, with_type}
use Rattle.indexmap.specs.IndexMap.{set_value_at}
use Rattle.ir_model.specs.Saved.{set_body}
use Rattle.ir_base_dialects.specs.Stores.{Stores, has_key}
use Rattle.ir_core_records.specs.Meaning.{closed}
use Rattle.ir_core_records.specs.DialectAnswers.{behaviour}

module _ (A K B S X L : Type 0) (same : K → K → Bool) (first : B) (unknown : L) (impls : ℕ → ℕ → Bool) where
  abbrev stored : K × B → StoredType (closed A K B S X L)
  stored p = record { key = p.0; body = p.1 }

  pub places : (ps : List (K × B)) (key : K) → place_of same (keys_of ps) key ≡ type_place (behaviour {A = A} {S = S} {X = X} same first unknown impls) (map stored ps) key
  places [] key = refl
  places (p ∷ ps) key = ap (λ n. cond (not (same p.0 key)) (1 + n) 0) (places ps key)

  -- the keys and the types are searched alike
  pub finds : (ps : List (K × B)) (key : K) → position (λ k. same k key) (keys_of ps) ≡ position (λ (t : StoredType (closed A K B S X L)). same t.key key) (map stored ps)
  finds ps key = ap₂ (λ n m. cond (nat_lt n m) (Some n) None) (places ps key) (length-map ps (λ (p : K × B). p.0) ∙ sym (length-map ps stored))

  -- a key that isn't there has the place behind the last one
  pub new-place : (ps : List (K × B)) (key : K) → has_key same ps key ≡ false → type_place (behaviour {A = A} {S = S} {X = X} same first unknown impls) (map stored ps) key ≡ length (map stored ps)
  new-place [] key e = refl
  new-place (p ∷ ps) key e = by (same p.0 key) refl (new-place ps key)
    where
      by : (b : Bool) → same p.0 key ≡ b → (has_key same ps key ≡ false → type_place (behaviour {A = A} {S = S} {X = X} same first unknown impls) (map stored ps) key ≡ length (map stored ps)) → type_place (behaviour {A = A} {S = S} {X = X} same first unknown impls) (map stored (p ∷ ps)) key ≡ length (map stored (p ∷ ps))
      by true q rest = absurd (let r : true ≡ false = subst (λ b. (b || has_key same ps key) ≡ false) q e in cc)
      by false q rest =
          let r : type_place (behaviour {A = A} {S = S} {X = X} same first unknown impls) (map stored ps) key ≡ length (map stored ps) = rest (subst (λ b. (b || has_key same ps key) ≡ false) q e) in
          let step : 1 + type_place (behaviour {A = A} {S = S} {X = X} same first unknown impls) (map stored ps) key ≡ length (map stored (p ∷ ps)) = omega (arith, r) in
          ap (λ b. cond (not b) (1 + type_place (behaviour {A = A} {S = S} {X = X} same first unknown impls) (map stored ps) key) 0) q ∙ step

  found : (ps : List (K × B)) (key : K) → list_any (λ k. same k key) (keys_of ps) ≡ list_any (λ (t : StoredType (closed A K B S X L)). same t.key key) (map stored ps)
  found [] key = refl
  found (p ∷ ps) key = ap (λ b. same p.0 key || b) (found ps key)

  map-push : (ps : List (K × B)) (p : K × B) → map stored (ps ++ p ∷ []) ≡ map stored ps ++ stored p ∷ []
  map-push [] p = refl
  map-push (q ∷ ps) p = ap (λ ts. stored q ∷ ts) (map-push ps p)

  pub stores : (IsFirst : B → Type 0) → ((b : B) → IsFirst b → b ≡ first) → (old new : List (K × B)) (key : K) → Stores same IsFirst old key new
      → map stored new ≡ with_type (behaviour {A = A} {S = S} {X = X} same first unknown impls) (map stored old) key
  stores IsFirst one old new key s = by (has_key same old key) refl
    where
      by : (b : Bool) → has_key same old key ≡ b → map stored new ≡ with_type (behaviour {A = A} {S = S} {X = X} same first unknown impls) (map stored old) key
      by true e =
          let kept : new ≡ old = subst (λ b. MatchBool b (new ≡ old) ((body : B) × (IsFirst body × (new ≡ old ++ (key, body) ∷ [])))) e s in
          let is : list_any (λ (t : StoredType (closed A K B S X L)). same t.key key) (map stored old) ≡ true = sym (found old key) ∙ e in
          rw is (ap (map stored) kept)
      by false e =
          let more : (body : B) × (IsFirst body × (new ≡ old ++ (key, body) ∷ [])) = subst (λ b. MatchBool b (new ≡ old) ((body : B) × (IsFirst body × (new ≡ old ++ (key, body) ∷ [])))) e s in
          let is : list_any (λ (t : StoredType (closed A K B S X L)). same t.key key) (map stored old) ≡ false = sym (found old key) ∙ e in
          rw is (ap (map stored) more.1.1 ∙ map-push old (key, more.0) ∙ ap (λ b. map stored old ++ record { key = key; body = b } ∷ []) (one more.0 more.1.0))

  pub stores-longer : (IsFirst : B → Type 0) (old new : List (K × B)) (key : K) → Stores same IsFirst old key new → length old ≤ length new
  stores-longer IsFirst old new key s = by (has_key same old key) refl
    where
      grown : (ps : List (K × B)) (p : K × B) → length ps ≤ length (ps ++ p ∷ [])
      grown [] p = omega arith
      grown (q ∷ ps) p = let h : length ps ≤ length (ps ++ p ∷ []) = grown ps p in omega arith

      by : (b : Bool) → has_key same old key ≡ b → length old ≤ length new
      by true e =
          let kept : new ≡ old = subst (λ b. MatchBool b (new ≡ old) ((body : B) × (IsFirst body × (new ≡ old ++ (key, body) ∷ [])))) e s in
          omega (arith, ap length kept)
      by false e =
          let more : (body : B) × (IsFirst body × (new ≡ old ++ (key, body) ∷ [])) = subst (λ b. MatchBool b (new ≡ old) ((body : B) × (IsFirst body × (new ≡ old ++ (key, body) ∷ [])))) e s in
          omega (arith, ap length more.1.1, grown old (key, more.0))

abbrev pub type_stored : (A K B S X L : Type 0) → K × B → StoredType (closed A K B S X L)
type_stored A K B S X L p = record { key = p.0; body = p.1 }

pub length-stored : (A K B S X L : Type 0) (ps : List (K × B)) → length (map (type_stored A K B S X L) ps) ≡ length ps
length-stored A K B S X L [] = refl
length-stored A K B S X L (p ∷ ps) = ap suc (length-stored A K B S X L ps)

-- the key at a place is that of the type there
pub key-stored : (A K B S X L : Type 0) (ps : List (K × B)) (i : ℕ) (k : K) → Some k ≡ slice_get (keys_of ps) i → option_map (λ (t : StoredType (closed A K B S X L)). t.key) (slice_get (map (type_stored A K B S X L) ps) i) ≡ Some k
key-stored A K B S X L [] i k e = cc
key-stored A K B S X L (p ∷ ps) zero k e = sym e
key-stored A K B S X L (p ∷ ps) (suc i) k e = key-stored A K B S X L ps i k e

-- the body at a place is that of the type there
pub body-stored : (A K B S X L : Type 0) (ps : List (K × B)) (i : ℕ) (b : B) → Some b ≡ slice_get (values_of ps) i → option_map (λ (t : StoredType (closed A K B S X L)). t.body) (slice_get (map (type_stored A K B S X L) ps) i) ≡ Some b
body-stored A K B S X L [] i b e = cc
body-stored A K B S X L (p ∷ ps) zero b e = sym e
body-stored A K B S X L (p ∷ ps) (suc i) b e = body-stored A K B S X L ps i b e

-- the types where one body was set
pub set-stored : (A K B S X L : Type 0) (ps : List (K × B)) (i : ℕ) (b : B) → map (type_stored A K B S X L) (set_value_at ps i b) ≡ set_body (map (type_stored A K B S X L) ps) i b
set-stored A K B S X L [] i b = refl
set-stored A K B S X L (p ∷ ps) zero b = refl
set-stored A K B S X L (p ∷ ps) (suc i) b = ap (λ ts. type_stored A K B S X L p ∷ ts) (set-stored A K B S X L ps i b)

-- are as many as before
pub length-set : (K B : Type 0) (ps : List (K × B)) (i : ℕ) (b : B) → length (set_value_at ps i b) ≡ length ps
length-set K B [] i b = refl
length-set K B (p ∷ ps) zero b = refl
length-set K B (p ∷ ps) (suc i) b = ap suc (length-set K B ps i b)

-- what holds whatever is answered holds where it is refused
pub on-err : {A E P : Type 0} (r : Result A E) → P → OnErr r P
on-err (Ok a) p = tt
on-err (Err e) p = p
