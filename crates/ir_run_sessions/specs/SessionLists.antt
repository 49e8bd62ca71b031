-- The entries of a table that numbers name.
use Rattle.std.proofs.Common.{◌≡◌, refl, sym, ap, subst, ◌∙◌, inl, inr, ℕ, zero, suc, ◌<◌, ◌↔◌, Bool, true, false, IsTrue, List, [], ◌∷◌, ◌++◌, map, length, take, get_or, Option, Some, None, arith}
use Rattle.std.specs.Prelude.{slice_get, All}
use Rattle.std.specs.Bool.{MatchBool}
use Rattle.std.specs.List.{cons_option, AllWithin, HoldsAt}
use Rattle.std.specs.Option.{option_map}
use Rattle.std.proofs.lemmas.Option.{slice_get_cases, slice_get_within, slice_get-map}
use Rattle.ir_model.proofs.Fresh.{these-in, these-each}
use Rattle.ir_model.proofs.Nests.{In-map}
use Rattle.ir_model.specs.Nesting.{In}
use Rattle.ir_model.specs.Edits.{Each, The, these}

pub clash : (b : Bool) → IsTrue b → b ≡ false → ⊥
clash b t f = let e : b ≡ true = t in cc

module _ (P : ℕ → Type 0) where
  pub Each-from : (ns : List ℕ) → ((k : ℕ) → k < length ns → P (get_or ns k 0)) → Each P ns
  Each-from [] h = tt
  Each-from (n ∷ ns) h = (h 0 (omega arith), Each-from ns (λ k lt. h (suc k) (omega (arith, lt))))

  pub Each-at : (ns : List ℕ) (k : ℕ) → k < length ns → Each P ns → P (get_or ns k 0)
  Each-at [] k lt e = absurd (omega (arith, lt))
  Each-at (n ∷ ns) zero lt e = e.0
  Each-at (n ∷ ns) (suc k) lt e = Each-at ns k (omega (arith, lt)) e.1

  pub Each-more : (Q : ℕ → Type 0) → ((n : ℕ) → P n → Q n) → (ns : List ℕ) → Each P ns → Each Q ns
  Each-more Q h [] e = tt
  Each-more Q h (n ∷ ns) e = (h n e.0, Each-more Q h ns e.1)

pub Each-same : (P Q : ℕ → Type 0) → ((n : ℕ) → P n ↔ Q n) → (ns : List ℕ) → Each P ns ↔ Each Q ns
Each-same P Q h ns = (Each-more P Q (λ n. (h n).0) ns, Each-more Q P (λ n. (h n).1) ns)

-- what an `all` answers that stops at the first that has P not
pub Each-from_cases : (P : ℕ → Type 0) (b : Bool) (ns : List ℕ) → MatchBool b (AllWithin P ns 0 (length ns)) ((k : ℕ) × (k < length ns) × HoldsAt (λ n. P n → ⊥) ns k) → IsTrue b ↔ Each P ns
Each-from_cases P true ns h = (λ t. Each-from P ns (λ k lt. h k 0 (omega arith) lt), λ e. refl)
Each-from_cases P false ns h = (λ t. absurd (let f : false ≡ true = t in cc), λ e. absurd (h.2 0 (Each-at P ns h.0 h.1 e)))

-- what an entry means is there exactly where the entry is
module _ {S T : Type 0} (f : S → T) (table : List S) (P : S → Type 0) (Q : T → Type 0) (same : (x : S) → P x ↔ Q (f x)) where
  pub the-map : (n : ℕ) → The (slice_get table n) P ↔ The (slice_get (map f table) n) Q
  the-map n = (
    λ t. record { value = f t.value; found = slice_get-map f table n ∙ ap (option_map f) t.found; holds = (same t.value).0 t.holds },
    λ t. by t (slice_get table n) refl,
  )
    where
      by : The (slice_get (map f table) n) Q → (o : Option S) → slice_get table n ≡ o → The (slice_get table n) P
      by t None e = absurd (let none : Some t.value ≡ None = sym t.found ∙ slice_get-map f table n ∙ ap (option_map f) e in cc)
      by t (Some x) e =
          let found : Some t.value ≡ Some (f x) = sym t.found ∙ slice_get-map f table n ∙ ap (option_map f) e in
          let is : t.value ≡ f x = cc in
          record { value = x; found = e; holds = (same x).1 (subst Q is t.holds) }

  pub each-map : (ns : List ℕ) → Each (λ n. The (slice_get table n) P) ns ↔ Each (λ n. The (slice_get (map f table) n) Q) ns
  each-map = Each-same (λ n. The (slice_get table n) P) (λ n. The (slice_get (map f table) n) Q) the-map

module _ {T : Type 0} (table : List T) where
  entry : (n : ℕ) → n < length table → (x : T) × (slice_get table n ≡ Some x)
  entry n lt = elim (slice_get_cases table n).1 [ inl h ↦ (h.0, h.2) | inr h ↦ absurd (omega (arith, lt, h.0)) ]

  cons_option-append : (o : Option T) (xs ys : List T) → cons_option o (xs ++ ys) ≡ cons_option o xs ++ ys
  cons_option-append None xs ys = refl
  cons_option-append (Some x) xs ys = refl

  pub these-push : (ns : List ℕ) (i : ℕ) (x : T) → i < length ns → slice_get table (get_or ns i 0) ≡ Some x → these table (take (suc i) ns) ≡ these table (take i ns) ++ x ∷ []
  these-push [] i x lt e = absurd (omega (arith, lt))
  these-push (n ∷ ns) zero x lt e = ap (λ o. cons_option o []) e
  these-push (n ∷ ns) (suc i) x lt e =
      ap (cons_option (slice_get table n)) (these-push ns i x (omega (arith, lt)) e) ∙ cons_option-append (slice_get table n) (these table (take i ns)) (x ∷ [])

  pub length-these : (ns : List ℕ) → Each (λ n. n < length table) ns → length (these table ns) ≡ length ns
  length-these [] e = refl
  length-these (n ∷ ns) e =
      let x = entry n e.0 in
      ap (λ o. length (cons_option o (these table ns))) x.1 ∙ ap suc (length-these ns e.1)

  -- the numbers of entries are below the length
  pub below : (P : T → Type 0) (ns : List ℕ) → Each (λ n. The (slice_get table n) P) ns → Each (λ n. n < length table) ns
  below P = Each-more (λ n. The (slice_get table n) P) (λ n. n < length table) (λ n t. slice_get_within table n t.value t.found)

-- and below that of the table as it is lent
pub lent-below : {T : Type 0} (table lent : List T) (ns : List ℕ) → lent ≡ table → Each (λ n. n < length table) ns → Each (λ n. n < length lent) ns
lent-below {T = T} table lent ns value h = let P : List T → Type 0 = λ xs. Each (λ n. n < length xs) ns in subst P (sym value) h

pub All-from : {A : Type 0} (P : A → Type 0) (xs : List A) → ((x : A) → In x xs → P x) → All P xs
All-from P [] h k d lt = absurd (omega (arith, lt))
All-from P (x ∷ xs) h zero d lt = h x (inl refl)
All-from P (x ∷ xs) h (suc k) d lt = All-from P xs (λ y i. h y (inr i)) k d (omega (arith, lt))

module _ {S T : Type 0} (f : S → T) (table : List S) where
  map-cons_option : (o : Option S) (xs : List S) → cons_option (option_map f o) (map f xs) ≡ map f (cons_option o xs)
  map-cons_option None xs = refl
  map-cons_option (Some x) xs = refl

  these-map : (ns : List ℕ) → these (map f table) ns ≡ map f (these table ns)
  these-map [] = refl
  these-map (n ∷ ns) = rw (slice_get-map f table n, these-map ns) (map-cons_option (slice_get table n) (these table ns))

-- what was picked out of a table that was lent
module _ {S : Type 0} (table lent found picked : List S) (ns : List ℕ) (value : lent ≡ table) (is : found ≡ these lent ns) (held : picked ≡ found) where
  all_picked : picked ≡ these table ns
  all_picked = held ∙ is ∙ ap (λ t. these t ns) value

  -- it means what the numbers name
  pub picked-mean : {T : Type 0} (f : S → T) → map f picked ≡ these (map f table) ns
  picked-mean f = ap (map f) all_picked ∙ sym (these-map f table ns)

  -- it is as much as the numbers name
  pub picked-count : Each (λ n. n < length table) ns → length picked ≡ length ns
  picked-count e = ap length all_picked ∙ length-these table ns e

  -- what holds of each entry that is named holds of it
  pub picked-live : (P : S → Type 0) → Each (λ n. The (slice_get table n) P) ns → All P picked
  picked-live P each = let Q : List S → Type 0 = λ xs. All P xs in subst Q (sym all_picked) (All-from P (these table ns) (λ x i. these-each P table ns x each i))

  -- what holds of all that the table means holds of what it means
  pub picked-known : {T : Type 0} (f : S → T) (P : T → Type 0) → ((y : T) → In y (map f table) → P y) → All (λ x. P (f x)) picked
  picked-known f P h =
      let Q : List S → Type 0 = λ xs. All (λ x. P (f x)) xs in
      subst Q (sym all_picked) (All-from (λ x. P (f x)) (these table ns) (λ x i. h (f x) (In-map f x table (these-in table ns x i))))

-- what one more item means comes last
pub map-push : {A B : Type 0} (f : A → B) (xs : List A) (x : A) → map f (xs ++ x ∷ []) ≡ map f xs ++ f x ∷ []
map-push f [] x = refl
map-push f (y ∷ ys) x = ap (λ zs. f y ∷ zs) (map-push f ys x)
