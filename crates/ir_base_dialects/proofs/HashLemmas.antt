-- Hashes of attribute dictionaries: the pairs by rising key, each found above the one before.
use Rattle.std.proofs.Common.{◌≡◌, ◌⊎◌, inl, inr, ℕ, ◌+◌, ◌<◌, Bool, true, false, cond, ◌&&◌, T, List, [], ◌∷◌, ◌++◌, map, length, filter, take, slice_get, Option, Some, None, is_some, unwrap_or, refl, sym, ap, subst, ◌∙◌, true≢false, arith}
use Rattle.std.specs.Option.{option_map}
use Rattle.std.specs.declared.cmp.Ordering.{Ordering}
use Rattle.std.specs.Ordering.{is_lt, is_eq, ordering_reverse}
use Rattle.std.specs.declared.cmp.Ordering.TheVariants.{Less, Equal, Greater}
use Rattle.std.specs.Cmp.{Equal-is}
use Rattle.std.specs.Cmp.Lexicographic.{nat_list_eq_equiv}
use Rattle.std.specs.FinMap.{entries_sorted, empty, from_entries, find, is_sorted, len, len-empty, len-entries, len-insert, get-from_entries}
use Rattle.std.specs.FinMap.Entries.{below_all}
use Rattle.std.specs.List.{IsDistinct, AllByRecursion, flat_map, fold}
use Rattle.std.specs.Hash as fed
use Rattle.std.specs.Hash.{HashWrites}
use Rattle.std.specs.Map.{keys_of, lookup}
use Rattle.std.proofs.lemmas.Cmp.{tied_itself}
use Rattle.std.proofs.lemmas.List.Sums.{fold-append}
use Rattle.std.proofs.lemmas.Map.Keys.{IsDistinct-head, IsDistinct-tail}
use Rattle.ir_model.specs.Stores.{attribute_at}
use Rattle.ir_base_dialects.specs.Attributes.{same_key, key_order, is_above, is_below, by_key, dict_input, IsKeyAbove, IsNextPair}
use Rattle.ir_base_dialects.proofs.CopyLemmas.{pairs-more, key_new}
use Rattle.ir_base_dialects.proofs.KeyLemmas.{same_key-is}
use Rattle.ir_base_dialects.specs.AttributeLaws.{find-map, find-by_key, key_total, same_text}

is_less : (o : Ordering) → is_lt o ≡ true → o ≡ Less
is_less Less h = refl
is_less Equal h = absurd (true≢false (sym h))
is_less Greater h = absurd (true≢false (sym h))

first : (a b : Bool) → T (a && b) → a ≡ true
first true b h = refl
first false b h = absurd h

second : (a b : Bool) → T (a && b) → T b
second true b h = h
second false b h = absurd h

-- what lies below one of two keys in order lies below the other
less_up : (x y z : List ℕ) → is_lt (key_order x y) ≡ true → is_lt (key_order y z) ≡ true → is_lt (key_order x z) ≡ true
less_up x y z f g = ap is_lt (key_total.trans x y z (is_less _ f) (is_less _ g))

above_up : (a : Option (List ℕ)) (x y : List ℕ) → is_above a x ≡ true → is_lt (key_order x y) ≡ true → is_above a y ≡ true
above_up None x y f g = refl
above_up (Some b) x y f g = less_up b x y f g

not_less : (q k p : List ℕ) → is_lt (key_order q p) ≡ false → is_lt (key_order k p) ≡ true → is_lt (key_order q k) ≡ false
not_less q k p f g = by (is_lt (key_order q k)) refl
  where
    by : (b : Bool) → is_lt (key_order q k) ≡ b → is_lt (key_order q k) ≡ false
    by true e = absurd (true≢false (sym (less_up q k p e g) ∙ f))
    by false e = e

-- the pairs with one more last
module _ {A : Type 0} (t : List ℕ → Bool) where
  push-some : (es : List (List ℕ × A)) (e : List ℕ × A) (v : A) → lookup t es ≡ Some v → lookup t (es ++ e ∷ []) ≡ Some v
  push-some [] e v h = absurd (true≢false (sym (ap is_some h)))
  push-some (x ∷ es) e v h = by (t x.0) (push-some es e v) h
    where
      by : (b : Bool) → (lookup t es ≡ Some v → lookup t (es ++ e ∷ []) ≡ Some v) → cond b (Some x.1) (lookup t es) ≡ Some v → cond b (Some x.1) (lookup t (es ++ e ∷ [])) ≡ Some v
      by true r g = g
      by false r g = r g

  push-none : (es : List (List ℕ × A)) (e : List ℕ × A) → lookup t es ≡ None → lookup t (es ++ e ∷ []) ≡ cond (t e.0) (Some e.1) None
  push-none [] e h = refl
  push-none (x ∷ es) e h = by (t x.0) (push-none es e) h
    where
      by : (b : Bool) → (lookup t es ≡ None → lookup t (es ++ e ∷ []) ≡ cond (t e.0) (Some e.1) None) → cond b (Some x.1) (lookup t es) ≡ None → cond b (Some x.1) (lookup t (es ++ e ∷ [])) ≡ cond (t e.0) (Some e.1) None
      by true r g = absurd (true≢false (ap is_some g))
      by false r g = r g

  push-cases : (es : List (List ℕ × A)) (e : List ℕ × A) → is_some (lookup t (es ++ e ∷ [])) ≡ true → (is_some (lookup t es) ≡ true) ⊎ (t e.0 ≡ true)
  push-cases [] e h = inr (by (t e.0) h)
    where
      by : (b : Bool) → is_some (cond b (Some e.1) None) ≡ true → b ≡ true
      by true g = refl
      by false g = g
  push-cases (x ∷ es) e h = by (t x.0) (push-cases es e) h
    where
      by : (b : Bool) → (is_some (lookup t (es ++ e ∷ [])) ≡ true → (is_some (lookup t es) ≡ true) ⊎ (t e.0 ≡ true)) → is_some (cond b (Some x.1) (lookup t (es ++ e ∷ []))) ≡ true → (is_some (cond b (Some x.1) (lookup t es)) ≡ true) ⊎ (t e.0 ≡ true)
      by true r g = inl refl
      by false r g = r g

module _ {A : Type 0} (a : Option (List ℕ)) (xs : List (List ℕ × A)) (k : List ℕ) (v : A) where
  key-cases : (q : List ℕ) → IsKeyAbove a (xs ++ (k, v) ∷ []) q → IsKeyAbove a xs q ⊎ (q ≡ k)
  key-cases q h = by (push-cases (same_key q) xs (k, v) h.0)
    where
      by : (is_some (attribute_at xs q) ≡ true) ⊎ (same_key q k ≡ true) → IsKeyAbove a xs q ⊎ (q ≡ k)
      by (inl there) = inl (there, h.1)
      by (inr here) = inr (same_key-is q k here)

  -- a pair that isn't above the bound, or isn't below the least so far, leaves the least
  pub next-kept : (n : Option (List ℕ × A)) → IsNextPair a xs n → (is_above a k && is_below k n) ≡ false → IsNextPair a (xs ++ (k, v) ∷ []) n
  next-kept None h skip = λ q above. by q above (key-cases q above)
    where
      by : (q : List ℕ) → IsKeyAbove a (xs ++ (k, v) ∷ []) q → IsKeyAbove a xs q ⊎ (q ≡ k) → ⊥
      by q above (inl there) = h q there
      by q above (inr e) = true≢false (sym (ap (λ b. b && true) (ap (is_above a) (sym e) ∙ above.1)) ∙ skip)
  next-kept (Some p) h skip = (push-some (same_key p.0) xs (k, v) p.1 h.0, h.1, λ q above. by q above (key-cases q above))
    where
      by : (q : List ℕ) → IsKeyAbove a (xs ++ (k, v) ∷ []) q → IsKeyAbove a xs q ⊎ (q ≡ k) → is_lt (key_order q p.0) ≡ false
      by q above (inl there) = h.2 q there
      by q above (inr e) = ap (λ x. is_lt (key_order x p.0)) e ∙ sym (ap (λ b. b && is_lt (key_order k p.0)) (ap (is_above a) (sym e) ∙ above.1)) ∙ skip

  -- and else it is the least, where its key is new
  pub next-new : (n : Option (List ℕ × A)) → IsNextPair a xs n → attribute_at xs k ≡ None → (is_above a k && is_below k n) ≡ true → IsNextPair a (xs ++ (k, v) ∷ []) (Some (k, v))
  next-new n h new takes =
      (push-none (same_key k) xs (k, v) new ∙ ap (λ b. cond b (Some v) None) (nat_list_eq_equiv.refl k), left (is_above a k) (is_below k n) takes, λ q above. by n h (right (is_above a k) (is_below k n) takes) q (key-cases q above))
    where
      left : (x y : Bool) → (x && y) ≡ true → x ≡ true
      left true y g = refl
      left false y g = g

      right : (x y : Bool) → (x && y) ≡ true → y ≡ true
      right true y g = g
      right false y g = absurd (true≢false (sym g))

      by : (m : Option (List ℕ × A)) → IsNextPair a xs m → is_below k m ≡ true → (q : List ℕ) → IsKeyAbove a xs q ⊎ (q ≡ k) → is_lt (key_order q k) ≡ false
      by m f below q (inr e) = ap (λ x. is_lt (key_order x k)) e ∙ ap is_lt (tied_itself key_total k)
      by None f below q (inl there) = absurd (f q there)
      by (Some p) f below q (inl there) = not_less q k p.0 (f.2 q there) below

-- a turn of the search for the least: the pair at i is taken, or left
module _ {A : Type 0} (es : List (List ℕ × A)) (unique : IsDistinct same_key (keys_of es)) (i : ℕ) (k : List ℕ) (v : A) (at : Some (k, v) ≡ slice_get es i) (a : Option (List ℕ)) (n : Option (List ℕ × A)) (so_far : IsNextPair a (take i es) n) where
  pub next-takes : is_above a k ≡ true → is_below k n ≡ true → IsNextPair a (take (i + 1) es) (Some (k, v))
  next-takes above below =
      subst (λ l. IsNextPair a l (Some (k, v))) (sym (pairs-more (λ _. false) true es unique i k v at))
      (next-new a (take i es) k v n so_far (key_new (λ _. false) true es unique i k v at) (ap (λ b. b && is_below k n) above ∙ below))

  pub next-leaves : (is_above a k && is_below k n) ≡ false → IsNextPair a (take (i + 1) es) n
  next-leaves skip = subst (λ l. IsNextPair a l n) (sym (pairs-more (λ _. false) true es unique i k v at)) (next-kept a (take i es) k v n so_far skip)

-- lists of which the keys rise
module _ {X : Type 0} where
  -- the pairs above the bound
  abbrev pub rest : Option (List ℕ) → List (List ℕ × X) → List (List ℕ × X)
  rest a es = filter (λ e. is_above a e.0) es

  rest-all : (p : List ℕ → Bool) (x : List ℕ) → ((y : List ℕ) → is_lt (key_order x y) ≡ true → p y ≡ true) → (es : List (List ℕ × X)) → T (below_all key_order x es) → filter (λ e. p e.0) es ≡ es
  rest-all p x up [] s = refl
  rest-all p x up (e ∷ es) s = ap (λ b. cond b (e ∷ filter (λ d. p d.0) es) (filter (λ d. p d.0) es)) (up e.0 (first _ _ s)) ∙ ap (λ l. e ∷ l) (rest-all p x up es (second _ _ s))

  absent-below : (x k : List ℕ) → is_lt (key_order x k) ≡ false → (es : List (List ℕ × X)) → T (below_all key_order x es) → find key_order k es ≡ None
  absent-below x k apart [] s = refl
  absent-below x k apart (e ∷ es) s = by (absent-below x k apart es (second _ _ s)) (is_eq (key_order k e.0)) refl
    where
      by : find key_order k es ≡ None → (b : Bool) → is_eq (key_order k e.0) ≡ b → cond (is_eq (key_order k e.0)) (Some e.1) (find key_order k es) ≡ None
      by later true q = absurd (true≢false (sym (first _ _ s) ∙ ap (λ y. is_lt (key_order x y)) (sym (same_text k e.0 ((Equal-is (key_order k e.0)).0 q))) ∙ apart))
      by later false q = ap (λ b. cond b (Some e.1) (find key_order k es)) q ∙ later

  found-itself : (e : List ℕ × X) (es : List (List ℕ × X)) → is_some (find key_order e.0 (e ∷ es)) ≡ true
  found-itself e es = ap (λ o. is_some (cond (is_eq o) (Some e.1) (find key_order e.0 es))) (tied_itself key_total e.0)

  found-later : (b : Bool) (v : X) (o : Option X) → is_some o ≡ true → is_some (cond b (Some v) o) ≡ true
  found-later true v o h = refl
  found-later false v o h = h

  -- nothing is left where no key is above the bound
  pub rest-end : (a : Option (List ℕ)) (es : List (List ℕ × X)) → ((q : List ℕ) → is_some (find key_order q es) ≡ true → is_above a q ≡ true → ⊥) → rest a es ≡ []
  rest-end a [] none = refl
  rest-end a (e ∷ es) none = by (rest-end a es (λ k f. none k (found-later (is_eq (key_order k e.0)) e.1 (find key_order k es) f))) (is_above a e.0) refl
    where
      by : rest a es ≡ [] → (b : Bool) → is_above a e.0 ≡ b → cond (is_above a e.0) (e ∷ rest a es) (rest a es) ≡ []
      by later true q = absurd (none e.0 (found-itself e es) q)
      by later false q = ap (λ b. cond b (e ∷ rest a es) (rest a es)) q ∙ later

  -- the least above the bound comes first, and then what is above it
  pub rest-next : (a : Option (List ℕ)) (k : List ℕ) (v : X) → is_above a k ≡ true → (es : List (List ℕ × X)) → T (is_sorted key_order es) → find key_order k es ≡ Some v
      → ((q : List ℕ) → is_some (find key_order q es) ≡ true → is_above a q ≡ true → is_lt (key_order q k) ≡ false) → rest a es ≡ (k, v) ∷ rest (Some k) es
  rest-next a k v above [] s found least = absurd (true≢false (sym (ap is_some found)))
  rest-next a k v above (e ∷ es) s found least = by (λ q. rest-next a k v above es (second _ _ s) (at Greater q) (λ p f. least p (found-later (is_eq (key_order p e.0)) e.1 (find key_order p es) f))) (key_order k e.0) refl
    where
      below : T (below_all key_order e.0 es)
      below = subst T (sym (first _ _ s)) tt

      at : (o : Ordering) → key_order k e.0 ≡ o → cond (is_eq o) (Some e.1) (find key_order k es) ≡ Some v
      at o q = ap (λ r. cond (is_eq r) (Some e.1) (find key_order k es)) (sym q) ∙ found

      kept : (b : Bool) → is_above a e.0 ≡ b → rest a (e ∷ es) ≡ cond b (e ∷ rest a es) (rest a es)
      kept b q = ap (λ c. cond c (e ∷ rest a es) (rest a es)) q

      after : (o : Ordering) → key_order k e.0 ≡ o → rest (Some k) (e ∷ es) ≡ cond (is_lt o) (e ∷ rest (Some k) es) (rest (Some k) es)
      after o q = ap (λ r. cond (is_lt r) (e ∷ rest (Some k) es) (rest (Some k) es)) q

      lower : key_order k e.0 ≡ Greater → key_order e.0 k ≡ Less
      lower q = key_total.antisymm e.0 k ∙ ap ordering_reverse q

      skipped : key_order k e.0 ≡ Greater → (b : Bool) → is_above a e.0 ≡ b → is_above a e.0 ≡ false
      skipped q true f = absurd (true≢false (sym (ap is_lt (lower q)) ∙ least e.0 (found-itself e es) f))
      skipped q false f = f

      by : (key_order k e.0 ≡ Greater → rest a es ≡ (k, v) ∷ rest (Some k) es) → (o : Ordering) → key_order k e.0 ≡ o → rest a (e ∷ es) ≡ (k, v) ∷ rest (Some k) (e ∷ es)
      by later Less q = absurd (true≢false (sym (ap is_some (sym (absent-below e.0 k (ap is_lt (key_total.antisymm e.0 k ∙ ap ordering_reverse q)) es below) ∙ at Less q))))
      by later Equal q =
          let key : k ≡ e.0 = same_text k e.0 q in
          let value : v ≡ e.1 = ap (λ o. unwrap_or o v) (sym (at Equal q)) in
          kept true (ap (is_above a) (sym key) ∙ above)
          ∙ (λ i. (sym key i, sym value i) ∷ rest-all (is_above a) e.0 (λ y. above_up a e.0 y (ap (is_above a) (sym key) ∙ above)) es below i)
          ∙ ap (λ l. (k, v) ∷ l) (sym (after Equal q ∙ rest-all (is_above (Some k)) e.0 (λ y f. ap (λ x. is_lt (key_order x y)) key ∙ f) es below))
      by later Greater q =
          kept false (skipped q (is_above a e.0) refl)
          ∙ later q
          ∙ ap (λ l. (k, v) ∷ l) (sym (after Greater q))

  pub rest-none : (es : List (List ℕ × X)) → rest None es ≡ es
  rest-none [] = refl
  rest-none (e ∷ es) = ap (λ l. e ∷ l) (rest-none es)

is_some-map : {A B : Type 0} (f : A → B) (o : Option A) → is_some (option_map f o) ≡ is_some o
is_some-map f None = refl
is_some-map f (Some x) = refl

module _ {A : Type 0} (input : A → HashWrites) where
  absent : (k : List ℕ) (es : List (List ℕ × A)) → AllByRecursion (λ y. same_key k y ≡ false) (keys_of es) → attribute_at es k ≡ None
  absent k [] h = refl
  absent k (e ∷ es) h = ap (λ b. cond b (Some e.1) (attribute_at es k)) h.0 ∙ absent k es h.1

  -- distinct keys are as many by rising key
  pub length-by_key : (es : List (List ℕ × A)) → IsDistinct same_key (keys_of es) → length (by_key input es) ≡ length es
  length-by_key [] d = sym (len-entries (empty {X = HashWrites} {R = key_order})) ∙ len-empty key_order HashWrites
  length-by_key (e ∷ es) d =
      let m = from_entries {R = key_order} (map (λ p. (p.0, input p.1)) es) in
      let rest_long : len m ≡ length es = len-entries m ∙ length-by_key es (IsDistinct-tail same_key e.0 (keys_of es) d) in
      sym (len-entries (from_entries {R = key_order} (map (λ p. (p.0, input p.1)) (e ∷ es)))) ∙ len-insert key_total m e.0 (input e.1)
      ∙ ap (λ o. cond (is_some o) (len m) (len m + 1)) (get-from_entries key_total (map (λ p. (p.0, input p.1)) es) e.0 ∙ find-map input e.0 es ∙ ap (option_map input) (absent e.0 es (IsDistinct-head same_key e.0 (keys_of es) d)))
      ∙ omega (arith, rest_long)

  pub sorted-by_key : (es : List (List ℕ × A)) → T (is_sorted key_order (by_key input es))
  sorted-by_key es = entries_sorted (from_entries {R = key_order} (map (λ p. (p.0, input p.1)) es))

  found-pair : (es : List (List ℕ × A)) (q : List ℕ) → is_some (find key_order q (by_key input es)) ≡ true → is_some (attribute_at es q) ≡ true
  found-pair es q f = sym (is_some-map input (attribute_at es q)) ∙ ap is_some (sym (find-by_key input es q)) ∙ f

  -- what is still to be fed: the pairs above the bound
  abbrev pub still : Option (List ℕ) → List (List ℕ × A) → HashWrites
  still a es = flat_map (λ p. fed.str p.0 ++ p.1) (rest a (by_key input es))

  pub still-next : (a : Option (List ℕ)) (es : List (List ℕ × A)) (k : List ℕ) (v : A) → IsNextPair a es (Some (k, v)) → rest a (by_key input es) ≡ (k, input v) ∷ rest (Some k) (by_key input es)
  still-next a es k v h =
      rest-next a k (input v) h.1 (by_key input es) (sorted-by_key es) (find-by_key input es k ∙ ap (option_map input) h.0) (λ q f above. h.2 q (found-pair es q f, above))

  pub still-less : (a : Option (List ℕ)) (es : List (List ℕ × A)) (k : List ℕ) (v : A) → IsNextPair a es (Some (k, v)) → length (rest (Some k) (by_key input es)) < length (rest a (by_key input es))
  still-less a es k v h = omega (arith, ap length (still-next a es k v h))

  pub still-end : (a : Option (List ℕ)) (es : List (List ℕ × A)) → IsNextPair a es None → still a es ≡ []
  still-end a es h = ap (flat_map (λ p. fed.str p.0 ++ p.1)) (rest-end a (by_key input es) (λ q f above. h q (found-pair es q f, above)))

  module _ {S : Type 0} (write : S → List ℕ → S) where
    -- a turn feeds the next pair
    pub fed-next : (a : Option (List ℕ)) (es : List (List ℕ × A)) (k : List ℕ) (v : A) → IsNextPair a es (Some (k, v)) → (s t u : S) → t ≡ fold write s (fed.str k) → u ≡ fold write t (input v)
        → fold write u (still (Some k) es) ≡ fold write s (still a es)
    fed-next a es k v h s t u p q =
        sym (ap (λ l. fold write s (flat_map (λ d. fed.str d.0 ++ d.1) l)) (still-next a es k v h)
        ∙ fold-append write s (fed.str k ++ input v) (still (Some k) es)
        ∙ ap (λ r. fold write r (still (Some k) es)) (fold-append write s (fed.str k) (input v) ∙ sym (q ∙ ap (λ r. fold write r (input v)) p)))

    -- at the start all are still to be fed
    pub fed-start : (es : List (List ℕ × A)) → IsDistinct same_key (keys_of es) → (s t : S) (n : ℕ) → n ≡ length es → t ≡ fold write s (fed.usize n) → fold write t (still None es) ≡ fold write s (dict_input input es)
    fed-start es d s t n is p =
        ap (λ l. fold write t (flat_map (λ q. fed.str q.0 ++ q.1) l)) (rest-none (by_key input es))
        ∙ ap (λ r. fold write r (flat_map (λ q. fed.str q.0 ++ q.1) (by_key input es))) (p ∙ ap (λ m. fold write s (fed.usize m)) (is ∙ sym (length-by_key es d)))
        ∙ sym (fold-append write s (fed.usize (length (by_key input es))) (flat_map (λ q. fed.str q.0 ++ q.1) (by_key input es)))

    -- and at the end nothing is
    pub fed-end : (a : Option (List ℕ)) (es : List (List ℕ × A)) → IsNextPair a es None → (s : S) → fold write s (still a es) ≡ s
    fed-end a es h s = ap (fold write s) (still-end a es h)
