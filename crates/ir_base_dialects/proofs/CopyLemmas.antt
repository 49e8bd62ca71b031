-- Copies of attribute dictionaries.
use Rattle.std.proofs.Common.{◌≡◌, ℕ, ◌+◌, Bool, true, false, cond, not, ◌||◌, List, [], ◌∷◌, ◌++◌, filter, take, slice_get, Some, None, is_some, unwrap_or, zero, suc, refl, sym, ap, subst, ◌∙◌, true≢false}
use Rattle.std.specs.List.{IsDistinct}
use Rattle.std.specs.Map.{keys_of, lookup}
use Rattle.std.specs.Cmp.Lexicographic.{nat_list_eq_equiv}
use Rattle.std.proofs.lemmas.List.{take_more, append-nil}
use Rattle.std.proofs.lemmas.List.Elements.{filter-append}
use Rattle.std.proofs.lemmas.Option.{get_or_from_slice_get, slice_get_within}
use Rattle.indexmap.proofs.MapLemmas.{absent_before}
use Rattle.indexmap.proofs.CallerLemmas.{insert_entry-new}
use Rattle.indexmap.specs.IndexMap.{IndexMap, get, insert_entry}
use Rattle.ir_base_dialects.specs.Attributes.{same_key, kept_pairs, AreCopies}

module _ {A : Type 0} (t : List ℕ → Bool) where
  -- what isn't there isn't among those that a filter keeps
  none-filter : (p : List ℕ × A → Bool) (es : List (List ℕ × A)) → lookup t es ≡ None → lookup t (filter p es) ≡ None
  none-filter p [] none = refl
  none-filter p (e ∷ es) none = by (t e.0) refl (p e) (none-filter p es)
    where
      by : (b : Bool) → t e.0 ≡ b → (kept : Bool) → (lookup t es ≡ None → lookup t (filter p es) ≡ None) → lookup t (cond kept (e ∷ filter p es) (filter p es)) ≡ None
      by true q kept rest = absurd (true≢false (ap is_some (sym (ap (λ b. cond b (Some e.1) (lookup t es)) q) ∙ none)))
      by false q true rest = ap (λ b. cond b (Some e.1) (lookup t (filter p es))) q ∙ rest (sym (ap (λ b. cond b (Some e.1) (lookup t es)) q) ∙ none)
      by false q false rest = rest (sym (ap (λ b. cond b (Some e.1) (lookup t es)) q) ∙ none)

  -- nor among copies
  none-copies : (same : A → A → Bool) (es fs : List (List ℕ × A)) → AreCopies same es fs → lookup t es ≡ None → lookup t fs ≡ None
  none-copies same [] [] h none = refl
  none-copies same [] (f ∷ fs) h none = absurd h
  none-copies same (e ∷ es) [] h none = absurd h
  none-copies same (e ∷ es) (f ∷ fs) h none = by (t e.0) refl (none-copies same es fs h.1)
    where
      by : (b : Bool) → t e.0 ≡ b → (lookup t es ≡ None → lookup t fs ≡ None) → lookup t (f ∷ fs) ≡ None
      by true q rest = absurd (true≢false (ap is_some (sym (ap (λ b. cond b (Some e.1) (lookup t es)) q) ∙ none)))
      by false q rest = ap (λ b. cond b (Some f.1) (lookup t fs)) (ap t h.0.0 ∙ q) ∙ rest (sym (ap (λ b. cond b (Some e.1) (lookup t es)) q) ∙ none)

-- one pair more
copies-push : {A : Type 0} (same : A → A → Bool) (es fs : List (List ℕ × A)) (e f : List ℕ × A) → AreCopies same es fs → (f.0 ≡ e.0) × (same f.1 e.1 ≡ true) → AreCopies same (es ++ e ∷ []) (fs ++ f ∷ [])
copies-push same [] [] e f h here = (here, tt)
copies-push same [] (x ∷ xs) e f h here = absurd h
copies-push same (x ∷ xs) [] e f h here = absurd h
copies-push same (x ∷ xs) (y ∷ ys) e f h here = (h.0, copies-push same xs ys e f h.1 here)

-- a list up to an item, that item and the rest
split_at : {X : Type 0} (xs : List X) (i : ℕ) (x : X) → Some x ≡ slice_get xs i → (rest : List X) × (xs ≡ take i xs ++ x ∷ rest)
split_at [] i x e = absurd (true≢false (ap is_some e))
split_at (y ∷ ys) zero x e = (ys, ap (λ z. z ∷ ys) (ap (λ o. unwrap_or o y) (sym e)))
split_at (y ∷ ys) (suc i) x e = let r = split_at ys i x e in (r.0, ap (λ l. y ∷ l) r.1)

module _ {A : Type 0} (outlined : A → Bool) (all : Bool) (es : List (List ℕ × A)) (unique : IsDistinct same_key (keys_of es))
    (i : ℕ) (k : List ℕ) (a : A) (at : Some (k, a) ≡ slice_get es i) where
  -- the pairs up to the one at i, and that one
  pub pairs-more : take (i + 1) es ≡ take i es ++ (k, a) ∷ []
  pairs-more = take_more es i (k, a) (slice_get_within es i (k, a) (sym at)) ∙ ap (λ e. take i es ++ e ∷ []) (get_or_from_slice_get es i (k, a) (k, a) (sym at))

  -- the kept pairs with the one at i
  kept-more : kept_pairs outlined all (take (i + 1) es) ≡ kept_pairs outlined all (take i es) ++ cond (all || not (outlined a)) ((k, a) ∷ []) []
  kept-more =
      ap (kept_pairs outlined all) pairs-more
      ∙ filter-append (λ (p : List ℕ × A). all || not (outlined p.1)) (take i es) ((k, a) ∷ [])

  -- its key isn't among those before it
  pub key_new : lookup (same_key k) (take i es) ≡ None
  key_new =
      let parts = split_at es i (k, a) at in
      absent_before nat_list_eq_equiv (take i es) parts.0 (k, a) (subst (λ l. IsDistinct same_key (keys_of l)) parts.1 unique)

  module _ {S : Type 0} (same : A → A → Bool) (m : IndexMap (List ℕ) A S) (so_far : AreCopies same (kept_pairs outlined all (take i es)) m.entries) where
    -- a pair that is kept is copied last
    pub copy-kept : (new : List (List ℕ × A)) (key : List ℕ) (copy : A) → (all || not (outlined a)) ≡ true → key ≡ k → same copy a ≡ true
        → new ≡ insert_entry same_key m.entries key copy → AreCopies same (kept_pairs outlined all (take (i + 1) es)) new
    copy-kept new key copy keeps is_key equal inserted =
        let absent : get same_key m k ≡ None
        = none-copies (same_key k) same (kept_pairs outlined all (take i es)) m.entries so_far (none-filter (same_key k) (λ p. all || not (outlined p.1)) (take i es) key_new) in
        let last : new ≡ m.entries ++ (k, copy) ∷ [] = inserted ∙ ap (λ q. insert_entry same_key m.entries q copy) is_key ∙ insert_entry-new same_key m k copy absent in
        let kept : kept_pairs outlined all (take (i + 1) es) ≡ kept_pairs outlined all (take i es) ++ (k, a) ∷ []
        = kept-more ∙ ap (λ b. kept_pairs outlined all (take i es) ++ cond b ((k, a) ∷ []) []) keeps in
        subst (λ l. AreCopies same l new) (sym kept)
        (subst (AreCopies same (kept_pairs outlined all (take i es) ++ (k, a) ∷ [])) (sym last)
        (copies-push same (kept_pairs outlined all (take i es)) m.entries (k, a) (k, copy) so_far (refl, equal)))

    -- another pair is left out
    pub copy-dropped : (all || not (outlined a)) ≡ false → AreCopies same (kept_pairs outlined all (take (i + 1) es)) m.entries
    copy-dropped drops =
        subst (λ l. AreCopies same l m.entries)
        (sym (kept-more ∙ ap (λ b. kept_pairs outlined all (take i es) ++ cond b ((k, a) ∷ []) []) drops ∙ append-nil (kept_pairs outlined all (take i es)))) so_far

-- all pairs are kept where all are wanted
pub kept-all : {A : Type 0} (outlined : A → Bool) (es : List (List ℕ × A)) → kept_pairs outlined true es ≡ es
kept-all outlined [] = refl
kept-all outlined (e ∷ es) = ap (λ l. e ∷ l) (kept-all outlined es)

-- a pair is kept where all are, or where it isn't to be outlined
pub keeps_all : (all o : Bool) → all ≡ true → (all || not o) ≡ true
keeps_all all o e = ap (λ b. b || not o) e

pub keeps_other : (all o r : Bool) → all ≡ false → r ≡ o → r ≡ false → (all || not o) ≡ true
keeps_other all o r e is f = ap (λ b. b || not o) e ∙ ap not (sym is ∙ f)

-- and else it isn't
pub drops : (all o r : Bool) → all ≡ false → r ≡ o → r ≡ true → (all || not o) ≡ false
drops all o r e is t = ap (λ b. b || not o) e ∙ ap not (sym is ∙ t)
