-- Names that are given, from one row to the next.
use Rattle.std.proofs.Common.{◌≡◌, ◌↔◌, ◌&&◌, ℕ, ◌+◌, ◌<◌, ◌≤◌, Bool, true, false, cond, nat_eq, bytes_eq, List, length, get_or, Option, Some, None, IsSome, is_some, refl, sym, ap, subst, subst₂, ◌∙◌, ⊎_elim, eqb-true, eq-eqb, arith}
use Rattle.std.proofs.lemmas.Bool.{and_parts, and_from, cases_lt, false≢true}
use Rattle.std.proofs.lemmas.Slice.Eq.{bytes_eq-Decides}
use Rattle.ir_text_tree.specs.declared.row.Part.{Part}
use Rattle.ir_text_tree.specs.declared.row.Row.{Row}
use Rattle.ir_text_names.specs.Rows.{part_of}
use Rattle.ir_text_names.specs.Given.{given_name, IsGiven, IsAgain, AreAsked, AreGiven}

place_is : (s t : ℕ) (m n : List ℕ) → (nat_eq s t && bytes_eq m n) ≡ true → (s ≡ t) × (m ≡ n)
place_is s t m n e = let both = and_parts (nat_eq s t) (bytes_eq m n) e in (eqb-true s t both.0, (bytes_eq-Decides m n).0 both.1)

place_same : (s t : ℕ) (m n : List ℕ) → s ≡ t → m ≡ n → (nat_eq s t && bytes_eq m n) ≡ true
place_same s t m n e f = and_from (nat_eq s t) (bytes_eq m n) (eq-eqb s t e) ((bytes_eq-Decides m n).1 f)

some_cond : (b : Bool) (i : ℕ) (o : Option ℕ) → IsSome o → IsSome (cond b (Some i) o)
some_cond true i o h = refl
some_cond false i o h = h

some_there : (b : Bool) (i : ℕ) (o : Option ℕ) → b ≡ true → IsSome (cond b (Some i) o)
some_there true i o e = refl
some_there false i o e = absurd (false≢true e)

same_row : (i j : ℕ) → Some i ≡ Some j → i ≡ j
same_row i j e = cc

pub some_of : (o : Option ℕ) → is_some o ≡ true → (i : ℕ) × (o ≡ Some i)
some_of None e = absurd (false≢true e)
some_of (Some i) e = (i, refl)

-- a row that gives no such name, or in a scope that is not asked for
given_kept : (part : Part) (text : List ℕ) (rows : List Row) (scopes : List ℕ) (asked : ℕ → Bool) (n : ℕ) (f g : ℕ → List ℕ → Option ℕ) → ((part_of rows n ≡ part) × (asked (get_or scopes n 0) ≡ true) → ⊥) → ((s : ℕ) (m : List ℕ) → g s m ≡ f s m) → AreGiven part text rows scopes asked n f → AreGiven part text rows scopes asked (n + 1) g
given_kept part text rows scopes asked n f g other same h = record {
  all = λ i lt p t.
      ⊎_elim (λ (l : i < n). subst (λ (o : Option ℕ). IsSome o) (sym (same (get_or scopes i 0) (given_name part text rows i))) (h.all i l p t))
      (λ (l : n ≤ i). let e : i ≡ n = omega arith in absurd (other (subst (λ (k : ℕ). part_of rows k ≡ part) e p, subst (λ (k : ℕ). asked (get_or scopes k 0) ≡ true) e t))) (cases_lt i n);
  only = λ s m i e. let k = h.only s m i (sym (same s m) ∙ e) in let lt : i < n = k.0 in (omega arith, k.1);
}

put_only : (part : Part) (text : List ℕ) (rows : List Row) (scopes : List ℕ) (asked : ℕ → Bool) (n : ℕ) (f : ℕ → List ℕ → Option ℕ) → part_of rows n ≡ part → AreGiven part text rows scopes asked n f
    → (s : ℕ) (m : List ℕ) (i : ℕ) (b : Bool) → b ≡ (nat_eq (get_or scopes n 0) s && bytes_eq (given_name part text rows n) m) → cond b (Some n) (f s m) ≡ Some i → (i < n + 1) × IsGiven part text rows scopes i s m
put_only part text rows scopes asked n f is h s m i true t e =
    let same : n ≡ i = same_row n i e in
    let place = place_is (get_or scopes n 0) s (given_name part text rows n) m (sym t) in
    (omega arith, subst (λ (k : ℕ). IsGiven part text rows scopes k s m) same (is, place.0, place.1))
put_only part text rows scopes asked n f is h s m i false t e = let k = h.only s m i e in let lt : i < n = k.0 in (omega arith, k.1)

-- one that gives one
given_put : (part : Part) (text : List ℕ) (rows : List Row) (scopes : List ℕ) (asked : ℕ → Bool) (n : ℕ) (f g : ℕ → List ℕ → Option ℕ) → part_of rows n ≡ part
    → ((s : ℕ) (m : List ℕ) → g s m ≡ cond (nat_eq (get_or scopes n 0) s && bytes_eq (given_name part text rows n) m) (Some n) (f s m)) → AreGiven part text rows scopes asked n f → AreGiven part text rows scopes asked (n + 1) g
given_put part text rows scopes asked n f g is puts h = record {
  all = λ i lt p t.
      let s = get_or scopes i 0 in
      let m = given_name part text rows i in
      let b = nat_eq (get_or scopes n 0) s && bytes_eq (given_name part text rows n) m in
      subst (λ (o : Option ℕ). IsSome o) (sym (puts s m))
      (⊎_elim (λ (l : i < n). some_cond b n (f s m) (h.all i l p t))
      (λ (l : n ≤ i). let e : n ≡ i = omega arith in some_there b n (f s m) (place_same (get_or scopes n 0) s (given_name part text rows n) m (ap (λ (k : ℕ). get_or scopes k 0) e) (ap (given_name part text rows) e))) (cases_lt i n));
  only = λ s m i e. put_only part text rows scopes asked n f is h s m i (nat_eq (get_or scopes n 0) s && bytes_eq (given_name part text rows n) m) refl (sym (puts s m) ∙ e);
}

-- row n gives such a name, in a scope that is asked for
abbrev pub GivesHere : Part → List Row → List ℕ → (ℕ → Bool) → ℕ → Type 0
GivesHere part rows scopes asked n = (part_of rows n ≡ part) × (asked (get_or scopes n 0) ≡ true)

-- what is known behind row n, which gives such a name or not
pub given_more : (part : Part) (text : List ℕ) (rows : List Row) (scopes : List ℕ) (asked : ℕ → Bool) (n : ℕ) (f g : ℕ → List ℕ → Option ℕ) (b : Bool) → ((b ≡ true) ↔ GivesHere part rows scopes asked n)
    → ((s : ℕ) (m : List ℕ) → g s m ≡ cond (b && (nat_eq (get_or scopes n 0) s && bytes_eq (given_name part text rows n) m)) (Some n) (f s m)) → AreGiven part text rows scopes asked n f → AreGiven part text rows scopes asked (n + 1) g
given_more part text rows scopes asked n f g true is puts h = given_put part text rows scopes asked n f g (is.0 refl).0 puts h
given_more part text rows scopes asked n f g false is puts h = given_kept part text rows scopes asked n f g (λ p. false≢true (is.1 p)) puts h

abbrev no_row_there : Option ℕ
no_row_there = None

not_there : (i : ℕ) → no_row_there ≡ Some i → ⊥
not_there i e = cc

-- nothing is known before all rows
pub given_none : (part : Part) (text : List ℕ) (rows : List Row) (scopes : List ℕ) (asked : ℕ → Bool) (f : ℕ → List ℕ → Option ℕ) → ((s : ℕ) (m : List ℕ) → f s m ≡ None) → AreGiven part text rows scopes asked 0 f
given_none part text rows scopes asked f none = record {
  all = λ i lt p t. absurd (omega (arith, lt));
  only = λ s m i e. absurd (not_there i (sym (none s m) ∙ e));
}

-- the name was given before
pub again_is : (part : Part) (text : List ℕ) (rows : List Row) (scopes : List ℕ) (asked : ℕ → Bool) (n : ℕ) (f : ℕ → List ℕ → Option ℕ) (b twice : Bool) → ((b ≡ true) ↔ GivesHere part rows scopes asked n) → twice ≡ (b && is_some (f (get_or scopes n 0) (given_name part text rows n)))
    → AreGiven part text rows scopes asked n f → twice ≡ true → IsAgain part text rows scopes n
again_is part text rows scopes asked n f b twice is e h t =
    let both = and_parts b (is_some (f (get_or scopes n 0) (given_name part text rows n))) (sym e ∙ t) in
    let known = some_of (f (get_or scopes n 0) (given_name part text rows n)) both.1 in
    let given = h.only (get_or scopes n 0) (given_name part text rows n) known.0 known.1 in
    ((is.0 both.0).0, (known.0, given.0, given.1))

pub again_told : (part : Part) (text : List ℕ) (rows : List Row) (scopes : List ℕ) (asked : ℕ → Bool) (n : ℕ) (f : ℕ → List ℕ → Option ℕ) (b twice : Bool) → n < length rows → AreAsked part rows scopes asked → ((b ≡ true) ↔ GivesHere part rows scopes asked n)
    → twice ≡ (b && is_some (f (get_or scopes n 0) (given_name part text rows n))) → AreGiven part text rows scopes asked n f → IsAgain part text rows scopes n → twice ≡ true
again_told part text rows scopes asked n f b twice within enough is e h a =
    let j = a.1.0 in
    let g = a.1.2 in
    let here : asked (get_or scopes n 0) ≡ true = enough j n a.1.1 within g.0 a.0 g.1 in
    e ∙ and_from b (is_some (f (get_or scopes n 0) (given_name part text rows n))) (is.1 (a.0, here))
    (subst₂ (λ (s : ℕ) (m : List ℕ). IsSome (f s m)) g.1 g.2 (h.all j a.1.1 g.0 (ap asked g.1 ∙ here)))
