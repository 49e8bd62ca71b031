-- Definitions that stand before the operands that name them, from one row to the next.
use Rattle.std.proofs.Common.{◌≡◌, ◌⊎◌, ◌↔◌, ◌&&◌, ◌||◌, ℕ, ◌+◌, ◌<◌, ◌≤◌, Bool, true, false, cond, nat_eq, bytes_eq, leb, List, length, Option, Some, None, IfSome, is_some, refl, sym, ap, subst, ◌∙◌, inl, inr, ⊎_elim, leb-true, le-leb, eq-eqb, eqb-true, arith}
use Rattle.std.proofs.lemmas.Bool.{and_parts, and_from, or_cases, or_left, or_right, cases_lt, cases_Bool, false≢true, lt-leb}
use Rattle.std.proofs.lemmas.Slice.Eq.{bytes_eq-Decides}
use Rattle.ir_text_tree.specs.declared.row.Part.TheVariants as parts
use Rattle.ir_text_tree.specs.declared.row.Row.{Row}
use Rattle.ir_text_names.specs.Rows.{part_of, text_of, row_regions, region_of}
use Rattle.ir_text_names.specs.Values.{defines, IsDefinition, EndsBetween, IsInRegion, IsValueAgain, unless_ended, still_open, clashes, IsClear, IsNamedBefore}
use Rattle.ir_text_names.proofs.Scopes.{region_at_most}

-- ---- a row that is put under a name

same_row : (i j : ℕ) → Some i ≡ Some j → i ≡ j
same_row i j e = cc

abbrev no_row_there : Option ℕ
no_row_there = None

none_there : (i : ℕ) → no_row_there ≡ Some i → ⊥
none_there i e = cc

pub put_here : (b : Bool) (name : List ℕ) (n : ℕ) (old new : List ℕ → Option ℕ) → ((m : List ℕ) → new m ≡ cond (b && bytes_eq name m) (Some n) (old m)) → b ≡ true → new name ≡ Some n
put_here b name n old new puts is = puts name ∙ ap (λ (t : Bool). cond t (Some n) (old name)) (and_from b (bytes_eq name name) is ((bytes_eq-Decides name name).1 refl))

pub put_cases : (b : Bool) (name : List ℕ) (n : ℕ) (old new : List ℕ → Option ℕ) → ((m : List ℕ) → new m ≡ cond (b && bytes_eq name m) (Some n) (old m)) → (m : List ℕ) → ((b ≡ true) × (name ≡ m)) ⊎ (new m ≡ old m)
put_cases b name n old new puts m =
    ⊎_elim (λ (e : (b && bytes_eq name m) ≡ true). let both = and_parts b (bytes_eq name m) e in inl (both.0, (bytes_eq-Decides name m).0 both.1))
    (λ (e : (b && bytes_eq name m) ≡ false). inr (puts m ∙ ap (λ (t : Bool). cond t (Some n) (old m)) e)) (cases_Bool (b && bytes_eq name m))

-- ---- the last definition of each name

pub record AreLast (text : List ℕ) (rows : List Row) (n : ℕ) (known : List ℕ → Option ℕ) : Type 0 where
  pub all : (j : ℕ) → j < n → IsDefinition rows j → (i : ℕ) × (known (text_of text rows j) ≡ Some i) × (j ≤ i)
  pub only : (m : List ℕ) (i : ℕ) → known m ≡ Some i → (i < n) × IsDefinition rows i × (text_of text rows i ≡ m)

pub last_none : (text : List ℕ) (rows : List Row) (known : List ℕ → Option ℕ) → ((m : List ℕ) → known m ≡ None) → AreLast text rows 0 known
last_none text rows known none = record {
  all = λ j lt is. absurd (omega (arith, lt));
  only = λ m i e. absurd (none_there i (sym (none m) ∙ e));
}

pub last_more : (text : List ℕ) (rows : List Row) (n : ℕ) (b : Bool) (old new : List ℕ → Option ℕ) → n < length rows → b ≡ defines (part_of rows n) → ((m : List ℕ) → new m ≡ cond (b && bytes_eq (text_of text rows n) m) (Some n) (old m)) → AreLast text rows n old
    → AreLast text rows (n + 1) new
last_more text rows n b old new within e puts h = record {
  all = λ j lt is.
      let name = text_of text rows n in
      ⊎_elim (λ (l : j < n).
      ⊎_elim (λ (p : (b ≡ true) × (name ≡ text_of text rows j)).
      let here : new (text_of text rows j) ≡ Some n = subst (λ (m : List ℕ). new m ≡ Some n) p.1 (put_here b name n old new puts p.0) in
      let le : j ≤ n = omega arith in
      (n, here, le)) (λ (same : new (text_of text rows j) ≡ old (text_of text rows j)). let k = h.all j l is in (k.0, same ∙ k.1, k.2)) (put_cases b name n old new puts (text_of text rows j)))
      (λ (l : n ≤ j).
      let s : n ≡ j = omega arith in
      let holds : b ≡ true = e ∙ ap (λ (k : ℕ). defines (part_of rows k)) s ∙ is.1 in
      let le : j ≤ n = omega arith in
      (n, subst (λ (k : ℕ). new (text_of text rows k) ≡ Some n) s (put_here b name n old new puts holds), le)) (cases_lt j n);
  only = λ m i f.
      let name = text_of text rows n in
      ⊎_elim (λ (p : (b ≡ true) × (name ≡ m)).
      let here : new m ≡ Some n = subst (λ (x : List ℕ). new x ≡ Some n) p.1 (put_here b name n old new puts p.0) in
      let s : n ≡ i = same_row n i (sym here ∙ f) in
      let lt : i < n + 1 = omega arith in
      let is_d : IsDefinition rows n = (within, sym e ∙ p.0) in
      (lt, subst (IsDefinition rows) s is_d, subst (λ (k : ℕ). text_of text rows k ≡ m) s p.1))
      (λ (same : new m ≡ old m). let k = h.only m i (sym same ∙ f) in let l : i < n = k.0 in let lt : i < n + 1 = omega arith in (lt, k.1, k.2)) (put_cases b name n old new puts m);
}

-- ---- the last end of each region

pub record AreEnds (rows : List Row) (n : ℕ) (ends : ℕ → Option ℕ) : Type 0 where
  pub all : (k : ℕ) → k < n → part_of rows k ≡ parts.Close → (e : ℕ) × (ends (region_of rows k) ≡ Some e) × (k ≤ e)
  pub only : (s e : ℕ) → ends s ≡ Some e → (e < n) × (part_of rows e ≡ parts.Close) × (region_of rows e ≡ s)

pub ends_none : (rows : List Row) (ends : ℕ → Option ℕ) → ((s : ℕ) → ends s ≡ None) → AreEnds rows 0 ends
ends_none rows ends none = record {
  all = λ k lt is. absurd (omega (arith, lt));
  only = λ s e f. absurd (none_there e (sym (none s) ∙ f));
}

end_here : (b : Bool) (r n : ℕ) (old new : ℕ → Option ℕ) → ((s : ℕ) → new s ≡ cond (b && nat_eq r s) (Some n) (old s)) → b ≡ true → new r ≡ Some n
end_here b r n old new puts is = puts r ∙ ap (λ (t : Bool). cond t (Some n) (old r)) (and_from b (nat_eq r r) is (eq-eqb r r refl))

end_cases : (b : Bool) (r n : ℕ) (old new : ℕ → Option ℕ) → ((s : ℕ) → new s ≡ cond (b && nat_eq r s) (Some n) (old s)) → (s : ℕ) → ((b ≡ true) × (r ≡ s)) ⊎ (new s ≡ old s)
end_cases b r n old new puts s =
    ⊎_elim (λ (e : (b && nat_eq r s) ≡ true). let both = and_parts b (nat_eq r s) e in inl (both.0, eqb-true r s both.1))
    (λ (e : (b && nat_eq r s) ≡ false). inr (puts s ∙ ap (λ (t : Bool). cond t (Some n) (old s)) e)) (cases_Bool (b && nat_eq r s))

pub ends_more : (rows : List Row) (n : ℕ) (b : Bool) (old new : ℕ → Option ℕ) → ((b ≡ true) ↔ (part_of rows n ≡ parts.Close)) → ((s : ℕ) → new s ≡ cond (b && nat_eq (region_of rows n) s) (Some n) (old s)) → AreEnds rows n old → AreEnds rows (n + 1) new
ends_more rows n b old new is puts h = record {
  all = λ k lt close.
      let r = region_of rows n in
      ⊎_elim (λ (l : k < n).
      ⊎_elim (λ (p : (b ≡ true) × (r ≡ region_of rows k)).
      let here : new (region_of rows k) ≡ Some n = subst (λ (s : ℕ). new s ≡ Some n) p.1 (end_here b r n old new puts p.0) in
      let le : k ≤ n = omega arith in
      (n, here, le)) (λ (same : new (region_of rows k) ≡ old (region_of rows k)). let j = h.all k l close in (j.0, same ∙ j.1, j.2)) (end_cases b r n old new puts (region_of rows k)))
      (λ (l : n ≤ k).
      let s : n ≡ k = omega arith in
      let holds : b ≡ true = is.1 (subst (λ (x : ℕ). part_of rows x ≡ parts.Close) (sym s) close) in
      let le : k ≤ n = omega arith in
      (n, subst (λ (x : ℕ). new (region_of rows x) ≡ Some n) s (end_here b r n old new puts holds), le)) (cases_lt k n);
  only = λ s e f.
      let r = region_of rows n in
      ⊎_elim (λ (p : (b ≡ true) × (r ≡ s)).
      let here : new s ≡ Some n = subst (λ (x : ℕ). new x ≡ Some n) p.1 (end_here b r n old new puts p.0) in
      let same : n ≡ e = same_row n e (sym here ∙ f) in
      let lt : e < n + 1 = omega arith in
      (lt, subst (λ (k : ℕ). part_of rows k ≡ parts.Close) same (is.0 p.0), subst (λ (k : ℕ). region_of rows k ≡ s) same p.1))
      (λ (same : new s ≡ old s). let k = h.only s e (sym same ∙ f) in let l : e < n = k.0 in let lt : e < n + 1 = omega arith in (lt, k.1, k.2)) (end_cases b r n old new puts s);
}

-- ---- the last definition of a name, and whether its region is open yet

-- the region of d is open at row n, or it ended since
open_by : (rows : List Row) (n d : ℕ) (ends : ℕ → Option ℕ) (e : Option ℕ) → AreEnds rows n ends → ends (region_of rows d) ≡ e → ((unless_ended d e ≡ Some d) × (EndsBetween rows d n → ⊥)) ⊎ ((unless_ended d e ≡ None) × EndsBetween rows d n)
open_by rows n d ends None h is =
    inl (refl, λ between. let k = h.all between.0 between.2 between.3 in none_there k.0 (sym is ∙ ap ends (sym between.4) ∙ k.1))
open_by rows n d ends (Some k) h is =
    ⊎_elim (λ (lt : k < d).
    inl (
      ap (λ (b : Bool). cond b None (Some d)) (lt-leb d k lt),
      λ between.
          let j = h.all between.0 between.2 between.3 in
          let same : k ≡ j.0 = same_row k j.0 (sym is ∙ ap ends (sym between.4) ∙ j.1) in
          let from : d ≤ between.0 = between.1 in
          let to : between.0 ≤ j.0 = j.2 in
          absurd (omega (arith, lt, same, from, to)),
    )) (λ (le : d ≤ k). let e = h.only (region_of rows d) k is in inr (ap (λ (b : Bool). cond b None (Some d)) (le-leb d k le), (k, le, e.0, e.1, e.2))) (cases_lt k d)

-- no other definition of the name before a row whose region is open there, where nothing is defined twice
earlier_ended : (text : List ℕ) (rows : List Row) (d n j : ℕ) → IsClear text rows n → d < n → j < d → IsDefinition rows d → IsDefinition rows j → text_of text rows j ≡ text_of text rows d → IsInRegion rows n j → ⊥
earlier_ended text rows d n j clear lt before is_d is_j same inside =
    let least : region_of rows j ≤ j = region_at_most rows j in
    let le : region_of rows j ≤ d = omega (arith, least, before) in
    clear d lt (
      is_d,
      (
        j,
        before,
        is_j,
        same,
        inl (
          le,
          λ between. let l : between.0 < d = between.2 in let m : between.0 < n = omega (arith, l, lt) in inside.1 (between.0, between.1, m, between.3, between.4),
        ),
      ),
    )

-- so it is the last one, if it is one
last_one : (text : List ℕ) (rows : List Row) (n d j : ℕ) → IsClear text rows n → d < n → j ≤ d → IsDefinition rows d → IsDefinition rows j → text_of text rows j ≡ text_of text rows d → IsInRegion rows n j → j ≡ d
last_one text rows n d j clear lt le is_d is_j same inside =
    ⊎_elim (λ (l : j < d). absurd (earlier_ended text rows d n j clear lt l is_d is_j same inside)) (λ (l : d ≤ j). omega arith) (cases_lt j d)

-- what row n names before it
named_by : (text : List ℕ) (rows : List Row) (n : ℕ) (known : List ℕ → Option ℕ) (ends : ℕ → Option ℕ) (o : Option ℕ) → AreLast text rows n known → AreEnds rows n ends → part_of rows n ≡ parts.Operand → known (text_of text rows n) ≡ o
    → IsNamedBefore text rows n (still_open ends (row_regions rows) o)
named_by text rows n known ends None h g is e =
    λ clear d lt names. let k = h.all d lt names.1 in none_there k.0 (sym e ∙ ap known (sym names.2) ∙ k.1)
named_by text rows n known ends (Some d) h g is e =
    let k = h.only (text_of text rows n) d e in
    let o = unless_ended d (ends (region_of rows d)) in
    let before : d < n = k.0 in
    let least : region_of rows d ≤ d = region_at_most rows d in
    let begins : region_of rows d ≤ n = omega (arith, before, least) in
    ⊎_elim (λ (f : (o ≡ Some d) × (EndsBetween rows d n → ⊥)). subst (IsNamedBefore text rows n) (sym f.0) (is, k.1, k.2, (begins, f.1)))
    (λ (f : (o ≡ None) × EndsBetween rows d n).
    subst (IsNamedBefore text rows n) (sym f.0)
    (λ clear j lt names.
    let i = h.all j lt names.1 in
    let same : i.0 ≡ d = same_row i.0 d (sym i.1 ∙ ap known names.2 ∙ e) in
    let le : j ≤ d = subst (λ (x : ℕ). j ≤ x) same i.2 in
    let one = last_one text rows n d j clear before le k.1 names.1 (names.2 ∙ sym k.2) names.3 in
    names.3.1 (subst (λ (x : ℕ). EndsBetween rows x n) (sym one) f.1))) (open_by rows n d ends (ends (region_of rows d)) g refl)

-- the same, where the row is an operand or not
pub named_before_is : (text : List ℕ) (rows : List Row) (n : ℕ) (known : List ℕ → Option ℕ) (ends : ℕ → Option ℕ) (b : Bool) (o : Option ℕ) → AreLast text rows n known → AreEnds rows n ends → ((b ≡ true) ↔ (part_of rows n ≡ parts.Operand))
    → o ≡ cond b (still_open ends (row_regions rows) (known (text_of text rows n))) None → IsNamedBefore text rows n o
named_before_is text rows n known ends true o h g is e = subst (IsNamedBefore text rows n) (sym e) (named_by text rows n known ends (known (text_of text rows n)) h g (is.0 refl) refl)
named_before_is text rows n known ends false o h g is e = subst (IsNamedBefore text rows n) (sym e) (λ clear d lt names. false≢true (is.1 names.0))

-- ---- definitions that clash

some_is : (o : Option ℕ) (d : ℕ) → o ≡ Some d → is_some o ≡ true
some_is o d e = ap (λ (x : Option ℕ). is_some x) e

none_is : (o : Option ℕ) → o ≡ None → is_some o ≡ true → ⊥
none_is o e f = false≢true (sym (ap (λ (x : Option ℕ). is_some x) e) ∙ f)

clash_by : (text : List ℕ) (rows : List Row) (n : ℕ) (known : List ℕ → Option ℕ) (ends : ℕ → Option ℕ) (b : Bool) (o : Option ℕ) → n < length rows → AreLast text rows n known → AreEnds rows n ends → b ≡ defines (part_of rows n) → known (text_of text rows n) ≡ o
    → clashes b o (still_open ends (row_regions rows) o) (region_of rows n) ≡ true → IsValueAgain text rows n
clash_by text rows n known ends b None within h g is e t = absurd (false≢true t)
clash_by text rows n known ends b (Some d) within h g is e t =
    let k = h.only (text_of text rows n) d e in
    let around = unless_ended d (ends (region_of rows d)) in
    let both = and_parts b (is_some around || leb (region_of rows n) d) t in
    let before : d < n = k.0 in
    let least : region_of rows d ≤ d = region_at_most rows d in
    let begins : region_of rows d ≤ n = omega (arith, before, least) in
    let clash : IsInRegion rows n d ⊎ IsInRegion rows d n =
    ⊎_elim (λ (s : is_some around ≡ true).
    ⊎_elim (λ (f : (around ≡ Some d) × (EndsBetween rows d n → ⊥)). inl (begins, f.1)) (λ (f : (around ≡ None) × EndsBetween rows d n). absurd (none_is around f.0 s))
    (open_by rows n d ends (ends (region_of rows d)) g refl))
    (λ (l : leb (region_of rows n) d ≡ true).
    inr (leb-true (region_of rows n) d l, λ between. let from : n ≤ between.0 = between.1 in let to : between.0 < d = between.2 in absurd (omega (arith, from, to, before)))) (or_cases (is_some around) (leb (region_of rows n) d) both.1) in
    ((within, sym is ∙ both.0), (d, before, k.1, k.2, clash))

pub clash_is : (text : List ℕ) (rows : List Row) (n : ℕ) (known : List ℕ → Option ℕ) (ends : ℕ → Option ℕ) (b : Bool) → n < length rows → AreLast text rows n known → AreEnds rows n ends → b ≡ defines (part_of rows n)
    → clashes b (known (text_of text rows n)) (still_open ends (row_regions rows) (known (text_of text rows n))) (region_of rows n) ≡ true → IsValueAgain text rows n
clash_is text rows n known ends b within h g is t = clash_by text rows n known ends b (known (text_of text rows n)) within h g is refl t

told_by : (text : List ℕ) (rows : List Row) (n : ℕ) (known : List ℕ → Option ℕ) (ends : ℕ → Option ℕ) (b : Bool) (o : Option ℕ) → AreLast text rows n known → AreEnds rows n ends → b ≡ defines (part_of rows n) → known (text_of text rows n) ≡ o → IsClear text rows n
    → IsValueAgain text rows n → clashes b o (still_open ends (row_regions rows) o) (region_of rows n) ≡ true
told_by text rows n known ends b None h g is e clear again =
    let j = again.1 in
    let k = h.all j.0 j.1 j.2 in
    absurd (none_there k.0 (sym e ∙ ap known (sym j.3) ∙ k.1))
told_by text rows n known ends b (Some d) h g is e clear again =
    let j = again.1 in
    let k = h.only (text_of text rows n) d e in
    let i = h.all j.0 j.1 j.2 in
    let around = unless_ended d (ends (region_of rows d)) in
    let before : d < n = k.0 in
    let same : i.0 ≡ d = same_row i.0 d (sym i.1 ∙ ap known j.3 ∙ e) in
    let le : j.0 ≤ d = subst (λ (x : ℕ). j.0 ≤ x) same i.2 in
    let clash : (is_some around || leb (region_of rows n) d) ≡ true =
    ⊎_elim (λ (inside : IsInRegion rows n j.0).
    let one = last_one text rows n d j.0 clear before le k.1 j.2 (j.3 ∙ sym k.2) inside in
    or_left (is_some around) (leb (region_of rows n) d)
    (⊎_elim (λ (f : (around ≡ Some d) × (EndsBetween rows d n → ⊥)). some_is around d f.0) (λ (f : (around ≡ None) × EndsBetween rows d n). absurd (inside.1 (subst (λ (x : ℕ). EndsBetween rows x n) (sym one) f.1)))
    (open_by rows n d ends (ends (region_of rows d)) g refl)))
    (λ (inside : IsInRegion rows j.0 n). let begins : region_of rows n ≤ j.0 = inside.0 in or_right (is_some around) (leb (region_of rows n) d) (le-leb (region_of rows n) d (omega (arith, begins, le)))) j.4 in
    and_from b (is_some around || leb (region_of rows n) d) (is ∙ again.0.1) clash

pub clash_told : (text : List ℕ) (rows : List Row) (n : ℕ) (known : List ℕ → Option ℕ) (ends : ℕ → Option ℕ) (b : Bool) → AreLast text rows n known → AreEnds rows n ends → b ≡ defines (part_of rows n) → IsClear text rows n
    → IsValueAgain text rows n → clashes b (known (text_of text rows n)) (still_open ends (row_regions rows) (known (text_of text rows n))) (region_of rows n) ≡ true
clash_told text rows n known ends b h g is clear again = told_by text rows n known ends b (known (text_of text rows n)) h g is refl clear again

-- what is known is one of so many rows
pub known_within : (text : List ℕ) (rows : List Row) (n m : ℕ) (known : List ℕ → Option ℕ) (name : List ℕ) (o : Option ℕ) → AreLast text rows n known → o ≡ known name → n ≤ m → IfSome o (λ d. d < m)
known_within text rows n m known name None h e le = tt
known_within text rows n m known name (Some d) h e le = let k = h.only name d (sym e) in let lt : d < n = k.0 in omega (arith, le)
