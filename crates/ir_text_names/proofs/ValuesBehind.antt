-- Definitions that stand behind the operands that name them, from one row to the row before it.
use Rattle.std.proofs.Common.{◌≡◌, ◌⊎◌, ◌↔◌, ◌&&◌, ℕ, ◌+◌, ◌<◌, ◌≤◌, Bool, true, false, cond, bytes_eq, ltb, List, length, get_or, Option, Some, None, IfSome, refl, sym, ap, subst, ◌∙◌, inl, inr, ⊎_elim, le-leb, lt-ltb, ltb-true, arith}
use Rattle.std.proofs.lemmas.Bool.{and_parts, and_from, cases_lt, false≢true, lt-leb}
use Rattle.ir_text_tree.specs.declared.row.Part.TheVariants as parts
use Rattle.ir_text_tree.specs.declared.row.Row.{Row}
use Rattle.ir_text_names.specs.Rows.{part_of, text_of, row_regions, region_of}
use Rattle.ir_text_names.specs.Values.{defines, IsDefinition, reached, begins_before, IsNamedBehind}
use Rattle.ir_text_names.proofs.ValuesBefore.{put_here, put_cases}

same_row : (i j : ℕ) → Some i ≡ Some j → i ≡ j
same_row i j e = cc

abbrev no_row_there : Option ℕ
no_row_there = None

none_there : (i : ℕ) → no_row_there ≡ Some i → ⊥
none_there i e = cc

-- of each name that is defined from row n on, a definition whose region begins first
pub record AreWidest (text : List ℕ) (rows : List Row) (n : ℕ) (known : List ℕ → Option ℕ) : Type 0 where
  pub all : (j : ℕ) → n ≤ j → IsDefinition rows j → (d : ℕ) × (known (text_of text rows j) ≡ Some d) × (region_of rows d ≤ region_of rows j)
  pub only : (m : List ℕ) (d : ℕ) → known m ≡ Some d → (n ≤ d) × IsDefinition rows d × (text_of text rows d ≡ m)

pub widest_none : (text : List ℕ) (rows : List Row) (n : ℕ) (known : List ℕ → Option ℕ) → length rows ≤ n → ((m : List ℕ) → known m ≡ None) → AreWidest text rows n known
widest_none text rows n known past none = record {
  all = λ j le is. let lt : j < length rows = is.0 in absurd (omega (arith, le, past, lt));
  only = λ m d e. absurd (none_there d (sym (none m) ∙ e));
}

-- where the name was known, the row is put only if its region begins before
begins_less : (b : Bool) (regions : List ℕ) (n : ℕ) (o : Option ℕ) (d : ℕ) → o ≡ Some d → begins_before b regions n o ≡ true → get_or regions n 0 < get_or regions d 0
begins_less b regions n None d e t = absurd (none_there d e)
begins_less b regions n (Some x) d e t =
    let s : x ≡ d = same_row x d e in
    subst (λ (k : ℕ). get_or regions n 0 < get_or regions k 0) s (ltb-true (get_or regions n 0) (get_or regions x 0) (and_parts b (ltb (get_or regions n 0) (get_or regions x 0)) t).1)

begins_defines : (b : Bool) (regions : List ℕ) (n : ℕ) (o : Option ℕ) → begins_before b regions n o ≡ true → b ≡ true
begins_defines b regions n None t = t
begins_defines b regions n (Some x) t = (and_parts b (ltb (get_or regions n 0) (get_or regions x 0)) t).0

-- the row itself is put, or one is known that begins no later
known_here : (b : Bool) (regions : List ℕ) (n : ℕ) (o : Option ℕ) → b ≡ true → (begins_before b regions n o ≡ true) ⊎ ((d : ℕ) × (o ≡ Some d) × (get_or regions d 0 ≤ get_or regions n 0))
known_here b regions n None is = inl is
known_here b regions n (Some d) is =
    ⊎_elim (λ (lt : get_or regions n 0 < get_or regions d 0). inl (and_from b (ltb (get_or regions n 0) (get_or regions d 0)) is (lt-ltb (get_or regions n 0) (get_or regions d 0) lt))) (λ (le : get_or regions d 0 ≤ get_or regions n 0). inr (d, refl, le))
    (cases_lt (get_or regions n 0) (get_or regions d 0))

-- what is known of the names of rows from n on
widest_all : (text : List ℕ) (rows : List Row) (n : ℕ) (b : Bool) (old new : List ℕ → Option ℕ) → b ≡ defines (part_of rows n)
    → ((m : List ℕ) → new m ≡ cond (begins_before b (row_regions rows) n (old (text_of text rows n)) && bytes_eq (text_of text rows n) m) (Some n) (old m)) → AreWidest text rows (n + 1) old
    → (j : ℕ) → n ≤ j → IsDefinition rows j → (d : ℕ) × (new (text_of text rows j) ≡ Some d) × (region_of rows d ≤ region_of rows j)
widest_all text rows n b old new e puts h j le is =
    let name = text_of text rows n in
    let put = begins_before b (row_regions rows) n (old name) in
    let later : (j : ℕ) → n + 1 ≤ j → IsDefinition rows j → (d : ℕ) × (new (text_of text rows j) ≡ Some d) × (region_of rows d ≤ region_of rows j) =
    λ j le is.
    let k = h.all j le is in
    ⊎_elim (λ (p : (put ≡ true) × (name ≡ text_of text rows j)).
    let here : new (text_of text rows j) ≡ Some n = subst (λ (m : List ℕ). new m ≡ Some n) p.1 (put_here put name n old new puts p.0) in
    let less : region_of rows n < region_of rows k.0 = begins_less b (row_regions rows) n (old name) k.0 (ap old p.1 ∙ k.1) p.0 in
    let least : region_of rows k.0 ≤ region_of rows j = k.2 in
    let first : region_of rows n ≤ region_of rows j = omega (arith, less, least) in
    (n, here, first)) (λ (same : new (text_of text rows j) ≡ old (text_of text rows j)). (k.0, same ∙ k.1, k.2)) (put_cases put name n old new puts (text_of text rows j)) in
    ⊎_elim (λ (l : n < j). later j (omega arith) is)
    (λ (l : j ≤ n).
    let s : n ≡ j = omega arith in
    let holds : b ≡ true = e ∙ ap (λ (k : ℕ). defines (part_of rows k)) s ∙ is.1 in
    let own : (d : ℕ) × (new name ≡ Some d) × (region_of rows d ≤ region_of rows n) =
    ⊎_elim (λ (p : put ≡ true). let le : region_of rows n ≤ region_of rows n = omega arith in (n, put_here put name n old new puts p, le))
    (λ (p : (d : ℕ) × (old name ≡ Some d) × (region_of rows d ≤ region_of rows n)).
    ⊎_elim (λ (q : (put ≡ true) × (name ≡ name)). let le : region_of rows n ≤ region_of rows n = omega arith in (n, put_here put name n old new puts q.0, le)) (λ (same : new name ≡ old name). (p.0, same ∙ p.1, p.2))
    (put_cases put name n old new puts name)) (known_here b (row_regions rows) n (old name) holds) in
    subst (λ (k : ℕ). (d : ℕ) × (new (text_of text rows k) ≡ Some d) × (region_of rows d ≤ region_of rows k)) s own) (cases_lt n j)

pub widest_more : (text : List ℕ) (rows : List Row) (n : ℕ) (b : Bool) (old new : List ℕ → Option ℕ) → n < length rows → b ≡ defines (part_of rows n)
    → ((m : List ℕ) → new m ≡ cond (begins_before b (row_regions rows) n (old (text_of text rows n)) && bytes_eq (text_of text rows n) m) (Some n) (old m)) → AreWidest text rows (n + 1) old → AreWidest text rows n new
widest_more text rows n b old new within e puts h = record {
  all = widest_all text rows n b old new e puts h;
  only = λ m d f.
      let name = text_of text rows n in
      let put = begins_before b (row_regions rows) n (old name) in
      ⊎_elim (λ (p : (put ≡ true) × (name ≡ m)).
      let here : new m ≡ Some n = subst (λ (x : List ℕ). new x ≡ Some n) p.1 (put_here put name n old new puts p.0) in
      let s : n ≡ d = same_row n d (sym here ∙ f) in
      let le : n ≤ d = omega arith in
      let holds = begins_defines b (row_regions rows) n (old name) p.0 in
      let is_d : IsDefinition rows n = (within, sym e ∙ holds) in
      (le, subst (IsDefinition rows) s is_d, subst (λ (k : ℕ). text_of text rows k ≡ m) s p.1))
      (λ (same : new m ≡ old m). let k = h.only m d (sym same ∙ f) in let l : n + 1 ≤ d = k.0 in let le : n ≤ d = omega arith in (le, k.1, k.2)) (put_cases put name n old new puts m);
}

-- what row n names behind it
named_by : (text : List ℕ) (rows : List Row) (n : ℕ) (known : List ℕ → Option ℕ) (o : Option ℕ) → AreWidest text rows (n + 1) known → part_of rows n ≡ parts.Operand → known (text_of text rows n) ≡ o → IsNamedBehind text rows n (reached (row_regions rows) n o)
named_by text rows n known None h is e =
    λ d lt names. let le : n + 1 ≤ d = omega arith in let k = h.all d le names.1 in none_there k.0 (sym e ∙ ap known (sym names.2) ∙ k.1)
named_by text rows n known (Some d) h is e =
    let k = h.only (text_of text rows n) d e in
    let behind : n + 1 ≤ d = k.0 in
    ⊎_elim (λ (above : n < region_of rows d).
    subst (IsNamedBehind text rows n) (sym (ap (λ (b : Bool). cond b (Some d) None) (lt-leb (region_of rows d) n above)))
    (λ j lt names.
    let le : n + 1 ≤ j = omega arith in
    let i = h.all j le names.1 in
    let same : i.0 ≡ d = same_row i.0 d (sym i.1 ∙ ap known names.2 ∙ e) in
    let least : region_of rows d ≤ region_of rows j = subst (λ (x : ℕ). region_of rows x ≤ region_of rows j) same i.2 in
    let begins : region_of rows j ≤ n = names.3.0 in
    absurd (omega (arith, least, begins, above))))
    (λ (begins : region_of rows d ≤ n).
    subst (IsNamedBehind text rows n) (sym (ap (λ (b : Bool). cond b (Some d) None) (le-leb (region_of rows d) n begins)))
    (is, k.1, k.2, (begins, λ between. let from : d ≤ between.0 = between.1 in let to : between.0 < n = between.2 in absurd (omega (arith, from, to, behind))))) (cases_lt n (region_of rows d))

-- the same, where the row is an operand or not
pub named_behind_is : (text : List ℕ) (rows : List Row) (n : ℕ) (known : List ℕ → Option ℕ) (b : Bool) (o : Option ℕ) → AreWidest text rows (n + 1) known → ((b ≡ true) ↔ (part_of rows n ≡ parts.Operand))
    → o ≡ cond b (reached (row_regions rows) n (known (text_of text rows n))) None → IsNamedBehind text rows n o
named_behind_is text rows n known true o h is e = subst (IsNamedBehind text rows n) (sym e) (named_by text rows n known (known (text_of text rows n)) h (is.0 refl) refl)
named_behind_is text rows n known false o h is e = subst (IsNamedBehind text rows n) (sym e) (λ d lt names. false≢true (is.1 names.0))

-- what is known is one of so many rows
pub known_within : (text : List ℕ) (rows : List Row) (n m : ℕ) (known : List ℕ → Option ℕ) (name : List ℕ) (o : Option ℕ) → AreWidest text rows n known → o ≡ known name → length rows ≤ m → IfSome o (λ d. d < m)
known_within text rows n m known name None h e le = tt
known_within text rows n m known name (Some d) h e le = let k = h.only name d (sym e) in let lt : d < length rows = k.1.0 in omega (arith, le)
