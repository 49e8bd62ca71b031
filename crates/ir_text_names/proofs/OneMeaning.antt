-- Regions stand in one another or beside one another, and so a name means one thing.
use Rattle.std.proofs.Common.{◌≡◌, ◌⊎◌, ℕ, zero, suc, ◌+◌, ◌-◌, ◌<◌, ◌≤◌, List, [], ◌∷◌, length, get_or, sym, ap, ◌∙◌, inl, inr, ⊎_elim, zero-add, suc-add, arith}
use Rattle.std.proofs.lemmas.Bool.{cases_lt, cases_order}
use Rattle.ir_text_tree.specs.declared.row.Part.{Part}
use Rattle.ir_text_tree.specs.declared.row.Part.TheVariants as parts
use Rattle.ir_text_tree.specs.declared.row.Row.{Row}
use Rattle.ir_text_names.specs.Rows.{text_of, top, scopes_from, regions_behind, region_of}
use Rattle.ir_text_names.specs.Values.{IsInRegion, NamesValue, IsClear}
use Rattle.ir_text_names.specs.Blocks.{NamesBlock, IsBlockAgain}
use Rattle.ir_text_names.proofs.NamedBlocks.{part_within, result_is_no_label}
use Rattle.ir_text_names.proofs.Scopes.{region_at_most}

-- the first is at most n, and each other at most the one before it
abbrev Descends : ℕ → List ℕ → Type 0
Descends n [] = Unit {0}
Descends n (x ∷ xs) = (x ≤ n) × Descends x xs

abbrev Among : ℕ → List ℕ → Type 0
Among s [] = ⊥
Among s (x ∷ xs) = (x ≡ s) ⊎ Among s xs

descends_more : (m n : ℕ) (xs : List ℕ) → m ≤ n → Descends m xs → Descends n xs
descends_more m n [] le h = tt
descends_more m n (x ∷ xs) le h = let first : x ≤ m = h.0 in (omega arith, h.1)

descends_on : (part : Part) (n : ℕ) (around : List ℕ) → Descends n around → Descends (suc n) (regions_behind part (suc n) around)
descends_on parts.Open n around h = (omega arith, descends_more n (suc n) around (omega arith) h)
descends_on parts.Close n [] h = tt
descends_on parts.Close n (o ∷ around) h = let first : o ≤ n = h.0 in descends_more o (suc n) around (omega arith) h.1
descends_on _ n around h = descends_more n (suc n) around (omega arith) h

among_at_most : (n s : ℕ) (xs : List ℕ) → Descends n xs → Among s xs → s ≤ n
among_at_most n s [] h a = absurd a
among_at_most n s (x ∷ xs) h a =
    let first : x ≤ n = h.0 in
    ⊎_elim (λ (e : x ≡ s). omega (arith, first, e)) (λ (b : Among s xs). let le = among_at_most x s xs h.1 b in omega (arith, le, first)) a

among_top : (n s : ℕ) (xs : List ℕ) → Descends n xs → Among s xs → s ≤ top xs
among_top n s [] h a = absurd a
among_top n s (x ∷ xs) h a = ⊎_elim (λ (e : x ≡ s). omega (arith, e)) (λ (b : Among s xs). among_at_most x s xs h.1 b) a

top_among : (s : ℕ) (around : List ℕ) → top around ≡ s → (s ≡ 0) ⊎ Among s around
top_among s [] e = inl (sym e)
top_among s (x ∷ xs) e = inr (inl e)

-- a region that began before a row was open before it
was_open : (part : Part) (at s : ℕ) (around : List ℕ) → s ≤ at → Among s (regions_behind part (suc at) around) → Among s around
was_open parts.Open at s around le a = ⊎_elim (λ (e : suc at ≡ s). absurd (omega (arith, e, le))) (λ (b : Among s around). b) a
was_open parts.Close at s [] le a = a
was_open parts.Close at s (o ∷ around) le a = inr a
was_open _ at s around le a = a

came_from : (rows : List Row) (around : List ℕ) (at i s : ℕ) → get_or (scopes_from regions_behind around at rows) i 0 ≡ s → s ≤ at → (s ≡ 0) ⊎ Among s around
unfolding scopes_from
came_from [] around at i s e le = inl (sym e)
came_from (r ∷ rows) around at zero s e le = top_among s around e
came_from (r ∷ rows) around at (suc i) s e le =
    ⊎_elim (λ (z : s ≡ 0). inl z) (λ (a : Among s (regions_behind r.part (suc at) around)). inr (was_open r.part at s around le a)) (came_from rows (regions_behind r.part (suc at) around) (suc at) i s e (omega arith))

between : (rows : List Row) (around : List ℕ) (at k j s : ℕ) → Descends at around → get_or (scopes_from regions_behind around at rows) (k + j) 0 ≡ s → s ≤ at + k → s ≤ get_or (scopes_from regions_behind around at rows) k 0
unfolding scopes_from
between [] around at k j s h e le = omega (arith, e)
between (r ∷ rows) around at zero j s h e le =
    let small : s ≤ at = omega arith in
    let here : get_or (scopes_from regions_behind around at (r ∷ rows)) j 0 ≡ s = ap (λ (n : ℕ). get_or (scopes_from regions_behind around at (r ∷ rows)) n 0) (sym (zero-add j)) ∙ e in
    ⊎_elim (λ (z : s ≡ 0). omega (arith, z)) (λ (a : Among s around). among_top at s around h a) (came_from (r ∷ rows) around at j s here small)
between (r ∷ rows) around at (suc k) j s h e le =
    let next : get_or (scopes_from regions_behind (regions_behind r.part (suc at) around) (suc at) rows) (k + j) 0 ≡ s =
    ap (λ (n : ℕ). get_or (scopes_from regions_behind around at (r ∷ rows)) n 0) (sym (suc-add k j)) ∙ e in
    between rows (regions_behind r.part (suc at) around) (suc at) k j s (descends_on r.part at around h) next (omega arith)

-- from where its region begins up to a row, each row stands in that region or in one in it
region_between : (rows : List Row) (k m : ℕ) → k ≤ m → region_of rows m ≤ k → region_of rows m ≤ region_of rows k
region_between rows k m le begins =
    let sum : k + (m - k) ≡ m = omega arith in
    between rows [] 0 k (m - k) (region_of rows m) tt (ap (region_of rows) sum) (omega arith)

not_two : (text : List ℕ) (rows : List Row) (u d e : ℕ) → IsClear text rows (length rows) → d < e → NamesValue text rows u d → NamesValue text rows u e → ⊥
not_two text rows u d e clear lt a b =
    let same : text_of text rows d ≡ text_of text rows e = a.2 ∙ sym b.2 in
    let around : IsInRegion rows e d → ⊥ = λ inside. clear e b.1.0 (b.1, (d, lt, a.1, same, inl inside)) in
    let within : IsInRegion rows d e → ⊥ = λ inside. clear e b.1.0 (b.1, (d, lt, a.1, same, inr inside)) in
    let least : region_of rows d ≤ d = region_at_most rows d in
    let begins : region_of rows e ≤ u = b.3.0 in
    let behind : region_of rows e ≤ d → ⊥ = λ le. within (le, λ z. let from : e ≤ z.0 = z.1 in let to : z.0 < d = z.2 in absurd (omega (arith, from, to, lt))) in
    ⊎_elim (λ (l : u < d). behind (omega (arith, begins, l)))
    (λ (l : d ≤ u).
    around (
      omega (arith, least, lt),
      λ z.
          let from : d ≤ z.0 = z.1 in
          let to : z.0 < e = z.2 in
          ⊎_elim (λ (m : z.0 < u). a.3.1 (z.0, z.1, m, z.3, z.4))
          (λ (m : u ≤ z.0).
          let inner : region_of rows e ≤ region_of rows z.0 = region_between rows z.0 e (omega (arith, to)) (omega (arith, begins, m)) in
          behind (omega (arith, inner, z.4, least))) (cases_lt z.0 u),
    )) (cases_lt u d)

-- where nothing is defined twice, an operand names no two values
pub one_value : (text : List ℕ) (rows : List Row) (u d e : ℕ) → IsClear text rows (length rows) → NamesValue text rows u d → NamesValue text rows u e → d ≡ e
one_value text rows u d e clear a b =
    ⊎_elim (λ (same : d ≡ e). same)
    (λ (o : (d < e) ⊎ (e < d)). ⊎_elim (λ (lt : d < e). absurd (not_two text rows u d e clear lt a b)) (λ (lt : e < d). absurd (not_two text rows u e d clear lt b a)) o) (cases_order d e)

one_in_order : (text : List ℕ) (rows : List Row) (s l m : ℕ) → ((k : ℕ) → k < length rows → IsBlockAgain text rows k → ⊥) → l < m → NamesBlock text rows s l → NamesBlock text rows s m → ⊥
one_in_order text rows s l m clear lt a b =
    let g = a.1 in
    let h = b.1 in
    clear m (part_within rows m parts.Label h.0 result_is_no_label) (h.0, (l, lt, (g.0, g.1 ∙ sym h.1, g.2 ∙ sym h.2)))

-- where no block's name is given twice in a region, a successor names no two blocks
pub one_block : (text : List ℕ) (rows : List Row) (s l m : ℕ) → ((k : ℕ) → k < length rows → IsBlockAgain text rows k → ⊥) → NamesBlock text rows s l → NamesBlock text rows s m → l ≡ m
one_block text rows s l m clear a b =
    ⊎_elim (λ (same : l ≡ m). same)
    (λ (o : (l < m) ⊎ (m < l)). ⊎_elim (λ (lt : l < m). absurd (one_in_order text rows s l m clear lt a b)) (λ (lt : m < l). absurd (one_in_order text rows s m l clear lt b a)) o) (cases_order l m)
