-- What stands around rows, from one row to the next.
use Rattle.std.proofs.Common.{◌≡◌, ℕ, zero, suc, get_or, ◌+◌, ◌<◌, ◌≤◌, List, [], ◌∷◌, ◌++◌, length, drop, refl, sym, ap, ◌∙◌, append_assoc, append-nil, arith}
use Rattle.std.proofs.lemmas.List.{drop_more, drop_all}
use Rattle.ir_text_tree.specs.declared.row.Part.{Part}
use Rattle.ir_text_tree.specs.declared.row.Row.{Row}
use Rattle.ir_text_tree.specs.declared.row.Part.TheVariants as parts
use Rattle.ir_text_names.specs.Rows.{no_row, part_of, top, scopes_from, regions_behind, operations_behind, row_operations, region_of}

pub scopes_more : (behind : Part → ℕ → List ℕ → List ℕ) (rows : List Row) (done out around inner : List ℕ) (at first : ℕ) (total : List ℕ) → at < length rows → out ≡ done ++ first ∷ [] → first ≡ top around → inner ≡ behind (part_of rows at) (at + 1) around
    → done ++ scopes_from behind around at (drop at rows) ≡ total → out ++ scopes_from behind inner (at + 1) (drop (at + 1) rows) ≡ total
unfolding scopes_from
scopes_more behind rows done out around inner at first total lt pushed is nested h =
    let rest = drop (at + 1) rows in
    let later : List ℕ = scopes_from behind inner (at + 1) rest in
    let next : suc at ≡ at + 1 = omega arith in
    let here : scopes_from behind around at (drop at rows) ≡ top around ∷ later =
    ap (scopes_from behind around at) (drop_more rows at no_row lt)
    ∙ ap (λ (n : ℕ). top around ∷ scopes_from behind (behind (part_of rows at) n around) n rest) next
    ∙ ap (λ (i : List ℕ). top around ∷ scopes_from behind i (at + 1) rest) (sym nested) in
    ap (λ (o : List ℕ). o ++ later) pushed ∙ append_assoc done (first ∷ []) later ∙ ap (λ (t : ℕ). done ++ (t ∷ later)) is ∙ ap (λ (l : List ℕ). done ++ l) (sym here) ∙ h

pub scopes_done : (behind : Part → ℕ → List ℕ → List ℕ) (rows : List Row) (done around : List ℕ) (at : ℕ) (total : List ℕ) → length rows ≤ at → done ++ scopes_from behind around at (drop at rows) ≡ total → done ≡ total
unfolding scopes_from
scopes_done behind rows done around at total le h =
    sym (append-nil done) ∙ ap (λ (r : List Row). done ++ scopes_from behind around at r) (sym (drop_all at rows le)) ∙ h

-- as many as there are rows
pub length-scopes_from : (behind : Part → ℕ → List ℕ → List ℕ) (around : List ℕ) (at : ℕ) (rows : List Row) → length (scopes_from behind around at rows) ≡ length rows
unfolding scopes_from
length-scopes_from behind around at [] = refl
length-scopes_from behind around at (r ∷ rows) = ap (λ (n : ℕ). suc n) (length-scopes_from behind (behind r.part (suc at) around) (suc at) rows)

-- each of these is at most n
abbrev AtMost : ℕ → List ℕ → Type 0
AtMost n [] = Unit {0}
AtMost n (x ∷ xs) = (x ≤ n) × AtMost n xs

AtMost-suc : (n : ℕ) (xs : List ℕ) → AtMost n xs → AtMost (suc n) xs
AtMost-suc n [] h = tt
AtMost-suc n (x ∷ xs) h = let le : x ≤ n = h.0 in (omega arith, AtMost-suc n xs h.1)

top_at_most : (n : ℕ) (xs : List ℕ) → AtMost n xs → top xs ≤ n
top_at_most n [] h = omega arith
top_at_most n (x ∷ xs) h = h.0

scopes_at_most : (behind : Part → ℕ → List ℕ → List ℕ) → ((part : Part) (n : ℕ) (around : List ℕ) → AtMost n around → AtMost (suc n) (behind part (suc n) around))
    → (rows : List Row) (around : List ℕ) (at i : ℕ) → AtMost at around → get_or (scopes_from behind around at rows) i 0 ≤ at + i
unfolding scopes_from
scopes_at_most behind keeps [] around at i h = omega arith
scopes_at_most behind keeps (r ∷ rows) around at zero h = let le : top around ≤ at = top_at_most at around h in omega arith
scopes_at_most behind keeps (r ∷ rows) around at (suc i) h =
    let le = scopes_at_most behind keeps rows (behind r.part (suc at) around) (suc at) i (keeps r.part at around h) in omega (arith, le)

operations_keep : (part : Part) (n : ℕ) (around : List ℕ) → AtMost n around → AtMost (suc n) (operations_behind part (suc n) around)
operations_keep parts.Open n around h = (omega arith, AtMost-suc n around h)
operations_keep parts.Close n [] h = tt
operations_keep parts.Close n (o ∷ around) h = AtMost-suc n around h.1
operations_keep parts.Name n [] h = (omega arith, tt)
operations_keep parts.Name n (o ∷ around) h = (omega arith, AtMost-suc n around h.1)
operations_keep _ n around h = AtMost-suc n around h

-- an operation's name ends where the row begins, or before
pub operation_at_most : (rows : List Row) (i : ℕ) → get_or (row_operations rows) i 0 ≤ i
operation_at_most rows i = let le = scopes_at_most operations_behind operations_keep rows [] 0 i tt in omega (arith, le)

regions_keep : (part : Part) (n : ℕ) (around : List ℕ) → AtMost n around → AtMost (suc n) (regions_behind part (suc n) around)
regions_keep parts.Open n around h = (omega arith, AtMost-suc n around h)
regions_keep parts.Close n [] h = tt
regions_keep parts.Close n (o ∷ around) h = AtMost-suc n around h.1
regions_keep _ n around h = AtMost-suc n around h

-- a region begins where the row begins, or before
pub region_at_most : (rows : List Row) (i : ℕ) → region_of rows i ≤ i
region_at_most rows i = let le = scopes_at_most regions_behind regions_keep rows [] 0 i tt in omega (arith, le)
