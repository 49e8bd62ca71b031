-- Names that are cut out of a text: how many, and where each stands.
use Rattle.std.proofs.Common.{◌≡◌, ℕ, zero, suc, ◌+◌, ◌-◌, ◌<◌, ◌≤◌, true, List, [], ◌∷◌, length, take, drop, map, get_or, refl, ap, ◌∙◌, arith, leb-true, drop-drop, le_of_suc-le-suc, nat_le}
use Rattle.std.proofs.lemmas.Bool.{and_parts}
use Rattle.generic_table.specs.Cut.{Row, Operation, cut}
use Rattle.generic_table.specs.Safe.{ends_rise}

pub length-cut : (start : ℕ) (text : List ℕ) (rows : List Row) → length (cut start text rows) ≡ length rows
unfolding cut
length-cut start text [] = refl
length-cut start text (row ∷ rows) = ap (λ (n : ℕ). suc n) (length-cut row.0 (drop (row.0 - start) text) rows)

-- where the name of a row begins
abbrev pub start_at : ℕ → List Row → ℕ → ℕ
start_at start rows i = get_or (start ∷ map (λ (r : Row). r.0) rows) i 0

-- what is known of a row among rows whose ends rise
pub record IsPlaced (size start : ℕ) (rows : List Row) (i : ℕ) (e : Row) : Type 0 where
  pub behind : start ≤ start_at start rows i
  pub forward : start_at start rows i ≤ (get_or rows i e).0
  pub within : (get_or rows i e).0 ≤ size

ends_within : (size start : ℕ) (rows : List Row) → ends_rise size start rows ≡ true → start ≤ size
unfolding ends_rise
ends_within size start [] rise = leb-true start size rise
ends_within size start (row ∷ rows) rise =
    let both = and_parts (nat_le start row.0) (ends_rise size row.0 rows) rise in
    let here = leb-true start row.0 both.0 in
    let there = ends_within size row.0 rows both.1 in
    omega (arith, here, there)

pub placed : (size start : ℕ) (rows : List Row) (i : ℕ) (e : Row) → ends_rise size start rows ≡ true → i < length rows → IsPlaced size start rows i e
unfolding ends_rise
placed size start [] i e rise lt = absurd (omega (arith, lt))
placed size start (row ∷ rows) zero e rise lt =
    let both = and_parts (nat_le start row.0) (ends_rise size row.0 rows) rise in
    let here = leb-true start row.0 both.0 in
    let there = ends_within size row.0 rows both.1 in
    record { behind = omega arith; forward = here; within = there }
placed size start (row ∷ rows) (suc i) e rise lt =
    let both = and_parts (nat_le start row.0) (ends_rise size row.0 rows) rise in
    let here = leb-true start row.0 both.0 in
    let there = placed size row.0 rows i e both.1 (le_of_suc-le-suc lt) in
    record { behind = (let behind = there.behind in omega (arith, here, behind)); forward = there.forward; within = there.within }

-- a name in the text that follows a later place
later : (text : List ℕ) (start middle from : ℕ) → start ≤ middle → middle ≤ from → drop (from - middle) (drop (middle - start) text) ≡ drop (from - start) text
later text start middle from first second =
    let e : (middle - start) + (from - middle) ≡ from - start = omega (arith, first, second) in
    drop-drop (from - middle) (middle - start) text ∙ ap (λ (n : ℕ). drop n text) e

pub cut_at : (size start : ℕ) (text : List ℕ) (rows : List Row) (i : ℕ) (d : Operation) (e : Row) → ends_rise size start rows ≡ true → i < length rows → get_or (cut start text rows) i d ≡ (take ((get_or rows i e).0 - start_at start rows i) (drop (start_at start rows i - start) text), (get_or rows i e).1)
unfolding cut ends_rise
cut_at size start text [] i d e rise lt = absurd (omega (arith, lt))
cut_at size start text (row ∷ rows) zero d e rise lt =
    let same : 0 ≡ start - start = omega arith in
    ap (λ (n : ℕ). (take (row.0 - start) (drop n text), row.1)) same
cut_at size start text (row ∷ rows) (suc i) d e rise lt =
    let both = and_parts (nat_le start row.0) (ends_rise size row.0 rows) rise in
    let here = leb-true start row.0 both.0 in
    let at = placed size row.0 rows i e both.1 (le_of_suc-le-suc lt) in
    cut_at size row.0 (drop (row.0 - start) text) rows i d e both.1 (le_of_suc-le-suc lt)
    ∙ ap (λ (t : List ℕ). (take ((get_or rows i e).0 - start_at row.0 rows i) t, (get_or rows i e).1)) (later text start row.0 (start_at row.0 rows i) here at.behind)
