-- Rows as numbers.
use Rattle.std.proofs.Common.{◌≡◌, ℕ, zero, suc, ◌+◌, ◌<◌, ◌≤◌, List, ◌∷◌, length, get_or, replicate, Option, None, refl, ap, ⊎_elim, arith}
use Rattle.std.proofs.Math.ListN.{get_or-map}
use Rattle.std.proofs.lemmas.Bool.{cases_lt}
use Rattle.std.proofs.lemmas.List.{length-replicate, get_or-replicate, get_or_past}
use Rattle.ir_text_names.specs.Entries.{all_entries, entry}

abbrev no_row_there : Option ℕ
no_row_there = None

pub none_entries : (n : ℕ) → all_entries (replicate n 0) ≡ replicate n no_row_there
none_entries zero = refl
none_entries (suc n) = ap (λ (t : List (Option ℕ)). no_row_there ∷ t) (none_entries n)

-- a table of none has none, and none past its end
pub none_there : (n i : ℕ) → get_or (replicate n no_row_there) i no_row_there ≡ no_row_there
none_there n i =
    ⊎_elim (λ (lt : i < n). get_or-replicate n i no_row_there no_row_there lt)
    (λ (le : n ≤ i). let long : length (replicate n no_row_there) ≡ n = length-replicate n no_row_there in get_or_past (replicate n no_row_there) i no_row_there (omega (arith, le, long))) (cases_lt i n)

-- what stands in a table of numbers
pub entry_at : (numbers : List ℕ) (i : ℕ) → get_or (all_entries numbers) i no_row_there ≡ entry (get_or numbers i 0)
entry_at numbers i = get_or-map entry numbers i 0

pub below_apart : (i n : ℕ) → i < n + 1 → (n ≡ i → ⊥) → i < n
below_apart i n lt apart = ⊎_elim (λ (l : i < n). l) (λ (l : n ≤ i). absurd (apart (omega (arith, lt, l)))) (cases_lt i n)
