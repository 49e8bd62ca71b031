-- The first row of which something holds, and the first of all faults.
use Rattle.std.specs.Prelude.{◌≡◌, ℕ, ◌<◌, ⊤, Bool, true, false, cond, nat_le, List, length, Option, Some, None, Result, Ok, Err}
use Rattle.ir_text_tree.specs.declared.row.Row.{Row}
use Rattle.ir_text_names.specs.declared.fault.Wrong.{Wrong}
use Rattle.ir_text_names.specs.declared.fault.Fault.{Fault}
use Rattle.ir_text_names.specs.declared.fault.Fault.TheVariants as faults
use Rattle.ir_text_names.specs.declared.firsts.Found.{Found}
use Rattle.ir_text_names.specs.Rows.{row_of}

-- the first of the rows below n of which P holds, if it holds of one
abbrev pub IsFirst : (ℕ → Type 0) → ℕ → Option ℕ → Type 0
IsFirst P n None = (k : ℕ) → k < n → ¬ P k
IsFirst P n (Some i) = (i < n) × P i × ((k : ℕ) → k < i → ¬ P k)

-- the first so far, where it holds of this row or not
abbrev pub noted : Option ℕ → ℕ → Bool → Option ℕ
noted (Some i) row holds = Some i
noted None row true = Some row
noted None row false = None

-- none of the rows below n has one of these faults
abbrev pub HasNone : (Wrong → ℕ → Type 0) → ℕ → Type 0
HasNone W n = (k : ℕ) → k < n → (v : Wrong) → ¬ W v k

-- the first of the rows below n that has a fault, and which, if one has
abbrev pub IsFirstWrong : (Wrong → ℕ → Type 0) → ℕ → Option Found → Type 0
IsFirstWrong W n None = HasNone W n
IsFirstWrong W n (Some f) = (f.row < n) × W f.what f.row × ((k : ℕ) → k < f.row → (v : Wrong) → ¬ W v k)

-- that row with that fault
abbrev pub told : Option ℕ → Wrong → Option Found
told None w = None
told (Some i) w = Some (record { row = i; what = w })

-- the one that stands first
abbrev pub sooner : Option Found → Option Found → Option Found
sooner None b = b
sooner (Some f) None = Some f
sooner (Some f) (Some g) = cond (nat_le f.row g.row) (Some f) (Some g)

-- The fault of the first row that has one of these faults, with the place of that row; or memory ran out.
abbrev pub IsFirstFault : (Wrong → ℕ → Type 0) → List Row → Fault → Type 0
IsFirstFault W rows faults.OutOfMemory = ⊤
IsFirstFault W rows (faults.Wrong w at) = (i : ℕ) × (i < length rows) × (at ≡ (row_of rows i).span.start) × W w i × ((k : ℕ) → k < i → (v : Wrong) → ¬ W v k)

-- What a check returns: that no row has one of these faults, or the first of them.
abbrev pub IsChecked : {X : Type 0} → (Wrong → ℕ → Type 0) → List Row → Result X Fault → Type 0
IsChecked W rows (Ok x) = HasNone W (length rows)
IsChecked W rows (Err e) = IsFirstFault W rows e

-- the place of a fault, where it has one
abbrev pub fault_place : Fault → Option ℕ
fault_place faults.OutOfMemory = None
fault_place (faults.Wrong w at) = Some at

-- the fault that was found, with its place
abbrev pub fault_of : List Row → Option Found → Option Fault
fault_of rows None = None
fault_of rows (Some f) = Some (faults.Wrong f.what (row_of rows f.row).span.start)
