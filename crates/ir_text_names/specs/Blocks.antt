-- Blocks' names: what a successor names, and which names are faults.
use Rattle.std.specs.Prelude.{◌≡◌, ℕ, ◌<◌, Bool, false, List, length, Option, Some, None, slice_index_or}
use Rattle.ir_text_tree.specs.declared.row.Part.TheVariants as parts
use Rattle.ir_text_tree.specs.declared.row.Row.{Row}
use Rattle.ir_text_names.specs.declared.fault.Wrong.{Wrong}
use Rattle.ir_text_names.specs.declared.fault.Wrong.TheVariants as wrongs
use Rattle.ir_text_names.specs.Rows.{part_of, text_of, row_regions, region_of}
use Rattle.ir_text_names.specs.Given.{IsGiven, IsAgain}

-- Row s is a successor, and row l begins the block that it names: a block of the region that the successor stands in, with its name.
abbrev pub NamesBlock : List ℕ → List Row → ℕ → ℕ → Type 0
NamesBlock text rows s l = (part_of rows s ≡ parts.Successor) × IsGiven parts.Label text rows (row_regions rows) l (region_of rows s) (text_of text rows s)

-- the block that the row names, if it names one
abbrev pub IsBlockNamed : List ℕ → List Row → ℕ → Option ℕ → Type 0
IsBlockNamed text rows s None = (l : ℕ) → ¬ NamesBlock text rows s l
IsBlockNamed text rows s (Some l) = NamesBlock text rows s l

-- of each of the rows below n the block that it names
abbrev pub AreBlocksNamed : List ℕ → List Row → ℕ → List (Option ℕ) → Type 0
AreBlocksNamed text rows n table = (length table ≡ n) × ((s : ℕ) → s < n → IsBlockNamed text rows s (slice_index_or table s None))

-- a row that names none, where it is one that names another or not
abbrev pub misses : Bool → Option ℕ → Bool
misses is None = is
misses is (Some l) = false

-- The row is a successor, and no block of its region has its name.
abbrev pub NamesNoBlock : List ℕ → List Row → ℕ → Type 0
NamesNoBlock text rows s = (part_of rows s ≡ parts.Successor) × ((l : ℕ) → ¬ NamesBlock text rows s l)

-- The row begins a block, and a block before it in its region has its name.
abbrev pub IsBlockAgain : List ℕ → List Row → ℕ → Type 0
IsBlockAgain text rows i = IsAgain parts.Label text rows (row_regions rows) i

-- the faults of blocks' names
abbrev pub IsBlockWrong : List ℕ → List Row → Wrong → ℕ → Type 0
IsBlockWrong text rows wrongs.BlockTwice i = IsBlockAgain text rows i
IsBlockWrong text rows wrongs.UnknownBlock i = NamesNoBlock text rows i
IsBlockWrong text rows _ i = ⊥
