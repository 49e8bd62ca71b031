-- What holds of the table, whatever it says.
use Rattle.std.specs.Prelude.{◌≡◌, ℕ, Bool, true, false, List, [], ◌∷◌, ◌&&◌, ◌||◌, not, nat_le}
use Rattle.std.specs.Ordering.{is_lt, nat_cmp}
use Rattle.std.specs.Cmp.Lexicographic.{slice_cmp}
use Rattle.generic_table.specs.declared.traits.Traits.{Traits}
use Rattle.generic_table.specs.Cut.{Row, Operation}

-- what is pure ends no block, is no symbol and has no region, and what has dominance has a region
pub record IsSafe (t : Traits) : Type 0 where
  pub ends_no_block : t.pure_operation ≡ true → t.terminator ≡ false
  pub no_symbol : t.pure_operation ≡ true → t.symbol ≡ false
  pub no_region : t.pure_operation ≡ true → t.regions ≡ false
  pub has_region : t.dominance ≡ true → t.regions ≡ true

-- the same as a test
abbrev pub is_safe : Traits → Bool
is_safe t = (not t.pure_operation || (not t.terminator && (not t.symbol && not t.regions))) && (not t.dominance || t.regions)

-- the name is below that of the first operation, where there is one
abbrev pub is_below_first : List ℕ → List Operation → Bool
is_below_first name [] = true
is_below_first name (o ∷ os) = is_lt (slice_cmp nat_cmp name o.0)

-- each name is below the next
unfoldable pub names_rise : List Operation → Bool
names_rise [] = true
names_rise (o ∷ os) = is_below_first o.0 os && names_rise os

-- each name ends at its start or behind it, the first from this start on, and none behind this end
unfoldable pub ends_rise : ℕ → ℕ → List Row → Bool
ends_rise size start [] = nat_le start size
ends_rise size start (row ∷ rows) = nat_le start row.0 && ends_rise size row.0 rows
