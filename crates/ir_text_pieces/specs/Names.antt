-- The names of values and blocks in the open regions.
use Rattle.std.specs.Prelude.{◌≡◌, ◌≢◌, IsSome, ℕ, ◌+◌, ◌-◌, ◌<◌, ◌^◌, ◌%◌, ◌==◌, ◌&&◌, ◌||◌, nat_eq, Bool, false, if◌then◌else◌, List, length, Option, Some, None, slice_get, slice_set}
use Rattle.std.specs.Option.{unwrap_or}
use Rattle.std.specs.HashMap.{get_by}
use Rattle.ir_text_pieces.specs.declared.names.Given.{Given}
use Rattle.ir_text_pieces.specs.declared.names.Name.{Name}
use Rattle.ir_text_pieces.specs.declared.names.NameSort.{NameSort}
use Rattle.ir_text_pieces.specs.declared.names.NameSort.TheVariants as sorts
use Rattle.ir_text_pieces.specs.declared.names.Names.{Names}
use Rattle.ir_text_pieces.specs.declared.names.Scope.{Scope}

-- the regions that are open, the outermost first
abbrev pub open_regions : Names → List Scope
open_regions n = n.scopes.items

-- how many regions were opened, counted with 64 bits
abbrev pub openings : Names → ℕ
openings n = n.openings

-- what stands in the place of the innermost region outside all regions
abbrev pub outside_all : Scope
outside_all = record { opening = 0; next_argument = 0; next_value = 0 }

-- the innermost open region
abbrev pub innermost : Names → Scope
innermost n = unwrap_or (slice_get n.scopes.items (length n.scopes.items - 1)) outside_all

-- the region that is opened next: its numbers go on from those of the innermost
abbrev pub opened : Names → Scope
opened n = record (innermost n) { opening = (n.openings + 1) % 2 ^ 64 }

-- the next number of this sort in a region: arguments have their own
abbrev pub next_in : NameSort → Scope → ℕ
next_in sorts.Argument region = region.next_argument
next_in _ region = region.next_value

-- the region, with the next number of this sort taken
abbrev pub taken_in : NameSort → Scope → Scope
taken_in sorts.Argument region = record region { next_argument = region.next_argument + 1 }
taken_in _ region = record region { next_value = region.next_value + 1 }

-- the open regions, with the next number of this sort taken in the innermost
abbrev pub regions_taken : NameSort → Names → List Scope
regions_taken sort n = slice_set n.scopes.items (length n.scopes.items - 1) (taken_in sort (innermost n))

-- a region is open, and a number of this sort is left in the innermost
abbrev pub HasNumber : NameSort → Names → Type 0
HasNumber sort n = (0 < length n.scopes.items) × (next_in sort (innermost n) + 1 < 2 ^ 32)

-- the name with this number that is of no several results
abbrev pub name : NameSort → ℕ → Name
name sort number = record { sort = sort; number = number; index = None }

-- the name of one of several results under this number
abbrev pub result_name : ℕ → ℕ → Name
result_name number index = record { sort = sorts.Plain; number = number; index = Some index }

-- the name, as given in the innermost region
abbrev pub given_here : Names → Name → Given
given_here n x = record { name = x; depth = length n.scopes.items; opening = (innermost n).opening }

-- the name, as given outside all regions
abbrev pub given_outside : Name → Given
given_outside x = record { name = x; depth = 0; opening = 0 }

-- the name that a value was given last, and the region in which it was given
abbrev pub given_value : Names → ℕ → Option Given
given_value n value = get_by (nat_eq value) n.values

-- the name that a block was given last, and the region in which it was given
abbrev pub given_block : Names → ℕ → Option Given
given_block n block = get_by (nat_eq block) n.blocks

-- this open region is the one that was opened so many openings in
abbrev pub is_opening : Option Scope → ℕ → Bool
is_opening None opening = false
is_opening (Some region) opening = region.opening == opening

-- the region in which the name was given is open, or the name was given outside all regions
abbrev pub is_open : Names → Given → Bool
is_open n g = (g.depth == 0) || is_opening (slice_get n.scopes.items (g.depth - 1)) g.opening

-- the region in which the name was given is the innermost, or the name was given outside all regions
abbrev pub is_innermost : Names → Given → Bool
is_innermost n g = (g.depth == 0) || ((g.depth == length n.scopes.items) && is_open n g)

-- the name, where it means what it was given
abbrev pub meant : (Given → Bool) → Option Given → Option Name
meant means None = None
meant means (Some g) = if means g then Some g.name else None

-- the name of a value, if it has one in the innermost region: one that was given in it or in a region around it
abbrev pub value_name : Names → ℕ → Option Name
value_name n value = meant (is_open n) (given_value n value)

-- the name of a block, if it has one in the innermost region: one that was given in it
abbrev pub block_name : Names → ℕ → Option Name
block_name n block = meant (is_innermost n) (given_block n block)

-- the number that the next value gets that has no name where it is named
abbrev pub next_outside_value : Names → ℕ
next_outside_value n = n.outside_values

-- the number that the next block gets that has no name where it is named
abbrev pub next_outside_block : Names → ℕ
next_outside_block n = n.outside_blocks

-- the name under which a value is named: its own, or the next one outside
abbrev pub name_for_value : Names → ℕ → Name
name_for_value n value = unwrap_or (value_name n value) (name sorts.Outside n.outside_values)

-- the name under which a block is named: its own, or the next one outside
abbrev pub name_for_block : Names → ℕ → Name
name_for_block n block = unwrap_or (block_name n block) (name sorts.Outside n.outside_blocks)

-- A value is named. If it has a name, all stays; else it has the next one outside, and no other value and no block has another name than before.
pub record NamesValue (old : Names) (value : ℕ) (new : Names) : Type 0 where
  pub stays : IsSome (value_name old value) → new ≡ old
  pub named : value_name new value ≡ Some (name_for_value old value)
  pub counted : value_name old value ≡ None → next_outside_value new ≡ next_outside_value old + 1
  pub others : (v : ℕ) → v ≢ value → value_name new v ≡ value_name old v
  pub blocks : (b : ℕ) → block_name new b ≡ block_name old b
  pub outside_blocks : next_outside_block new ≡ next_outside_block old
  pub regions : open_regions new ≡ open_regions old
  pub openings : openings new ≡ openings old

-- A block is named. If it has a name, all stays; else it has the next one outside, and no other block and no value has another name than before.
pub record NamesBlock (old : Names) (block : ℕ) (new : Names) : Type 0 where
  pub stays : IsSome (block_name old block) → new ≡ old
  pub named : block_name new block ≡ Some (name_for_block old block)
  pub counted : block_name old block ≡ None → next_outside_block new ≡ next_outside_block old + 1
  pub others : (b : ℕ) → b ≢ block → block_name new b ≡ block_name old b
  pub values : (v : ℕ) → value_name new v ≡ value_name old v
  pub outside_values : next_outside_value new ≡ next_outside_value old
  pub regions : open_regions new ≡ open_regions old
  pub openings : openings new ≡ openings old

-- Where no memory was left, or no number: no name is lost, and no region is opened or closed.
pub record KeepsNames (old new : Names) : Type 0 where
  pub values : (v : ℕ) (x : Name) → value_name old v ≡ Some x → value_name new v ≡ Some x
  pub blocks : (b : ℕ) (x : Name) → block_name old b ≡ Some x → block_name new b ≡ Some x
  pub regions : open_regions new ≡ open_regions old
