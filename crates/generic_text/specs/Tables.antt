-- What the rows of a tree define, as it is kept.
use Rattle.std.specs.Prelude.{ℕ, Option, slice_get}
use Rattle.std.specs.Option.{option_map, option_and_then}
use Rattle.ir_model.specs.declared.ids.ArenaIndex.{ArenaIndex}
use Rattle.ir_core_records.specs.Meaning.{definer_of}
use Rattle.ir_text_described.specs.Trees.{Defined, Meanings}
use Rattle.generic_text.specs.declared.table.Origin.{Origin}
use Rattle.generic_text.specs.declared.table.Table.{Table}

-- the values under the name that a row gives
abbrev pub origin_in : Table → ℕ → Option Origin
origin_in t row = option_and_then (λ n. slice_get t.values.items n) (slice_get t.numbers.items row)

-- the block that begins with a row
abbrev pub block_in : Table → ℕ → Option ArenaIndex
block_in t row = option_and_then (λ n. slice_get t.blocks.items n) (slice_get t.numbers.items row)

abbrev pub defined_of : Origin → Defined
defined_of o = record { definer = definer_of o.definer; first = o.first }

-- what the rows define
abbrev pub meanings_of : Table → Meanings
meanings_of t = record { values = λ row. option_map defined_of (origin_in t row); blocks = block_in t }
