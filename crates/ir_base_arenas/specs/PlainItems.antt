-- Where a `PlainSeq` keeps its items. No public clause cites this module.
use Rattle.std.specs.Prelude.{◌≡◌, ℕ, ◌<◌, ◌≤◌, List, length, take, slice_set, vec_capacity}
use Rattle.std.specs.Vec as vec
use Rattle.ir_base_arenas.specs.declared.plain_seq.Place.{Place}
use Rattle.ir_base_arenas.specs.declared.plain_seq.Place.TheVariants.{Inline, Heap}

module _ {T : Type 0} {N : ℕ} where
  abbrev pub items_of : Place T N → List T
  items_of (Inline len cells) = take len cells.xs
  items_of (Heap v) = v.items

  -- the items are within the cells, or the vector has room for as many as there are cells
  abbrev pub IsPlaced : Place T N → Type 0
  IsPlaced (Inline len cells) = (len ≤ N) × (length cells.xs ≡ N) × (N < 4294967296)
  IsPlaced (Heap v) = (N ≤ vec_capacity v) × (N < 4294967296)

  abbrev pub place_with : Place T N → ℕ → T → Place T N
  place_with (Inline len cells) i x = Inline len (record { xs = slice_set cells.xs i x })
  place_with (Heap v) i x = Heap (vec.with_item v i x)
