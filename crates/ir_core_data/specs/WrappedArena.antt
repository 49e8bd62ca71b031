-- An arena in which each record lies in an `Option`. No public clause cites this module.
use Rattle.std.specs.Prelude.{Option, Some, map}
use Rattle.std.specs.Option.{option_flatten, option_map}
use Rattle.ir_model.specs.Slots.{Slot}
use Rattle.ir_base_arenas.specs.Arena.{Arena}

module _ {T U : Type 0} (f : Option T → Option U) where
  -- the slot, with f of what it had
  abbrev pub slot_with : Slot T → Slot U
  slot_with s = record { version = s.version; item = f s.item }

  -- the arena, with f of what each slot had
  abbrev pub arena_with : Arena T → Arena U
  arena_with a = record { slots = map slot_with a.slots; limit = a.limit; last_version = a.last_version; removals = a.removals }

module _ {T : Type 0} where
  -- the arena with each record in an option
  abbrev pub wrapped : Arena T → Arena (Option T)
  wrapped a = arena_with (option_map Some) a

  -- the arena of what is in the options
  abbrev pub opened : Arena (Option T) → Arena T
  opened b = arena_with option_flatten b
