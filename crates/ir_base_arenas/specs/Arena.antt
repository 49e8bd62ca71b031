-- What a contract sees of an `Arena`, as `ir_model` defines it.
pub use Rattle.ir_model.specs.Arenas.{Arena, arena_code, empty, get, IsLiveIn, arena_len, room, unused, is_passed, IsInRange, IsWhole, IsNextVersion, IsNew, fill, miss, cut, emptied, cleared, Inserts}
