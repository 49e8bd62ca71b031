-- The ids and numbers of a context: an id is a slot and a version, a number is a whole number.
use Rattle.std.specs.Prelude.{ℕ, Bool, ◌&&◌, nat_eq}
use Rattle.ir_model.specs.declared.ids.ArenaIndex.{ArenaIndex}
use Rattle.ir_model.specs.Ids.{Ids}

-- the ids have one slot and one version
abbrev pub same_id : ArenaIndex → ArenaIndex → Bool
same_id a b = nat_eq a.slot b.slot && nat_eq a.version b.version

-- ids are slots with versions, for operations, blocks and regions alike, and numbers are whole numbers
abbrev pub context_ids : Ids
context_ids = record {
  Op = ArenaIndex;
  Block = ArenaIndex;
  Region = ArenaIndex;
  ValueNumber = ℕ;
  UseNumber = ℕ;
  same_op = same_id;
  same_block = same_id;
  same_region = same_id;
  same_number = nat_eq;
}
