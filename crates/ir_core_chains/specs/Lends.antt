-- What all records end as, where a `&mut` to the definitions of one operation or block is returned.
use Rattle.std.specs.Prelude.{List}
use Rattle.std.specs.Borrow.{Lends, Fml, MutBor, RattleType}
use Rattle.std.specs.HashMap.Lent.{HashMembers}
use Rattle.std.specs.declared.default.Default as default
use Rattle.ir_base_dialects.specs.declared.dialects.Dialects as dialects
use Rattle.ir_core_records.specs.declared.record.Definer.{Definer}
use Rattle.ir_core_records.specs.declared.record.Definition.{Definition}
use Rattle.ir_core_records.specs.declared.records.Records.{Records}
use Rattle.ir_core_records.specs.contracts.records.Records.{the_row}
use Rattle.ir_core_records.specs.contracts.definitions.Definitions.{the_row as definitions_row}
use Rattle.ir_core_chains.specs.Definers.{with_definitions}

module _ (D Attr Key Body Saved Aux Loc : RattleType) (tables : dialects.Ghosts D.Denot Attr.Denot Key.Denot Body.Denot Saved.Denot Aux.Denot Loc.Denot) (attr : HashMembers Attr.Denot) (key : HashMembers Key.Denot) (body : default.Ghosts Body.Denot) (saved : HashMembers Saved.Denot) (loc : default.Ghosts Loc.Denot) where
  -- the type of all records of a dialect, as the logic holds it
  abbrev pub records_row : RattleType
  records_row = the_row D Attr Key Body Saved Aux Loc tables (record { eq = attr.eq }) (record { hash_input = attr.hash_input }) (record { eq = key.eq }) (record { hash_input = key.hash_input }) body (record { eq = saved.eq }) (record { hash_input = saved.hash_input }) loc

  -- once the borrow r ends, the definer has the definitions last written through r
  abbrev pub lends_definitions : MutBor (Records D.Denot Attr.Denot Key.Denot Body.Denot Saved.Denot Aux.Denot Loc.Denot) → Definer → MutBor (List Definition) → Fml
  lends_definitions s d r = Lends records_row definitions_row s r (with_definitions s.now d)
