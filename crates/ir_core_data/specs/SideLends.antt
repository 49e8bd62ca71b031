-- What all that is kept beside ends as, where a `&mut` to auxiliary data is returned.
use Rattle.std.specs.Prelude.{Option}
use Rattle.std.specs.Borrow.{LendsIf, Fml, RattleType, MutBor}
use Rattle.std.specs.HashMap.Lent.{HashMembers}
use Rattle.ir_model.specs.declared.ids.ArenaIndex.{ArenaIndex}
use Rattle.ir_core_data.specs.declared.side_data.SideData.{SideData}
use Rattle.ir_core_data.specs.contracts.side_data.SideData.{the_row}
use Rattle.ir_core_data.specs.Side.{with_written}

module _ (D Attr Key Body Saved Aux Loc : RattleType) (saved : HashMembers Saved.Denot) where
  -- the type of what a dialect's contexts keep beside, as the logic holds it
  abbrev pub side_row : RattleType
  side_row = the_row D Attr Key Body Saved Aux Loc (record { eq = saved.eq }) (record { hash_input = saved.hash_input })

  -- once the borrow r ends, the data under the index has what was written last through r; at `None` all stays as it is
  abbrev pub side_lends_aux : MutBor (SideData D.Denot Attr.Denot Key.Denot Body.Denot Saved.Denot Aux.Denot Loc.Denot) → ArenaIndex → Option (MutBor Aux.Denot) → Fml
  side_lends_aux s i r = LendsIf side_row Aux s r (with_written s.now i) s.now
