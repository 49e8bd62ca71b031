-- What an `AttributeDict` ends as, where a `&mut` to the value of one of its attributes is returned.
use Rattle.std.specs.Prelude.{ℕ, List, Option}
use Rattle.std.specs.Borrow.{LendsIf, Fml, RattleType, MutBor}
use Rattle.std.specs.HashMap.Lent.{HashMembers}
use Rattle.std.specs.declared.default.Default as default
use Rattle.ir_base_dialects.specs.declared.dialects.Dialects as dialects
use Rattle.ir_base_dialects.specs.Attributes.{with_changed}
use Rattle.ir_base_dialects.specs.contracts.attribute_dict.AttributeDict.{the_row}

module _ (D Attr Key Body Saved Aux Loc : RattleType) (tables : dialects.Ghosts D.Denot Attr.Denot Key.Denot Body.Denot Saved.Denot Aux.Denot Loc.Denot) (attr : HashMembers Attr.Denot) (key : HashMembers Key.Denot) (body : default.Ghosts Body.Denot) (saved : HashMembers Saved.Denot) (loc : default.Ghosts Loc.Denot) where
  -- the type of the dialect's dictionaries, as the logic holds it
  abbrev pub dict_row : RattleType
  dict_row = the_row D Attr Key Body Saved Aux Loc tables (record { eq = attr.eq }) (record { hash_input = attr.hash_input }) (record { eq = key.eq }) (record { hash_input = key.hash_input }) body (record { eq = saved.eq }) (record { hash_input = saved.hash_input }) loc

  -- once the borrow r ends, the attribute at the text has the last value written through r, and all else is as it was; at `None` the dictionary stays as it is
  abbrev pub lends_value : (T : RattleType) → (Attr.Denot → T.Denot → Attr.Denot) → MutBor (List (List ℕ × Attr.Denot)) → List ℕ → Option (MutBor T.Denot) → Fml
  lends_value T with_value d text r = LendsIf dict_row T d r (λ value. with_changed d.now text (λ attr. with_value attr value)) d.now
