-- Laws of the calls that change one part of a record, and of uses that are redirected.
use Rattle.std.specs.Prelude.{◌≡◌, ◌≢◌, ◌↔◌, ℕ, ◌<◌, Bool, false, not, IsSome, IsTrue, List, [], ◌++◌, Option, Some}
use Rattle.std.specs.List.{filter}
use Rattle.std.specs.Option.{option_map}
use Rattle.ir_model.specs.declared.ids.ArenaIndex.{ArenaIndex}
use Rattle.ir_model.specs.ContextIds.{context_ids}
use Rattle.ir_model.specs.Forest.{Text, Dialect, Definer, definer_entity, Value, Forest, Named, a_value, the_block}
use Rattle.ir_model.specs.Nesting.{IsLive, IsLiveNamed, WellFormed, use_numbers_of}
use Rattle.ir_model.specs.Changes.{on_operands, on_successors}
use Rattle.ir_model.specs.Uses.{Use, IsUse, AreUses, IsOperandAt, IsSuccessorAt}
use Rattle.ir_model.specs.Redirect.{redirect_uses, retarget_uses}
use Rattle.ir_model.specs.Calls.{the_types, the_names, the_labels, the_locations, the_attributes, ChangesAlone, HasType, HasName, label_of, loc_of, value_loc, attributes_of, set_type, set_name, set_label, set_loc, set_attributes}

module _ {W : Dialect} (f : Forest context_ids W) where
  -- the value has the type and no other one, every other value has the types that it had, and nothing but types changes
  pub record TypeIsSet (v : Value context_ids) (ty : ℕ) : Type 0 where
    pub set : IsLiveNamed f (a_value v) → HasType (set_type f v ty) v ty
    pub only : (t : ℕ) → HasType (set_type f v ty) v t → t ≡ ty
    pub others : (w : Value context_ids) (t : ℕ) → w ≢ v → HasType (set_type f v ty) w t ↔ HasType f w t
    pub alone : ChangesAlone the_types f (set_type f v ty)

  -- the value has the name and no other one, every other value has the name that it had, and nothing but names changes
  pub record NameIsSet (v : Value context_ids) (name : Option Text) : Type 0 where
    pub set : IsLiveNamed f (a_value v) → HasName (set_name f v name) v name
    pub only : (n : Option Text) → HasName (set_name f v name) v n → n ≡ name
    pub others : (w : Value context_ids) (n : Option Text) → w ≢ v → HasName (set_name f v name) w n ↔ HasName f w n
    pub alone : ChangesAlone the_names f (set_name f v name)

  -- the block has the label, every other block the one that it had, and nothing but labels changes
  pub record LabelIsSet (b : ArenaIndex) (label : Option Text) : Type 0 where
    pub set : IsSome (f.blocks b) → label_of (set_label f b label) b ≡ Some label
    pub others : (c : ArenaIndex) → c ≢ b → label_of (set_label f b label) c ≡ label_of f c
    pub alone : ChangesAlone the_labels f (set_label f b label)

  -- the operation or block has the location, and so have the values that it defines, every other one that which it had, and nothing but locations changes
  pub record LocIsSet (d : Definer context_ids) (loc : W.Loc) : Type 0 where
    pub set : IsLive f (definer_entity _ d) → loc_of (set_loc f d loc) d ≡ Some loc
    pub values : (v : Value context_ids) → v.definer ≡ d → IsLive f (definer_entity _ d) → value_loc (set_loc f d loc) v ≡ Some loc
    pub others : (e : Definer context_ids) → e ≢ d → loc_of (set_loc f d loc) e ≡ loc_of f e
    pub alone : ChangesAlone the_locations f (set_loc f d loc)

  -- the operation or block has the attributes, every other one those that it had, and nothing but attributes changes
  pub record AttributesAreSet (d : Definer context_ids) (pairs : List (Text × W.Attr)) : Type 0 where
    pub set : IsLive f (definer_entity _ d) → attributes_of (set_attributes f d pairs) d ≡ Some pairs
    pub others : (e : Definer context_ids) → e ≢ d → attributes_of (set_attributes f d pairs) e ≡ attributes_of f e
    pub alone : ChangesAlone the_attributes f (set_attributes f d pairs)

  -- the forest stays well formed: with a type that is known, any name, label, location and attributes, and a new definition that is live
  pub record CallsKeepForm (keys : ℕ) : Type 0 where
    pub types : (v : Value context_ids) (ty : ℕ) → ty < keys → WellFormed (set_type f v ty) keys
    pub names : (v : Value context_ids) (name : Option Text) → WellFormed (set_name f v name) keys
    pub labels : (b : ArenaIndex) (label : Option Text) → WellFormed (set_label f b label) keys
    pub locations : (d : Definer context_ids) (loc : W.Loc) → WellFormed (set_loc f d loc) keys
    pub attributes : (d : Definer context_ids) (pairs : List (Text × W.Attr)) → WellFormed (set_attributes f d pairs) keys
    pub some_uses : (set : Use context_ids → Bool) (new : Value context_ids) → IsLiveNamed f (a_value new) → WellFormed (redirect_uses f set new) keys
    pub some_preds : (set : Use context_ids → Bool) (new : ArenaIndex) → IsLiveNamed f (the_block new) → WellFormed (retarget_uses f set new) keys

  -- the operand uses of the set are uses of the new definition, all other uses are as they were, each under its number and at its place, and nothing but operands changes
  pub record SomeUsesMove (set : Use context_ids → Bool) (new : Value context_ids) : Type 0 where
    pub moved : (d : Value context_ids) (u : Use context_ids) → IsTrue (set u) → IsUse (redirect_uses f set new) (a_value d) u ↔ ((d ≡ new) × ((old : Value context_ids) × IsUse f (a_value old) u))
    pub others : (d : Value context_ids) (u : Use context_ids) → set u ≡ false → IsUse (redirect_uses f set new) (a_value d) u ↔ IsUse f (a_value d) u
    pub blocks : (b : ArenaIndex) (u : Use context_ids) → IsUse (redirect_uses f set new) (the_block b) u ↔ IsUse f (the_block b) u
    pub places : (u : Use context_ids) (index : ℕ) → IsOperandAt (redirect_uses f set new) u index ↔ IsOperandAt f u index
    pub numbers : (o : ArenaIndex) → use_numbers_of (redirect_uses f set new) o ≡ use_numbers_of f o
    pub rest : (o : ArenaIndex) → option_map (on_operands (λ _. [])) ((redirect_uses f set new).ops o) ≡ option_map (on_operands (λ _. [])) (f.ops o)
    pub elsewhere : ((redirect_uses f set new).blocks ≡ f.blocks) × ((redirect_uses f set new).regions ≡ f.regions)

  -- the same for the successor uses of the set
  pub record SomePredsMove (set : Use context_ids → Bool) (new : ArenaIndex) : Type 0 where
    pub moved : (b : ArenaIndex) (u : Use context_ids) → IsTrue (set u) → IsUse (retarget_uses f set new) (the_block b) u ↔ ((b ≡ new) × ((old : ArenaIndex) × IsUse f (the_block old) u))
    pub others : (b : ArenaIndex) (u : Use context_ids) → set u ≡ false → IsUse (retarget_uses f set new) (the_block b) u ↔ IsUse f (the_block b) u
    pub values : (v : Value context_ids) (u : Use context_ids) → IsUse (retarget_uses f set new) (a_value v) u ↔ IsUse f (a_value v) u
    pub places : (u : Use context_ids) (index : ℕ) → IsSuccessorAt (retarget_uses f set new) u index ↔ IsSuccessorAt f u index
    pub numbers : (o : ArenaIndex) → use_numbers_of (retarget_uses f set new) o ≡ use_numbers_of f o
    pub rest : (o : ArenaIndex) → option_map (on_successors (λ _. [])) ((retarget_uses f set new).ops o) ≡ option_map (on_successors (λ _. [])) (f.ops o)
    pub elsewhere : ((retarget_uses f set new).blocks ≡ f.blocks) × ((retarget_uses f set new).regions ≡ f.regions)

  -- in a forest where no use number stands twice: uses of one definition that come to name it again change nothing
  pub record NothingMoves : Type 0 where
    pub values : (set : Use context_ids → Bool) (v : Value context_ids) → ((u : Use context_ids) → IsTrue (set u) → IsUse f (a_value v) u) → redirect_uses f set v ≡ f
    pub blocks : (set : Use context_ids → Bool) (b : ArenaIndex) → ((u : Use context_ids) → IsTrue (set u) → IsUse f (the_block b) u) → retarget_uses f set b ≡ f

  -- of the uses of the old definition those outside the set are left, and the new one has its own and those of the set
  pub record MovedAreListed (g : Forest context_ids W) (set : Use context_ids → Bool) (old new : Named context_ids) : Type 0 where
    pub left : (us : List (Use context_ids)) → AreUses f old us → AreUses g old (filter (λ u. not (set u)) us)
    pub taken : (us vs : List (Use context_ids)) → AreUses f old us → AreUses f new vs → AreUses g new (vs ++ filter set us)

module _ (W : Dialect) where
  -- in every forest a call that sets one part sets this, and leaves all else
  pub record CallsChangeOnePart : Type 0 where
    pub types : (f : Forest context_ids W) (v : Value context_ids) (ty : ℕ) → TypeIsSet f v ty
    pub names : (f : Forest context_ids W) (v : Value context_ids) (name : Option Text) → NameIsSet f v name
    pub labels : (f : Forest context_ids W) (b : ArenaIndex) (label : Option Text) → LabelIsSet f b label
    pub locations : (f : Forest context_ids W) (d : Definer context_ids) (loc : W.Loc) → LocIsSet f d loc
    pub attributes : (f : Forest context_ids W) (d : Definer context_ids) (pairs : List (Text × W.Attr)) → AttributesAreSet f d pairs

  -- every well-formed forest stays so
  abbrev pub CallsKeepWellFormed : Type 0
  CallsKeepWellFormed = (f : Forest context_ids W) (keys : ℕ) → WellFormed f keys → CallsKeepForm f keys

  -- in every forest the uses of a set move, and nothing else does
  pub record SetsOfUsesMove : Type 0 where
    pub values : (f : Forest context_ids W) (set : Use context_ids → Bool) (new : Value context_ids) → SomeUsesMove f set new
    pub blocks : (f : Forest context_ids W) (set : Use context_ids → Bool) (new : ArenaIndex) → SomePredsMove f set new

  -- in every well-formed forest what comes to name the same stays as it is
  abbrev pub SameDefinitionStays : Type 0
  SameDefinitionStays = (f : Forest context_ids W) (keys : ℕ) → WellFormed f keys → NothingMoves f

  -- in every forest a set of uses of one definition that comes to name another one leaves the lists of both
  pub record MovedUsesAreListed : Type 0 where
    pub values : (f : Forest context_ids W) (keys : ℕ) (set : Use context_ids → Bool) (old new : Value context_ids) → WellFormed f keys → old ≢ new
        → ((u : Use context_ids) → IsTrue (set u) → IsUse f (a_value old) u) → MovedAreListed f (redirect_uses f set new) set (a_value old) (a_value new)
    pub blocks : (f : Forest context_ids W) (keys : ℕ) (set : Use context_ids → Bool) (old new : ArenaIndex) → WellFormed f keys → old ≢ new
        → ((u : Use context_ids) → IsTrue (set u) → IsUse f (the_block old) u) → MovedAreListed f (retarget_uses f set new) set (the_block old) (the_block new)
