-- The text of an id.
use Rattle.std.specs.Prelude.{ℕ, List, ◌++◌, codes}
use Rattle.std.specs.Fmt.{decimal}
use Rattle.ir_model.specs.declared.ids.ArenaIndex.{ArenaIndex}

-- the slot, `v`, and the version, in decimal
abbrev pub index_text : ArenaIndex → List ℕ
index_text i = decimal i.slot ++ codes "v" ++ decimal i.version
