-- Names of auxiliary data, each with its index.
use Rattle.std.specs.Prelude.{List, [], Option, bytes_eq}
use Rattle.std.specs.Map.{lookup}
use Rattle.std.specs.Option.{option_map}
use Rattle.ir_model.specs.declared.ids.ArenaIndex.{ArenaIndex}
use Rattle.ir_model.specs.Forest.{Text}
use Rattle.ir_core_data.specs.declared.aux_index.AuxDataIndex.{AuxDataIndex}

-- the names in some order, each with its index
abbrev pub NameTable : Type 0
NameTable = List (Text × AuxDataIndex)

-- no name leads anywhere
abbrev pub no_names : NameTable
no_names = []

-- the index that the name leads to
abbrev pub index_at : NameTable → Text → Option ArenaIndex
index_at names name = option_map (λ found. found.index) (lookup (bytes_eq name) names)
