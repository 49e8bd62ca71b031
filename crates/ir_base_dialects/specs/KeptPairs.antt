-- Where the pairs of a dictionary stand: the first few in a vector, and the others in a table.
use Rattle.std.specs.Prelude.{List, [], Option, Some, None}
use Rattle.std.specs.Global.{Box}
use Rattle.indexmap.specs.IndexMap.{IndexMap}

-- the pairs of the table, and none where there is no table yet
abbrev pub table_pairs : {K X S : Type 0} → Option (Box (IndexMap K X S)) → List (K × X)
table_pairs None = []
table_pairs (Some table) = table.value.entries

-- the pairs of a dictionary, and none where nothing has been put into it yet
abbrev pub pairs_in : {P : Type 0} → Option (Box (List P)) → List P
pairs_in None = []
pairs_in (Some pairs) = pairs.value
