-- Values' names: what an operand names, and which names are faults.
use Rattle.std.specs.Prelude.{◌≡◌, ◌⊎◌, ℕ, ◌<◌, ◌≤◌, Bool, true, false, cond, nat_le, nat_lt, ◌&&◌, ◌||◌, is_some, List, length, Option, Some, None, slice_index_or}
use Rattle.ir_text_tree.specs.declared.row.Part.{Part}
use Rattle.ir_text_tree.specs.declared.row.Part.TheVariants as parts
use Rattle.ir_text_tree.specs.declared.row.Row.{Row}
use Rattle.ir_text_names.specs.declared.fault.Wrong.{Wrong}
use Rattle.ir_text_names.specs.declared.fault.Wrong.TheVariants as wrongs
use Rattle.ir_text_names.specs.Rows.{part_of, text_of, region_of}

-- such a part defines a value
abbrev pub defines : Part → Bool
defines parts.Result = true
defines parts.Argument = true
defines _ = false

-- the row defines a value
abbrev pub IsDefinition : List Row → ℕ → Type 0
IsDefinition rows d = (d < length rows) × (defines (part_of rows d) ≡ true)

-- the region of row d ends from there on and before row u
abbrev pub EndsBetween : List Row → ℕ → ℕ → Type 0
EndsBetween rows d u = (k : ℕ) × (d ≤ k) × (k < u) × (part_of rows k ≡ parts.Close) × (region_of rows k ≡ region_of rows d)

-- Row u stands in the region of row d, or in one in it: that region begins before u, and it doesn't end between d and u.
abbrev pub IsInRegion : List Row → ℕ → ℕ → Type 0
IsInRegion rows u d = (region_of rows d ≤ u) × ¬ EndsBetween rows d u

-- Row u is an operand, and row d defines the value that it names: a value of its name, in the region that the operand stands in or in one around that.
abbrev pub NamesValue : List ℕ → List Row → ℕ → ℕ → Type 0
NamesValue text rows u d = (part_of rows u ≡ parts.Operand) × IsDefinition rows d × (text_of text rows d ≡ text_of text rows u) × IsInRegion rows u d

-- the definition that the row names, if it names one
abbrev pub IsValueNamed : List ℕ → List Row → ℕ → Option ℕ → Type 0
IsValueNamed text rows u None = (d : ℕ) → ¬ NamesValue text rows u d
IsValueNamed text rows u (Some d) = NamesValue text rows u d

-- of each of the rows below n the definition that it names
abbrev pub AreValuesNamed : List ℕ → List Row → ℕ → List (Option ℕ) → Type 0
AreValuesNamed text rows n table = (length table ≡ n) × ((u : ℕ) → u < n → IsValueNamed text rows u (slice_index_or table u None))

-- The row is an operand, and no value of its name is defined in its region or in one around that.
abbrev pub NamesNoValue : List ℕ → List Row → ℕ → Type 0
NamesNoValue text rows u = (part_of rows u ≡ parts.Operand) × ((d : ℕ) → ¬ NamesValue text rows u d)

-- The row defines a value, and a row before it defined one of its name in its region, in one around that or in one in it.
abbrev pub IsValueAgain : List ℕ → List Row → ℕ → Type 0
IsValueAgain text rows i = IsDefinition rows i × ((j : ℕ) × (j < i) × IsDefinition rows j × (text_of text rows j ≡ text_of text rows i) × (IsInRegion rows i j ⊎ IsInRegion rows j i))

-- the faults of values' names
abbrev pub IsValueWrong : List ℕ → List Row → Wrong → ℕ → Type 0
IsValueWrong text rows wrongs.ValueTwice i = IsValueAgain text rows i
IsValueWrong text rows wrongs.UnknownValue i = NamesNoValue text rows i
IsValueWrong text rows _ i = ⊥

-- ---- what is known on the way

-- the definition, unless its region ended since, at the row that ended it last
abbrev pub unless_ended : ℕ → Option ℕ → Option ℕ
unless_ended d None = Some d
unless_ended d (Some k) = cond (nat_le d k) None (Some d)

-- the last definition before a row, unless its region ended since; ends tells which row ended a region last
abbrev pub still_open : (ℕ → Option ℕ) → List ℕ → Option ℕ → Option ℕ
still_open ends regions None = None
still_open ends regions (Some d) = unless_ended d (ends (slice_index_or regions d 0))

-- A definition clashes with the last of its name before it: that stands in a region that is open yet, or in the definition's own region, or in one in that.
abbrev pub clashes : Bool → Option ℕ → Option ℕ → ℕ → Bool
clashes is None around region = false
clashes is (Some d) around region = is && (is_some around || nat_le region d)

-- a definition behind a row, if the row stands in its region or in one in it
abbrev pub reached : List ℕ → ℕ → Option ℕ → Option ℕ
reached regions u None = None
reached regions u (Some d) = cond (nat_le (slice_index_or regions d 0) u) (Some d) None

-- A row is a definition whose region begins before that of another definition, if there is another.
abbrev pub begins_before : Bool → List ℕ → ℕ → Option ℕ → Bool
begins_before is regions d None = is
begins_before is regions d (Some e) = is && nat_lt (slice_index_or regions d 0) (slice_index_or regions e 0)

-- the one, or else the other
abbrev pub either : Option ℕ → Option ℕ → Option ℕ
either None b = b
either (Some a) b = Some a

-- None of the rows before u defines a value again.
abbrev pub IsClear : List ℕ → List Row → ℕ → Type 0
IsClear text rows u = (k : ℕ) → k < u → ¬ IsValueAgain text rows k

-- the definition before row u that the row names, if it names one; where a value is defined twice before it, only what is found is told
abbrev pub IsNamedBefore : List ℕ → List Row → ℕ → Option ℕ → Type 0
IsNamedBefore text rows u None = IsClear text rows u → (d : ℕ) → d < u → ¬ NamesValue text rows u d
IsNamedBefore text rows u (Some d) = NamesValue text rows u d

-- the definition behind row u that the row names, if it names one
abbrev pub IsNamedBehind : List ℕ → List Row → ℕ → Option ℕ → Type 0
IsNamedBehind text rows u None = (d : ℕ) → u < d → ¬ NamesValue text rows u d
IsNamedBehind text rows u (Some d) = NamesValue text rows u d

-- the definition that row u names, if it names one; where a value is defined twice before it, only what is found is told
abbrev pub IsNamedUnlessAgain : List ℕ → List Row → ℕ → Option ℕ → Type 0
IsNamedUnlessAgain text rows u None = IsClear text rows u → (d : ℕ) → ¬ NamesValue text rows u d
IsNamedUnlessAgain text rows u (Some d) = NamesValue text rows u d

abbrev pub AreNamedBefore : List ℕ → List Row → ℕ → List (Option ℕ) → Type 0
AreNamedBefore text rows n table = (length table ≡ n) × ((u : ℕ) → u < n → IsNamedBefore text rows u (slice_index_or table u None))

abbrev pub AreNamedUnlessAgain : List ℕ → List Row → List (Option ℕ) → Type 0
AreNamedUnlessAgain text rows table = (length table ≡ length rows) × ((u : ℕ) → u < length rows → IsNamedUnlessAgain text rows u (slice_index_or table u None))

-- the row is an operand, and the table has none for it
abbrev pub IsMissing : List Row → List (Option ℕ) → ℕ → Type 0
IsMissing rows table u = (part_of rows u ≡ parts.Operand) × (slice_index_or table u None ≡ None)
