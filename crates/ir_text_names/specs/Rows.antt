-- What the rows of a tree say of each row: its name, its region and its operation.
use Rattle.std.specs.Prelude.{ℕ, suc, List, [], ◌∷◌, slice_index_or, slice_range}
use Rattle.ir_text_tree.specs.declared.row.Part.{Part}
use Rattle.ir_text_tree.specs.declared.row.Part.TheVariants as parts
use Rattle.ir_text_tree.specs.declared.row.Row.{Row}
use Rattle.ir_text_tree.specs.declared.row.Span.{Span}
use Rattle.ir_text_tree.specs.Rows.{row, span}

-- the row past the end
abbrev pub no_row : Row
no_row = row parts.Result (span 0 0)

-- the row with that index
abbrev pub row_of : List Row → ℕ → Row
row_of rows i = slice_index_or rows i no_row

-- what the row is
abbrev pub part_of : List Row → ℕ → Part
part_of rows i = (row_of rows i).part

-- the piece of a text
abbrev pub piece : List ℕ → Span → List ℕ
piece text s = slice_range text s.start s.end

-- the piece of the text that the row is
abbrev pub text_of : List ℕ → List Row → ℕ → List ℕ
text_of text rows i = piece text (row_of rows i).span

-- the first of these, or 0
abbrev pub top : List ℕ → ℕ
top [] = 0
top (x ∷ xs) = x

-- the open regions behind a row, the innermost first, each by the index of its first row
abbrev pub regions_behind : Part → ℕ → List ℕ → List ℕ
regions_behind parts.Open behind around = behind ∷ around
regions_behind parts.Close behind [] = []
regions_behind parts.Close behind (o ∷ around) = around
regions_behind _ behind around = around

-- For each of these rows, of which the first has that index, the first of what stands around it; behind tells what stands around the next.
unfoldable pub scopes_from : (Part → ℕ → List ℕ → List ℕ) → List ℕ → ℕ → List Row → List ℕ
scopes_from behind around at [] = []
scopes_from behind around at (r ∷ rows) = top around ∷ scopes_from behind (behind r.part (suc at) around) (suc at) rows

-- for each row the region that it stands in, by the index of the region's first row; 0 outside all regions
abbrev pub row_regions : List Row → List ℕ
row_regions rows = scopes_from regions_behind [] 0 rows

-- the region in which the row stands
abbrev pub region_of : List Row → ℕ → ℕ
region_of rows i = slice_index_or (row_regions rows) i 0

-- the operations of the open regions behind a row, that of the innermost first, each by the index behind its name; 0 where none began
abbrev pub operations_behind : Part → ℕ → List ℕ → List ℕ
operations_behind parts.Open behind around = 0 ∷ around
operations_behind parts.Close behind [] = []
operations_behind parts.Close behind (o ∷ around) = around
operations_behind parts.Name behind [] = behind ∷ []
operations_behind parts.Name behind (o ∷ around) = behind ∷ around
operations_behind _ behind around = around

-- for each row the operation whose name stands last before it in its region, by the index behind that name; 0 where none does
abbrev pub row_operations : List Row → List ℕ
row_operations rows = scopes_from operations_behind [] 0 rows
