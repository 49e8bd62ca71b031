-- Inputs that have several texts, and what is written for them.
use Rattle.std.specs.Prelude.{◌≡◌, ◌⊎◌, ℕ, ◌++◌, ◌==◌, if◌then◌else◌, All, List, [], ◌∷◌, Option, codes}
use Rattle.std.specs.List.{onto_first}
use Rattle.std.specs.Io.KnownBytes.{Keeps, Appends}
use Rattle.ir_text_run.specs.Respellings.{Respells, RespellsOrKeeps}

-- The line divides parts: `// -----`, with a CR at its end or not; the last line of an input may have no line feed.
abbrev pub IsDivider : List ℕ → Type 0
IsDivider line = ((line ≡ codes "// -----\n") ⊎ (line ≡ codes "// -----\r\n")) ⊎ ((line ≡ codes "// -----") ⊎ (line ≡ codes "// -----\r"))

-- The lines of a text, each with its line feed, but for a last one that has none: a line feed ends a line, and any other byte begins the line that follows it.
unfoldable pub lines_of : List ℕ → List (List ℕ)
lines_of [] = []
lines_of (b ∷ bytes) = if b == 10 then (b ∷ []) ∷ lines_of bytes else onto_first b (lines_of bytes)

-- no line of the text divides parts
abbrev pub IsOnePart : List ℕ → Type 0
IsOnePart text = All (λ line. IsDivider line → ⊥) (lines_of text)

-- The text is a part, a line that divides parts, and the rest; and its lines are those of the part, none of which divides parts, that line, and those of the rest.
abbrev pub IsDivided : List ℕ → List ℕ → List ℕ → Type 0
IsDivided text part rest = (line : List ℕ) × IsDivider line × IsOnePart part × (lines_of text ≡ lines_of part ++ (line ∷ lines_of rest)) × (text ≡ part ++ (line ++ rest))

-- For each of these parts of a text, behind which the rest stands, the known bytes became what the relation tells of the part, and then grew by the line between two parts.
unfoldable pub WritesBefore : (List ℕ → Option (List ℕ) → Option (List ℕ) → Type 0) → List (List ℕ) → List ℕ → List ℕ → Option (List ℕ) → Option (List ℕ) → Type 0
WritesBefore Writes [] text rest old new = (text ≡ rest) × Keeps old new
WritesBefore Writes (p ∷ ps) text rest old new =
    (more : List ℕ) × (written : Option (List ℕ)) × (next : Option (List ℕ)) × IsDivided text p more × Writes p old written × Appends written next (codes "// -----\n") × WritesBefore Writes ps more rest next new

-- The text is parts, none with a dividing line in it, with one such line between each two, and for each of them the known bytes became what the relation tells of it, and between each two they grew by the line.
abbrev pub WritesParts : (List ℕ → Option (List ℕ) → Option (List ℕ) → Type 0) → List ℕ → Option (List ℕ) → Option (List ℕ) → Type 0
WritesParts Writes text old new = (ps : List (List ℕ)) × (last : List ℕ) × (mid : Option (List ℕ)) × WritesBefore Writes ps text last old mid × IsOnePart last × Writes last mid new

-- The text is parts, none with a dividing line in it, with one such line between each two, and the known bytes grew by the texts of their trees, with the line between each two.
abbrev pub RespellsParts : List ℕ → Option (List ℕ) → Option (List ℕ) → Type 0
RespellsParts = WritesParts Respells

-- The same, but that for a part nothing may have been written.
abbrev pub RespellsSomeParts : List ℕ → Option (List ℕ) → Option (List ℕ) → Type 0
RespellsSomeParts = WritesParts RespellsOrKeeps
