-- What a writer holds, where that is known.
use Rattle.std.specs.Prelude.{◌≡◌, ℕ, ◌++◌, List, Option, Result, Ok, Err}
use Rattle.ir_text_tree.specs.declared.row.Span.{Span}
use Rattle.ir_text_spelling.specs.Spellings.{piece}
use Rattle.std.specs.Io.KnownBytes.{Appends}

-- The known bytes grew by a front part of these.
abbrev pub AppendsFront : Option (List ℕ) → Option (List ℕ) → List ℕ → Type 0
AppendsFront old new bytes = (front : List ℕ) × (rest : List ℕ) × (bytes ≡ front ++ rest) × Appends old new front

-- The known bytes grew by these; by a front part of them where that failed.
abbrev pub Writes : {X E : Type 0} → Option (List ℕ) → Option (List ℕ) → List ℕ → Result X E → Type 0
Writes old new bytes (Ok x) = Appends old new bytes
Writes old new bytes (Err e) = AppendsFront old new bytes

-- The known bytes grew by these but for a piece of a text at their end, which is left; by a front part of them where that failed.
abbrev pub Leaves : {E : Type 0} → Option (List ℕ) → Option (List ℕ) → List ℕ → List ℕ → Result Span E → Type 0
Leaves old new text bytes (Ok left) = (written : List ℕ) × Appends old new written × (written ++ piece text left ≡ bytes)
Leaves old new text bytes (Err e) = AppendsFront old new bytes
