-- Lines and columns.
use Rattle.std.specs.Prelude.{ℕ, ◌+◌, ◌==◌, if◌then◌else◌, List, [], ◌∷◌}

-- the line and the column behind these bytes, which begin in this line and column
unfoldable pub place_after : ℕ → ℕ → List ℕ → ℕ × ℕ
place_after line column [] = (line, column)
place_after line column (b ∷ bytes) = place_after (if b == 10 then line + 1 else line) (if b == 10 then 1 else column + 1) bytes
