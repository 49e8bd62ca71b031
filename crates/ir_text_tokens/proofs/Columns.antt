-- Lines and columns, a byte at a time.
use Rattle.std.proofs.Common.{◌≡◌, ℕ, ◌+◌, List, [], ◌∷◌, refl}
use Rattle.std.proofs.lemmas.Bool.{ne_eqb}
use Rattle.ir_text_tokens.specs.Places.{place_after}

pub place_newline : (line column b : ℕ) (rest : List ℕ) → b ≡ 10 → place_after line column (b ∷ rest) ≡ place_after (line + 1) 1 rest
unfolding place_after
place_newline line column b rest e = rw e refl

pub place_other : (line column b : ℕ) (rest : List ℕ) → (b ≡ 10 → ⊥) → place_after line column (b ∷ rest) ≡ place_after line (column + 1) rest
unfolding place_after
place_other line column b rest e = let f = ne_eqb b 10 e in rw (place_after, f) refl

pub place_end : (line column : ℕ) → place_after line column [] ≡ (line, column)
unfolding place_after
place_end line column = refl
