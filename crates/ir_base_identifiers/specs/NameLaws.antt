-- What the laws on identifiers say.
use Rattle.std.specs.Prelude.{◌≡◌, ℕ, List, ◌∷◌, Contains, ◌⊎◌}
use Rattle.std.specs.Char.{IsAsciiAlphabetic, IsAsciiAlphanumeric}

-- the text is an ASCII letter or `_`, and then ASCII letters, digits and `_`
pub record FollowsRule (text : List ℕ) : Type 0 where
  pub first : ℕ
  pub rest : List ℕ
  pub text_is : text ≡ first ∷ rest
  pub starts : IsAsciiAlphabetic first ⊎ (first ≡ 95)
  pub continues : (b : ℕ) → Contains rest b → IsAsciiAlphanumeric b ⊎ (b ≡ 95)
