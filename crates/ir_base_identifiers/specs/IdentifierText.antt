-- What lies under an `Identifier`.
use Rattle.std.specs.Prelude.{ℕ, List, string_bytes}
use Rattle.ir_base_identifiers.specs.declared.identifier.Text.{Text}
use Rattle.ir_base_identifiers.specs.declared.identifier.Text.TheVariants.{Borrowed, Owned}

-- the bytes of a text, borrowed or owned
abbrev pub text_bytes : Text → List ℕ
text_bytes (Borrowed text) = text
text_bytes (Owned text) = string_bytes text
