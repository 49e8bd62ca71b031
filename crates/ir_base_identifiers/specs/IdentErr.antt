-- Why a text gives no identifier.
use Rattle.std.specs.Prelude.{◌≡◌, ℕ, List, string_bytes, ⊤}
use Rattle.ir_model.specs.Identifier.{IsIdentifier}
use Rattle.ir_base_identifiers.specs.declared.identifier.IdentErr.{IdentErr}
use Rattle.ir_base_identifiers.specs.declared.identifier.IdentErr.TheVariants.{MalformedIdentifierErr, OutOfMemory}

-- where the text is said to be malformed, it is no identifier and is carried; want of memory says nothing of the text
abbrev pub IsReason : List ℕ → IdentErr → Type 0
IsReason text (MalformedIdentifierErr e) = (string_bytes e.0 ≡ text) × ¬ (IsIdentifier text)
IsReason text OutOfMemory = ⊤
