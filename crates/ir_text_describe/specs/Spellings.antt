-- What a dialect says of an attribute.
use Rattle.std.specs.Prelude.{ℕ, List}
use Rattle.ir_text_describe.specs.declared.spelling.AttributeForm.{AttributeForm}

-- its form, its key and its value; where it has none of these, they are empty
pub record AttributeText : Type 0 where
  pub form : AttributeForm
  pub key : List ℕ
  pub value : List ℕ
