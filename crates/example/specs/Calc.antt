-- What the dialect Calc calls its kinds, and what its operations say.
use Rattle.std.specs.Prelude.{ℕ, List, Option, Some, None, ◌==◌, codes, if◌then◌else◌, option_and_then}
use Rattle.std.specs.Option.{option_map}
use Rattle.ir_base.specs.Model.declared.ids.ArenaIndex.{ArenaIndex}
use Rattle.ir_base.specs.Model.Calls.{attributes_of}
use Rattle.ir_base.specs.Model.ContextIds.{context_ids}
use Rattle.ir_base.specs.Model.Forest.{Forest, of_op}
use Rattle.ir_base.specs.Model.Stores.{attribute_at}
use Rattle.ir_core.specs.Records.Meaning.{closed}
use Rattle.example.specs.declared.calc.CalcAttr.{CalcAttr}
use Rattle.example.specs.declared.calc.CalcAttr.TheVariants.{Literal as Written}
use Rattle.example.specs.declared.calc_attributes.Literal.{Literal}

-- The name of a kind of operations.
abbrev pub op_name : ℕ → List ℕ
op_name kind =
    if kind == 0 then codes "constant"
    else if kind == 1 then codes "less"
    else codes "unknown"

-- The name of a kind of attributes.
abbrev pub attr_name : ℕ → List ℕ
attr_name kind =
    if kind == 0 then codes "literal"
    else if kind == 1 then codes "remark"
    else codes "unknown"

-- The name of a kind of types.
abbrev pub type_name : ℕ → List ℕ
type_name kind =
    if kind == 0 then codes "number"
    else if kind == 1 then codes "truth"
    else codes "unknown"

-- The literal that an attribute is, where it is one.
abbrev pub literal_in : CalcAttr → Option Literal
literal_in (Written number) = Some number
literal_in _ = None

module _ {K B S X L : Type 0} where
  -- The number that the operation has under the key `value`, where it has one.
  abbrev pub number_of : Forest context_ids (closed CalcAttr K B S X L) → ArenaIndex → Option ℕ
  number_of f o = option_map (λ number. number.value) (option_and_then literal_in (option_and_then (λ pairs. attribute_at pairs (codes "value")) (attributes_of f (of_op o))))
