-- The types of values, found by their numbers.
use Rattle.std.specs.Prelude.{ℕ, ◌==◌, List, find, map}
use Rattle.std.specs.Option.{option_map_or}
use Rattle.ir_model.specs.ContextIds.{context_ids}
use Rattle.ir_model.specs.Forest.{Dialect, Forest, Value}
use Rattle.ir_model.specs.Nesting.{definitions_of}
use Rattle.ir_core_records.specs.declared.record.Operation.{Operation}
use Rattle.ir_core_records.specs.Meaning.{closed, op_record}

-- the place of the type of a live value: that of the definition with its number
abbrev pub type_of : {W : Dialect} → Forest context_ids W → Value context_ids → ℕ
type_of f v = option_map_or (λ d. d.ty) (find (λ d. d.number == v.number) (definitions_of f v.definer)) 0

-- the places of the types of the operation's operands, which are live
abbrev pub operand_types_of : {D A K B S X L : Type 0} → Forest context_ids (closed A K B S X L) → Operation D A K B S X L → List ℕ
operand_types_of f op = map (λ a. type_of f a.value) (op_record op).operands
