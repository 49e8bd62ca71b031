-- Parts by the sort by which they are counted.
use Rattle.std.specs.Prelude.{Bool}
use Rattle.ir_text_tree.specs.declared.row.Part.{Part}
use Rattle.ir_text_names.specs.declared.counting.Counted.TheVariants as counted
use Rattle.ir_text_names.specs.Counts.{is_counted}

-- the part is counted as an operand
abbrev pub is_operand : Part → Bool
is_operand p = is_counted counted.Operands p

-- the part is counted as the type of an operand
abbrev pub is_operand_type : Part → Bool
is_operand_type p = is_counted counted.OperandTypes p

-- the part is counted as the type of a result
abbrev pub is_result_type : Part → Bool
is_result_type p = is_counted counted.ResultTypes p
