use Rattle.std.proofs.Common.{refl}
use Rattle.ir_text_names.specs.declared.counting.Counted.TheVariants as counted
use Rattle.ir_text_names.specs.Rows.{part_of}
use Rattle.ir_text_names.proofs.PlacedRows.{counted_within}
use Rattle.ir_text_names.proofs.TypeFaults.{type_within}
use Rattle.ir_text_names.proofs.value_types.has_other_type_at.Goals as goal

pub differ-requires-clause-one : goal.differ-requires-clause-one
differ-requires-clause-one c =
    let own = c.in-Some-operand_type.own in
    counted_within counted.OperandTypes c.args.tables.now.rows.now own ((c.in-Some-operand_type.ensures own).0 refl).0

pub differ-requires-clause-other : goal.differ-requires-clause-other
differ-requires-clause-other c =
    let tables = c.args.tables.now in
    let value = c.in-Some.value in
    type_within (part_of tables.rows.now c.args.definition) tables.text.now tables.rows.now c.args.definition c.args.number value ((c.in-Some.ensures value).0 refl)
