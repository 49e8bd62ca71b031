use Rattle.std.proofs.Common.{sym}
use Rattle.ir_text_names.specs.Counts.{IsCountWrong}
use Rattle.ir_text_names.proofs.FirstRows.{first_fault, all_well}
use Rattle.ir_text_names.proofs.counting.operand_types.Goals as goal

pub returns-in-Some : goal.returns-in-Some
returns-in-Some c = first_fault (IsCountWrong c.args.rows.now) c.args.rows.now c.in-Some.fault c.type_fault-found.result (sym c.in-Some.ensures) c.type_fault-found.ensures

pub returns : goal.returns
returns c = all_well (IsCountWrong c.args.rows.now) c.args.rows.now c.type_fault-found.result (sym c.in-None.ensures) c.type_fault-found.ensures
