use Rattle.std.proofs.Common.{sym}
use Rattle.ir_text_names.specs.Numbers.{IsResultWrong}
use Rattle.ir_text_names.proofs.FirstRows.{first_fault, all_well}
use Rattle.ir_text_names.proofs.result_numbers.result_types.Goals as goal

pub returns-in-Some : goal.returns-in-Some
returns-in-Some c = first_fault (IsResultWrong c.args.text.now c.args.rows.now) c.args.rows.now c.in-Some.fault c.result_fault-found.result (sym c.in-Some.ensures) c.result_fault-found.ensures

pub returns : goal.returns
returns c = all_well (IsResultWrong c.args.text.now c.args.rows.now) c.args.rows.now c.result_fault-found.result (sym c.in-None.ensures) c.result_fault-found.ensures
