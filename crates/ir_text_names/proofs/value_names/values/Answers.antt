use Rattle.std.proofs.Common.{sym}
use Rattle.ir_text_names.specs.Uses.{IsUseWrong}
use Rattle.ir_text_names.proofs.FirstRows.{first_fault, all_well}
use Rattle.ir_text_names.proofs.value_names.values.Goals as goal

pub returns-in-Some-clause-checked : goal.returns-in-Some-clause-checked
returns-in-Some-clause-checked c = first_fault (IsUseWrong c.args.text.now c.args.rows.now) c.args.rows.now c.in-Some.fault c.in_ok-values.values.found (sym c.in-Some.ensures) c.in_ok-values.ensures.found

pub returns-in-None-clause-named : goal.returns-in-None-clause-named
returns-in-None-clause-named c = c.in_ok-values.ensures.table (all_well (IsUseWrong c.args.text.now c.args.rows.now) c.args.rows.now c.in_ok-values.values.found (sym c.in-None.ensures) c.in_ok-values.ensures.found)

pub returns-in-None-clause-checked : goal.returns-in-None-clause-checked
returns-in-None-clause-checked c = all_well (IsUseWrong c.args.text.now c.args.rows.now) c.args.rows.now c.in_ok-values.values.found (sym c.in-None.ensures) c.in_ok-values.ensures.found
