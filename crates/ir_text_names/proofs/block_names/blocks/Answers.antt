use Rattle.std.proofs.Common.{sym}
use Rattle.ir_text_names.specs.Blocks.{IsBlockWrong}
use Rattle.ir_text_names.proofs.FirstRows.{first_fault, all_well}
use Rattle.ir_text_names.proofs.block_names.blocks.Goals as goal

pub returns-in-Some-clause-checked : goal.returns-in-Some-clause-checked
returns-in-Some-clause-checked c = first_fault (IsBlockWrong c.args.text.now c.args.rows.now) c.args.rows.now c.in-Some.fault c.in_ok-blocks.blocks.found (sym c.in-Some.ensures) c.in_ok-blocks.ensures.found

pub returns-clause-checked : goal.returns-clause-checked
returns-clause-checked c = all_well (IsBlockWrong c.args.text.now c.args.rows.now) c.args.rows.now c.in_ok-blocks.blocks.found (sym c.in-None.ensures) c.in_ok-blocks.ensures.found
