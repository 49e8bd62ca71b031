use Rattle.std.proofs.Common.{sym}
use Rattle.ir_text_names.specs.Keys.{IsKeyWrong}
use Rattle.ir_text_names.proofs.FirstRows.{first_fault, all_well}
use Rattle.ir_text_names.proofs.dictionary_keys.keys.Goals as goal

pub returns-in-Some : goal.returns-in-Some
returns-in-Some c = first_fault (IsKeyWrong c.args.text.now c.args.rows.now) c.args.rows.now c.in-Some.fault c.in_ok-found.found (sym c.in-Some.ensures) c.in_ok-found.ensures

pub returns : goal.returns
returns c = all_well (IsKeyWrong c.args.text.now c.args.rows.now) c.args.rows.now c.in_ok-found.found (sym c.in-None.ensures) c.in_ok-found.ensures
