use Rattle.ir_text_run.specs.declared.fault.Fault.TheVariants as faults
use Rattle.ir_text_run.specs.Respellings.{RespellsFront}
use Rattle.ir_text_run.proofs.PartSteps.{front_kept, if_told}
use Rattle.ir_text_run.proofs.running.spell_out.Goals as goal

pub returns-clause-front : goal.returns-clause-front
returns-clause-front g c =
    let text = c.args.text.now in
    let old = g.W.Write.contents c.args.output.now in
    let new = g.W.Write.contents c.flush.new.output in
    if_told c.flush.result faults.Unwritable (RespellsFront text old new) (front_kept text old (g.W.Write.contents c.respell.new.output) new c.in_ok-respell.ensures.spelled c.flush.ensures.kept)
