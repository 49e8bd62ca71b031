use Rattle.std.proofs.Common.{◌∙◌, ap}
use Rattle.ir_model.specs.Forest.{of_op}
use Rattle.ir_core_records.specs.Meaning.{definer_of, op_record, value_of}
use Rattle.ir_core_context.specs.State.{forest_of}
use Rattle.ir_checked_core.proofs.Unnamed.{result_number, unnamed}
use Rattle.ir_checked_core.proofs.asked.is_unused_result.Goals as goal

pub returns : goal.returns
returns g c =
    let f = forest_of c.args.ctx.now in
    let i = c.args.op.index in
    let v = value_of c.get_result.result.index in
    unnamed f (of_op i) c.args.index v (ap definer_of c.get_result.ensures.definer ∙ ap of_op c.deref.ensures.found.own)
    (result_number f i (op_record c.deref.result.now) c.deref.ensures.found.found c.args.index v.number c.get_result.ensures.number)
    c.is_used.result c.is_used.ensures
