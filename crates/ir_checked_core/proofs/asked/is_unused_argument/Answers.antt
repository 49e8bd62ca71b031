use Rattle.std.proofs.Common.{◌∙◌, ap}
use Rattle.ir_model.specs.Forest.{of_block}
use Rattle.ir_model.specs.Nesting.{ops_of}
use Rattle.ir_core_records.specs.Meaning.{block_record, definer_of, value_of}
use Rattle.ir_core_context.specs.State.{forest_of}
use Rattle.ir_checked_core.proofs.Unnamed.{argument_number, unnamed}
use Rattle.ir_checked_core.proofs.asked.is_unused_argument.Goals as goal

pub returns : goal.returns
returns g c =
    let f = forest_of c.args.ctx.now in
    let i = c.args.block.index in
    let v = value_of c.get_argument.result.index in
    unnamed f (of_block i) c.args.index v (ap definer_of c.get_argument.ensures.definer ∙ ap of_block c.deref.ensures.found.own)
    (argument_number f i (block_record (ops_of f i) c.deref.result.now) c.deref.ensures.found.found c.args.index v.number c.get_argument.ensures.number)
    c.is_used.result c.is_used.ensures
