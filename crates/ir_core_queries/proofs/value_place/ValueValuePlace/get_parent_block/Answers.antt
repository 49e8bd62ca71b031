use Rattle.std.proofs.Common.{◌≡◌, length, sym, ap, ◌∙◌}
use Rattle.std.specs.Option.{option_map}
use Rattle.ir_model.specs.Forest.{a_block, an_op, of_op}
use Rattle.ir_model.proofs.Queries.{parents_of_values}
use Rattle.ir_core_records.specs.Meaning.{definer_of, value_of}
use Rattle.ir_core_context.specs.State.{forest_of, types_of}
use Rattle.ir_core_queries.proofs.Handles.{plain-of}
use Rattle.ir_core_queries.proofs.value_place.ValueValuePlace.get_parent_block.Goals as goal

pub returns-in-Op-clause-parent : goal.returns-in-Op-clause-parent
returns-in-Op-clause-parent g c =
    let f = forest_of c.args.ctx.now in
    let definer : definer_of c.args.self.index.definer ≡ of_op c.in-Op.op.index = sym (ap definer_of c.in-Op.ensures) in
    ((parents_of_values _ f (length (types_of c.args.ctx.now)) (value_of c.args.self.index) c.recall_well_formed.ensures).of_result c.in-Op.op.index (option_map (λ p. p.index) c.get_parent_block.result) definer).1
    (plain-of f a_block (an_op c.in-Op.op.index) c.get_parent_block.result c.get_parent_block.ensures.parent)
