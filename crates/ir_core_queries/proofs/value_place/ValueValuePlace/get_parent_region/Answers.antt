use Rattle.std.proofs.Common.{◌≡◌, length, sym, ap, ◌∙◌}
use Rattle.std.specs.Option.{option_map}
use Rattle.ir_model.specs.Forest.{a_block, a_region}
use Rattle.ir_model.proofs.Queries.{parents_of_values}
use Rattle.ir_core_records.specs.Meaning.{value_of}
use Rattle.ir_core_context.specs.State.{forest_of, types_of}
use Rattle.ir_core_queries.proofs.Handles.{plain-of}
use Rattle.ir_core_queries.proofs.value_place.ValueValuePlace.get_parent_region.Goals as goal

pub returns-clause-parent : goal.returns-clause-parent
returns-clause-parent g c =
    let f = forest_of c.args.ctx.now in
    let block = c.in_ok-get_parent_block.field-0.index in
    ((parents_of_values _ f (length (types_of c.args.ctx.now)) (value_of c.args.self.index) c.recall_well_formed.ensures).region block (option_map (λ p. p.index) c.get_parent_region.result) c.in_ok-get_parent_block.ensures.parent).1
    (plain-of f a_region (a_block block) c.get_parent_region.result c.get_parent_region.ensures.parent)
