use Rattle.ir_core_records.specs.Meaning.{value_of}
use Rattle.ir_core_queries.specs.State.{forest_of}
use Rattle.ir_view_parts.proofs.TypeLemmas.{type-found, operand-type-at}
use Rattle.ir_view_parts.proofs.operation_parts.OperandTypesOfHasPartsUsize.part.Goals as goal

pub returns : goal.returns
returns g c =
    operand-type-at (forest_of c.args.self.now.ctx.now) c.args.self.now.op.now c.args.index (value_of c.get_operand.result.index) c.get_type.result.place c.get_operand.ensures
    (type-found (forest_of c.args.self.now.ctx.now) _ c.recall_well_formed.ensures (value_of c.get_operand.result.index) c.get_type.result.place c.get_type.ensures.found)
