use Rattle.std.proofs.Common.{sym, ap, ◌∙◌, length}
use Rattle.ir_base_arenas.specs.Arena.{get}
use Rattle.ir_core_records.specs.Meaning.{use_of, value_of}
use Rattle.ir_core_context.specs.Named.{use-live}
use Rattle.ir_core_context.specs.State.{forest_of, types_of}
use Rattle.ir_core_queries.proofs.FindIndex.{operand-names}
use Rattle.ir_core_queries.proofs.value.UseValueUseQueries.get_def.Goals as goal

pub returns-clause-found : goal.returns-clause-found
returns-clause-found g c =
    let user = rw c.records.ensures at c.at-user.ensures in
    rw (c.from_index-2.ensures ∙ c.names.ensures)
    (operand-names c.args.ctx.now.records c.args.self.index c.at-user.result.now (sym user ∙ ap (get c.args.ctx.now.records.ops) c.from_index.ensures) c.find_index-index.result c.at.result.now c.find_index-index.ensures c.at.ensures)

pub returns-clause-live : goal.returns-clause-live
returns-clause-live g c = use-live (forest_of c.args.ctx.now) (length (types_of c.args.ctx.now)) (value_of c.from_index-2.result.index) (use_of c.args.self.index) c.recall_well_formed.ensures (returns-clause-found g c)
