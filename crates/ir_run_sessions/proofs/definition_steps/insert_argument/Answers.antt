use Rattle.std.proofs.Common.{arith}
use Rattle.ir_model.specs.Nesting.{ops_of}
use Rattle.ir_core_records.specs.Meaning.{block_record}
use Rattle.ir_core_queries.specs.State.{forest_of}
use Rattle.ir_run_sessions.specs.DefinitionEntries.{argument_count}
use Rattle.ir_run_sessions.specs.SessionTables.{entries_of}
use Rattle.ir_run_sessions.proofs.DefinitionSteps.{stored}
use Rattle.ir_run_sessions.proofs.definition_steps.insert_argument.Goals as goal

pub make_argument-requires-clause-in_range : goal.make_argument-requires-clause-in_range
make_argument-requires-clause-in_range g c =
    omega (arith, argument_count (forest_of c.args.ctx.now) c.in-Some.block.index (block_record (ops_of (forest_of c.args.ctx.now) c.in-Some.block.index) c.deref.result.now) c.deref.ensures.found.found, c.get_num_arguments.ensures, c.if-at-get_num_arguments.true)

pub make_argument-requires-clause-known : goal.make_argument-requires-clause-known
make_argument-requires-clause-known g c = stored c.args.ctx.now (entries_of c.args.tables.now) c.requires c.args.ty c.in-Some.ty.place c.in-Some.ensures.ty

pub returns-in-Some : goal.returns-in-Some
returns-in-Some g c =
    rw c.answer.ensures (c.make_argument.ensures c.args.block c.args.ty c.in-Some.ensures.entity.found c.in-Some.ensures.ty)
