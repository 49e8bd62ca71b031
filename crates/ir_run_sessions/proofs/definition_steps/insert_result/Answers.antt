use Rattle.std.proofs.Common.{arith}
use Rattle.ir_core_records.specs.Meaning.{op_record}
use Rattle.ir_core_queries.specs.State.{forest_of}
use Rattle.ir_run_sessions.specs.DefinitionEntries.{result_count}
use Rattle.ir_run_sessions.specs.SessionTables.{entries_of}
use Rattle.ir_run_sessions.proofs.DefinitionSteps.{stored}
use Rattle.ir_run_sessions.proofs.definition_steps.insert_result.Goals as goal

pub make_result-requires-clause-in_range : goal.make_result-requires-clause-in_range
make_result-requires-clause-in_range g c =
    omega (arith, result_count (forest_of c.args.ctx.now) c.in-Some.op.index (op_record c.deref.result.now) c.deref.ensures.found.found, c.get_num_results.ensures, c.if-at-get_num_results.true)

pub make_result-requires-clause-known : goal.make_result-requires-clause-known
make_result-requires-clause-known g c = stored c.args.ctx.now (entries_of c.args.tables.now) c.requires c.args.ty c.in-Some.ty.place c.in-Some.ensures.ty

pub returns-in-Some : goal.returns-in-Some
returns-in-Some g c =
    rw c.answer.ensures (c.make_result.ensures c.args.op c.args.ty c.in-Some.ensures.entity.found c.in-Some.ensures.ty)
