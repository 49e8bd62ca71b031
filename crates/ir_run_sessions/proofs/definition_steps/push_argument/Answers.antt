use Rattle.std.proofs.Common.{refl}
use Rattle.ir_model.specs.Edits.{PushArgument}
use Rattle.ir_run_sessions.specs.SessionTables.{entries_of}
use Rattle.ir_run_sessions.proofs.DoneSteps.{refused_so}
use Rattle.ir_run_sessions.proofs.DefinitionSteps.{not_push_argument, stored}
use Rattle.ir_run_sessions.proofs.definition_steps.push_argument.Goals as goal

pub make_last_argument-requires-clause-known : goal.make_last_argument-requires-clause-known
make_last_argument-requires-clause-known g c = stored c.args.ctx.now (entries_of c.args.tables.now) c.requires c.args.ty c.in-Some.ty.place c.in-Some.ensures.ty

pub returns-in-Some : goal.returns-in-Some
returns-in-Some g c =
    rw c.answer.ensures (c.make_last_argument.ensures c.args.block c.args.ty c.in-Some.ensures.entity.found c.in-Some.ensures.ty)

pub returns-in-None : goal.returns-in-None
returns-in-None g c =
    let tables = entries_of c.args.tables.now in
    refused_so c.args.ctx.now tables _ (PushArgument c.args.block c.args.ty) (not_push_argument c.args.ctx.now tables c.args.block c.args.ty (c.in-None.ensures.missing refl))
