use Rattle.std.proofs.Common.{IfOk, length, rules}
use Rattle.ir_core_context.specs.Calls.{IsOperation}
use Rattle.ir_core_context.specs.State.{forest_of, types_of}
use Rattle.ir_core_context.proofs.Leads.{leads-found}
use Rattle.ir_core_context.proofs.operation.PtrOperationOperationPtr.try_deref.Goals as goal

pub returns-clause-leads : goal.returns-clause-leads
returns-clause-leads g c =
    let found : IfOk c.ok_or.result (λ op. IsOperation (forest_of c.args.ctx.now) c.args.self.index op.now) = search rules in
    leads-found (forest_of c.args.ctx.now) (length (types_of c.args.ctx.now)) c.args.self.index (λ op. op.now) c.ok_or.result c.recall_well_formed.ensures found
