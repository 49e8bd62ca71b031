use Rattle.std.proofs.Common.{◌≡◌, ap}
use Rattle.std.specs.Option.{option_map}
use Rattle.std.proofs.lemmas.Result.{IfOk-weaker}
use Rattle.ir_model.specs.Edits.{The}
use Rattle.ir_core_records.specs.Meaning.{block_record}
use Rattle.ir_core_records.specs.Tree.{ops_in, tree_of}
use Rattle.ir_core_context.specs.State.{forest_of}
use Rattle.ir_core_queries.proofs.named.PtrBasicBlockNamed.given_name.Goals as goal

pub returns-clause-given : goal.returns-clause-given
returns-clause-given g c =
    let b = c.args.self.now.index in
    let meant = block_record (ops_in (tree_of c.args.ctx.now.records) b) in
    let here = ap (option_map meant) (rw c.records.ensures at c.at.ensures) in
    IfOk-weaker c.given_name.result (λ name. name ≡ c.at.result.now.rest.label) (λ name. The ((forest_of c.args.ctx.now).blocks b) λ r. name ≡ r.label)
    (λ name same. record { value = meant c.at.result.now; found = here; holds = same }) c.given_name.ensures.given
