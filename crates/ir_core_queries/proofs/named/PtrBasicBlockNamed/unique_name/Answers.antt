use Rattle.std.proofs.Common.{◌≡◌, ◌∙◌, ap}
use Rattle.std.specs.Option.{option_map}
use Rattle.std.proofs.lemmas.Result.{IfOk-weaker}
use Rattle.ir_model.specs.Names.{IsBlockName, block_id, unique_name}
use Rattle.ir_core_records.specs.Meaning.{block_record}
use Rattle.ir_core_records.specs.Tree.{ops_in, tree_of}
use Rattle.ir_core_context.specs.State.{forest_of}
use Rattle.ir_core_queries.proofs.named.PtrBasicBlockNamed.unique_name.Goals as goal

pub returns-clause-text : goal.returns-clause-text
returns-clause-text g c =
    let b = c.args.self.now.index in
    let meant = block_record (ops_in (tree_of c.args.ctx.now.records) b) in
    let at = rw c.records.ensures at c.at.ensures in
    let own : c.at.result.now.index ≡ b = c.recall_holds_together.ensures.own.blocks b c.at.result.now at in
    IfOk-weaker c.unique_name.result (λ name. name ≡ unique_name c.at.result.now.rest.label (block_id c.at.result.now.index)) (IsBlockName (forest_of c.args.ctx.now) b)
    (λ name same. record { value = meant c.at.result.now; found = ap (option_map meant) at; holds = same ∙ ap (λ i. unique_name c.at.result.now.rest.label (block_id i)) own }) c.unique_name.ensures.text
