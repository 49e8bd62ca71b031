use Rattle.std.proofs.Common.{◌∙◌, ap, arith}
use Rattle.ir_model.specs.Forest.{of_op}
use Rattle.ir_core_records.specs.Meaning.{definer_of, op_record, value_of}
use Rattle.ir_core_queries.specs.Definitions.{UnusedAt}
use Rattle.ir_core_queries.specs.State.{forest_of}
use Rattle.ir_run_sessions.specs.DefinitionEntries.{result_count, result_number}
use Rattle.ir_run_sessions.specs.Named.{not_this}
use Rattle.ir_run_sessions.specs.SessionLists.{clash}
use Rattle.ir_run_sessions.proofs.Unused.{unused_there, used_there, within}
use Rattle.ir_run_sessions.proofs.definition_conditions.find_unused_result.Goals as goal
use Rattle.ir_run_sessions.proofs.definition_conditions.find_unused_result.Goals.{else-at-get_num_results-via-then-at-get_num_results+else-not-is_used, else-at-get_num_results-via-else-at-get_num_results}

pub returns-then-not-is_used-clause-unused : goal.returns-then-not-is_used-clause-unused
returns-then-not-is_used-clause-unused g c =
    let f = forest_of c.args.ctx.now in
    let i = c.in_ok-op.op.index in
    let v = value_of c.get_result.result.index in
    unused_there f (of_op i) c.args.at v (ap definer_of c.get_result.ensures.definer ∙ ap of_op c.deref-record.ensures.found.own)
    (result_number f i (op_record c.deref-record.result.now) c.deref-record.ensures.found.found c.args.at v.number c.get_result.ensures.number)
    (λ used. clash c.is_used.result (c.is_used.ensures.1 used) c.if-not-is_used.true)

pub returns-else-at-get_num_results-clause-missing : goal.returns-else-at-get_num_results-clause-missing
returns-else-at-get_num_results-clause-missing g c =
    let f = forest_of c.args.ctx.now in
    let found = c.deref-record.ensures.found in
    let i = c.in_ok-op.op.index in
    let r = op_record c.deref-record.result.now in
    elim c.else-at-get_num_results.branch [
      | else-at-get_num_results-via-then-at-get_num_results+else-not-is_used w ↦ λ _. not_this c.in_ok-op.ensures (λ k. UnusedAt f (of_op k) c.args.at)
          (let v = value_of w.get_result.result.index in
          used_there f (of_op i) c.args.at v (ap definer_of w.get_result.ensures.definer ∙ ap of_op found.own) (result_number f i r found.found c.args.at v.number w.get_result.ensures.number) (w.is_used.ensures.0 w.if-not-is_used.false))
      | else-at-get_num_results-via-else-at-get_num_results w ↦ λ _. not_this c.in_ok-op.ensures (λ k. UnusedAt f (of_op k) c.args.at)
          (λ t. let there = within f (of_op i) c.args.at t in absurd (omega (arith, there, result_count f i r found.found, c.get_num_results.ensures, w.if-at-get_num_results)))
    ]
