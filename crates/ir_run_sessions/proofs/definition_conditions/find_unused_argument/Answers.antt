use Rattle.std.proofs.Common.{◌∙◌, ap, arith}
use Rattle.ir_model.specs.Forest.{of_block}
use Rattle.ir_model.specs.Nesting.{ops_of}
use Rattle.ir_core_records.specs.Meaning.{definer_of, block_record, value_of}
use Rattle.ir_core_queries.specs.Definitions.{UnusedAt}
use Rattle.ir_core_queries.specs.State.{forest_of}
use Rattle.ir_run_sessions.specs.DefinitionEntries.{argument_count, argument_number}
use Rattle.ir_run_sessions.specs.Named.{not_this}
use Rattle.ir_run_sessions.specs.SessionLists.{clash}
use Rattle.ir_run_sessions.proofs.Unused.{unused_there, used_there, within}
use Rattle.ir_run_sessions.proofs.definition_conditions.find_unused_argument.Goals as goal
use Rattle.ir_run_sessions.proofs.definition_conditions.find_unused_argument.Goals.{else-at-get_num_arguments-via-then-at-get_num_arguments+else-not-is_used, else-at-get_num_arguments-via-else-at-get_num_arguments}

pub returns-then-not-is_used-clause-unused : goal.returns-then-not-is_used-clause-unused
returns-then-not-is_used-clause-unused g c =
    let f = forest_of c.args.ctx.now in
    let i = c.in_ok-block.block.index in
    let v = value_of c.get_argument.result.index in
    unused_there f (of_block i) c.args.at v (ap definer_of c.get_argument.ensures.definer ∙ ap of_block c.deref-record.ensures.found.own)
    (argument_number f i (block_record (ops_of (forest_of c.args.ctx.now) c.in_ok-block.block.index) c.deref-record.result.now) c.deref-record.ensures.found.found c.args.at v.number c.get_argument.ensures.number)
    (λ used. clash c.is_used.result (c.is_used.ensures.1 used) c.if-not-is_used.true)

pub returns-else-at-get_num_arguments-clause-missing : goal.returns-else-at-get_num_arguments-clause-missing
returns-else-at-get_num_arguments-clause-missing g c =
    let f = forest_of c.args.ctx.now in
    let found = c.deref-record.ensures.found in
    let i = c.in_ok-block.block.index in
    let r = block_record (ops_of (forest_of c.args.ctx.now) c.in_ok-block.block.index) c.deref-record.result.now in
    elim c.else-at-get_num_arguments.branch [
      | else-at-get_num_arguments-via-then-at-get_num_arguments+else-not-is_used w ↦ λ _. not_this c.in_ok-block.ensures (λ k. UnusedAt f (of_block k) c.args.at)
          (let v = value_of w.get_argument.result.index in
          used_there f (of_block i) c.args.at v (ap definer_of w.get_argument.ensures.definer ∙ ap of_block found.own) (argument_number f i r found.found c.args.at v.number w.get_argument.ensures.number) (w.is_used.ensures.0 w.if-not-is_used.false))
      | else-at-get_num_arguments-via-else-at-get_num_arguments w ↦ λ _. not_this c.in_ok-block.ensures (λ k. UnusedAt f (of_block k) c.args.at)
          (λ t. let there = within f (of_block i) c.args.at t in absurd (omega (arith, there, argument_count f i r found.found, c.get_num_arguments.ensures, w.if-at-get_num_arguments)))
    ]
