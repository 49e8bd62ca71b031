use Rattle.std.proofs.Common.{arith}
use Rattle.std.specs.Prelude.{slice_get}
use Rattle.ir_model.specs.Edits.{The}
use Rattle.ir_model.specs.Forest.{a_region}
use Rattle.ir_model.specs.Nesting.{IsClosed, regions_of}
use Rattle.ir_core_records.specs.Meaning.{op_record}
use Rattle.ir_core_queries.specs.State.{forest_of}
use Rattle.ir_run_sessions.specs.Named.{not_this}
use Rattle.ir_run_sessions.specs.SessionLists.{clash}
use Rattle.ir_run_sessions.proofs.Regions.{closed_there, not_closed, within}
use Rattle.ir_run_sessions.proofs.erase_conditions.find_closed_region.Goals as goal
use Rattle.ir_run_sessions.proofs.erase_conditions.find_closed_region.Goals.{else-at-num_regions-via-then-at-num_regions+else-can_erase, else-at-num_regions-via-else-at-num_regions}

pub returns-then-can_erase-clause-closed : goal.returns-then-can_erase-clause-closed
returns-then-can_erase-clause-closed g c =
    closed_there (forest_of c.args.ctx.now) c.in_ok-op.op.index (op_record c.deref-record.result.now) c.deref-record.ensures.found.found c.args.at c.get_region.result.index c.get_region.ensures (c.can_erase.ensures.0 c.if-can_erase.true)

pub returns-else-at-num_regions-clause-missing : goal.returns-else-at-num_regions-clause-missing
returns-else-at-num_regions-clause-missing g c =
    let f = forest_of c.args.ctx.now in
    let found = c.deref-record.ensures.found.found in
    let op = c.in_ok-op.op.index in
    let r = op_record c.deref-record.result.now in
    elim c.else-at-num_regions.branch [
      | else-at-num_regions-via-then-at-num_regions+else-can_erase w ↦ λ _. not_this c.in_ok-op.ensures (λ i. The (slice_get (regions_of f i) c.args.at) (λ x. IsClosed f (a_region x)))
          (not_closed f op r found c.args.at w.get_region.result.index w.get_region.ensures (λ free. clash w.can_erase.result (w.can_erase.ensures.1 free) w.if-can_erase.false))
      | else-at-num_regions-via-else-at-num_regions w ↦ λ _. not_this c.in_ok-op.ensures (λ i. The (slice_get (regions_of f i) c.args.at) (λ x. IsClosed f (a_region x)))
          (λ t. let there = within f op r found c.args.at t in absurd (omega (arith, there, c.num_regions.ensures, w.if-at-num_regions)))
    ]
