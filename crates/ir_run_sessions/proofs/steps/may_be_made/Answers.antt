use Rattle.std.proofs.Common.{◌∙◌, ◌<◌, length}
use Rattle.std.specs.Prelude.{slice_get}
use Rattle.ir_model.specs.Forest.{a_value}
use Rattle.ir_model.specs.Nesting.{IsLiveNamed}
use Rattle.ir_model.specs.Edits.{Each, The}
use Rattle.ir_core_queries.specs.State.{forest_of}
use Rattle.ir_run_sessions.specs.SessionTables.{entries_of}
use Rattle.ir_run_sessions.proofs.Conditions.{blocks_tested, types_tested, values_tested}
use Rattle.ir_run_sessions.specs.SessionLists.{clash}
use Rattle.ir_run_sessions.proofs.steps.may_be_made.Goals as goal
use Rattle.ir_run_sessions.proofs.steps.may_be_made.Goals.{then-all_below, else-all_below}

pub returns-then-all_live : goal.returns-then-all_live
returns-then-all_live g c =
    let ctx = c.args.ctx.now in
    let tables = c.args.tables.now in
    let parts = c.args.parts.now in
    let types : Each (λ n. n < length (entries_of tables).types) parts.types.now = elim c.if-all_below.branch [
      | then-all_below w ↦ (types_tested ctx tables c.len.result (c.len.ensures ∙ tables.types.ok.0) parts.types.now).0 (c.all_below.ensures.0 w.if-all_below.true)
      | else-all_below w ↦ absurd cc
    ] in
    let operands : Each (λ n. The (slice_get (entries_of tables).values n) (λ v. IsLiveNamed (forest_of ctx) (a_value v) × Unit {0})) parts.operands.now = elim c.if-all_below.branch [
      | then-all_below w ↦ (values_tested ctx tables w.deref.result.now w.deref.ensures.value parts.operands.now).0 (w.all_live.ensures.0 cc)
      | else-all_below w ↦ absurd cc
    ] in
    let successors = blocks_tested ctx tables c.deref-then-all_live.result.now c.deref-then-all_live.ensures.value parts.successors.now in
    (λ h. (types, operands, successors.0 (c.all_live-then-all_live.ensures.0 h)), λ may. c.all_live-then-all_live.ensures.1 (successors.1 may.2))

pub returns-else-all_live : goal.returns-else-all_live
returns-else-all_live g c =
    let ctx = c.args.ctx.now in
    let tables = c.args.tables.now in
    let parts = c.args.parts.now in (
      λ h. absurd cc,
      λ may. elim c.if-all_below.branch [
        | then-all_below w ↦ absurd (clash w.all_live.result (w.all_live.ensures.1 ((values_tested ctx tables w.deref.result.now w.deref.ensures.value parts.operands.now).1 may.1)) cc)
        | else-all_below w ↦ absurd (clash c.all_below.result (c.all_below.ensures.1 ((types_tested ctx tables c.len.result (c.len.ensures ∙ tables.types.ok.0) parts.types.now).1 may.0)) w.if-all_below.false)
      ],
    )
