use Rattle.std.proofs.Common.{◌≡◌, is_some, position, sym, ap, ◌∙◌}
use Rattle.std.proofs.lemmas.Bool.{false≢true}
use Rattle.ir_model.specs.ContextIds.{same_id}
use Rattle.ir_model.specs.declared.ids.ArenaIndex.{ArenaIndex}
use Rattle.ir_model.proofs.TwoRuns.{id_tells}
use Rattle.ir_core_queries.specs.State.{forest_of}
use Rattle.ir_run_unreached.proofs.Parents.{block_tells, found_in, no_block_tells}
use Rattle.ir_run_unreached.proofs.condition.stands_in_marked.Goals as goal

pub returns-in-Some : goal.returns-in-Some
returns-in-Some g c =
    let x = c.in-Some.block.index in
    let marked = c.args.marked.now in
    let tells = block_tells (forest_of c.args.ctx.now) c.recall_well_formed.ensures.nested marked c.args.op.index x c.in-Some.ensures.parent in
    let found = found_in same_id id_tells x marked in
    let is : c.is_some.result ≡ is_some (position (λ (k : ArenaIndex). same_id k x) marked) = c.is_some.ensures ∙ ap is_some c.get.ensures in
    (λ e. tells.0 (found.0 (sym is ∙ e)), λ h. is ∙ found.1 (tells.1 h))

pub returns-in-None : goal.returns-in-None
returns-in-None g c =
    (λ e. absurd (false≢true e), λ s. absurd (no_block_tells (forest_of c.args.ctx.now) c.args.marked.now c.args.op.index c.in-None.ensures.parent s))
