use Rattle.std.proofs.Common.{◌≡◌, sym, ◌∙◌, rules}
use Rattle.std.proofs.lemmas.Bool.{false≢true}
use Rattle.ir_model.specs.ContextIds.{same_id}
use Rattle.ir_model.proofs.TwoRuns.{id_tells}
use Rattle.ir_core_queries.specs.State.{forest_of}
use Rattle.ir_run_unreached.proofs.Parents.{no_parent_tells, parent_tells}
use Rattle.ir_run_unreached.proofs.reached.stands_in.Goals as goal

pub returns-in-Some : goal.returns-in-Some
returns-in-Some g c =
    let tells = parent_tells (forest_of c.args.ctx.now) c.recall_well_formed.ensures.nested c.args.block.index c.in-Some.parent.index c.args.region.index c.in-Some.ensures.parent in
    let same = id_tells c.in-Some.parent.index c.args.region.index in
    let is : c.eq.result ≡ same_id c.in-Some.parent.index c.args.region.index = search rules in
    (λ e. tells.0 (same.0 (sym is ∙ e)), λ h. is ∙ same.1 (tells.1 h))

pub returns-in-None : goal.returns-in-None
returns-in-None g c =
    (λ e. absurd (false≢true e), λ h. absurd (no_parent_tells (forest_of c.args.ctx.now) c.args.block.index c.args.region.index c.in-None.ensures.parent h))
