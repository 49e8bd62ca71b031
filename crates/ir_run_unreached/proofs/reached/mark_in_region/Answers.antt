use Rattle.std.proofs.Common.{◌≡◌, sym, subst}
use Rattle.ir_model.specs.ContextIds.{same_id}
use Rattle.ir_model.specs.declared.ids.ArenaIndex.{ArenaIndex}
use Rattle.ir_model.specs.Edits.{with_key}
use Rattle.ir_model.specs.Nesting.{In, blocks_of}
use Rattle.ir_model.proofs.TwoRuns.{id_tells}
use Rattle.ir_core_queries.specs.State.{forest_of}
use Rattle.ir_run_unreached.specs.Marks.{Adds}
use Rattle.ir_run_unreached.proofs.Marking.{adds_as, adds_key}
use Rattle.ir_run_unreached.proofs.reached.mark_in_region.Goals as goal

pub returns-clause-marks : goal.returns-clause-marks
returns-clause-marks g c =
    let bs = blocks_of (forest_of c.args.ctx.now) c.args.region.index in
    let x = c.args.block.index in
    let old = c.args.marked.now in
    let here : In x bs = c.stands_in.ensures.0 c.if-not-stands_in.false in
    subst (λ xs. Adds (λ (b : ArenaIndex). (b ≡ x) × In b bs) old xs) (sym c.in_ok-get_or_create_unique.ensures.stored)
    (adds_as (λ (b : ArenaIndex). b ≡ x) (λ (b : ArenaIndex). (b ≡ x) × In b bs) old (with_key same_id old x) (λ b. (λ e. (e, subst (λ z. In z bs) (sym e) here), λ k. k.0)) (adds_key same_id id_tells old x))
