use Rattle.std.proofs.Common.{◌≡◌, length, subst, ◌∙◌, arith}
use Rattle.ir_model.specs.declared.ids.ArenaIndex.{ArenaIndex}
use Rattle.ir_model.specs.BlockGraph.{targets_of}
use Rattle.ir_model.specs.Nesting.{In, blocks_of}
use Rattle.ir_core_queries.specs.State.{forest_of}
use Rattle.ir_core_records.specs.Meaning.{op_record}
use Rattle.ir_run_unreached.specs.Marks.{Adds}
use Rattle.ir_run_unreached.proofs.Marking.{taken_all, target_more}
use Rattle.ir_run_unreached.proofs.Places.{target_at, target_count}
use Rattle.ir_run_unreached.proofs.reached.mark_targets.Goals as goal

pub loop-place-preserved : goal.loop-place-preserved
loop-place-preserved g c =
    let f = forest_of c.args.ctx.now in
    let at = target_at f c.args.op.index (op_record c.deref-operation.result.now) c.deref-operation.ensures.found.found c.loop-place.place c.get_successor.result.index c.get_successor.ensures in
    target_more f c.args.region.index c.args.op.index c.loop-place.place c.get_successor.result.index _ _ _ at c.loop-place.invariant c.in_ok-mark_in_region.ensures.marks

pub returns-clause-marks : goal.returns-clause-marks
returns-clause-marks g c =
    let f = forest_of c.args.ctx.now in
    let bs = blocks_of f c.args.region.index in
    let count = target_count f c.args.op.index (op_record c.deref-operation.result.now) c.deref-operation.ensures.found.found in
    let all = taken_all (targets_of f c.args.op.index) c.loop-place.place (omega (arith, count, c.loop-place-test.false, c.loop-place.auto.place-end, c.get_num_successors-place-end.ensures)) in
    subst (λ xs. Adds (λ (b : ArenaIndex). In b xs × In b bs) c.args.marked.now c.loop-place.marked) all c.loop-place.invariant
