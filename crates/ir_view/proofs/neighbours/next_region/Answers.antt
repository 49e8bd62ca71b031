use Rattle.std.proofs.Common.{◌≡◌, ◌+◌, suc, map, length, slice_get, ap, ◌∙◌, arith}
use Rattle.ir_model.specs.Forest.{an_op}
use Rattle.ir_model.specs.Nesting.{children, list_of}
use Rattle.ir_core_records.specs.Meaning.{op_record}
use Rattle.ir_core_context.specs.State.{forest_of}
use Rattle.ir_view.proofs.Regions.{region, region-last, region-next, region-within}
use Rattle.ir_view.proofs.neighbours.next_region.Goals as goal

pub overflow_add-next : goal.overflow_add-next
overflow_add-next g c =
    let f = forest_of c.args.ctx.now in
    let o = c.get_parent_op.result.index in
    let gs = (op_record c.deref-op.result.now).regions in
    let listed : children f (an_op o) ≡ map region gs = ap (λ r. map region (list_of (λ q. q.regions) r)) c.deref-op.ensures.found.found in
    let n = region-within f c.recall_well_formed.ensures.nested o c.args.region.index gs listed c.get_parent_op.ensures.parent c.find_index_in_parent-next.result c.find_index_in_parent-next.ensures in
    let k = c.num_regions-count.ensures in
    omega (arith, n, k)

pub returns-then-next-count : goal.returns-then-next-count
returns-then-next-count g c = λ y after.
    let f = forest_of c.args.ctx.now in
    let o = c.get_parent_op.result.index in
    let gs = (op_record c.deref-op.result.now).regions in
    let listed : children f (an_op o) ≡ map region gs = ap (λ r. map region (list_of (λ q. q.regions) r)) c.deref-op.ensures.found.found in
    let k = c.num_regions-count.ensures in
    let t = c.if-next-count.true in
    let last : suc c.find_index_in_parent-next.result ≡ length gs = omega (arith, k, t) in
    region-last f c.recall_well_formed.ensures.nested o c.args.region.index gs listed c.get_parent_op.ensures.parent c.find_index_in_parent-next.result c.find_index_in_parent-next.ensures y last after

pub get_region-requires : goal.get_region-requires
get_region-requires g c =
    let f = forest_of c.args.ctx.now in
    let o = c.get_parent_op.result.index in
    let gs = (op_record c.deref-op.result.now).regions in
    let listed : children f (an_op o) ≡ map region gs = ap (λ r. map region (list_of (λ q. q.regions) r)) c.deref-op.ensures.found.found in
    let n = region-within f c.recall_well_formed.ensures.nested o c.args.region.index gs listed c.get_parent_op.ensures.parent c.find_index_in_parent-next.result c.find_index_in_parent-next.ensures in
    let k = c.num_regions-count.ensures in
    let t = c.if-next-count.false in
    omega (arith, n, k, t)

pub returns : goal.returns
returns g c =
    let f = forest_of c.args.ctx.now in
    let o = c.get_parent_op.result.index in
    let gs = (op_record c.deref-op.result.now).regions in
    let listed : children f (an_op o) ≡ map region gs = ap (λ r. map region (list_of (λ q. q.regions) r)) c.deref-op.ensures.found.found in
    let e : suc c.find_index_in_parent-next.result ≡ c.find_index_in_parent-next.result + 1 = omega arith in
    region-next f c.recall_well_formed.ensures.nested o c.args.region.index gs listed c.get_parent_op.ensures.parent c.find_index_in_parent-next.result c.find_index_in_parent-next.ensures c.get_region.result.index
    (ap (λ k. slice_get gs k) e ∙ c.get_region.ensures)
