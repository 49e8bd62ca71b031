use Rattle.std.proofs.Common.{◌<◌, sym, arith}
use Rattle.ir_model.specs.declared.ids.ArenaIndex.{ArenaIndex}
use Rattle.ir_core_queries.specs.State.{forest_of}
use Rattle.ir_core_records.specs.Meaning.{value_of}
use Rattle.ir_run_passes.proofs.Unmet.{given_by_none, given_by_not, given_by_one, gives_none, gives_op}
use Rattle.ir_run_passes.proofs.ordering.is_from_above.Goals as goal

pub returns-in_default : goal.returns-in_default
returns-in_default g c =
    given_by_none (forest_of c.args.ctx.now) c.args.block.index (λ (o : ArenaIndex). c.args.slot < o.slot) (value_of c.args.value.index) (gives_none c.args.value.index.definer (sym c.in_default.ensures.op))

pub returns-then-definer-slot : goal.returns-then-definer-slot
returns-then-definer-slot g c =
    let low = c.if-definer-slot.true in
    given_by_not (forest_of c.args.ctx.now) c.args.block.index (λ (o : ArenaIndex). c.args.slot < o.slot) (value_of c.args.value.index) c.in-Some.definer.index (gives_op c.args.value.index.definer c.in-Some.definer.index (sym c.in-Some.ensures.op))
    (λ high. omega (arith, low, high))

pub returns : goal.returns
returns g c =
    let high = c.if-definer-slot.false in
    given_by_one (forest_of c.args.ctx.now) c.args.block.index (λ (o : ArenaIndex). c.args.slot < o.slot) (value_of c.args.value.index) c.in-Some.definer.index (gives_op c.args.value.index.definer c.in-Some.definer.index (sym c.in-Some.ensures.op))
    (omega (arith, high)) c.stands_in.result c.stands_in.ensures
