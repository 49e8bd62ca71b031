use Rattle.std.proofs.Common.{arith}
use Rattle.ir_core_records.proofs.DefinitionLists.{definitions_from-more}
use Rattle.ir_core_records.proofs.definitions.new_definitions.Goals as goal

pub loop-ty-preserved : goal.loop-ty-preserved
loop-ty-preserved c =
    let more = rw c.in_ok-push.was at c.push.ensures.items in
    let step = definitions_from-more c.args.first c.loop-ty.ty-index c.args.types.now (record { place = 0 }) c.loop-ty-test.true in
    let k = c.loop-ty.invariant.number in
    let ds = c.loop-ty.invariant.definitions in
    record { number = omega arith; definitions = cc (step, k, ds, c.new_definition-in-loop-ty.ensures, more) }
