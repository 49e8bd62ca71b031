use Rattle.std.proofs.Common.{◌<◌, get_or, length}
use Rattle.std.proofs.lemmas.List.Elements.{All-weaker}
use Rattle.ir_base.specs.Model.Forest.{a_value}
use Rattle.ir_base.specs.Model.Nesting.{operands_of}
use Rattle.ir_core.specs.Records.Meaning.{value_of}
use Rattle.ir_core.specs.Context.State.{forest_of}
use Rattle.bench.proofs.Counted.{live_user, replaced}
use Rattle.bench.proofs.settled_operands.timed_replacements.Goals as goal

pub loop-place-preserved : goal.loop-place-preserved
loop-place-preserved g c =
    let now = c.loop-place.invariant in
    let keeps = c.in_ok-replace_operand.ensures.keeps in
    let before = forest_of c.loop-place.ctx in
    let after = forest_of c.replace_operand.new.ctx in
    let place = get_or c.args.order.now c.loop-place.place-index 0 in
    let user = now.users place (record { index = record { slot = 0; version = 0 }; of = record {} }) (c.requires.order c.loop-place.place-index 0 c.loop-place-test.true) in
    let live = live_user before (get_or c.args.ops.now place (record { index = record { slot = 0; version = 0 }; of = record {} })).index user in
    record {
      users = All-weaker (λ op. 0 < length (operands_of before op.index)) (λ op. 0 < length (operands_of after op.index)) (λ op some. replaced before after (get_or c.args.ops.now place (record { index = record { slot = 0; version = 0 }; of = record {} })).index live _ c.in_ok-replace_operand.ensures.made.forest op.index some) c.args.ops.now now.users;
      first = keeps.stay_live (a_value (value_of c.args.first.index)) now.first;
      second = keeps.stay_live (a_value (value_of c.args.second.index)) now.second;
    }
