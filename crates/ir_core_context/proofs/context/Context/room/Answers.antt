use Rattle.std.proofs.Common.{[], sym}
use Rattle.ir_core_records.specs.Meaning.{op_record, block_record}
use Rattle.ir_core_records.specs.Tree.{tree_of, ops_in, blocks_in}
use Rattle.ir_core_context.proofs.RoomLemmas.{Left-below, Left-slots, Left-taken}
use Rattle.ir_core_context.proofs.context.Context.room.Goals as goal

pub returns-clause-exact : goal.returns-clause-exact
returns-clause-exact g c = rw (sym c.self.view_is) (record {
  values = Left-below c.self.inside.next_value c.self.inside.limits.values c.self.invariant.counted.value_limit;
  uses = Left-below c.self.inside.next_use c.self.inside.limits.uses c.self.invariant.counted.use_limit;
  ops = rw c.room.ensures.value (Left-slots (λ _. op_record) c.self.inside.limits c.self.inside.records.ops c.self.invariant.counted.op_slots c.room.ensures.whole);
  blocks = rw c.room-2.ensures.value (Left-slots (λ b. block_record (ops_in (tree_of c.self.inside.records) b)) c.self.inside.limits c.self.inside.records.blocks c.self.invariant.counted.block_slots c.room-2.ensures.whole);
  regions = rw c.room-3.ensures.value (Left-slots (λ g _. blocks_in (tree_of c.self.inside.records) g) c.self.inside.limits c.self.inside.records.regions c.self.invariant.counted.region_slots c.room-3.ensures.whole);
  aux = rw c.room-4.ensures.value (Left-taken c.self.inside.limits c.self.inside.side.aux c.self.invariant.counted.aux_slots c.room-4.ensures.whole);
})

pub returns-clause-ops : goal.returns-clause-ops
returns-clause-ops g c = rw (sym c.self.view_is) c.room.ensures.value

pub returns-clause-blocks : goal.returns-clause-blocks
returns-clause-blocks g c = rw (sym c.self.view_is) c.room-2.ensures.value

pub returns-clause-regions : goal.returns-clause-regions
returns-clause-regions g c = rw (sym c.self.view_is) c.room-3.ensures.value
