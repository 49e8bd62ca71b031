use Rattle.std.proofs.Common.{◌≤◌, List, []}
use Rattle.ir_model.specs.declared.ids.ArenaIndex.{ArenaIndex}
use Rattle.ir_model.specs.ContextIds.{context_ids}
use Rattle.ir_model.specs.Forest.{Forest}
use Rattle.ir_base_arenas.specs.Arena.{IsLiveIn}
use Rattle.ir_core_records.specs.Meaning.{closed, forest_in}
use Rattle.ir_core_context.specs.Creation.{Extends, HoldTogether, IsGiven}
use Rattle.ir_core_context.proofs.creation.remove_regions.Given as goal

abbrev pub invariant-loop-left : goal.invariant-loop-left
invariant-loop-left g l = record {
  together : HoldTogether l.records;
  live : IsLiveIn l.records.ops l.op;
  given : (f : Forest context_ids (closed g.row.D-Attr.Denot g.row.D-TypeKey.Denot g.row.D-TypeBody.Denot g.row.D-Saved.Denot g.row.D-Aux.Denot g.row.D-Loc.Denot)) (rs : List ArenaIndex)
      → IsGiven f l.op rs l.initial.left (forest_in l.initial.records) → (xs : List ArenaIndex) × IsGiven f l.op xs l.left (forest_in l.records);
  passed : Extends l.initial.records l.records [] [] [];
}

abbrev pub decreases-loop-left : goal.decreases-loop-left
decreases-loop-left g l = l.left
