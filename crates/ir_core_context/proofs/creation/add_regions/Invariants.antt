use Rattle.std.proofs.Common.{◌≡◌, ◌+◌, List, []}
use Rattle.ir_model.specs.declared.ids.ArenaIndex.{ArenaIndex}
use Rattle.ir_base_arenas.specs.Arena.{room, IsLiveIn}
use Rattle.ir_core_records.specs.Meaning.{forest_in}
use Rattle.ir_core_context.specs.Creation.{Extends, HoldTogether, IsGiven}
use Rattle.ir_core_context.proofs.creation.add_regions.Given as goal

abbrev pub invariant-loop-made : goal.invariant-loop-made
invariant-loop-made g l = record {
  together : HoldTogether l.records;
  live : IsLiveIn l.records.ops l.op;
  given : (rs : List ArenaIndex) × IsGiven (forest_in l.initial.records) l.op rs l.made (forest_in l.records) × Extends l.initial.records l.records [] [] rs;
  left : room l.records.regions + l.made ≡ room l.initial.records.regions;
}
