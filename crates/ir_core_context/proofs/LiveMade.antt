-- What is live in a context was handed out.
use Rattle.std.proofs.lemmas.Bool.{lt-ltb}
use Rattle.ir_model.specs.declared.ids.ArenaIndex.{ArenaIndex}
use Rattle.ir_model.proofs.Arenas.{live-passed}
use Rattle.ir_base_arenas.specs.Arena.{IsWhole, get}
use Rattle.ir_core_records.specs.Meaning.{block_record, op_record}
use Rattle.ir_core_records.specs.Tree.{blocks_in, ops_in, tree_of}
use Rattle.ir_core_context.specs.Calls.{LiveWasMade}
use Rattle.ir_core_context.specs.Sound.{IsSound}
use Rattle.ir_core_context.specs.State.{ContextState, bare}
use Rattle.ir_core_context.proofs.Handed.{some-map}

module _ {D A K B S X L : Type 0} (s : ContextState D A K B S X L) (sound : IsSound s) (ops : IsWhole s.records.ops) (blocks : IsWhole s.records.blocks) (regions : IsWhole s.records.regions) where
  pub live-made : LiveWasMade (bare s)
  live-made = record {
    ops = λ i h. live-passed s.records.ops i ops (some-map op_record (get s.records.ops i) h);
    blocks = λ i h. live-passed s.records.blocks i blocks (some-map (block_record (ops_in (tree_of s.records) i)) (get s.records.blocks i) h);
    regions = λ i h. live-passed s.records.regions i regions (some-map (λ _. blocks_in (tree_of s.records) i) (get s.records.regions i) h);
    values = λ d n h. lt-ltb n s.next_value (sound.counted.values d n h);
    uses = λ o n h. lt-ltb n s.next_use (sound.counted.uses o n h);
  }
