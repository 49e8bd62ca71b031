-- Edges between blocks, from both ends.
use Rattle.std.specs.Prelude.{◌↔◌, List}
use Rattle.ir_model.specs.declared.ids.ArenaIndex.{ArenaIndex}
use Rattle.ir_model.specs.BlockGraph.{IsSuccessor}
use Rattle.ir_model.specs.ContextIds.{context_ids}
use Rattle.ir_model.specs.DefinitionLaws.{OnlyTerminatorsBranch}
use Rattle.ir_model.specs.Forest.{Behaviour, Dialect, Forest}
use Rattle.ir_model.specs.Nesting.{In}

-- where terminators alone name successors, these are exactly the blocks that have the block among their successors
abbrev pub MeetSuccessors : {W : Dialect} → Behaviour W → Forest context_ids W → ArenaIndex → List ArenaIndex → Type 0
MeetSuccessors B f b blocks = OnlyTerminatorsBranch f B → (a : ArenaIndex) → IsSuccessor B f a b ↔ In a blocks
