-- The walk from block to block, and the blocks whose sweep takes something.
use Rattle.std.specs.Prelude.{◌≡◌, List, ◌∷◌, ◌++◌, Option}
use Rattle.ir_model.specs.declared.ids.ArenaIndex.{ArenaIndex}
use Rattle.ir_model.specs.ContextIds.{context_ids}
use Rattle.ir_model.specs.Forest.{Dialect, Behaviour, Entity, a_block, Forest}
use Rattle.ir_model.specs.Nesting.{In, ops_of}
use Rattle.ir_model.specs.Parent.{first_of}
use Rattle.ir_model.specs.SweepLaws.{NoneIsClosed}
use Rattle.ir_run_passes.specs.Going.{CanGo}

-- the next is what stands right behind here in the list, if something does
abbrev pub ComesNext : List (Entity context_ids) → Entity context_ids → Option (Entity context_ids) → Type 0
ComesNext xs here next = (before behind : List (Entity context_ids)) → xs ≡ before ++ here ∷ behind → next ≡ first_of behind

module _ {W : Dialect} (B : Behaviour W) (f : Forest context_ids W) where
  -- some operation of the block can go
  abbrev pub CanBeSwept : ArenaIndex → Type 0
  CanBeSwept b = (o : ArenaIndex) × In o (ops_of f b) × CanGo B f o

  -- no operation can go of any block in the list
  abbrev pub NoneCanBeSwept : List (Entity context_ids) → Type 0
  NoneCanBeSwept xs = (b : ArenaIndex) → In (a_block b) xs → NoneIsClosed B f b
