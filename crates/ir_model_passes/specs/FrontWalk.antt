-- A walk through a block from its front to its end, step by step: what it merged, what it kept, and what it has still to visit.
use Rattle.std.specs.Prelude.{◌≡◌, ℕ, List, ◌++◌}
use Rattle.ir_model.specs.Ids.{Ids}
use Rattle.ir_model.specs.Forest.{Dialect, Behaviour, Forest}
use Rattle.ir_model.specs.Nesting.{ops_of}
use Rattle.ir_model_passes.specs.Meaning.{SameAttributes}
use Rattle.ir_model_passes.specs.Merging.{StandsBefore, Alike, MergesSome}
use Rattle.ir_model_passes.specs.InOrder.{InOrder}

module _ {N : Ids} {W : Dialect} (B : Behaviour W) (same : SameAttributes W) (b : N.Block) where
  -- no two alike stand in the list
  abbrev pub NoneAlikeAmong : Forest N W → List N.Op → Type 0
  NoneAlikeAmong f xs = (o p : N.Op) → StandsBefore o p xs → Alike B same f o p → ⊥

  -- the walk led from the first forest to the second: so many were merged, the block is in order and has what was kept and then the rest, and no two alike were kept
  pub record WalkLeads (f : Forest N W) (kept rest : List N.Op) (g : Forest N W) (count : ℕ) : Type 0 where
    pub merges : MergesSome B same b f g count
    pub in_order : InOrder g b
    pub lists : ops_of g b ≡ kept ++ rest
    pub none_alike : NoneAlikeAmong g kept
