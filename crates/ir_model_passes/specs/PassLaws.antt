-- What the passes leave, and why they are right.
use Rattle.std.specs.Prelude.{◌≡◌, ℕ, ◌+◌, zero, suc, Bool, List, [], ◌∷◌, ◌++◌, length, take, Option}
use Rattle.std.specs.List.{zip}
use Rattle.std.specs.Cmp.{IsPartialEquivalence}
use Rattle.ir_model.specs.declared.ids.ArenaIndex.{ArenaIndex}
use Rattle.ir_model.specs.ContextIds.{context_ids}
use Rattle.ir_model.specs.Forest.{Dialect, Behaviour, Forest, Entity, Value, an_op}
use Rattle.ir_model.specs.Nesting.{In, IsClosed, WellFormed, ops_of, blocks_of}
use Rattle.ir_model.specs.Changes.{Removes}
use Rattle.ir_model.specs.Dead.{Sweeps}
use Rattle.ir_model_passes.specs.Meaning.{Interpretation, SameAttributes, Respects, OnlyPureGo, KeepsMeaning, PureHaveNoRegions, EffectsStay}
use Rattle.ir_model_passes.specs.SweepInside.{ListsLive, ListsOps, SweepsInside, NoneIsClosedInside, SweepsBlocks, ErasesSome}
use Rattle.ir_model_passes.specs.Merging.{values_given, redirect_each, redirect_results, Alike, MergesOne, MergesPartly, MergesSome, Merges, MergesBrokenOff, OperandsMoveBack}
use Rattle.ir_model_passes.specs.MergingInside.{MergesCommon, MergesInside, MergesInsideBrokenOff}
use Rattle.ir_model_passes.specs.MergeTells.{CommonTells, InsideTells}
use Rattle.ir_model_passes.specs.InOrder.{InOrder, EachIsSeen, SeesEarlier, LeavesInOrder}
use Rattle.ir_model_passes.specs.RightPasses.{IsRight}
use Rattle.ir_model_passes.specs.FrontToBack.{FrontToBack}
use Rattle.ir_model_passes.specs.FrontWalk.{WalkLeads}
use Rattle.ir_model_passes.specs.Unreached.{IsUnreached, RemovesUnreached, RemovesSome, UnreachedTells}
use Rattle.ir_model_passes.specs.Assignments.{IsRanked, CanBeCompleted}

module _ (W : Dialect) (V : Type 0) where
  -- ## Right passes

  -- a right pass and one after it are one right pass
  abbrev pub RightPassesFollow : Type 0
  RightPassesFollow = (B : Behaviour W) (gives : Interpretation W V) (f g h : Forest context_ids W) (keys : ℕ) → WellFormed f keys → IsRight B gives keys f g → IsRight B gives keys g h → IsRight B gives keys f h

  -- a right pass leaves blocks in order
  abbrev pub RightKeepsOrder : Type 0
  RightKeepsOrder = (B : Behaviour W) (gives : Interpretation W V) (f g : Forest context_ids W) (keys : ℕ) (b : ArenaIndex) → WellFormed f keys → IsRight B gives keys f g → InOrder f b → InOrder g b

  -- what changes nothing is right
  abbrev pub NothingIsRight : Type 0
  NothingIsRight = (B : Behaviour W) (gives : Interpretation W V) (f : Forest context_ids W) (keys : ℕ) → WellFormed f keys → IsRight B gives keys f f

  -- ## Sweeps

  -- a sweep of a block is right
  abbrev pub SweepIsRight : Type 0
  SweepIsRight = (B : Behaviour W) (gives : Interpretation W V) (f g : Forest context_ids W) (keys count : ℕ) (b : ArenaIndex) → WellFormed f keys → Sweeps B f b g count → IsRight B gives keys f g

  -- a sweep of all inside a root is right
  abbrev pub SweepInsideIsRight : Type 0
  SweepInsideIsRight = (B : Behaviour W) (gives : Interpretation W V) (f g : Forest context_ids W) (keys count : ℕ) (root : Entity context_ids) → WellFormed f keys → SweepsInside B f root g count → IsRight B gives keys f g

  -- ## Mergings

  -- mergings in a block are right, whether all or some, where equal attributes give equal values
  abbrev pub MergesAreRight : Type 0
  MergesAreRight = (B : Behaviour W) (same : SameAttributes W) (gives : Interpretation W V) → Respects W V same gives
      → (f g : Forest context_ids W) (keys count : ℕ) (b : ArenaIndex) → WellFormed f keys → MergesSome B same b f g count → IsRight B gives keys f g

  -- so is what is done in a block that may be out of order
  abbrev pub MergeCommonIsRight : Type 0
  MergeCommonIsRight = (B : Behaviour W) (same : SameAttributes W) (gives : Interpretation W V) → Respects W V same gives
      → (f g : Forest context_ids W) (keys : ℕ) (b : ArenaIndex) (answer : Option ℕ) → WellFormed f keys → MergesCommon B same f b g answer → IsRight B gives keys f g

  -- and what is done in each block inside a root
  abbrev pub MergeInsideIsRight : Type 0
  MergeInsideIsRight = (B : Behaviour W) (same : SameAttributes W) (gives : Interpretation W V) → Respects W V same gives
      → (f g : Forest context_ids W) (keys count : ℕ) (root : Entity context_ids) → WellFormed f keys → MergesInside B same f root g count → IsRight B gives keys f g

  -- a merging that is broken off keeps the meaning, where equal attributes give equal values
  abbrev pub PartKeepsMeaning : Type 0
  PartKeepsMeaning = (B : Behaviour W) (same : SameAttributes W) (gives : Interpretation W V) → Respects W V same gives
      → (f g : Forest context_ids W) (keys : ℕ) (b : ArenaIndex) → WellFormed f keys → MergesPartly B same f b g → WellFormed g keys × KeepsMeaning B gives f g

  -- so do mergings of which the last one may have been broken off
  abbrev pub BrokenOffKeepsMeaning : Type 0
  BrokenOffKeepsMeaning = (B : Behaviour W) (same : SameAttributes W) (gives : Interpretation W V) → Respects W V same gives
      → (f g : Forest context_ids W) (keys : ℕ) (b : ArenaIndex) → WellFormed f keys → MergesBrokenOff B same b f g → WellFormed g keys × KeepsMeaning B gives f g

  -- and so does what was broken off in one of the blocks inside a root
  abbrev pub InsideBrokenOffKeepsMeaning : Type 0
  InsideBrokenOffKeepsMeaning = (B : Behaviour W) (same : SameAttributes W) (gives : Interpretation W V) → Respects W V same gives
      → (f g : Forest context_ids W) (keys : ℕ) (root : Entity context_ids) → WellFormed f keys → MergesInsideBrokenOff B same f root g → WellFormed g keys × KeepsMeaning B gives f g

  -- ## Unreached blocks

  -- a removal of the unreached blocks of a region tells what it leaves
  abbrev pub UnreachedRemovalIsOne : Type 0
  UnreachedRemovalIsOne = (B : Behaviour W) (gives : Interpretation W V) (f g : Forest context_ids W) (keys count : ℕ) (region : ArenaIndex) → WellFormed f keys → RemovesUnreached f region g count → UnreachedTells B gives f keys region g count

  -- ## Assignments

  -- where plain operations don't use each other in a ring, any values of the others are completed to a consistent assignment
  abbrev pub AssignmentsExist : Type 0
  AssignmentsExist = (B : Behaviour W) (gives : Interpretation W V) (f : Forest context_ids W) (keys : ℕ) → WellFormed f keys → IsRanked B f → CanBeCompleted B gives f

module _ (W : Dialect) where
  module _ (B : Behaviour W) (f : Forest context_ids W) (keys : ℕ) (root : Entity context_ids) where
    -- what a sweep of all inside the root leaves
    pub record SweepInsideTells (g : Forest context_ids W) (count : ℕ) : Type 0 where
      -- nothing else would be it, and no other count
      pub only : (h : Forest context_ids W) (other : ℕ) → SweepsInside B f root h other → (h ≡ g) × (other ≡ count)
      pub formed : WellFormed g keys
      -- it counts the operations that were there and are not there any more
      pub so_many : (before after : List ArenaIndex) → ListsOps f before → ListsOps g after → length before ≡ length after + count
      -- where the live entities can be listed, no pure operation that is left inside the root is closed
      pub none_closed : (live : List (Entity context_ids)) → ListsLive f live → NoneIsClosedInside B root g

  -- a sweep of all inside a root tells what it leaves
  abbrev pub SweepInsideIsOne : Type 0
  SweepInsideIsOne = (B : Behaviour W) (f g : Forest context_ids W) (keys count : ℕ) (root : Entity context_ids) → WellFormed f keys → SweepsInside B f root g count → SweepInsideTells B f keys root g count

  -- where the live entities can be listed, blocks inside a root that are swept one after the other until nothing can go are a sweep of the root
  abbrev pub BlocksSweepInside : Type 0
  BlocksSweepInside = (B : Behaviour W) (f g : Forest context_ids W) (keys : ℕ) (root : Entity context_ids) (live : List (Entity context_ids)) → WellFormed f keys → ListsLive f live
      → SweepsBlocks B root f g → NoneIsClosedInside B root g → (count : ℕ) × SweepsInside B f root g count

  -- the same where closed pure operations listed inside the root are erased one after the other
  abbrev pub ErasesSweepInside : Type 0
  ErasesSweepInside = (B : Behaviour W) (f g : Forest context_ids W) (keys : ℕ) (root : Entity context_ids) (live : List (Entity context_ids)) → WellFormed f keys → ListsLive f live
      → ErasesSome B root f g → NoneIsClosedInside B root g → (count : ℕ) × SweepsInside B f root g count

  -- where no pure operation has regions, and nothing but pure operations went, all others are there
  abbrev pub OthersStay : Type 0
  OthersStay = (B : Behaviour W) (f g : Forest context_ids W) → PureHaveNoRegions B f → OnlyPureGo B f g → EffectsStay B f g

  -- a merging in a block in order leaves it in order, and what stands before the later operation as it was
  abbrev pub MergesLeaveOrder : Type 0
  MergesLeaveOrder = (B : Behaviour W) (same : SameAttributes W) (f g : Forest context_ids W) (keys : ℕ) (b : ArenaIndex) (m : MergesOne B same f b g) → WellFormed f keys → InOrder f b → LeavesInOrder B same f b g m

  -- the list of the block is shorter by the operations that were merged
  abbrev pub MergesAreCounted : Type 0
  MergesAreCounted = (B : Behaviour W) (same : SameAttributes W) (f g : Forest context_ids W) (keys count : ℕ) (b : ArenaIndex) → WellFormed f keys → MergesSome B same b f g count
      → length (ops_of f b) ≡ length (ops_of g b) + count

  -- what was done in a block that may be out of order is told by its answer
  abbrev pub MergeCommonTells : Type 0
  MergeCommonTells = (B : Behaviour W) (same : SameAttributes W) (f g : Forest context_ids W) (keys : ℕ) (b : ArenaIndex) (answer : Option ℕ) → WellFormed f keys → MergesCommon B same f b g answer → CommonTells B same f b g answer

  -- and what was done in each block inside a root by its count
  abbrev pub MergeInsideTells : Type 0
  MergeInsideTells = (B : Behaviour W) (same : SameAttributes W) (f g : Forest context_ids W) (keys count : ℕ) (root : Entity context_ids) → WellFormed f keys → MergesInside B same f root g count → InsideTells B same f root g count

  -- one way through a block in order merges all alike operations
  abbrev pub FrontToBackMerges : Type 0
  FrontToBackMerges = (B : Behaviour W) (same : SameAttributes W) (f g : Forest context_ids W) (keys count : ℕ) (b : ArenaIndex) → WellFormed f keys → InOrder f b
      → FrontToBack B same b f [] (ops_of f b) g count → Merges B same b f g count

  module _ (B : Behaviour W) (same : SameAttributes W) (f g : Forest context_ids W) (keys count : ℕ) (b : ArenaIndex) where
    -- what the walk led to is well formed
    abbrev pub WalkIsFormed : Type 0
    WalkIsFormed = (kept rest : List ArenaIndex) → WellFormed f keys → WalkLeads B same b f kept rest g count → WellFormed g keys

    -- where something of the rest goes after its results were replaced by those of an alike one that was kept, the walk leads on without it, and what was kept is as it was
    abbrev pub WalkMerges : Type 0
    WalkMerges = (h : Forest context_ids W) (earlier o : ArenaIndex) (kept rest : List ArenaIndex) → WellFormed f keys → WalkLeads B same b f kept (o ∷ rest) g count
        → In earlier kept → Alike B same g earlier o → Removes (redirect_results g o earlier) (an_op o) h
        → WalkLeads B same b f kept rest h (suc count) × ((k : ArenaIndex) → In k kept → h.ops k ≡ g.ops k)

    -- where only some of its results were replaced, the mergings were broken off
    abbrev pub WalkBreaksOff : Type 0
    WalkBreaksOff = (earlier o : ArenaIndex) (kept rest : List ArenaIndex) (some : ℕ) → WalkLeads B same b f kept (o ∷ rest) g count → In earlier kept → Alike B same g earlier o
        → MergesBrokenOff B same b f (redirect_each g (take some (zip (values_given g o) (values_given g earlier))))

    -- where no kept one is alike, it is kept too
    abbrev pub WalkKeeps : Type 0
    WalkKeeps = (o : ArenaIndex) (kept rest : List ArenaIndex) → WalkLeads B same b f kept (o ∷ rest) g count → ((k : ArenaIndex) → In k kept → Alike B same g k o → ⊥) → WalkLeads B same b f (kept ++ o ∷ []) rest g count

    -- where nothing is left to visit, all alike operations were merged
    abbrev pub WalkEnds : Type 0
    WalkEnds = (kept : List ArenaIndex) → WalkLeads B same b f kept [] g count → Merges B same b f g count

  -- a walk through a block in order begins with nothing kept
  abbrev pub WalkBegins : Type 0
  WalkBegins = (B : Behaviour W) (same : SameAttributes W) (f : Forest context_ids W) (b : ArenaIndex) → InOrder f b → WalkLeads B same b f [] (ops_of f b) f zero

  -- the steps of a walk, and its end
  pub record WalkSteps : Type 0 where
    pub begins : WalkBegins
    pub formed : (B : Behaviour W) (same : SameAttributes W) (f g : Forest context_ids W) (keys count : ℕ) (b : ArenaIndex) → WalkIsFormed B same f g keys count b
    pub merges : (B : Behaviour W) (same : SameAttributes W) (f g : Forest context_ids W) (keys count : ℕ) (b : ArenaIndex) → WalkMerges B same f g keys count b
    pub breaks_off : (B : Behaviour W) (same : SameAttributes W) (f g : Forest context_ids W) (keys count : ℕ) (b : ArenaIndex) → WalkBreaksOff B same f g keys count b
    pub keeps : (B : Behaviour W) (same : SameAttributes W) (f g : Forest context_ids W) (keys count : ℕ) (b : ArenaIndex) → WalkKeeps B same f g keys count b
    pub ends : (B : Behaviour W) (same : SameAttributes W) (f g : Forest context_ids W) (keys count : ℕ) (b : ArenaIndex) → WalkEnds B same f g keys count b

  -- once the results of one of two alike operations were replaced by those of the other one, nothing outside it names what it defines
  abbrev pub ReplacedIsClosed : Type 0
  ReplacedIsClosed = (B : Behaviour W) (same : SameAttributes W) (f : Forest context_ids W) (keys : ℕ) (earlier later : ArenaIndex) → WellFormed f keys → (earlier ≡ later → ⊥) → Alike B same f earlier later → IsClosed (redirect_results f later earlier) (an_op later)

  -- where the test of attributes is symmetric and transitive, that way has one outcome
  abbrev pub FrontToBackIsOne : Type 0
  FrontToBackIsOne = (B : Behaviour W) (same : SameAttributes W) → IsPartialEquivalence same → (f g h : Forest context_ids W) (keys count other : ℕ) (b : ArenaIndex) → WellFormed f keys → InOrder f b
      → FrontToBack B same b f [] (ops_of f b) g count → FrontToBack B same b f [] (ops_of f b) h other → (h ≡ g) × (other ≡ count)

  -- where operands moved back, each operation still names only what it may see, in every sense in which it sees what is given before what it sees
  abbrev pub SeenStaysSeen : Type 0
  SeenStaysSeen = (f g : Forest context_ids W) (may_see : Value context_ids → ArenaIndex → Bool) → OperandsMoveBack f g → SeesEarlier may_see f → EachIsSeen may_see f → EachIsSeen may_see g

  -- where the live entities can be listed, unreached blocks that lose their uses and are erased, until none is left in the region, are removed
  abbrev pub StepsRemoveUnreached : Type 0
  StepsRemoveUnreached = (f g : Forest context_ids W) (keys : ℕ) (region : ArenaIndex) (live : List (Entity context_ids)) → WellFormed f keys → ListsLive f live
      → RemovesSome f region g → ((b : ArenaIndex) → In b (blocks_of g region) → IsUnreached f region b → ⊥) → (count : ℕ) × RemovesUnreached f region g count
