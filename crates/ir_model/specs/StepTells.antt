-- What a step tells: the table of the edits, line by line, and what each answer says of room and of what was passed.
use Rattle.std.specs.Prelude.{◌≡◌, ◌≢◌, ◌⊎◌, ◌↔◌, ℕ, ◌+◌, ◌<◌, ◌≤◌, Bool, false, List, map, length, Some, IsTrue, slice_get}
use Rattle.ir_model.specs.declared.ids.ArenaIndex.{ArenaIndex}
use Rattle.ir_model.specs.declared.answer.Answer.{Answer}
use Rattle.ir_model.specs.declared.answer.Answer.TheVariants.{Made, Done, Refused}
use Rattle.ir_model.specs.declared.answer.Refused.{Refused as Reason}
use Rattle.ir_model.specs.declared.answer.Refused.TheVariants.{Condition as ForCondition, Counter, Slots, Memory}
use Rattle.ir_model.specs.Ids.{Counts, Distinct}
use Rattle.ir_model.specs.ContextIds.{context_ids}
use Rattle.ir_model.specs.Forest.{Dialect, Behaviour}
use Rattle.ir_model.specs.Nesting.{In, regions_of, use_numbers_of}
use Rattle.ir_model.specs.Edits.{Edit, State, Condition, NewType, NewOp, NewBlock, AddRegion, PushResult, PushArgument, InsertResult, InsertArgument, RemoveResult, RemoveArgument, PushOperand, PushSuccessor, InsertOperand, InsertSuccessor, RemoveOperand, RemoveSuccessor, ReplaceOperand, ReplaceSuccessor, ReplaceAllUses, RetargetAll, OpFront, OpBack, OpBefore, OpAfter, UnlinkOp, UnlinkBlock, BlockFront, BlockBack, BlockBefore, BlockAfter, AppendOps, AppendBlocks, MoveRegion, DropOpUses, DropBlockUses, DropRegionUses, EraseOp, EraseBlock, EraseRegion}
use Rattle.ir_model.specs.Sessions.{Session, Passed, Step}
use Rattle.ir_model.specs.Soundness.{AreGone, Sound}

-- a line of the table of edits: the answer of the edit where it is made, when it may grow, and how much it takes
pub record Line : Type 1 where
  pub answer : Answer
  pub grows : Type 0
  pub takes : Counts

-- a line, with the value numbers, the use numbers, the operations, the blocks and the regions that the edit takes
abbrev pub line_of : Answer → Type 0 → ℕ → ℕ → ℕ → ℕ → ℕ → Line
line_of a grows numbers uses ops blocks regions =
    record { answer = a; grows = grows; takes = record { ops = ops; blocks = blocks; regions = regions; numbers = numbers; uses = uses } }

-- always
abbrev pub Yes : Type 0
Yes = Unit {0}

-- never
abbrev pub No : Type 0
No = ⊥

module _ {W : Dialect} where
  -- the region with the one number stands in the operation with the other
  abbrev pub IsAtHome : State context_ids W → ℕ → ℕ → Type 0
  IsAtHome s n m = (region op : ArenaIndex) × (slice_get s.tables.regions n ≡ Some region) × (slice_get s.tables.ops m ≡ Some op) × In region (regions_of s.forest op)

  -- the table of the edits: the answer, when it may grow, and the value numbers, use numbers, operations, blocks and regions that it takes
  abbrev pub line : State context_ids W → Edit W → Line
  line s (NewType key) = line_of (Made (length s.tables.types)) Yes 0 0 0 0 0
  line s (NewOp kind types operands successors regions) = line_of (Made (length s.tables.ops)) Yes (length types) (length operands + length successors) 1 0 regions
  line s (NewBlock label types) = line_of (Made (length s.tables.blocks)) Yes (length types) 0 0 1 0
  line s (AddRegion n) = line_of (Made (length s.tables.regions)) Yes 0 0 0 0 1
  line s (PushResult n ty) = line_of (Made (length s.tables.values)) Yes 1 0 0 0 0
  line s (PushArgument n ty) = line_of (Made (length s.tables.values)) Yes 1 0 0 0 0
  line s (InsertResult n at ty) = line_of (Made (length s.tables.values)) Yes 1 0 0 0 0
  line s (InsertArgument n at ty) = line_of (Made (length s.tables.values)) Yes 1 0 0 0 0
  line s (RemoveResult n at) = line_of Done No 0 0 0 0 0
  line s (RemoveArgument n at) = line_of Done No 0 0 0 0 0
  line s (PushOperand n v) = line_of Done Yes 0 1 0 0 0
  line s (PushSuccessor n m) = line_of Done Yes 0 1 0 0 0
  line s (InsertOperand n at v) = line_of Done Yes 0 1 0 0 0
  line s (InsertSuccessor n at m) = line_of Done Yes 0 1 0 0 0
  line s (RemoveOperand n at) = line_of Done No 0 0 0 0 0
  line s (RemoveSuccessor n at) = line_of Done No 0 0 0 0 0
  line s (ReplaceOperand n at v) = line_of Done Yes 0 1 0 0 0
  line s (ReplaceSuccessor n at m) = line_of Done Yes 0 1 0 0 0
  line s (ReplaceAllUses v w) = line_of Done (v ≢ w) 0 0 0 0 0
  line s (RetargetAll n m) = line_of Done (n ≢ m) 0 0 0 0 0
  line s (OpFront n m) = line_of Done No 0 0 0 0 0
  line s (OpBack n m) = line_of Done No 0 0 0 0 0
  line s (OpBefore n m) = line_of Done No 0 0 0 0 0
  line s (OpAfter n m) = line_of Done No 0 0 0 0 0
  line s (UnlinkOp n) = line_of Done No 0 0 0 0 0
  line s (UnlinkBlock n) = line_of Done No 0 0 0 0 0
  line s (BlockFront n m) = line_of Done No 0 0 0 0 0
  line s (BlockBack n m) = line_of Done No 0 0 0 0 0
  line s (BlockBefore n m) = line_of Done No 0 0 0 0 0
  line s (BlockAfter n m) = line_of Done No 0 0 0 0 0
  line s (AppendOps n m) = line_of Done No 0 0 0 0 0
  line s (AppendBlocks n m) = line_of Done No 0 0 0 0 0
  line s (MoveRegion n m) = line_of Done (IsAtHome s n m → ⊥) 0 0 0 0 0
  line s (DropOpUses n) = line_of Done No 0 0 0 0 0
  line s (DropBlockUses n) = line_of Done No 0 0 0 0 0
  line s (DropRegionUses n) = line_of Done No 0 0 0 0 0
  line s (EraseOp n) = line_of Done No 0 0 0 0 0
  line s (EraseBlock n) = line_of Done No 0 0 0 0 0
  line s (EraseRegion n at) = line_of Done No 0 0 0 0 0

  -- the numbers of the values in the table
  abbrev pub numbers_in : Session W → List ℕ
  numbers_in s = map (λ v. v.number) s.state.tables.values

  -- beside those that are gone, there are still so many value and use numbers
  abbrev pub NumbersFit : Session W → Counts → Counts → Type 0
  NumbersFit s gone n = (gone.numbers + n.numbers ≤ s.limits.values) × (gone.uses + n.uses ≤ s.limits.uses)

  -- there are too few value numbers, or too few use numbers
  abbrev pub NumbersLack : Session W → Counts → Counts → Type 0
  NumbersLack s gone n = (s.limits.values < gone.numbers + n.numbers) ⊎ (s.limits.uses < gone.uses + n.uses)

  -- there are still so many slots for operations, for blocks and for regions
  abbrev pub SlotsFit : Session W → Counts → Counts → Type 0
  SlotsFit s gone n = (gone.ops + n.ops ≤ s.limits.slots) × (gone.blocks + n.blocks ≤ s.limits.slots) × (gone.regions + n.regions ≤ s.limits.slots)

  -- there are too few slots for operations, for blocks or for regions
  abbrev pub SlotsLack : Session W → Counts → Counts → Type 0
  SlotsLack s gone n = (s.limits.slots < gone.ops + n.ops) ⊎ (s.limits.slots < gone.blocks + n.blocks) ⊎ (s.limits.slots < gone.regions + n.regions)

-- what has passed now had passed before or is one of these, none of which had
abbrev pub PassesThese : {A : Type 0} → (A → Bool) → (A → Bool) → List A → Type 0
PassesThese {A} old new xs = ((x : A) → In x xs → old x ≡ false) × ((x : A) → IsTrue (new x) ↔ (IsTrue (old x) ⊎ In x xs))

-- exactly n more have passed
abbrev pub ExactlyMore : {A : Type 0} → (A → Bool) → (A → Bool) → ℕ → Type 0
ExactlyMore {A} old new n = (xs : List A) × Distinct xs × (length xs ≡ n) × PassesThese old new xs

-- at most n more have passed
abbrev pub AtMostMore : {A : Type 0} → (A → Bool) → (A → Bool) → ℕ → Type 0
AtMostMore {A} old new n = (xs : List A) × (length xs ≤ n) × PassesThese old new xs

-- of each kind exactly so many more have passed
pub record PassesExactly (old new : Passed) (n : Counts) : Type 0 where
  pub ops : ExactlyMore old.ops new.ops n.ops
  pub blocks : ExactlyMore old.blocks new.blocks n.blocks
  pub regions : ExactlyMore old.regions new.regions n.regions
  pub numbers : ExactlyMore old.numbers new.numbers n.numbers
  pub uses : ExactlyMore old.uses new.uses n.uses

-- of each kind at most so many more have passed
pub record PassesAtMost (old new : Passed) (n : Counts) : Type 0 where
  pub ops : AtMostMore old.ops new.ops n.ops
  pub blocks : AtMostMore old.blocks new.blocks n.blocks
  pub regions : AtMostMore old.regions new.regions n.regions
  pub numbers : AtMostMore old.numbers new.numbers n.numbers
  pub uses : AtMostMore old.uses new.uses n.uses

module _ {W : Dialect} where
  -- what stands newly in the tables is what has newly passed, and a use number that stands newly has newly passed
  pub record ListsWhatPassed (s t : Session W) : Type 0 where
    pub ops : (i : ArenaIndex) → (In i t.state.tables.ops × (In i s.state.tables.ops → ⊥)) ↔ (IsTrue (t.passed.ops i) × (s.passed.ops i ≡ false))
    pub blocks : (i : ArenaIndex) → (In i t.state.tables.blocks × (In i s.state.tables.blocks → ⊥)) ↔ (IsTrue (t.passed.blocks i) × (s.passed.blocks i ≡ false))
    pub regions : (i : ArenaIndex) → (In i t.state.tables.regions × (In i s.state.tables.regions → ⊥)) ↔ (IsTrue (t.passed.regions i) × (s.passed.regions i ≡ false))
    pub numbers : (n : ℕ) → (In n (numbers_in t) × (In n (numbers_in s) → ⊥)) ↔ (IsTrue (t.passed.numbers n) × (s.passed.numbers n ≡ false))
    pub uses : (o : ArenaIndex) (u : ℕ) → In u (use_numbers_of t.state.forest o) → (In u (use_numbers_of s.state.forest o) → ⊥) → IsTrue (t.passed.uses u) × (s.passed.uses u ≡ false)

module _ (W : Dialect) (B : Behaviour W) where
  -- refused for a counter exactly where the condition holds and numbers lack
  abbrev pub CounterIsTold : Type 0
  CounterIsTold =
      (edit : Edit W) (s t : Session W) (a : Answer) (gone : Counts) → AreGone s gone → Step B s edit a t
      → (a ≡ Refused Counter) ↔ (Condition s.state edit × NumbersLack s gone (line s.state edit).takes)

  -- refused for slots exactly where the condition holds, the numbers are there and slots lack
  abbrev pub SlotsAreTold : Type 0
  SlotsAreTold =
      (edit : Edit W) (s t : Session W) (a : Answer) (gone : Counts) → AreGone s gone → Step B s edit a t
      → (a ≡ Refused Slots) ↔ (Condition s.state edit × NumbersFit s gone (line s.state edit).takes × SlotsLack s gone (line s.state edit).takes)

  -- answered by the table, or refused for memory, exactly where the condition holds and there is room
  abbrev pub OthersAreMade : Type 0
  OthersAreMade =
      (edit : Edit W) (s t : Session W) (a : Answer) (gone : Counts) → AreGone s gone → Step B s edit a t
      → ((a ≡ (line s.state edit).answer) ⊎ (a ≡ Refused Memory)) ↔ (Condition s.state edit × NumbersFit s gone (line s.state edit).takes × SlotsFit s gone (line s.state edit).takes)

  -- refused for memory only where the edit may grow
  abbrev pub OnlyGrowthIsRefused : Type 0
  OnlyGrowthIsRefused = (edit : Edit W) (s t : Session W) → Step B s edit (Refused Memory) t → (line s.state edit).grows

  -- an edit that is made passes exactly what it takes
  abbrev pub MadePassExactly : Type 0
  MadePassExactly = (edit : Edit W) (s t : Session W) → Step B s edit (line s.state edit).answer t → PassesExactly s.passed t.passed (line s.state edit).takes

  -- from a sound session an edit that is made passes the ids and value numbers that it makes, and no others, and the use numbers that it makes
  abbrev pub MadePassWhatTheyMake : Type 0
  MadePassWhatTheyMake = (edit : Edit W) (s t : Session W) → Sound s → Step B s edit (line s.state edit).answer t → ListsWhatPassed s t

  -- a refused edit passes at most what it takes
  abbrev pub RefusedPassAtMost : Type 0
  RefusedPassAtMost = (edit : Edit W) (s t : Session W) (reason : Reason) → Step B s edit (Refused reason) t → PassesAtMost s.passed t.passed (line s.state edit).takes

  -- an edit that is refused for its condition leaves the session
  abbrev pub ConditionLeavesAll : Type 0
  ConditionLeavesAll = (edit : Edit W) (s t : Session W) → Step B s edit (Refused ForCondition) t → t ≡ s
