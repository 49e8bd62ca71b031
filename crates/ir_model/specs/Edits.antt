-- The edits of a session: their conditions, needs, answers and changes.
use Rattle.ir_model.specs.declared.answer.Answer.{Answer}
use Rattle.ir_model.specs.declared.answer.Answer.TheVariants.{Made, Done}
use Rattle.std.specs.Prelude.{Bool, ◌≡◌, ◌≢◌, ℕ, ◌+◌, ◌<◌, ◌≤◌, if◌then◌else◌, List, [], ◌∷◌, ◌++◌, map, length, take, drop, Option, Some, IsSome, slice_get}
use Rattle.std.specs.List.{insert, remove, list_any, zip, filter_map, position_or_len}
use Rattle.ir_model.specs.Ids.{Ids, Fresh, Counts}
use Rattle.ir_model.specs.Forest.{Text, Dialect, Behaviour, Definer, of_op, of_block, Value, Entity, an_op, a_block, a_region, OpRecord, BlockRecord, Forest, Named, a_value, the_block}
use Rattle.ir_model.specs.Nesting.{In, IsLinked, Inside, IsLiveNamed, IsClosed, children, names_of}
use Rattle.ir_model.specs.Changes.{definition, operand, successor, on_op, on_block, on_region, new_op, new_block, add_region, on_results, on_arguments, on_operands, on_successors, on_ops, redirect, retarget, in_blocks, in_regions, append_ops, append_blocks, move_region, put_before, put_after, without, DropsUses, Removes}

-- an edit; types, operations, blocks, regions and values are named by their numbers in the tables
pub data Edit (W : Dialect) : Type 0 where
  -- a key
  NewType : W.Key → Edit W
  -- a kind, the types of the results, the operands, the successors, and how many regions
  NewOp : ℕ → List ℕ → List ℕ → List ℕ → ℕ → Edit W
  -- a label, and the types of the arguments
  NewBlock : Option Text → List ℕ → Edit W
  -- an operation
  AddRegion : ℕ → Edit W
  -- an operation or a block, and a type
  PushResult : ℕ → ℕ → Edit W
  PushArgument : ℕ → ℕ → Edit W
  -- an operation or a block, a place, and a type
  InsertResult : ℕ → ℕ → ℕ → Edit W
  InsertArgument : ℕ → ℕ → ℕ → Edit W
  -- an operation or a block, and a place
  RemoveResult : ℕ → ℕ → Edit W
  RemoveArgument : ℕ → ℕ → Edit W
  -- an operation, and a value or a block
  PushOperand : ℕ → ℕ → Edit W
  PushSuccessor : ℕ → ℕ → Edit W
  -- an operation, a place, and a value or a block
  InsertOperand : ℕ → ℕ → ℕ → Edit W
  InsertSuccessor : ℕ → ℕ → ℕ → Edit W
  -- an operation, and a place
  RemoveOperand : ℕ → ℕ → Edit W
  RemoveSuccessor : ℕ → ℕ → Edit W
  -- an operation, a place, and a value or a block
  ReplaceOperand : ℕ → ℕ → ℕ → Edit W
  ReplaceSuccessor : ℕ → ℕ → ℕ → Edit W
  -- the old value or block, and the new one
  ReplaceAllUses : ℕ → ℕ → Edit W
  RetargetAll : ℕ → ℕ → Edit W
  -- an operation, and the block that it goes into
  OpFront : ℕ → ℕ → Edit W
  OpBack : ℕ → ℕ → Edit W
  -- an operation, and the operation that it goes beside
  OpBefore : ℕ → ℕ → Edit W
  OpAfter : ℕ → ℕ → Edit W
  -- what is unlinked
  UnlinkOp : ℕ → Edit W
  UnlinkBlock : ℕ → Edit W
  -- a block, and the region that it goes into
  BlockFront : ℕ → ℕ → Edit W
  BlockBack : ℕ → ℕ → Edit W
  -- a block, and the block that it goes beside
  BlockBefore : ℕ → ℕ → Edit W
  BlockAfter : ℕ → ℕ → Edit W
  -- the donee and the donor: two blocks, or two regions
  AppendOps : ℕ → ℕ → Edit W
  AppendBlocks : ℕ → ℕ → Edit W
  -- a region, and the operation that it goes to
  MoveRegion : ℕ → ℕ → Edit W
  -- what is to be without uses
  DropOpUses : ℕ → Edit W
  DropBlockUses : ℕ → Edit W
  DropRegionUses : ℕ → Edit W
  -- what is erased
  EraseOp : ℕ → Edit W
  EraseBlock : ℕ → Edit W
  -- an operation, and the place of its region that is erased
  EraseRegion : ℕ → ℕ → Edit W

-- a stored type: its key, and the part outside equality
pub record StoredType (W : Dialect) : Type 0 where
  pub key : W.Key
  pub body : W.Body

-- what a session made, in the order in which it made it; a type is its handle, the place of a stored one
pub record Tables (N : Ids) : Type 0 where
  pub types : List ℕ
  pub ops : List N.Op
  pub blocks : List N.Block
  pub regions : List N.Region
  pub values : List (Value N)

-- what the edits change: the forest, the stored types and the tables
pub record State (N : Ids) (W : Dialect) : Type 0 where
  pub forest : Forest N W
  -- the stored types: handle k means the k-th
  pub store : List (StoredType W)
  pub tables : Tables N

-- it is there, and P holds of it
pub record The {A : Type 0} (m : Option A) (P : A → Type 0) : Type 0 where
  pub value : A
  pub found : m ≡ Some value
  pub holds : P value

-- each of the list
abbrev pub Each : (ℕ → Type 0) → List ℕ → Type 0
Each P [] = Unit {0}
Each P (n ∷ ns) = P n × Each P ns

-- the entries of the table with these numbers, in the order of the numbers
abbrev pub these : {A : Type 0} → List A → List ℕ → List A
these table ns = filter_map (slice_get table) ns

module _ {K : Type 0} (same : K → K → Bool) where
  -- the place of the key among the keys, and where it is not there the place behind the last
  abbrev pub place_of : List K → K → ℕ
  place_of keys key = position_or_len (λ k. same k key) keys

  -- the keys with this one: where it is there they are as before, and else it goes last
  abbrev pub with_key : List K → K → List K
  with_key keys key = if list_any (λ k. same k key) keys then keys else keys ++ key ∷ []

module _ {W : Dialect} where
  -- the place of the stored type with this key, and where there is none the place behind the last
  abbrev pub type_place : Behaviour W → List (StoredType W) → W.Key → ℕ
  type_place B store key = position_or_len (λ t. B.same_key t.key key) store

  -- the stored types with this key: where it is there they are as before, and else it goes last with the first body
  abbrev pub with_type : Behaviour W → List (StoredType W) → W.Key → List (StoredType W)
  with_type B store key = if list_any (λ t. B.same_key t.key key) store then store else store ++ record { key = key; body = B.first_body } ∷ []

module _ {N : Ids} where
  -- the values with these numbers that d defines
  abbrev pub numbered : Definer N → List N.ValueNumber → List (Value N)
  numbered d ns = map (λ n. record { definer = d; number = n }) ns

module _ {N : Ids} {W : Dialect} where
  -- n is the number of an operation o such that P
  abbrev pub TheOp : State N W → ℕ → (N.Op → Type 0) → Type 0
  TheOp s n P = The (slice_get s.tables.ops n) P

  -- n is the number of a block b such that P
  abbrev pub TheBlock : State N W → ℕ → (N.Block → Type 0) → Type 0
  TheBlock s n P = The (slice_get s.tables.blocks n) P

  -- n is the number of a region such that P
  abbrev pub TheRegion : State N W → ℕ → (N.Region → Type 0) → Type 0
  TheRegion s n P = The (slice_get s.tables.regions n) P

  -- n is the number of a value such that P
  abbrev pub TheValue : State N W → ℕ → (Value N → Type 0) → Type 0
  TheValue s n P = The (slice_get s.tables.values n) P

  -- n is the number of a type, whose handle is t, such that P
  abbrev pub TheType : State N W → ℕ → (ℕ → Type 0) → Type 0
  TheType s n P = The (slice_get s.tables.types n) P

  -- n is the number of a live operation with a record r such that P
  abbrev pub LiveOp : State N W → ℕ → (N.Op → OpRecord N W → Type 0) → Type 0
  LiveOp s n P = TheOp s n λ o. The (s.forest.ops o) λ r. P o r

  -- n is the number of a live block with a record r such that P
  abbrev pub LiveBlock : State N W → ℕ → (N.Block → BlockRecord N W → Type 0) → Type 0
  LiveBlock s n P = TheBlock s n λ b. The (s.forest.blocks b) λ r. P b r

  -- n is the number of a live region such that P
  abbrev pub LiveRegion : State N W → ℕ → (N.Region → Type 0) → Type 0
  LiveRegion s n P = TheRegion s n λ r. IsSome (s.forest.regions r) × P r

  -- n is the number of a live value such that P
  abbrev pub LiveValue : State N W → ℕ → (Value N → Type 0) → Type 0
  LiveValue s n P = TheValue s n λ v. IsLiveNamed s.forest (a_value v) × P v

  -- each of these is the number of a type
  abbrev pub KnownTypes : State N W → List ℕ → Type 0
  KnownTypes s ns = Each (λ n. n < length s.tables.types) ns

  -- no operation names the definition
  abbrev pub Unused : Forest N W → Named N → Type 0
  Unused f d = (o : N.Op) → In d (names_of f o) → ⊥

  -- x is unlinked and may stand in the list of y
  abbrev pub MayGoInto : Forest N W → Entity N → Entity N → Type 0
  MayGoInto f x y = (IsLinked f x → ⊥) × (Inside f x y → ⊥)

  -- x is unlinked, and may stand beside the mark
  abbrev pub MayGoBeside : Forest N W → Entity N → Entity N → Type 0
  MayGoBeside f x mark = (IsLinked f x → ⊥) × ((y : Entity N) × In mark (children f y) × (Inside f x y → ⊥))

  -- the second's list may be joined to the first's
  abbrev pub MayJoin : Forest N W → Entity N → Entity N → Type 0
  MayJoin f donee donor = (donee ≢ donor) × ((x : Entity N) → In x (children f donor) → (Inside f x donee → ⊥) × (Inside f x donor → ⊥))

  -- each operation that names the block as a successor is linked
  abbrev pub UsersLinked : Forest N W → N.Block → Type 0
  UsersLinked f b = (o : N.Op) → In (the_block b) (names_of f o) → IsLinked f (an_op o)

  -- what is asked of the state before the edit: what it names is listed and live, and beside that what stands in its line
  abbrev pub Condition : State N W → Edit W → Type 0
  Condition s (NewType key) = Unit {0}
  Condition s (NewOp kind types operands successors regions) =
      KnownTypes s types × Each (λ n. LiveValue s n λ _. Unit {0}) operands × Each (λ n. LiveBlock s n λ _ _. Unit {0}) successors
  Condition s (NewBlock label types) = KnownTypes s types
  Condition s (AddRegion n) = LiveOp s n λ o r. Unit {0}
  Condition s (PushResult n ty) = (LiveOp s n λ o r. Unit {0}) × (TheType s ty λ t. Unit {0})
  Condition s (PushArgument n ty) = (LiveBlock s n λ b r. Unit {0}) × (TheType s ty λ t. Unit {0})
  Condition s (InsertResult n at ty) = (LiveOp s n λ o r. at ≤ length r.results) × (TheType s ty λ t. Unit {0})
  Condition s (InsertArgument n at ty) = (LiveBlock s n λ b r. at ≤ length r.arguments) × (TheType s ty λ t. Unit {0})
  Condition s (RemoveResult n at) = LiveOp s n λ o r. The (slice_get r.results at) λ x. Unused s.forest (a_value record { definer = of_op o; number = x.number })
  Condition s (RemoveArgument n at) = LiveBlock s n λ b r. The (slice_get r.arguments at) λ x. Unused s.forest (a_value record { definer = of_block b; number = x.number })
  Condition s (PushOperand n v) = LiveOp s n λ o r. LiveValue s v λ x. Unit {0}
  Condition s (PushSuccessor n m) = LiveOp s n λ o r. LiveBlock s m λ b q. Unit {0}
  Condition s (InsertOperand n at v) = LiveOp s n λ o r. LiveValue s v λ x. at ≤ length r.operands
  Condition s (InsertSuccessor n at m) = LiveOp s n λ o r. LiveBlock s m λ b q. at ≤ length r.successors
  Condition s (RemoveOperand n at) = LiveOp s n λ o r. at < length r.operands
  Condition s (RemoveSuccessor n at) = LiveOp s n λ o r. at < length r.successors
  Condition s (ReplaceOperand n at v) = LiveOp s n λ o r. LiveValue s v λ x. at < length r.operands
  Condition s (ReplaceSuccessor n at m) = LiveOp s n λ o r. LiveBlock s m λ b q. at < length r.successors
  Condition s (ReplaceAllUses v w) = LiveValue s v λ x. LiveValue s w λ y. Unit {0}
  Condition s (RetargetAll n m) = LiveBlock s n λ b r. LiveBlock s m λ c q. UsersLinked s.forest b
  Condition s (OpFront n m) = LiveOp s n λ o r. LiveBlock s m λ b q. MayGoInto s.forest (an_op o) (a_block b)
  Condition s (OpBack n m) = LiveOp s n λ o r. LiveBlock s m λ b q. MayGoInto s.forest (an_op o) (a_block b)
  Condition s (OpBefore n m) = LiveOp s n λ o r. LiveOp s m λ mark q. MayGoBeside s.forest (an_op o) (an_op mark)
  Condition s (OpAfter n m) = LiveOp s n λ o r. LiveOp s m λ mark q. MayGoBeside s.forest (an_op o) (an_op mark)
  Condition s (UnlinkOp n) = LiveOp s n λ o r. IsLinked s.forest (an_op o)
  Condition s (UnlinkBlock n) = LiveBlock s n λ b r. IsLinked s.forest (a_block b)
  Condition s (BlockFront n m) = LiveBlock s n λ b r. LiveRegion s m λ g. MayGoInto s.forest (a_block b) (a_region g)
  Condition s (BlockBack n m) = LiveBlock s n λ b r. LiveRegion s m λ g. MayGoInto s.forest (a_block b) (a_region g)
  Condition s (BlockBefore n m) = LiveBlock s n λ b r. LiveBlock s m λ mark q. MayGoBeside s.forest (a_block b) (a_block mark)
  Condition s (BlockAfter n m) = LiveBlock s n λ b r. LiveBlock s m λ mark q. MayGoBeside s.forest (a_block b) (a_block mark)
  Condition s (AppendOps n m) = LiveBlock s n λ b r. LiveBlock s m λ c q. MayJoin s.forest (a_block b) (a_block c)
  Condition s (AppendBlocks n m) = LiveRegion s n λ g. LiveRegion s m λ h. MayJoin s.forest (a_region g) (a_region h)
  Condition s (MoveRegion n m) = LiveRegion s n λ g. LiveOp s m λ o r. Inside s.forest (a_region g) (an_op o) → ⊥
  Condition s (DropOpUses n) = LiveOp s n λ o r. Unit {0}
  Condition s (DropBlockUses n) = LiveBlock s n λ b r. Unit {0}
  Condition s (DropRegionUses n) = LiveRegion s n λ g. Unit {0}
  Condition s (EraseOp n) = LiveOp s n λ o r. IsClosed s.forest (an_op o)
  Condition s (EraseBlock n) = LiveBlock s n λ b r. IsClosed s.forest (a_block b)
  Condition s (EraseRegion n at) = LiveOp s n λ o r. The (slice_get r.regions at) λ g. IsClosed s.forest (a_region g)

  -- the same tables over this forest
  abbrev pub over : State N W → Forest N W → State N W
  over s f = record s { forest = f }

  -- a new result or argument, put in by g, and its value in the table
  abbrev pub AddsValue : State N W → Fresh N → Definer N → (N.ValueNumber → Forest N W) → State N W → Type 0
  AddsValue s new d g t = The (slice_get new.numbers 0) λ n.
      t ≡ record s {
        forest = g n;
        tables = record (s.tables) { values = s.tables.values ++ record { definer = d; number = n } ∷ [] };
      }

  -- a new operand or successor, put in by g under a new use number; the tables stay
  abbrev pub AddsUse : State N W → Fresh N → (N.UseNumber → Forest N W) → State N W → Type 0
  AddsUse s new g t = The (slice_get new.uses 0) λ u. t ≡ over s (g u)

  -- what an edit that is made leaves, where it made these new ids and numbers
  abbrev pub Change : Behaviour W → State N W → Edit W → Fresh N → State N W → Type 0
  Change B s (NewType key) new t =
      t ≡ record s {
        store = with_type B s.store key;
        tables = record (s.tables) { types = s.tables.types ++ type_place B s.store key ∷ [] };
      }
  Change B s (NewOp kind types operands successors regions) new t = The (slice_get new.ops 0) λ o.
      t ≡ record s {
        forest = new_op s.forest o B.unknown kind
            (map definition (zip new.numbers (these s.tables.types types)))
            (map operand (zip (take (length operands) new.uses) (these s.tables.values operands)))
            (map successor (zip (drop (length operands) new.uses) (these s.tables.blocks successors)))
            new.regions;
        tables = record (s.tables) {
          ops = s.tables.ops ++ o ∷ [];
          regions = s.tables.regions ++ new.regions;
          values = s.tables.values ++ numbered (of_op o) new.numbers;
        };
      }
  Change B s (NewBlock label types) new t = The (slice_get new.blocks 0) λ b.
      t ≡ record s {
        forest = new_block s.forest b B.unknown label (map definition (zip new.numbers (these s.tables.types types)));
        tables = record (s.tables) {
          blocks = s.tables.blocks ++ b ∷ [];
          values = s.tables.values ++ numbered (of_block b) new.numbers;
        };
      }
  Change B s (AddRegion n) new t = TheOp s n λ o. The (slice_get new.regions 0) λ r.
      t ≡ record s {
        forest = add_region s.forest o r;
        tables = record (s.tables) { regions = s.tables.regions ++ r ∷ [] };
      }
  Change B s (PushResult n ty) new t = TheOp s n λ o. TheType s ty λ y.
      AddsValue s new (of_op o) (λ x. on_op s.forest o (on_results (λ xs. xs ++ definition (x, y) ∷ []))) t
  Change B s (PushArgument n ty) new t = TheBlock s n λ b. TheType s ty λ y.
      AddsValue s new (of_block b) (λ x. on_block s.forest b (on_arguments (λ xs. xs ++ definition (x, y) ∷ []))) t
  Change B s (InsertResult n at ty) new t = TheOp s n λ o. TheType s ty λ y.
      AddsValue s new (of_op o) (λ x. on_op s.forest o (on_results (λ xs. insert xs at (definition (x, y))))) t
  Change B s (InsertArgument n at ty) new t = TheBlock s n λ b. TheType s ty λ y.
      AddsValue s new (of_block b) (λ x. on_block s.forest b (on_arguments (λ xs. insert xs at (definition (x, y))))) t
  Change B s (RemoveResult n at) new t = TheOp s n λ o. t ≡ over s (on_op s.forest o (on_results (λ xs. remove xs at)))
  Change B s (RemoveArgument n at) new t = TheBlock s n λ b. t ≡ over s (on_block s.forest b (on_arguments (λ xs. remove xs at)))
  Change B s (PushOperand n v) new t = TheOp s n λ o. TheValue s v λ x.
      AddsUse s new (λ u. on_op s.forest o (on_operands (λ ps. ps ++ operand (u, x) ∷ []))) t
  Change B s (PushSuccessor n m) new t = TheOp s n λ o. TheBlock s m λ b.
      AddsUse s new (λ u. on_op s.forest o (on_successors (λ ps. ps ++ successor (u, b) ∷ []))) t
  Change B s (InsertOperand n at v) new t = TheOp s n λ o. TheValue s v λ x.
      AddsUse s new (λ u. on_op s.forest o (on_operands (λ ps. insert ps at (operand (u, x))))) t
  Change B s (InsertSuccessor n at m) new t = TheOp s n λ o. TheBlock s m λ b.
      AddsUse s new (λ u. on_op s.forest o (on_successors (λ ps. insert ps at (successor (u, b))))) t
  Change B s (RemoveOperand n at) new t = TheOp s n λ o. t ≡ over s (on_op s.forest o (on_operands (λ ps. remove ps at)))
  Change B s (RemoveSuccessor n at) new t = TheOp s n λ o. t ≡ over s (on_op s.forest o (on_successors (λ ps. remove ps at)))
  Change B s (ReplaceOperand n at v) new t = TheOp s n λ o. TheValue s v λ x.
      AddsUse s new (λ u. on_op s.forest o (on_operands (λ ps. insert (remove ps at) at (operand (u, x))))) t
  Change B s (ReplaceSuccessor n at m) new t = TheOp s n λ o. TheBlock s m λ b.
      AddsUse s new (λ u. on_op s.forest o (on_successors (λ ps. insert (remove ps at) at (successor (u, b))))) t
  Change B s (ReplaceAllUses v w) new t = TheValue s v λ x. TheValue s w λ y. t ≡ over s (redirect s.forest x y)
  Change B s (RetargetAll n m) new t = TheBlock s n λ b. TheBlock s m λ c. t ≡ over s (retarget s.forest b c)
  Change B s (OpFront n m) new t = TheOp s n λ o. TheBlock s m λ b. t ≡ over s (on_block s.forest b (on_ops (λ os. o ∷ os)))
  Change B s (OpBack n m) new t = TheOp s n λ o. TheBlock s m λ b. t ≡ over s (on_block s.forest b (on_ops (λ os. os ++ o ∷ [])))
  Change B s (OpBefore n m) new t = TheOp s n λ o. TheOp s m λ mark. t ≡ over s (in_blocks s.forest (put_before N.same_op o mark))
  Change B s (OpAfter n m) new t = TheOp s n λ o. TheOp s m λ mark. t ≡ over s (in_blocks s.forest (put_after N.same_op o mark))
  Change B s (UnlinkOp n) new t = TheOp s n λ o. t ≡ over s (in_blocks s.forest (without N.same_op o))
  Change B s (UnlinkBlock n) new t = TheBlock s n λ b. t ≡ over s (in_regions s.forest (without N.same_block b))
  Change B s (BlockFront n m) new t = TheBlock s n λ b. TheRegion s m λ g. t ≡ over s (on_region s.forest g (λ bs. b ∷ bs))
  Change B s (BlockBack n m) new t = TheBlock s n λ b. TheRegion s m λ g. t ≡ over s (on_region s.forest g (λ bs. bs ++ b ∷ []))
  Change B s (BlockBefore n m) new t = TheBlock s n λ b. TheBlock s m λ mark. t ≡ over s (in_regions s.forest (put_before N.same_block b mark))
  Change B s (BlockAfter n m) new t = TheBlock s n λ b. TheBlock s m λ mark. t ≡ over s (in_regions s.forest (put_after N.same_block b mark))
  Change B s (AppendOps n m) new t = TheBlock s n λ b. LiveBlock s m λ c q. t ≡ over s (append_ops s.forest b c q.ops)
  Change B s (AppendBlocks n m) new t = TheRegion s n λ g. TheRegion s m λ h. The (s.forest.regions h) λ bs. t ≡ over s (append_blocks s.forest g h bs)
  Change B s (MoveRegion n m) new t = TheRegion s n λ g. LiveOp s m λ o r.
      t ≡ (if list_any (λ h. N.same_region h g) r.regions then s else over s (move_region s.forest g o))
  Change B s (DropOpUses n) new t = TheOp s n λ o. DropsUses s.forest (an_op o) t.forest × (t ≡ over s t.forest)
  Change B s (DropBlockUses n) new t = TheBlock s n λ b. DropsUses s.forest (a_block b) t.forest × (t ≡ over s t.forest)
  Change B s (DropRegionUses n) new t = TheRegion s n λ g. DropsUses s.forest (a_region g) t.forest × (t ≡ over s t.forest)
  Change B s (EraseOp n) new t = TheOp s n λ o. Removes s.forest (an_op o) t.forest × (t ≡ over s t.forest)
  Change B s (EraseBlock n) new t = TheBlock s n λ b. Removes s.forest (a_block b) t.forest × (t ≡ over s t.forest)
  Change B s (EraseRegion n at) new t = LiveOp s n λ o r. The (slice_get r.regions at) λ g. Removes s.forest (a_region g) t.forest × (t ≡ over s t.forest)

-- nothing needed
abbrev pub no_needs : Counts
no_needs = record { ops = 0; blocks = 0; regions = 0; numbers = 0; uses = 0 }

-- one value number
abbrev pub one_number : Counts
one_number = record no_needs { numbers = 1 }

-- one use number
abbrev pub one_use : Counts
one_use = record no_needs { uses = 1 }

module _ {W : Dialect} where
  -- how many ids and numbers of each kind the edit makes
  abbrev pub needs : Edit W → Counts
  needs (NewOp kind types operands successors regions) =
      record { ops = 1; blocks = 0; regions = regions; numbers = length types; uses = length operands + length successors }
  needs (NewBlock label types) = record no_needs { blocks = 1; numbers = length types }
  needs (AddRegion n) = record no_needs { regions = 1 }
  needs (PushResult n ty) = one_number
  needs (PushArgument n ty) = one_number
  needs (InsertResult n at ty) = one_number
  needs (InsertArgument n at ty) = one_number
  needs (PushOperand n v) = one_use
  needs (PushSuccessor n m) = one_use
  needs (InsertOperand n at v) = one_use
  needs (InsertSuccessor n at m) = one_use
  needs (ReplaceOperand n at v) = one_use
  needs (ReplaceSuccessor n at m) = one_use
  needs _ = no_needs

  -- how an edit that is made is answered: the number of the first thing that it made, or that it is done
  abbrev pub answer : {N : Ids} → State N W → Edit W → Answer
  answer s (NewType key) = Made (length s.tables.types)
  answer s (NewOp kind types operands successors regions) = Made (length s.tables.ops)
  answer s (NewBlock label types) = Made (length s.tables.blocks)
  answer s (AddRegion n) = Made (length s.tables.regions)
  answer s (PushResult n ty) = Made (length s.tables.values)
  answer s (PushArgument n ty) = Made (length s.tables.values)
  answer s (InsertResult n at ty) = Made (length s.tables.values)
  answer s (InsertArgument n at ty) = Made (length s.tables.values)
  answer s _ = Done

  -- the edit may be refused for want of memory
  abbrev pub MayRunOut : {N : Ids} → State N W → Edit W → Type 0
  MayRunOut s (MoveRegion n m) = The (slice_get s.tables.regions n) λ g. LiveOp s m λ o r. In g r.regions → ⊥
  MayRunOut s (ReplaceAllUses v w) = v ≢ w
  MayRunOut s (RetargetAll n m) = n ≢ m
  MayRunOut s (RemoveResult n at) = ⊥
  MayRunOut s (RemoveArgument n at) = ⊥
  MayRunOut s (RemoveOperand n at) = ⊥
  MayRunOut s (RemoveSuccessor n at) = ⊥
  MayRunOut s (OpFront n m) = ⊥
  MayRunOut s (OpBack n m) = ⊥
  MayRunOut s (OpBefore n m) = ⊥
  MayRunOut s (OpAfter n m) = ⊥
  MayRunOut s (UnlinkOp n) = ⊥
  MayRunOut s (UnlinkBlock n) = ⊥
  MayRunOut s (BlockFront n m) = ⊥
  MayRunOut s (BlockBack n m) = ⊥
  MayRunOut s (BlockBefore n m) = ⊥
  MayRunOut s (BlockAfter n m) = ⊥
  MayRunOut s (AppendOps n m) = ⊥
  MayRunOut s (AppendBlocks n m) = ⊥
  MayRunOut s (DropOpUses n) = ⊥
  MayRunOut s (DropBlockUses n) = ⊥
  MayRunOut s (DropRegionUses n) = ⊥
  MayRunOut s (EraseOp n) = ⊥
  MayRunOut s (EraseBlock n) = ⊥
  MayRunOut s (EraseRegion n at) = ⊥
  MayRunOut s _ = Unit {0}
