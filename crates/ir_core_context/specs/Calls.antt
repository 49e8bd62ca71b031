-- What the calls of a context promise.
use Rattle.std.specs.Prelude.{◌≡◌, ◌↔◌, ℕ, ◌+◌, ◌<◌, ◌≤◌, true, false, List, [], ◌∷◌, map, length, take, drop, Option, Some, None, IsTrue, slice_get}
use Rattle.std.specs.List.{zip}
use Rattle.std.specs.Option.{option_map}
use Rattle.ir_model.specs.declared.ids.ArenaIndex.{ArenaIndex}
use Rattle.ir_model.specs.ContextIds.{context_ids}
use Rattle.ir_model.specs.Ids.{Fresh, Counts, counts, FreshDistinct}
use Rattle.ir_model.specs.Forest.{Dialect, Behaviour, Definer as DefinedBy, Forest, Named, Text, Value, Entity, a_block, a_region, a_value, an_op}
use Rattle.ir_model.specs.Nesting.{In, IsLive, IsLiveNamed, blocks_of, numbers_of, ops_of, regions_of, use_numbers_of}
use Rattle.ir_model.specs.Parent.{first_of, last_of}
use Rattle.ir_model.specs.AuxData.{live_aux}
use Rattle.ir_model.specs.Edits.{StoredType, no_needs}
use Rattle.ir_model.specs.Changes.{definition, operand, successor, new_op, new_block, add_region}
use Rattle.ir_model.specs.Sessions.{Beside, Session, Number, TakesSlot, AreNew, Passes, NoMore, live_op, live_block, live_region, HasNumbers, LacksSlots}
use Rattle.ir_base_arenas.specs.declared.room.Room.{Room}
use Rattle.ir_base_arenas.specs.Arena.{room}
use Rattle.ir_core_records.specs.declared.record.Operation.{Operation}
use Rattle.ir_core_records.specs.declared.record.BasicBlock.{BasicBlock}
use Rattle.ir_core_records.specs.declared.record.Region.{Region}
use Rattle.ir_core_records.specs.declared.record.Definer.TheVariants.{Op, Block}
use Rattle.ir_core_records.specs.declared.record.UseIndex.{UseIndex}
use Rattle.ir_core_records.specs.declared.record.ValueIndex.{ValueIndex}
use Rattle.ir_core_records.specs.Meaning.{closed, op_index, op_record, block_index, block_record, region_index, use_of, value_of}
use Rattle.ir_core_records.specs.Values.{IsLiveUse, IsLiveBlockUse}
use Rattle.ir_core_context.specs.declared.needs.Needs.{Needs}
use Rattle.ir_core_context.specs.State.{ContextState, forest_of, types_of}

-- how many ids and numbers are needed
abbrev pub counts_of : Needs → Counts
counts_of n = record { ops = n.ops; blocks = n.blocks; regions = n.regions; numbers = n.values; uses = n.operands + n.successors }

-- what an operation needs of numbers and slots
abbrev pub op_needs : ℕ → ℕ → ℕ → Counts
op_needs results uses regions = record { ops = 1; blocks = 0; regions = regions; numbers = results; uses = uses }

-- what an operation needs that has results of these types, names these values and blocks, and has so many regions
abbrev pub needs_of : {A B C : Type 0} → List A → List B → List C → ℕ → Counts
needs_of types operands successors regions = op_needs (length types) (length operands + length successors) regions

-- what a block needs
abbrev pub block_needs : ℕ → Counts
block_needs arguments = record no_needs { blocks = 1; numbers = arguments }

-- what a region needs
abbrev pub region_needs : Counts
region_needs = record no_needs { regions = 1 }

-- so much is left of a count, of which exactly those with P are gone
pub record Left {A : Type 0} (count : ℕ) (P : A → Type 0) (left : ℕ) : Type 0 where
  pub gone : ℕ
  pub number : Number P gone
  pub whole : gone + left ≡ count

module _ {W : Dialect} where
  -- there are numbers enough, and too few slots
  abbrev pub LacksOnlySlots : Session W → Counts → Type 0
  LacksOnlySlots s n = HasNumbers s n × LacksSlots s n

  -- the room is exact
  pub record IsRoom (s : Session W) (left : Room) : Type 0 where
    pub values : Left s.limits.values (λ n. IsTrue (s.passed.numbers n)) left.values
    pub uses : Left s.limits.uses (λ n. IsTrue (s.passed.uses n)) left.uses
    pub ops : Left s.limits.slots (TakesSlot s.limits s.passed.ops (live_op s.state)) left.ops
    pub blocks : Left s.limits.slots (TakesSlot s.limits s.passed.blocks (live_block s.state)) left.blocks
    pub regions : Left s.limits.slots (TakesSlot s.limits s.passed.regions (live_region s.state)) left.regions
    pub aux : Left s.limits.slots (TakesSlot s.limits s.beside.aux_passed (live_aux s.beside)) left.aux

  -- no operation, block or region is live
  pub record NoEntity (f : Forest context_ids W) : Type 0 where
    pub ops : (i : ArenaIndex) → f.ops i ≡ None
    pub blocks : (i : ArenaIndex) → f.blocks i ≡ None
    pub regions : (i : ArenaIndex) → f.regions i ≡ None

  -- there is no saved and no auxiliary data, and no name of any
  abbrev pub nothing_beside : Beside W
  nothing_beside = record { saved = []; aux = λ _. None; aux_names = λ _. None; aux_passed = λ _. false }

  -- what is live was handed out
  pub record LiveWasMade (s : Session W) : Type 0 where
    pub ops : (i : ArenaIndex) → live_op s.state i → IsTrue (s.passed.ops i)
    pub blocks : (i : ArenaIndex) → live_block s.state i → IsTrue (s.passed.blocks i)
    pub regions : (i : ArenaIndex) → live_region s.state i → IsTrue (s.passed.regions i)
    pub values : (d : DefinedBy context_ids) (n : ℕ) → In n (numbers_of s.state.forest d) → IsTrue (s.passed.numbers n)
    pub uses : (o : ArenaIndex) (n : ℕ) → In n (use_numbers_of s.state.forest o) → IsTrue (s.passed.uses n)

  -- all but the stored types is as before
  pub record SameButTypes (old new : Session W) : Type 0 where
    pub forest : new.state.forest ≡ old.state.forest
    pub beside : new.beside ≡ old.beside
    pub passed : new.passed ≡ old.passed
    pub limits : new.limits ≡ old.limits

  -- all but saved data, and auxiliary data with its names, is as before
  pub record SameButSide (old new : Session W) : Type 0 where
    pub forest : new.state.forest ≡ old.state.forest
    pub store : new.state.store ≡ old.state.store
    pub passed : new.passed ≡ old.passed
    pub limits : new.limits ≡ old.limits

  -- all but the forest is as before
  pub record SameButForest (old new : Session W) : Type 0 where
    pub store : new.state.store ≡ old.state.store
    pub beside : new.beside ≡ old.beside
    pub passed : new.passed ≡ old.passed
    pub limits : new.limits ≡ old.limits

  -- two places of the store are equal exactly where their keys are, by the dialect
  pub record TypesAreExact (B : Behaviour W) (store : List (StoredType W)) : Type 0 where
    pub exact : (j k : ℕ) (a b : StoredType W) → slice_get store j ≡ Some a → slice_get store k ≡ Some b → (B.same_key a.key b.key ≡ true) ↔ (j ≡ k)

  -- new ids and numbers, apart and as many as are needed, were handed out, and beside the forest all else is as before
  pub record HandsOut (old new : Session W) (needed : Counts) (fresh : Fresh context_ids) : Type 0 where
    pub enough : counts context_ids fresh ≡ needed
    pub distinct : FreshDistinct context_ids fresh
    pub are_new : AreNew old fresh
    pub store : new.state.store ≡ old.state.store
    pub beside : new.beside ≡ old.beside
    pub passed : Passes old.passed fresh new.passed
    pub limits : new.limits ≡ old.limits

  -- an operation was made under a new id, with new numbers and regions
  pub record MakesOperation (unknown : W.Loc) (old new : Session W) (id : ArenaIndex) (kind : ℕ) (types : List ℕ) (operands : List (Value context_ids)) (successors : List ArenaIndex) (regions : ℕ) : Type 0 where
    pub fresh : Fresh context_ids
    pub named : fresh.ops ≡ id ∷ []
    pub handed : HandsOut old new (op_needs (length types) (length operands + length successors) regions) fresh
    pub forest : new.state.forest ≡ new_op old.state.forest id unknown kind
        (map definition (zip fresh.numbers types))
        (map operand (zip (take (length operands) fresh.uses) operands))
        (map successor (zip (drop (length operands) fresh.uses) successors))
        fresh.regions

  -- a block was made under a new id, with new numbers
  pub record MakesBlock (unknown : W.Loc) (old new : Session W) (id : ArenaIndex) (label : Option Text) (types : List ℕ) : Type 0 where
    pub fresh : Fresh context_ids
    pub named : fresh.blocks ≡ id ∷ []
    pub handed : HandsOut old new (block_needs (length types)) fresh
    pub forest : new.state.forest ≡ new_block old.state.forest id unknown label (map definition (zip fresh.numbers types))

  -- an empty region was made under a new id, the last of the operation
  pub record MakesRegion (old new : Session W) (op id : ArenaIndex) : Type 0 where
    pub fresh : Fresh context_ids
    pub named : fresh.regions ≡ id ∷ []
    pub handed : HandsOut old new region_needs fresh
    pub forest : new.state.forest ≡ add_region old.state.forest op id

  -- the operation under the id has so many results, operands, successors and regions
  pub record HasCounts (f : Forest context_ids W) (id : ArenaIndex) (results operands successors regions : ℕ) : Type 0 where
    pub result_count : option_map (λ r. length r.results) (f.ops id) ≡ Some results
    pub operand_count : option_map (λ r. length r.operands) (f.ops id) ≡ Some operands
    pub successor_count : option_map (λ r. length r.successors) (f.ops id) ≡ Some successors
    pub region_count : option_map (λ r. length r.regions) (f.ops id) ≡ Some regions

  -- the block under the id has so many arguments
  abbrev pub HasArguments : Forest context_ids W → ArenaIndex → ℕ → Type 0
  HasArguments f id arguments = option_map (λ r. length r.arguments) (f.blocks id) ≡ Some arguments

  -- each value and block that was live is live still
  abbrev pub StayLive : Forest context_ids W → Forest context_ids W → Type 0
  StayLive old new = (d : Named context_ids) → IsLiveNamed old d → IsLiveNamed new d

  -- each operation, block and region that was live is live still
  abbrev pub EntitiesStayLive : Forest context_ids W → Forest context_ids W → Type 0
  EntitiesStayLive old new = (e : Entity context_ids) → IsLive old e → IsLive new e

  -- all is as before, but that at most so many new ids and numbers were skipped
  pub record SkipsAtMost (old new : Session W) (most : Counts) : Type 0 where
    pub forest : new.state.forest ≡ old.state.forest
    pub store : new.state.store ≡ old.state.store
    pub beside : new.beside ≡ old.beside
    pub limits : new.limits ≡ old.limits
    pub skipped : Fresh context_ids
    pub within : NoMore (counts context_ids skipped) most
    pub were_new : AreNew old skipped
    pub passed : Passes old.passed skipped new.passed

module _ {W : Dialect} where
  -- the region's record stands under the index, and knows it; the region stands among those of the operation that it names, which is live; its ends are those of its list of blocks
  pub record IsRegion (f : Forest context_ids W) (index : ArenaIndex) (r : Region) : Type 0 where
    pub live : IsLive f (a_region index)
    pub own : region_index r ≡ index
    pub parent : In index (regions_of f r.parent)
    pub parent_live : IsLive f (an_op r.parent)
    pub first : r.first ≡ first_of (blocks_of f index)
    pub last : r.last ≡ last_of (blocks_of f index)

module _ {D A K B S X L : Type 0} where
  -- the record stands under the index, and knows it
  pub record IsOperation (f : Forest context_ids (closed A K B S X L)) (index : ArenaIndex) (op : Operation D A K B S X L) : Type 0 where
    pub found : f.ops index ≡ Some (op_record op)
    pub own : op_index op ≡ index

  -- the block's record stands under the index, and knows it; its ends are those of its list of operations
  pub record IsBlock (f : Forest context_ids (closed A K B S X L)) (index : ArenaIndex) (b : BasicBlock D A K B S X L) : Type 0 where
    pub found : f.blocks index ≡ Some (block_record (ops_of f index) b)
    pub own : block_index b ≡ index
    pub first : b.ops_list.first ≡ first_of (ops_of f index)
    pub last : b.ops_list.last ≡ last_of (ops_of f index)

  -- what the operation gives is live: its results, operands, uses, successors, their uses, and regions; its types are among so many known ones
  pub record LeadsToLive (f : Forest context_ids (closed A K B S X L)) (known : ℕ) (op : Operation D A K B S X L) : Type 0 where
    pub results : (v : ValueIndex) (k : ℕ) → v.definer ≡ Op (op_index op) → option_map (λ d. d.number) (slice_get (op_record op).results k) ≡ Some v.number → IsLiveNamed f (a_value (value_of v))
    pub operands : (v : ValueIndex) (k : ℕ) → option_map (λ a. a.value) (slice_get (op_record op).operands k) ≡ Some (value_of v) → IsLiveNamed f (a_value (value_of v))
    pub uses : (u : UseIndex) (k : ℕ) → u.user ≡ op_index op → option_map (λ a. a.use_number) (slice_get (op_record op).operands k) ≡ Some u.number → IsLiveUse f (use_of u)
    pub successors : (b : ArenaIndex) (k : ℕ) → option_map (λ a. a.block) (slice_get (op_record op).successors k) ≡ Some b → IsLive f (a_block b)
    pub successor_uses : (u : UseIndex) (k : ℕ) → u.user ≡ op_index op → option_map (λ a. a.use_number) (slice_get (op_record op).successors k) ≡ Some u.number → IsLiveBlockUse f (use_of u)
    pub regions : (g : ArenaIndex) (k : ℕ) → slice_get (op_record op).regions k ≡ Some g → IsLive f (a_region g)
    pub types : (t k : ℕ) → option_map (λ d. d.ty) (slice_get (op_record op).results k) ≡ Some t → t < known

  -- what the block gives is live: its arguments and operations; the types of its arguments are among so many known ones
  pub record BlockLeadsToLive (f : Forest context_ids (closed A K B S X L)) (known : ℕ) (index : ArenaIndex) (b : BasicBlock D A K B S X L) : Type 0 where
    pub arguments : (v : ValueIndex) (k : ℕ) → v.definer ≡ Block (block_index b) → option_map (λ d. d.number) (slice_get (block_record (ops_of f index) b).arguments k) ≡ Some v.number → IsLiveNamed f (a_value (value_of v))
    pub types : (t k : ℕ) → option_map (λ d. d.ty) (slice_get (block_record (ops_of f index) b).arguments k) ≡ Some t → t < known

  -- what was live is live still, be it a value, an operation, a block or a region, and the types are as before
  pub record KeepsAll (old new : ContextState D A K B S X L) : Type 0 where
    pub stay_live : StayLive (forest_of old) (forest_of new)
    pub entities_stay_live : EntitiesStayLive (forest_of old) (forest_of new)
    pub types_stay : types_of new ≡ types_of old

  -- so many numbers and slots are left
  pub record HasAll (s : ContextState D A K B S X L) (n : Counts) : Type 0 where
    pub values : s.next_value + n.numbers ≤ s.limits.values
    pub uses : s.next_use + n.uses ≤ s.limits.uses
    pub ops : n.ops ≤ room s.records.ops
    pub blocks : n.blocks ≤ room s.records.blocks
    pub regions : n.regions ≤ room s.records.regions
