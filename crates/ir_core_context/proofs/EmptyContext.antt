-- A context without an operation, block or region: one in which nothing was made, and one that was cleared.
use Rattle.std.proofs.Common.{◌≡◌, ◌≤◌, refl, sym, subst, ℕ, zero, suc, nat_lt, List, [], length, Some, None, arith}
use Rattle.ir_model.specs.declared.ids.ArenaIndex.{ArenaIndex}
use Rattle.ir_model.specs.declared.ids.Limits.{Limits}
use Rattle.ir_model.specs.Ids.{Ids, Distinct}
use Rattle.ir_model.specs.Forest.{Dialect, Forest, Entity, an_op, a_block, a_region, Definer, of_op, of_block}
use Rattle.ir_model.specs.Nesting.{In, WellFormed, children, numbers_of, use_numbers_of, names_of, definition_types_of}
use Rattle.ir_model.specs.Sessions.{IsNewSession}
use Rattle.ir_base_arenas.specs.Arena.{cleared, empty, get}
use Rattle.ir_model.proofs.Arenas.{get-cleared, get-empty, passed-cleared, passed-empty}
use Rattle.ir_base_arenas.specs.Lists.{Links, Ends, Heap, AreLists}
use Rattle.ir_base_arenas.specs.Walks.{walk_to}
use Rattle.ir_core_records.specs.declared.record.Operation.{Operation}
use Rattle.ir_core_records.specs.declared.record.BasicBlock.{BasicBlock}
use Rattle.ir_core_records.specs.declared.record.Region.{Region}
use Rattle.ir_core_records.specs.declared.record.UsePlace.{UsePlace}
use Rattle.ir_core_records.specs.declared.record.UseIndex.{UseIndex}
use Rattle.ir_core_records.specs.declared.record.ValueIndex.{ValueIndex}
use Rattle.ir_core_records.specs.declared.record.BlockIndex.{BlockIndex}
use Rattle.ir_core_records.specs.declared.record.Definer.{Definer as DefinerIndex}
use Rattle.ir_core_records.specs.declared.record.Definer.TheVariants.{Op, Block}
use Rattle.ir_core_records.specs.Links.{LinkedBut, NoHole}
use Rattle.ir_core_records.specs.Tree.{blocks_in, ops_in, tree_of}
use Rattle.ir_core_records.specs.Table.{operands_at, successors_at, uses_at, block_uses_at}
use Rattle.ir_core_data.specs.Side.{nothing as no_side}
use Rattle.ir_core_context.specs.Calls.{NoEntity, SameButForest, nothing_beside}
use Rattle.ir_core_context.specs.Sound.{AreLimits, IsSound, Keeps}
use Rattle.std.specs.Prelude.{slice_get}
use Rattle.std.proofs.lemmas.Bool.{le-ltb}
use Rattle.ir_core_context.specs.State.{ContextState, bare, forest_of}

module _ {N : Ids} {W : Dialect} (f : Forest N W) (ops : (o : N.Op) → f.ops o ≡ None) (blocks : (b : N.Block) → f.blocks b ≡ None) (regions : (r : N.Region) → f.regions r ≡ None) where
  childless : (y : Entity N) → children f y ≡ []
  childless (an_op o) = rw (ops o) refl
  childless (a_block b) = rw (blocks b) refl
  childless (a_region r) = rw (regions r) refl

  pub numberless : (d : Definer N) → numbers_of f d ≡ []
  numberless (of_op o) = rw (ops o) refl
  numberless (of_block b) = rw (blocks b) refl

  typeless : (d : Definer N) → definition_types_of f d ≡ []
  typeless (of_op o) = rw (ops o) refl
  typeless (of_block b) = rw (blocks b) refl

  pub useless : (o : N.Op) → use_numbers_of f o ≡ []
  useless o = rw (ops o) refl

  nameless : (o : N.Op) → names_of f o ≡ []
  nameless o = rw (ops o) refl

  none_in : {A : Type 0} (x : A) (xs : List A) → xs ≡ [] → In x xs → ⊥
  none_in x xs e h = let k : In x [] = subst (In x) e h in k

  none_repeat : {A : Type 0} (xs : List A) → xs ≡ [] → Distinct xs
  none_repeat xs e = subst Distinct (sym e) tt

  -- a forest of nothing is well formed
  pub nothing-formed : (keys : ℕ) → WellFormed f keys
  nothing-formed keys = record {
    nested = record {
      one_list = λ x y z h k. absurd (none_in x _ (childless y) h);
      once = λ y. none_repeat _ (childless y);
      live = λ x y h. absurd (none_in x _ (childless y) h);
      no_cycle = λ x y h k. none_in x _ (childless y) h;
      regions_linked = λ r h. absurd (let n : f.regions r ≡ None = regions r in cc);
    };
    numbers = λ d e n h k. absurd (none_in n _ (numberless d) h);
    numbers_once = λ d. none_repeat _ (numberless d);
    uses = λ o p u h k. absurd (none_in u _ (useless o) h);
    uses_once = λ o. none_repeat _ (useless o);
    named = λ o d h. absurd (none_in d _ (nameless o) h);
    known = λ d t h. absurd (none_in t _ (typeless d) h);
  }

-- nothing names anything
linked-nothing : {M : Type 0} (places : ArenaIndex → List (UsePlace M)) (uses : M → List UseIndex) → ((o : ArenaIndex) → places o ≡ []) → ((v : M) → uses v ≡ []) → LinkedBut NoHole places uses
linked-nothing {M} places uses none unused = record {
  forward = λ o i a e h. absurd (let k : slice_get {X = UsePlace M} [] i ≡ Some a = subst (λ xs. slice_get xs i ≡ Some a) (none o) e in cc);
  backward = λ v k u e. absurd (let m : slice_get {X = UseIndex} [] k ≡ Some u = subst (λ xs. slice_get xs k ≡ Some u) (unused v) e in cc);
  distinct = λ o p i j a b e. absurd (let k : slice_get {X = UsePlace M} [] i ≡ Some a = subst (λ xs. slice_get xs i ≡ Some a) (none o) e in cc);
}

-- no node and no container: no list
listed-nothing : (nodes : Heap Links) (containers : Heap Ends) → ((x : ArenaIndex) → nodes x ≡ None) → ((c : ArenaIndex) → containers c ≡ None) → AreLists nodes containers (λ _. [])
listed-nothing nodes containers no_node no_container = record {
  chains = λ c. tt;
  ends = λ c e h. absurd (let n : containers c ≡ None = no_container c in cc);
  absent = λ c h. refl;
  covers = λ x l h. absurd (let n : nodes x ≡ None = no_node x in cc);
}

-- a walk that begins nowhere
walk-nothing : (n : ℕ) (h : Heap Links) → walk_to n h None None ≡ []
walk-nothing zero h = refl
walk-nothing (suc n) h = refl

-- a context of whose records none is left
module _ {D A K B S X L : Type 0} (s : ContextState D A K B S X L) (ops : (i : ArenaIndex) → get s.records.ops i ≡ None) (blocks : (i : ArenaIndex) → get s.records.blocks i ≡ None) (regions : (i : ArenaIndex) → get s.records.regions i ≡ None) where
  no_op : (o : ArenaIndex) → (forest_of s).ops o ≡ None
  no_op o = rw (ops o) refl

  no_block : (b : ArenaIndex) → (forest_of s).blocks b ≡ None
  no_block b = rw (blocks b) refl

  no_region : (r : ArenaIndex) → (forest_of s).regions r ≡ None
  no_region r = rw (regions r) refl

  no_operands : (o : ArenaIndex) → operands_at s.records o ≡ []
  no_operands o = rw (ops o) refl

  no_successors : (o : ArenaIndex) → successors_at s.records o ≡ []
  no_successors o = rw (ops o) refl

  no_uses : (v : ValueIndex) → uses_at s.records v ≡ []
  no_uses v = by v.definer refl
    where
      by : (d : DefinerIndex) → v.definer ≡ d → uses_at s.records v ≡ []
      by (Op o) e = rw (e, ops o) refl
      by (Block b) e = rw (e, blocks b) refl

  no_block_uses : (b : BlockIndex) → block_uses_at s.records b ≡ []
  no_block_uses b = rw (blocks b.index) refl

  no_list_of_ops : ops_in (tree_of s.records) ≡ (λ b. [])
  no_list_of_ops = λ i. λ b. by b i
    where
      by : (b : ArenaIndex) → ops_in (tree_of s.records) b ≡ []
      by b = rw (blocks b) (walk-nothing (length s.records.ops.slots) (tree_of s.records).ops)

  no_list_of_blocks : blocks_in (tree_of s.records) ≡ (λ g. [])
  no_list_of_blocks = λ i. λ g. by g i
    where
      by : (g : ArenaIndex) → blocks_in (tree_of s.records) g ≡ []
      by g = rw (regions g) (walk-nothing (length s.records.blocks.slots) (tree_of s.records).blocks)

  pub empty-none : NoEntity (forest_of s)
  empty-none = record { ops = no_op; blocks = no_block; regions = no_region }

  pub empty-sound : s.next_value ≤ s.limits.values → s.next_use ≤ s.limits.uses → AreLimits s.limits → Keeps s.limits s.records.ops → Keeps s.limits s.records.blocks → Keeps s.limits s.records.regions → Keeps s.limits s.side.aux → IsSound s
  empty-sound value_limit use_limit limits op_slots block_slots region_slots aux_slots = record {
    linked = record { values = linked-nothing _ _ no_operands no_uses; blocks = linked-nothing _ _ no_successors no_block_uses };
    nested = record {
      op_lists = subst (AreLists (tree_of s.records).ops (tree_of s.records).block_ends) (sym no_list_of_ops) (listed-nothing _ _ (λ x. rw (ops x) refl) (λ c. rw (blocks c) refl));
      block_lists = subst (AreLists (tree_of s.records).blocks (tree_of s.records).region_ends) (sym no_list_of_blocks) (listed-nothing _ _ (λ x. rw (blocks x) refl) (λ c. rw (regions c) refl));
      parents = λ o r h. absurd (let k : In r [] = rw (ops o) at h in k);
    };
    own = record {
      ops = λ i op e. absurd (let n : get s.records.ops i ≡ None = ops i in cc);
      blocks = λ i b e. absurd (let n : get s.records.blocks i ≡ None = blocks i in cc);
      regions = λ i r e. absurd (let n : get s.records.regions i ≡ None = regions i in cc);
    };
    formed = nothing-formed (forest_of s) no_op no_block no_region (length s.types);
    counted = record {
      values = λ d n h. absurd (let k : In n [] = subst (In n) (numberless (forest_of s) no_op no_block no_region d) h in k);
      uses = λ o n h. absurd (let k : In n [] = subst (In n) (useless (forest_of s) no_op no_block no_region o) h in k);
      value_limit = value_limit;
      use_limit = use_limit;
      limits = limits;
      op_slots = op_slots;
      block_slots = block_slots;
      region_slots = region_slots;
      aux_slots = aux_slots;
    };
  }

module _ (D A K B S X L : Type 0) (l : Limits) where
  abbrev pub nothing : ContextState D A K B S X L
  nothing = record {
    records = record { ops = empty l.slots l.last_version; blocks = empty l.slots l.last_version; regions = empty l.slots l.last_version };
    types = [];
    next_value = 0;
    next_use = 0;
    side = no_side l.slots l.last_version;
    limits = l;
  }

  pub nothing-aside : (bare nothing).beside ≡ nothing_beside
  nothing-aside i = record {
    saved = [];
    aux = λ q. get-empty X l.slots l.last_version q i;
    aux_names = λ q. None;
    aux_passed = λ q. passed-empty X l.slots l.last_version q i;
  }

  nothing-none : NoEntity (forest_of nothing)
  nothing-none = empty-none nothing (get-empty _ l.slots l.last_version) (get-empty _ l.slots l.last_version) (get-empty _ l.slots l.last_version)

  pub nothing-new : IsNewSession (bare nothing)
  nothing-new = record {
    ops = nothing-none.ops;
    blocks = nothing-none.blocks;
    regions = nothing-none.regions;
    store = refl;
    tables = refl;
    none_passed = λ i. record {
      ops = λ q. passed-empty (Operation D A K B S X L) l.slots l.last_version q i;
      blocks = λ q. passed-empty (BasicBlock D A K B S X L) l.slots l.last_version q i;
      regions = λ q. passed-empty Region l.slots l.last_version q i;
      numbers = λ n. le-ltb n 0 (omega arith) i;
      uses = λ n. le-ltb n 0 (omega arith) i;
    };
  }

  pub nothing-sound : AreLimits l → IsSound nothing
  nothing-sound limits =
      empty-sound nothing (get-empty _ l.slots l.last_version) (get-empty _ l.slots l.last_version) (get-empty _ l.slots l.last_version)
      (omega arith) (omega arith) limits (record { limit = refl; last_version = refl }) (record { limit = refl; last_version = refl }) (record { limit = refl; last_version = refl }) (record { limit = refl; last_version = refl })

module _ {D A K B S X L : Type 0} (s : ContextState D A K B S X L) where
  -- the context after a call of `clear`
  abbrev pub emptied_context : ContextState D A K B S X L
  emptied_context = record s { records = record { ops = cleared s.records.ops; blocks = cleared s.records.blocks; regions = cleared s.records.regions } }

  pub emptied-none : NoEntity (forest_of emptied_context)
  emptied-none = empty-none emptied_context (get-cleared s.records.ops) (get-cleared s.records.blocks) (get-cleared s.records.regions)

  pub emptied-sound : IsSound s → IsSound emptied_context
  emptied-sound is =
      let c = is.counted in
      empty-sound emptied_context (get-cleared s.records.ops) (get-cleared s.records.blocks) (get-cleared s.records.regions)
      c.value_limit c.use_limit c.limits (record { limit = c.op_slots.limit; last_version = c.op_slots.last_version }) (record { limit = c.block_slots.limit; last_version = c.block_slots.last_version }) (record { limit = c.region_slots.limit; last_version = c.region_slots.last_version }) c.aux_slots

  -- beside the forest all is as before, and what was handed out stays so
  pub emptied-rest : SameButForest (bare s) (bare emptied_context)
  emptied-rest = record {
    store = refl;
    beside = refl;
    passed = λ i. record {
      ops = λ q. passed-cleared s.records.ops q i;
      blocks = λ q. passed-cleared s.records.blocks q i;
      regions = λ q. passed-cleared s.records.regions q i;
      numbers = λ n. nat_lt n s.next_value;
      uses = λ n. nat_lt n s.next_use;
    };
    limits = refl;
  }
