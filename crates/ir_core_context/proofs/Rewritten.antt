-- A context whose records were changed, but for chains, nesting and what they know of themselves.
use Rattle.std.proofs.Common.{◌≡◌, ◌⊎◌, List, length, map, ◌++◌, Option, Some, None, is_some, refl, sym, ap, subst, ◌∙◌, inl, inr}
use Rattle.std.specs.Option.{option_map}
use Rattle.ir_model.specs.declared.ids.ArenaIndex.{ArenaIndex}
use Rattle.ir_model.specs.declared.ids.Limits.{Limits}
use Rattle.ir_model.specs.ContextIds.{context_ids, same_id}
use Rattle.ir_model.specs.Calls.{SameStructure}
use Rattle.ir_model.specs.Changes.{rewrite}
use Rattle.ir_model.specs.Forest.{Dialect, Forest, Operand, Successor, a_block, a_value, the_block}
use Rattle.ir_model.specs.Nesting.{In, WellFormed, operands_of, successors_of}
use Rattle.ir_model.proofs.Arenas.{passed-fill_live}
use Rattle.ir_model.proofs.ArenaRoom.{len-fill_live, room-fill_live}
use Rattle.ir_model.proofs.Keeps.{rewrite_at}
use Rattle.ir_model.proofs.TwoRuns.{id_tells}
use Rattle.ir_base_arenas.specs.Arena.{Arena, IsLiveIn, get}
use Rattle.ir_base_arenas.specs.Lists.{SameIds}
use Rattle.ir_core_records.specs.declared.records.Records.{Records}
use Rattle.ir_core_records.specs.Chains.{AreLinked, chains_of}
use Rattle.ir_core_chains.specs.Edits.{edited-by, edited-kept}
use Rattle.ir_core_records.specs.Lists.{edited}
use Rattle.ir_core_records.specs.Meaning.{forest_in}
use Rattle.ir_core_records.specs.Nested.{AreNested}
use Rattle.ir_core_records.specs.Table.{KnowOwn}
use Rattle.ir_core_records.specs.Tree.{tree_of}
use Rattle.ir_core_context.specs.Calls.{EntitiesStayLive, StayLive}
use Rattle.ir_core_context.specs.Sound.{IsSound, Keeps}
use Rattle.ir_core_context.specs.State.{ContextState, forest_of}

module _ {T : Type 0} (change : T → T) (a : Arena T) (id : ArenaIndex) where
  ids_by : ((i : ArenaIndex) → is_some (get (edited change a id) i) ≡ is_some (get a i)) → SameIds a (edited change a id)
  ids_by =
      edited-by (λ b. ((i : ArenaIndex) → is_some (get b i) ≡ is_some (get a i)) → SameIds a b) change a id
      (λ none stays. record { live = λ i. (λ h. h, λ h. h); passed = λ i. refl; room = refl; len = refl; limit = refl; last_version = refl; removals = refl })
      (λ x at stays. let live : IsLiveIn a id = ap is_some at in record {
        live = λ i. (λ h. sym (stays i) ∙ h, λ h. stays i ∙ h);
        passed = λ i. passed-fill_live a id i (change x) live;
        room = room-fill_live a id (change x) live;
        len = len-fill_live a id (change x) live;
        limit = refl;
        last_version = refl;
        removals = refl;
      })

  -- an arena in which a record is changed hands out and takes back nothing
  pub edited-ids : SameIds a (edited change a id)
  edited-ids = ids_by (λ i. edited-kept is_some change (λ x. refl) a id i)

-- what each record knows of itself, where one was changed
pub own-edited : {T : Type 0} (read : T → ArenaIndex) (change : T → T) → ((x : T) → read (change x) ≡ read x) → (a : Arena T) (id : ArenaIndex)
    → ((i : ArenaIndex) (x : T) → get a i ≡ Some x → read x ≡ i) → (i : ArenaIndex) (x : T) → get (edited change a id) i ≡ Some x → read x ≡ i
own-edited read change keeps a id own i x at = by (get a i) refl
  where
    same : option_map read (Some x) ≡ option_map read (get a i)
    same = ap (option_map read) (sym at) ∙ edited-kept (option_map read) change (λ y. ap Some (keeps y)) a id i

    by : (was : Option _) → get a i ≡ was → read x ≡ i
    by None e = let none : Some (read x) ≡ None = same ∙ ap (option_map read) e in absurd (cc)
    by (Some y) e = let one : Some (read x) ≡ Some (read y) = same ∙ ap (option_map read) e in let mine : read x ≡ read y = cc in mine ∙ own i y e

module _ {T : Type 0} where
  pub keeps-ids : (limits : Limits) (a b : Arena T) → Keeps limits a → SameIds a b → Keeps limits b
  keeps-ids limits a b keeps same = record { limit = same.limit ∙ keeps.limit; last_version = same.last_version ∙ keeps.last_version }

pub same-ids : {T : Type 0} (a : Arena T) → SameIds a a
same-ids a = record { live = λ i. (λ h. h, λ h. h); passed = λ i. refl; room = refl; len = refl; limit = refl; last_version = refl; removals = refl }

-- what a lender ends as, by what is written through the reference that has this name
pub lent-same : {G V Z : Type 0} (name : G) {F F' : V → Z} → ((v : V) → F v ≡ F' v) → ◌≡◌ {A = (G × (V → Z)) ⊎ Z} (inl (name, F)) (inl (name, F'))
lent-same name same i = inl (name, λ v. same v i)

-- what stands in a map after a change of one record
pub once : {R : Type 0} (g : R → R) (m : ArenaIndex → Option R) (o p : ArenaIndex) → p ≡ o → rewrite same_id o g m p ≡ option_map g (m p)
once g m o p e = elim (rewrite_at same_id id_tells o g m p) [ inl k ↦ k.1 | inr k ↦ absurd (k.0 e) ]

-- after two changes
pub twice : {R : Type 0} (g h : R → R) (m : ArenaIndex → Option R) (o p : ArenaIndex) → p ≡ o → rewrite same_id o h (rewrite same_id o g m) p ≡ option_map (λ r. h (g r)) (m p)
twice g h m o p e = once h (rewrite same_id o g m) o p e ∙ ap (option_map h) (once g m o p e) ∙ by (m p)
  where
    by : (x : Option _) → option_map h (option_map g x) ≡ option_map (λ r. h (g r)) x
    by None = refl
    by (Some r) = refl

-- and what stands elsewhere
pub not_there : {R : Type 0} (g : R → R) (m : ArenaIndex → Option R) (o p : ArenaIndex) → (p ≡ o → ⊥) → rewrite same_id o g m p ≡ m p
not_there g m o p ne = elim (rewrite_at same_id id_tells o g m p) [ inl k ↦ absurd (ne k.0) | inr k ↦ k.1 ]

-- two changes that each leave the structure
pub structure-then : {W : Dialect} (f g h : Forest context_ids W) → SameStructure f g → SameStructure g h → SameStructure f h
structure-then f g h a b = record {
  live = λ x. (λ k. (a.live x).0 ((b.live x).0 k), λ k. (b.live x).1 ((a.live x).1 k));
  regions = λ o. b.regions o ∙ a.regions o;
  ops = λ c. b.ops c ∙ a.ops c;
  blocks = λ r. b.blocks r ∙ a.blocks r;
  kinds = λ o. b.kinds o ∙ a.kinds o;
  numbers = λ d. b.numbers d ∙ a.numbers d;
  operands = λ o. b.operands o ∙ a.operands o;
  successors = λ o. b.successors o ∙ a.successors o;
}

-- and so leaves live what was live
module _ {W : Dialect} (f g : Forest context_ids W) (same : SameStructure f g) where
  pub structure-stays : StayLive f g
  structure-stays (a_value v) h = subst (In v.number) (sym (same.numbers v.definer)) h
  structure-stays (the_block b) h = (same.live (a_block b)).1 h

  pub structure-entities-stay : EntitiesStayLive f g
  structure-entities-stay e h = (same.live e).1 h

module _ {D A K B S X L : Type 0} (s : ContextState D A K B S X L) (sound : IsSound s) (t : Records D A K B S X L)
    (chains : chains_of t ≡ chains_of s.records) (tree : tree_of t ≡ tree_of s.records) (own : KnowOwn t)
    (ops : SameIds s.records.ops t.ops) (blocks : SameIds s.records.blocks t.blocks) (regions : SameIds s.records.regions t.regions)
    (structure : SameStructure (forest_of s) (forest_in t)) (formed : WellFormed (forest_in t) (length s.types)) where
  -- the context is sound
  pub rewritten-sound : IsSound (record s { records = t })
  rewritten-sound = record {
    linked = subst AreLinked (sym chains) sound.linked;
    nested = subst AreNested (sym tree) sound.nested;
    own = own;
    formed = formed;
    counted = record {
      values = λ d n h. sound.counted.values d n (subst (In n) (structure.numbers d) h);
      uses = λ o n h. sound.counted.uses o n (subst (λ (xs : List (Operand context_ids)). In n (map (λ (q : Operand context_ids). q.use_number) xs ++ map (λ (q : Successor context_ids). q.use_number) (successors_of (forest_of s) o))) (structure.operands o)
          (subst (λ (xs : List (Successor context_ids)). In n (map (λ (q : Operand context_ids). q.use_number) (operands_of (forest_in t) o) ++ map (λ (q : Successor context_ids). q.use_number) xs)) (structure.successors o) h));
      value_limit = sound.counted.value_limit;
      use_limit = sound.counted.use_limit;
      limits = sound.counted.limits;
      op_slots = keeps-ids s.limits s.records.ops t.ops sound.counted.op_slots ops;
      block_slots = keeps-ids s.limits s.records.blocks t.blocks sound.counted.block_slots blocks;
      region_slots = keeps-ids s.limits s.records.regions t.regions sound.counted.region_slots regions;
      aux_slots = sound.counted.aux_slots;
    };
  }
