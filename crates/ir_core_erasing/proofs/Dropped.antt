-- Records whose uses are dropped: their tree is as it was, and so are listings and nesting.
use mathlib.Core.Path.{fun_ext}
use Rattle.std.proofs.Common.{◌≡◌, ◌<◌, ◌+◌, ◌-◌, suc, Bool, true, false, cond, List, [], ◌∷◌, ◌++◌, map, length, Option, Some, None, IsSome, is_some, refl, sym, ap, ◌∙◌, subst}
use Rattle.std.specs.Option.{option_map}
use Rattle.ir_model.specs.declared.ids.ArenaIndex.{ArenaIndex}
use Rattle.ir_model.specs.ContextIds.{context_ids}
use Rattle.ir_model.specs.Ids.{Ids, Distinct}
use Rattle.ir_model.specs.Forest.{Dialect, Entity, an_op, a_block, a_region, OpRecord, Forest}
use Rattle.ir_model.specs.Changes.{on_op, on_operands, on_successors, no_uses, DropsUses}
use Rattle.ir_model.specs.Nesting.{In, Within, itself, below, list_of, children, Inside, IsLive, Nested}
use Rattle.ir_model.specs.Parent.{first_of}
use Rattle.ir_model.specs.Subtree.{ListsSubtree}
use Rattle.ir_model.proofs.TwoRuns.{lawful}
use Rattle.ir_base_arenas.specs.Arena.{Arena, get}
use Rattle.ir_base_arenas.specs.Lists.{SameIds}
use Rattle.ir_core_records.specs.declared.record.Region.{Region}
use Rattle.ir_core_records.specs.declared.records.Records.{Records}
use Rattle.ir_core_records.specs.Chains.{AreLinked, chains_of}
use Rattle.ir_core_records.specs.Frames.{KeepsTree}
use Rattle.ir_core_records.specs.Meaning.{forest_in, op_record, block_record}
use Rattle.ir_core_records.specs.Nested.{AreNested}
use Rattle.ir_core_records.specs.Tree.{Tree, tree_of, ops_in, blocks_in}
use Rattle.ir_core_nesting.specs.Climbs.{climb, kept_parent, size}
use Rattle.ir_core_erasing.specs.Dropping.{without_uses}
use Rattle.ir_core_erasing.specs.Walks.{post, subtree}
use Rattle.ir_core_erasing.proofs.Drops.{DropsListed, drops-all, drops-on_op, drops-next, drops-past}
use Rattle.ir_core_erasing.proofs.Siblings.{ops_of-is, blocks_of-is, regions_of-is}
use Rattle.ir_core_erasing.proofs.Steps.{Passing, passing-end, passing-in, passing-smaller, passing-step, remaining}

module _ {N : Ids} {W : Dialect} (f : Forest N W) (o : N.Op) where
  -- to clear the operands and then the successors is to drop the uses
  pub both-cleared : on_op (on_op f o (on_operands (λ _. []))) o (on_successors (λ _. [])) ≡ on_op f o no_uses
  both-cleared = λ i. record f { ops = fun_ext (λ p. by (N.same_op p o) (f.ops p)) i }
    where
      by : (b : Bool) (m : Option (OpRecord N W)) → cond b (option_map (on_successors (λ _. [])) (cond b (option_map (on_operands (λ _. [])) m) m)) (cond b (option_map (on_operands (λ _. [])) m) m) ≡ cond b (option_map no_uses m) m
      by true None = refl
      by true (Some r) = refl
      by false m = refl

-- what is inside something live is live
pub inside-live : {N : Ids} {W : Dialect} (f : Forest N W) → Nested f → (e x : Entity N) → IsLive f e → Inside f e x → IsLive f x
inside-live f nested e x live itself = live
inside-live f nested e x live (below {c = c} h w) = nested.live x c h

-- one entity more, whatever it is
pub drops-entity : {W : Dialect} (f g h : Forest context_ids W) (before : List (Entity context_ids)) (x : Entity context_ids) → h ≡ without_uses g x → DropsListed f before g → DropsListed f (before ++ x ∷ []) h
drops-entity {W = W} f g h before (an_op o) e d = subst (DropsListed f (before ++ an_op o ∷ [])) (sym e) (drops-next lawful f g (on_op g o no_uses) before o d (drops-on_op lawful g o))
drops-entity {W = W} f g h before (a_block b) e d = subst (DropsListed f (before ++ a_block b ∷ [])) (sym e) (drops-past f g before (a_block b) (λ o k. cc) d)
drops-entity {W = W} f g h before (a_region r) e d = subst (DropsListed f (before ++ a_region r ∷ [])) (sym e) (drops-past f g before (a_region r) (λ o k. cc) d)

pub same_ids-refl : {T : Type 0} (a : Arena T) → SameIds a a
same_ids-refl a = record { live = λ i. (λ h. h, λ h. h); passed = λ i. refl; room = refl; len = refl; limit = refl; last_version = refl; removals = refl }

pub same_ids-trans : {T : Type 0} (a b c : Arena T) → SameIds a b → SameIds b c → SameIds a c
same_ids-trans a b c f g = record {
  live = λ i. (λ h. (f.live i).0 ((g.live i).0 h), λ h. (g.live i).1 ((f.live i).1 h));
  passed = λ i. g.passed i ∙ f.passed i;
  room = g.room ∙ f.room;
  len = g.len ∙ f.len;
  limit = g.limit ∙ f.limit;
  last_version = g.last_version ∙ f.last_version;
  removals = g.removals ∙ f.removals;
}

-- what stands in an entity, read off the tree
abbrev tree_children : Tree → Entity context_ids → List (Entity context_ids)
tree_children t (an_op o) = map a_region (list_of (λ gs. gs) (t.regions_of o))
tree_children t (a_block b) = map an_op (ops_in t b)
tree_children t (a_region g) = map a_block (blocks_in t g)

-- what is read is there where it was
some-map : {A B : Type 0} (f : A → B) (o : Option A) → is_some (option_map f o) ≡ is_some o
some-map f None = refl
some-map f (Some x) = refl

module _ {D A K B S X L : Type 0} where
  pub keeps-refl : (t : Records D A K B S X L) → KeepsTree t t
  keeps-refl t = record { tree = refl; op_ids = same_ids-refl t.ops; block_ids = same_ids-refl t.blocks; regions = refl; own = λ k. k }

  pub keeps-trans : (a b c : Records D A K B S X L) → KeepsTree a b → KeepsTree b c → KeepsTree a c
  keeps-trans a b c f g = record {
    tree = g.tree ∙ f.tree;
    op_ids = same_ids-trans a.ops b.ops c.ops f.op_ids g.op_ids;
    block_ids = same_ids-trans a.blocks b.blocks c.blocks f.block_ids g.block_ids;
    regions = g.regions ∙ f.regions;
    own = λ k. g.own (f.own k);
  }

  children-are : (t : Records D A K B S X L) → AreNested (tree_of t) → (e : Entity context_ids) → children (forest_in t) e ≡ tree_children (tree_of t) e
  children-are t nested (an_op o) = ap (map a_region) (regions_of-is t nested o)
  children-are t nested (a_block b) = ap (map an_op) (ops_of-is t nested b)
  children-are t nested (a_region g) = ap (map a_block) (blocks_of-is t nested g)

  module _ (old new : Records D A K B S X L) (nested : AreNested (tree_of old)) (keeps : KeepsTree old new) where
    pub still-nested : AreNested (tree_of new)
    still-nested = subst AreNested (sym keeps.tree) nested

    pub children-same : children (forest_in new) ≡ children (forest_in old)
    children-same = fun_ext (λ e. children-are new still-nested e ∙ ap (λ t. tree_children t e) keeps.tree ∙ sym (children-are old nested e))

    size-same : size new ≡ size old
    size-same = λ i. (keeps.tree i).op_slots + (keeps.tree i).block_slots + length (keeps.regions i).slots

    -- the listing is the same
    pub subtree-same : (e : Entity context_ids) → subtree new e ≡ subtree old e
    subtree-same e = λ i. post (suc (suc (size-same i)) - length (climb (suc (size-same i)) (kept_parent (keeps.tree i)) (Some e))) (children-same i) e

    pub live-same : (x : Entity context_ids) → IsLive (forest_in old) x → IsLive (forest_in new) x
    live-same (an_op o) h = some-map op_record (get new.ops o) ∙ (keeps.op_ids.live o).1 (sym (some-map op_record (get old.ops o)) ∙ h)
    live-same (a_block b) h = some-map (block_record (ops_in (tree_of new) b)) (get new.blocks b) ∙ (keeps.block_ids.live b).1 (sym (some-map (block_record (ops_in (tree_of old) b)) (get old.blocks b)) ∙ h)
    live-same (a_region g) h = some-map (λ (_ : Region). blocks_in (tree_of new) g) (get new.regions g) ∙ ap (λ (a : Arena Region). is_some (get a g)) keeps.regions ∙ sym (some-map (λ (_ : Region). blocks_in (tree_of old) g) (get old.regions g)) ∙ h

    region-was : (g : ArenaIndex) → IsSome ((forest_in new).regions g) → IsSome ((forest_in old).regions g)
    region-was g h = some-map (λ (_ : Region). blocks_in (tree_of old) g) (get old.regions g) ∙ sym (ap (λ (a : Arena Region). is_some (get a g)) keeps.regions) ∙ sym (some-map (λ (_ : Region). blocks_in (tree_of new) g) (get new.regions g)) ∙ h

    -- the forest is nested as it was
    pub formed-same : Nested (forest_in old) → Nested (forest_in new)
    formed-same formed = record {
      one_list = subst (λ (cs : Entity context_ids → List (Entity context_ids)). (x y z : Entity context_ids) → In x (cs y) → In x (cs z) → y ≡ z) (sym children-same) formed.one_list;
      once = subst (λ (cs : Entity context_ids → List (Entity context_ids)). (y : Entity context_ids) → Distinct (cs y)) (sym children-same) formed.once;
      live = λ x y h. live-same x (formed.live x y (subst (λ (cs : Entity context_ids → List (Entity context_ids)). In x (cs y)) children-same h));
      no_cycle = subst (λ (cs : Entity context_ids → List (Entity context_ids)). (x y : Entity context_ids) → In x (cs y) → Within cs x y → ⊥) (sym children-same) formed.no_cycle;
      regions_linked = λ g h. (let at = formed.regions_linked g (region-was g h) in
          (at.0, subst (In g) (sym (regions_of-is new still-nested at.0 ∙ ap (λ (t : Tree). list_of (λ gs. gs) (t.regions_of at.0)) keeps.tree ∙ sym (regions_of-is old nested at.0))) at.1));
    }

  -- a loop that drops the uses inside the root has come to o
  pub record Dropping (first now : Records D A K B S X L) (root : Entity context_ids) (o : Option (Entity context_ids)) : Type 0 where
    pub passing : Passing (subtree first root) (λ before. DropsListed (forest_in first) before (forest_in now)) o
    pub keeps : KeepsTree first now
    pub linked : AreLinked (chains_of now)

module _ {D A K B S X L : Type 0} (first now : Records D A K B S X L) (nested : AreNested (tree_of first)) (formed : Nested (forest_in first)) (root here : Entity context_ids)
    (lists : ListsSubtree (forest_in first) root (subtree first root)) (live : IsLive (forest_in first) root) (w : Dropping first now root (Some here)) where
  -- what the loop has come to is live
  pub here-live : IsLive (forest_in now) here
  here-live = live-same first now nested w.keeps here (inside-live (forest_in first) formed root here live ((lists.exact here).0 (passing-in (subtree first root) (λ before. DropsListed (forest_in first) before (forest_in now)) here w.passing)))

  module _ (next : Records D A K B S X L) (keeps : KeepsTree now next) where
    pub all-kept : KeepsTree first next
    all-kept = keeps-trans first now next w.keeps keeps

    module _ (o : Option (Entity context_ids)) (told : (before behind : List (Entity context_ids)) → subtree next root ≡ before ++ here ∷ behind → o ≡ first_of behind) where
      still-told : (before behind : List (Entity context_ids)) → subtree first root ≡ before ++ here ∷ behind → o ≡ first_of behind
      still-told before behind e = told before behind (subtree-same first next nested all-kept root ∙ e)

      pub dropping-step : AreLinked (chains_of next) → forest_in next ≡ without_uses (forest_in now) here → Dropping first next root o
      dropping-step linked is = record {
        passing = passing-step (subtree first root) (λ before. DropsListed (forest_in first) before (forest_in now)) here w.passing o still-told
            (λ before. DropsListed (forest_in first) before (forest_in next))
            (λ before d. drops-entity (forest_in first) (forest_in now) (forest_in next) before here is d);
        keeps = all-kept;
        linked = linked;
      }

      pub dropping-smaller : remaining (subtree first root) o < remaining (subtree first root) (Some here)
      dropping-smaller = passing-smaller (subtree first root) (λ before. DropsListed (forest_in first) before (forest_in now)) here w.passing o still-told lists.once

-- at the end all uses inside the root are dropped
pub dropping-end : {D A K B S X L : Type 0} (first now : Records D A K B S X L) (root : Entity context_ids) → ListsSubtree (forest_in first) root (subtree first root) → Dropping first now root None → DropsUses (forest_in first) root (forest_in now)
dropping-end first now root lists w = drops-all (forest_in first) (forest_in now) root (subtree first root) lists (passing-end (subtree first root) (λ before. DropsListed (forest_in first) before (forest_in now)) w.passing)
