-- A teardown begins, goes on, and ends.
use Rattle.std.proofs.Common.{◌≡◌, ◌+◌, ℕ, [], Option, Some, None, refl, sym, ◌∙◌, subst, arith}
use Rattle.ir_model.specs.ContextIds.{context_ids}
use Rattle.ir_model.specs.Forest.{Entity, an_op, owner}
use Rattle.ir_model.specs.Nesting.{In, children, Inside, IsLive, WellFormed, itself}
use Rattle.ir_model.specs.Changes.{Removes}
use Rattle.ir_model.specs.Parent.{IsParent}
use Rattle.ir_model.specs.Subtree.{IsSubtreeSize}
use Rattle.ir_model.proofs.Nests.{Within-trans}
use Rattle.ir_model.proofs.TwoRuns.{lawful}
use Rattle.ir_core_records.specs.declared.records.Records.{Records}
use Rattle.ir_core_records.specs.Chains.{chains_of}
use Rattle.ir_core_records.specs.Meaning.{forest_in}
use Rattle.ir_core_records.specs.Nested.{AreNested}
use Rattle.ir_core_records.specs.Table.{KnowOwn}
use Rattle.ir_core_records.specs.Tree.{tree_of}
use Rattle.ir_core_erasing.specs.Dropping.{Bare, Unnamed}
use Rattle.ir_core_erasing.specs.Erasing.{HandsOutNone, RemovesLeaf, removals}
use Rattle.ir_core_erasing.proofs.Dropped.{inside-live}
use Rattle.ir_core_erasing.proofs.Erasures.{Erasing, erasing-step, erasing-last}
use Rattle.ir_core_erasing.proofs.LeafRecords.{none-refl, none-trans}
use Rattle.ir_core_erasing.proofs.LeafRemovals.{live-still, inside-still}
use Rattle.ir_core_erasing.proofs.Walking.{owner-inside, parent-one}

module _ {D A K B S X L : Type 0} where
  -- what a teardown keeps, all along
  pub record Keeps (first now : Records D A K B S X L) (steps : ℕ) : Type 0 where
    pub counted : removals now ≡ removals first + steps
    pub nested : AreNested (tree_of now)
    pub chains : chains_of now ≡ chains_of first
    pub own : KnowOwn first → KnowOwn now
    pub ids : HandsOutNone first now

  -- a teardown that goes on at an entity
  pub record Tearing (first now : Records D A K B S X L) (root here : Entity context_ids) : Type 0 where
    pub keys : ℕ
    pub steps : ℕ
    pub erasing : Erasing (forest_in first) root keys (forest_in now) steps
    pub live : IsLive (forest_in now) root
    pub inside : Inside (forest_in now) root here
    pub keeps : Keeps first now steps

  -- a teardown that is done
  pub record Torn (first now : Records D A K B S X L) (root : Entity context_ids) : Type 0 where
    pub steps : ℕ
    pub removed : Removes (forest_in first) root (forest_in now)
    pub size : IsSubtreeSize (forest_in first) root steps
    pub keeps : Keeps first now steps

  abbrev pub Tears : Records D A K B S X L → Records D A K B S X L → Entity context_ids → Option (Entity context_ids) → Type 0
  Tears first now root None = Torn first now root
  Tears first now root (Some x) = Tearing first now root x

  pub start : (t : Records D A K B S X L) (root : Entity context_ids) (keys : ℕ) → WellFormed (forest_in t) keys → AreNested (tree_of t) → IsLive (forest_in t) root → Bare (forest_in t) root → Unnamed (forest_in t) root → Tearing t t root root
  start t root keys formed nested live bare unnamed = record {
    keys = keys;
    steps = 0;
    erasing = record {
      formed = formed;
      unnamed = unnamed;
      bare = bare;
      completes = λ last k. k;
      counts = λ left s. subst (IsSubtreeSize (forest_in t) root) (omega arith) s;
    };
    live = live;
    inside = itself;
    keeps = record { counted = omega arith; nested = nested; chains = refl; own = λ k. k; ids = none-refl t };
  }

  module _ (first now : Records D A K B S X L) (root here leaf : Entity context_ids) (w : Tearing first now root here) (i : Inside (forest_in now) here leaf) where
    pub leaf-inside : Inside (forest_in now) root leaf
    leaf-inside = Within-trans (children (forest_in now)) (children (forest_in now)) root here leaf w.inside i

    pub leaf-live : IsLive (forest_in now) leaf
    leaf-live = inside-live (forest_in now) w.erasing.formed.nested root leaf w.live leaf-inside

    -- what is inside the leaf is inside the root
    pub leaf-bare : Bare (forest_in now) leaf
    leaf-bare = λ o k. w.erasing.bare o (Within-trans (children (forest_in now)) (children (forest_in now)) root leaf (an_op o) leaf-inside k)

    pub leaf-unnamed : Unnamed (forest_in now) leaf
    leaf-unnamed = λ o d h k. w.erasing.unnamed o d h (Within-trans (children (forest_in now)) (children (forest_in now)) root leaf (owner context_ids d) leaf-inside k)

    module _ (none : children (forest_in now) leaf ≡ []) (next : Records D A K B S X L) (r : RemovesLeaf now leaf next) where
      keeps-on : Keeps first next (w.steps + 1)
      keeps-on = record {
        counted = omega (arith, r.counted, w.keeps.counted);
        nested = r.nested;
        chains = r.chains ∙ w.keeps.chains;
        own = λ k. r.own (w.keeps.own k);
        ids = none-trans first now next w.keeps.ids r.ids;
      }

      step-to : (leaf ≡ root → ⊥) → (p : Entity context_ids) → In leaf (children (forest_in now) p) → Inside (forest_in now) root p → Tearing first next root p
      step-to other p h at =
          let over : p ≡ leaf → ⊥ = λ e. (let n : In {A = Entity context_ids} leaf [] = subst (λ xs. In leaf xs) none (subst (λ z. In leaf (children (forest_in now) z)) e h) in n) in
          record {
            keys = w.keys;
            steps = w.steps + 1;
            erasing = erasing-step (forest_in first) root w.keys lawful (forest_in now) (forest_in next) leaf w.steps w.erasing none leaf-inside r.removed other;
            live = live-still lawful (forest_in now) (forest_in next) leaf none r.removed root (λ e. other (sym e)) w.live;
            inside = inside-still lawful (forest_in now) (forest_in next) leaf none r.removed root p over at;
            keeps = keeps-on;
          }

      -- after a leaf that is not the root it goes on at what the leaf stood in
      pub next-step : (leaf ≡ root → ⊥) → (o : Option (Entity context_ids)) → IsParent (forest_in now) leaf o → Tears first next root o
      next-step other o is =
          let p = owner-inside (forest_in now) root leaf other leaf-inside in
          subst (Tears first next root) (sym (parent-one (forest_in now) w.erasing.formed.nested leaf p.0 o p.1 is)) (step-to other p.0 p.1 p.2)

      pub last-step : leaf ≡ root → Torn first next root
      last-step is =
          let done = erasing-last (forest_in first) root w.keys lawful (forest_in now) (forest_in next) leaf w.steps w.erasing none leaf-inside r.removed is in
          record { steps = w.steps + 1; removed = done.0; size = done.1; keeps = keeps-on }
