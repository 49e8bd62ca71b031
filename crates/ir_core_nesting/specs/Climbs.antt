-- Climbs: from an entity to what it stands in, and so on, for so many steps at most.
use Rattle.std.specs.Prelude.{◌≡◌, ◌≤◌, ℕ, zero, suc, ◌+◌, List, [], ◌∷◌, length, Option, Some, None}
use Rattle.std.specs.Option.{option_map}
use Rattle.ir_model.specs.ContextIds.{context_ids}
use Rattle.ir_model.specs.Forest.{Dialect, Entity, an_op, a_block, a_region, Forest}
use Rattle.ir_model.specs.Nesting.{In, Inside, Nested, children}
use Rattle.ir_base_arenas.specs.Lists.{container_of}
use Rattle.ir_core_records.specs.declared.records.Records.{Records}
use Rattle.ir_core_records.specs.Meaning.{forest_in}
use Rattle.ir_core_records.specs.Nested.{AreNested}
use Rattle.ir_core_records.specs.Tree.{Tree, tree_of}

-- where `up` leads from o on, with the start
abbrev pub climb : {E : Type 0} → ℕ → (E → Option E) → Option E → List E
climb zero up o = []
climb (suc n) up None = []
climb (suc n) up (Some x) = x ∷ climb n up (up x)

-- what an entity stands in, as its record says
abbrev pub kept_parent : Tree → Entity context_ids → Option (Entity context_ids)
kept_parent t (an_op o) = option_map a_block (container_of t.ops o)
kept_parent t (a_block b) = option_map a_region (container_of t.blocks b)
kept_parent t (a_region g) = option_map an_op (t.parent_ops g)

-- what is left of a climb stands inside e, where something is left
abbrev pub Reaches : {W : Dialect} → Forest context_ids W → Entity context_ids → Option (Entity context_ids) → Type 0
Reaches f e None = ⊥
Reaches f e (Some x) = Inside f e x

module _ {D A K B S X L : Type 0} where
  -- how many slots there are
  abbrev pub size : Records D A K B S X L → ℕ
  size t = length t.ops.slots + length t.blocks.slots + length t.regions.slots

  -- the entity and all in which it stands
  abbrev pub above : Records D A K B S X L → Option (Entity context_ids) → List (Entity context_ids)
  above t o = climb (suc (size t)) (kept_parent (tree_of t)) o

  -- how deep an entity stands
  abbrev pub depth : Records D A K B S X L → Option (Entity context_ids) → ℕ
  depth t o = length (above t o)

-- what stands in an entity is one level deeper
abbrev pub DepthsFollow : (D A K B S X L : Type 0) → Type 0
DepthsFollow D A K B S X L =
    (t : Records D A K B S X L) (x y : Entity context_ids)
    → AreNested (tree_of t) → Nested (forest_in t) → In x (children (forest_in t) y) → depth t (Some x) ≡ suc (depth t (Some y))

-- nothing is deeper than there are slots
abbrev pub DepthsFit : (D A K B S X L : Type 0) → Type 0
DepthsFit D A K B S X L = (t : Records D A K B S X L) (o : Option (Entity context_ids)) → depth t o ≤ suc (size t)
