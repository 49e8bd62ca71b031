-- All that is inside an entity, in the order of a walk by links: what stands in it, from the last child to the first, all inside each before the child itself, and the entity last.
use Rattle.std.specs.Prelude.{◌≡◌, ℕ, suc, zero, ◌-◌, List, [], ◌∷◌, ◌++◌, Option, Some, None, if◌then◌else◌}
use Rattle.std.specs.Option.{option_map, option_and_then}
use Rattle.ir_model.specs.declared.ids.ArenaIndex.{ArenaIndex}
use Rattle.ir_model.specs.ContextIds.{context_ids, same_id}
use Rattle.ir_model.specs.Forest.{Entity, an_op, a_block, a_region}
use Rattle.ir_model.specs.Nesting.{Nested, children, list_of}
use Rattle.ir_model.specs.Parent.{last_of}
use Rattle.ir_model.specs.Subtree.{ListsSubtree}
use Rattle.ir_base_arenas.specs.Lists.{Links, Ends}
use Rattle.ir_core_records.specs.declared.records.Records.{Records}
use Rattle.ir_core_records.specs.Meaning.{forest_in}
use Rattle.ir_core_records.specs.Nested.{AreNested}
use Rattle.ir_core_records.specs.Tree.{Tree, tree_of}
use Rattle.ir_core_nesting.specs.Climbs.{depth, size}

-- the lists of these, from that of the last to that of the first
abbrev pub joined_backward : {E : Type 0} → (E → List E) → List E → List E
joined_backward g [] = []
joined_backward g (c ∷ cs) = joined_backward g cs ++ g c

-- the listing of e, so many levels deep
abbrev pub post : {E : Type 0} → ℕ → (E → List E) → E → List E
post zero lists e = []
post (suc n) lists e = joined_backward (post n lists) (lists e) ++ e ∷ []

-- the list begins with x
abbrev pub StartsWith : {E : Type 0} → List E → E → Type 0
StartsWith {E} xs x = (rest : List E) × (xs ≡ x ∷ rest)

-- y stands right before x in the list
abbrev pub IsBefore : {E : Type 0} → List E → E → E → Type 0
IsBefore {E} xs y x = (us : List E) × (vs : List E) × (xs ≡ us ++ y ∷ x ∷ vs)

-- x is the last of the list
abbrev pub EndsWith : {E : Type 0} → List E → E → Type 0
EndsWith {E} xs x = (us : List E) × (xs ≡ us ++ x ∷ [])

-- the last node that these ends name
abbrev pub tail_in : Option Ends → Option ArenaIndex
tail_in None = None
tail_in (Some e) = e.tail

-- the previous node that these links name
abbrev pub prev_in : Option Links → Option ArenaIndex
prev_in None = None
prev_in (Some l) = l.prev

-- the item before the first place of x, and p where that is the first item
abbrev pub before_from : Option ArenaIndex → ArenaIndex → List ArenaIndex → Option ArenaIndex
before_from p x [] = None
before_from p x (y ∷ ys) = if same_id y x then p else before_from (Some y) x ys

-- the last of what stands in an entity, as the records say
abbrev pub kept_last : Tree → Entity context_ids → Option (Entity context_ids)
kept_last t (an_op o) = option_map a_region (last_of (list_of (λ gs. gs) (t.regions_of o)))
kept_last t (a_block b) = option_map an_op (tail_in (t.block_ends b))
kept_last t (a_region g) = option_map a_block (tail_in (t.region_ends g))

-- the one before an entity in its list, as the records say
abbrev pub kept_previous : Tree → Entity context_ids → Option (Entity context_ids)
kept_previous t (an_op o) = option_map an_op (prev_in (t.ops o))
kept_previous t (a_block b) = option_map a_block (prev_in (t.blocks b))
kept_previous t (a_region g) = option_map a_region (option_and_then (λ (gs : List ArenaIndex). before_from None g gs) (option_and_then t.regions_of (t.parent_ops g)))

module _ {D A K B S X L : Type 0} where
  -- all that is inside e, in the order of the walk; no entity is deeper than there are slots
  abbrev pub subtree : Records D A K B S X L → Entity context_ids → List (Entity context_ids)
  subtree t e = post (suc (suc (size t)) - depth t (Some e)) (children (forest_in t)) e

-- the listing has exactly what is inside, each once
abbrev pub SubtreesListed : (D A K B S X L : Type 0) → Type 0
SubtreesListed D A K B S X L =
    (t : Records D A K B S X L) (e : Entity context_ids) → AreNested (tree_of t) → Nested (forest_in t) → ListsSubtree (forest_in t) e (subtree t e)
