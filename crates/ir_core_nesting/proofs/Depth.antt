-- How deep an entity stands: one more than its parent, and no more than there are slots.
use Rattle.std.proofs.Common.{◌≡◌, ◌↔◌, ◌+◌, ◌≤◌, ℕ, suc, List, [], ◌∷◌, length, Option, Some, None, IsSome, refl, sym, ap, ◌∙◌, subst, inl, inr, arith}
use Rattle.std.specs.Option.{option_map}
use Rattle.ir_model.specs.declared.ids.ArenaIndex.{ArenaIndex}
use Rattle.ir_model.specs.ContextIds.{context_ids}
use Rattle.ir_model.specs.Ids.{Distinct}
use Rattle.ir_model.specs.Forest.{Entity, an_op, a_block, a_region}
use Rattle.ir_model.specs.Nesting.{In, children, IsLive, Nested}
use Rattle.ir_model.proofs.LiveIds.{live-fit}
use Rattle.ir_model.proofs.Nests.{Absent-not_in, not_in-Absent}
use Rattle.ir_base_arenas.specs.Arena.{get}
use Rattle.ir_base_arenas.specs.Lists.{container_of}
use Rattle.ir_core_records.specs.declared.records.Records.{Records}
use Rattle.ir_core_records.specs.Meaning.{forest_in, op_record, block_record}
use Rattle.ir_core_records.specs.Nested.{AreNested}
use Rattle.ir_core_records.specs.Tree.{tree_of, ops_in, blocks_in}
use Rattle.ir_core_nesting.specs.Climbs.{climb, above, depth, kept_parent, size}
use Rattle.ir_core_nesting.proofs.Climbs.{climb-None, climb-stable, climb-apart, climb-live}
use Rattle.ir_core_nesting.proofs.ForestParents.{parent-to, owner-live}

abbrev add : Option ArenaIndex → List ArenaIndex → List ArenaIndex
add None xs = xs
add (Some x) xs = x ∷ xs

-- the ids that f finds in a list
module _ (f : Entity context_ids → Option ArenaIndex) (c : ArenaIndex → Entity context_ids) (tells : (x : Entity context_ids) (a : ArenaIndex) → f x ≡ Some a → x ≡ c a) where
  abbrev pick : List (Entity context_ids) → List ArenaIndex
  pick [] = []
  pick (x ∷ xs) = add (f x) (pick xs)

  pick-in : (a : ArenaIndex) (xs : List (Entity context_ids)) → In a (pick xs) → In (c a) xs
  pick-in a [] h = h
  pick-in a (x ∷ xs) h = by (pick-in a xs) (f x) refl h
    where
      by : (In a (pick xs) → In (c a) xs) → (o : Option ArenaIndex) → f x ≡ o → In a (add o (pick xs)) → In (c a) (x ∷ xs)
      by more None e k = inr (more k)
      by more (Some b) e (inl k) = inl (ap c k ∙ sym (tells x b e))
      by more (Some b) e (inr k) = inr (more k)

  pick-apart : (xs : List (Entity context_ids)) → Distinct xs → Distinct (pick xs)
  pick-apart [] d = tt
  pick-apart (x ∷ xs) d = by (pick-apart xs d.1) (f x) refl
    where
      by : Distinct (pick xs) → (o : Option ArenaIndex) → f x ≡ o → Distinct (add o (pick xs))
      by more None e = more
      by more (Some b) e = (Absent-not_in b (pick xs) (λ h. not_in-Absent x xs d.0 (subst (λ z. In z xs) (sym (tells x b e)) (pick-in b xs h))), more)

abbrev op_in : Entity context_ids → Option ArenaIndex
op_in (an_op o) = Some o
op_in (a_block b) = None
op_in (a_region g) = None

abbrev block_in : Entity context_ids → Option ArenaIndex
block_in (an_op o) = None
block_in (a_block b) = Some b
block_in (a_region g) = None

abbrev region_in : Entity context_ids → Option ArenaIndex
region_in (an_op o) = None
region_in (a_block b) = None
region_in (a_region g) = Some g

op_tells : (x : Entity context_ids) (a : ArenaIndex) → op_in x ≡ Some a → x ≡ an_op a
op_tells (an_op o) a e = cc
op_tells (a_block b) a e = absurd cc
op_tells (a_region g) a e = absurd cc

block_tells : (x : Entity context_ids) (a : ArenaIndex) → block_in x ≡ Some a → x ≡ a_block a
block_tells (an_op o) a e = absurd cc
block_tells (a_block b) a e = cc
block_tells (a_region g) a e = absurd cc

region_tells : (x : Entity context_ids) (a : ArenaIndex) → region_in x ≡ Some a → x ≡ a_region a
region_tells (an_op o) a e = absurd cc
region_tells (a_block b) a e = absurd cc
region_tells (a_region g) a e = cc

picked : (xs : List (Entity context_ids)) → length (pick op_in an_op op_tells xs) + length (pick block_in a_block block_tells xs) + length (pick region_in a_region region_tells xs) ≡ length xs
picked [] = refl
picked (an_op o ∷ xs) = omega (arith, picked xs)
picked (a_block b ∷ xs) = omega (arith, picked xs)
picked (a_region g ∷ xs) = omega (arith, picked xs)

unmap : {A B : Type 0} (f : A → B) (o : Option A) → IsSome (option_map f o) → IsSome o
unmap f None h = h
unmap f (Some x) h = refl

-- there are no more live entities than slots
live-entities-fit : {D A K B S X L : Type 0} (t : Records D A K B S X L) (xs : List (Entity context_ids)) → Distinct xs → ((x : Entity context_ids) → In x xs → IsLive (forest_in t) x) → length xs ≤ size t
live-entities-fit t xs apart live =
    let ops = pick op_in an_op op_tells xs in
    let blocks = pick block_in a_block block_tells xs in
    let regions = pick region_in a_region region_tells xs in
    let a : length ops ≤ length t.ops.slots = live-fit t.ops ops (pick-apart op_in an_op op_tells xs apart) (λ q i. unmap op_record (get t.ops q) (live (an_op q) (pick-in op_in an_op op_tells q xs i))) in
    let b : length blocks ≤ length t.blocks.slots = live-fit t.blocks blocks (pick-apart block_in a_block block_tells xs apart) (λ q i. unmap (block_record (ops_in (tree_of t) q)) (get t.blocks q) (live (a_block q) (pick-in block_in a_block block_tells q xs i))) in
    let c : length regions ≤ length t.regions.slots = live-fit t.regions regions (pick-apart region_in a_region region_tells xs apart) (λ q i. unmap (λ _. blocks_in (tree_of t) q) (get t.regions q) (live (a_region q) (pick-in region_in a_region region_tells q xs i))) in
    omega (arith, picked xs)

module _ {D A K B S X L : Type 0} (t : Records D A K B S X L) (nested : AreNested (tree_of t)) (formed : Nested (forest_in t))
    (op_homes : (b o : ArenaIndex) → (container_of (tree_of t).ops o ≡ Some b) ↔ In o (ops_in (tree_of t) b))
    (block_homes : (g b : ArenaIndex) → (container_of (tree_of t).blocks b ≡ Some g) ↔ In b (blocks_in (tree_of t) g)) where
  fits : (n : ℕ) (x : Entity context_ids) (o : Option (Entity context_ids)) → kept_parent (tree_of t) x ≡ o → length (climb n (kept_parent (tree_of t)) o) ≤ size t
  fits n x None e = subst (λ (xs : List (Entity context_ids)). length xs ≤ size t) (sym (climb-None n (kept_parent (tree_of t)))) (omega arith)
  fits n x (Some y) e =
      let to = parent-to t nested formed op_homes block_homes in
      let owner = owner-live t nested formed op_homes block_homes in
      live-entities-fit t (climb n (kept_parent (tree_of t)) (Some y))
      (climb-apart (children (forest_in t)) (kept_parent (tree_of t)) to formed.no_cycle n y)
      (climb-live (children (forest_in t)) (kept_parent (tree_of t)) to (IsLive (forest_in t)) owner n y (owner x y (to x y e)))

  above-up : (x : Entity context_ids) → above t (Some x) ≡ x ∷ above t (kept_parent (tree_of t) x)
  above-up x = ap (λ xs. x ∷ xs) (climb-stable (size t) (kept_parent (tree_of t)) (kept_parent (tree_of t) x) (fits (suc (size t)) x (kept_parent (tree_of t) x) refl))

  pub depth-up : (x : Entity context_ids) → depth t (Some x) ≡ suc (depth t (kept_parent (tree_of t) x))
  depth-up x = ap length (above-up x)
