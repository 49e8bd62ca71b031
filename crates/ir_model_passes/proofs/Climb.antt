-- Where the live entities of a nested forest are listed, it is decided what lies inside what.
use mathlib.Core.Path.{◌≡◌, refl, sym, subst}
use Rattle.std.proofs.Common.{ℕ, zero, suc, ◌+◌, ◌≤◌, ◌≢◌, ◌⊎◌, inl, inr, true, Option, Some, None, List, map, length, IsSome, arith}
use Rattle.ir_model.specs.Ids.{Ids}
use Rattle.ir_model.specs.Forest.{Dialect, OpRecord, BlockRecord, Forest, Entity, an_op, a_block, a_region, same_entity}
use Rattle.ir_model.specs.Nesting.{In, Within, itself, below, list_of, children, Inside, Nested}
use Rattle.ir_model.proofs.Renaming.{Tells}
use Rattle.ir_model.proofs.Loops.{Lawful}
use Rattle.ir_model.proofs.Nests.{Within-trans}
use Rattle.ir_model.proofs.KeepsErase.{same_self, same_tells}
use Rattle.ir_model.proofs.Entries.{AddsOne-in}
use Rattle.ir_model.proofs.Removal.{splits, AddsOne-length}
use Rattle.ir_model.proofs.Decided.{Decided, instead, one, in_list, some}
use Rattle.ir_model_passes.specs.SweepInside.{ListsLive}

-- what is inside is the thing itself, or a child of something inside
inside_by : {E : Type 0} {lists : E → List E} (e a : E) → Within lists e a → (e ≡ a) ⊎ ((c : E) × In a (lists c) × Within lists e c)
inside_by e _ itself = inl refl
inside_by e a (below {c = c} h w) = inr (c, h, w)

module _ {N : Ids} where
  has_child : {A B : Type 0} (c : A → Entity N) (of : B → List A) (m : Option B) (x : Entity N) → In x (map c (list_of of m)) → IsSome m
  has_child c of None x h = elim h [ ]
  has_child c of (Some r) x h = refl

module _ {N : Ids} {W : Dialect} (L : Lawful N) (f : Forest N W) (n : Nested f) (live : List (Entity N)) (lists : ListsLive f live) where
  entity_tells : Tells (same_entity N)
  entity_tells x y = (same_tells N L x y, λ e. subst (λ z. same_entity N x z ≡ true) e (same_self N L x))

  -- what has a child is listed
  parent_listed : (x y : Entity N) → In x (children f y) → In y live
  parent_listed x (an_op o) h = lists (an_op o) (has_child a_region (λ (r : OpRecord N W). r.regions) (f.ops o) x h)
  parent_listed x (a_block b) h = lists (a_block b) (has_child an_op (λ (r : BlockRecord N W). r.ops) (f.blocks b) x h)
  parent_listed x (a_region r) h = lists (a_region r) (has_child a_block (λ (bs : List N.Block). bs) (f.regions r) x h)

  abbrev child_so : (x y : Entity N) → Decided (In x (children f y))
  child_so x y = in_list (same_entity N) entity_tells x (children f y)

  abbrev parent_so : (x : Entity N) → Decided ((y : Entity N) × In y live × In x (children f y))
  parent_so x = some (λ y. In x (children f y)) (child_so x) live

  -- all that is listed is among these, or inside a
  abbrev Covers : Entity N → List (Entity N) → Type 0
  Covers a left = (x : Entity N) → In x live → In x left ⊎ Inside f a x

  up : (e a y : Entity N) → e ≢ a → In a (children f y) → Inside f e a → Inside f e y
  up e a y differ c h = elim (inside_by e a h) [
    | inl same ↦ absurd (differ same)
    | inr p ↦ subst (λ z. Inside f e z) (n.one_list a p.0 y p.1 c) p.2
  ]

  -- the parent is not inside, so it is among those that are left
  parent_left : (a y : Entity N) (left : List (Entity N)) → Covers a left → In y live → In a (children f y) → In y left
  parent_left a y left covers i c = elim (covers y i) [ inl h ↦ h | inr w ↦ absurd (n.no_cycle a y c w) ]

  -- by its parent, where it is another one
  climb_by : (e a : Entity N) → Decided (e ≡ a) → Decided ((y : Entity N) × In y live × In a (children f y)) → ((y : Entity N) → In y live → In a (children f y) → Decided (Inside f e y)) → Decided (Inside f e a)
  climb_by e a (inl same) p above = inl (subst (λ z. Inside f e z) same itself)
  climb_by e a (inr differ) (inr none) above = inr (λ h. elim (inside_by e a h) [ inl same ↦ differ same | inr p ↦ none (p.0, parent_listed a p.0 p.1, p.1) ])
  climb_by e a (inr differ) (inl p) above = instead (λ h. below p.2 h) (up e a p.0 differ p.2) (above p.0 p.1 p.2)

  -- one is left fewer with each parent
  fewer_left : (a y : Entity N) (left : List (Entity N)) → Covers a left → In y live → In a (children f y) → (rest : List (Entity N)) × (length left ≡ length rest + 1) × Covers y rest
  fewer_left a y left covers i c =
      let at = splits y left (parent_left a y left covers i c) in (
        at.0,
        AddsOne-length at.1,
        λ x j. elim (covers x j) [
          | inl h ↦ elim (AddsOne-in x at.1 h) [ inl same ↦ inr (subst (λ z. Inside f y z) (sym same) itself) | inr r ↦ inl r ]
          | inr w ↦ inr (Within-trans (children f) (children f) y a x (below c itself) w)
        ],
      )

  climb : (e : Entity N) (k : ℕ) (left : List (Entity N)) (a : Entity N) → length left ≤ k → Covers a left → Decided (Inside f e a)
  climb e zero left a few covers = climb_by e a (one (same_entity N) entity_tells e a) (parent_so a) (λ y i c. (let rest = fewer_left a y left covers i c in let longer = rest.1 in absurd (omega (arith, longer, few))))
  climb e (suc k) left a few covers = climb_by e a (one (same_entity N) entity_tells e a) (parent_so a) (λ y i c. (let rest = fewer_left a y left covers i c in let longer = rest.1 in climb e k rest.0 y (omega (arith, longer, few)) rest.2))

  -- whether a is inside e
  pub inside_so : (e a : Entity N) → Decided (Inside f e a)
  inside_so e a = climb e (length live) live a (omega arith) (λ x h. inl h)
