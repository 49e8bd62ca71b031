-- What follows what in the listing of a subtree, as the links say.
use Rattle.std.proofs.Common.{◌≡◌, false, is_some, List, ◌∷◌, ◌++◌, Option, Some, None, refl, sym, ap, ◌∙◌, subst}
use Rattle.std.specs.Option.{option_map}
use Rattle.ir_model.specs.ContextIds.{context_ids}
use Rattle.ir_model.specs.Forest.{Dialect, Entity, Forest}
use Rattle.ir_model.specs.Nesting.{In, itself, below, children, Inside, IsLinked, Nested}
use Rattle.ir_model.specs.Parent.{first_of, IsParent}
use Rattle.ir_core_records.specs.declared.records.Records.{Records}
use Rattle.ir_core_records.specs.declared.record.EntityIndex.{EntityIndex}
use Rattle.ir_core_records.specs.Meaning.{entity_of, forest_in}
use Rattle.ir_core_records.specs.Nested.{AreNested}
use Rattle.ir_core_records.specs.Tree.{tree_of, ops_in, blocks_in}
use Rattle.ir_core_nesting.specs.Climbs.{DepthsFit, DepthsFollow}
use Rattle.ir_core_erasing.specs.Walks.{subtree, StartsWith, kept_previous}
use Rattle.ir_core_erasing.proofs.Posts.{in-middle, then-owner, then-sibling, follows, nothing-follows}
use Rattle.ir_core_erasing.proofs.Siblings.{AreNeighbours, PreviousIs, previous-is}
use Rattle.ir_core_erasing.proofs.Subtrees.{subtree-is, subtree-once, subtree-lists}

module _ {W : Dialect} (f : Forest context_ids W) where
  -- what is inside e, and not e itself, stands in something inside e
  pub owner-inside : (e x : Entity context_ids) → (x ≡ e → ⊥) → Inside f e x → (p : Entity context_ids) × In x (children f p) × Inside f e p
  owner-inside e x other itself = absurd (other refl)
  owner-inside e x other (below {c = c} h w) = (c, h, w)

  -- the parent is the one in whose list x stands
  pub parent-one : Nested f → (x p : Entity context_ids) (o : Option (Entity context_ids)) → In x (children f p) → IsParent f x o → o ≡ Some p
  parent-one nested x p None h is = absurd (is p h)
  parent-one nested x p (Some q) h is = ap Some (nested.one_list x q p is h)

module _ {D A K B S X L : Type 0} (follow : DepthsFollow D A K B S X L) (fit : DepthsFit D A K B S X L) (t : Records D A K B S X L) (nested : AreNested (tree_of t)) (formed : Nested (forest_in t))
    (op_links : AreNeighbours (tree_of t).ops (ops_in (tree_of t))) (block_links : AreNeighbours (tree_of t).blocks (blocks_in (tree_of t))) where
  abbrev lists : Entity context_ids → List (Entity context_ids)
  lists = children (forest_in t)

  module _ (root here : Entity context_ids) (before behind : List (Entity context_ids)) (splits : subtree t root ≡ before ++ here ∷ behind) where
    inside : Inside (forest_in t) root here
    inside = ((subtree-lists follow fit t nested formed root).exact here).0 (subst (In here) (sym splits) (in-middle here before behind))

    -- after the root comes nothing
    pub after-root : here ≡ root → first_of behind ≡ None
    after-root e = ap first_of (nothing-follows lists (subtree t) (subtree-is follow fit t nested formed) root (subtree-once follow fit t nested formed root) before behind (splits ∙ ap (λ z. before ++ z ∷ behind) e))

    -- after an entity comes the deepest of the one before it
    pub after-sibling : (here ≡ root → ⊥) → (q y : Entity context_ids) → kept_previous (tree_of t) here ≡ Some q → StartsWith (subtree t q) y → first_of behind ≡ Some y
    after-sibling other q y e d =
        let p = owner-inside (forest_in t) root here other inside in
        let i = then-sibling lists (subtree t) (subtree-is follow fit t nested formed) p.0 q here y (subst (PreviousIs (lists p.0) here) e (previous-is t nested op_links block_links p.0 here p.1)) d in
        ap first_of (follows lists (subtree t) (subtree-is follow fit t nested formed) root p.0 here y p.2 i (subtree-once follow fit t nested formed root) before behind splits).1

    -- and after the first of a list what it stands in
    pub after-first : (here ≡ root → ⊥) → (o : Option (Entity context_ids)) → kept_previous (tree_of t) here ≡ None → IsParent (forest_in t) here o → o ≡ first_of behind
    after-first other o e found =
        let p = owner-inside (forest_in t) root here other inside in
        let m : StartsWith (lists p.0) here = subst (PreviousIs (lists p.0) here) e (previous-is t nested op_links block_links p.0 here p.1) in
        let i = then-owner lists (subtree t) (subtree-is follow fit t nested formed) p.0 here m.0 m.1 in
        parent-one (forest_in t) formed here p.0 o p.1 found
        ∙ sym (ap first_of (follows lists (subtree t) (subtree-is follow fit t nested formed) root p.0 here p.0 p.2 i (subtree-once follow fit t nested formed root) before behind splits).1)

-- an entity without a parent stands in no list
pub no-parent : {W : Dialect} (f : Forest context_ids W) (x : Entity context_ids) (r : Option EntityIndex) → is_some r ≡ false → IsParent f x (option_map entity_of r) → IsLinked f x → ⊥
no-parent f x None e is linked = is linked.0 linked.1
no-parent f x (Some y) e is linked = absurd cc
