-- A linked operation stands in a block, which is what its parent is found to be.
use Rattle.std.proofs.Common.{◌≡◌, ◌∙◌, ◌<◌, ℕ, List, length, get_or, slice_get, Option, Some, None, refl, sym, ap, subst}
use Rattle.std.specs.Option.{option_map}
use Rattle.std.proofs.lemmas.Option.{slice_get-get_or}
use Rattle.ir_model.specs.declared.ids.ArenaIndex.{ArenaIndex}
use Rattle.ir_model.specs.ContextIds.{context_ids}
use Rattle.ir_model.specs.Forest.{Dialect, Entity, Forest, a_block, a_region, an_op}
use Rattle.ir_model.specs.Nesting.{In, IsLinked, blocks_of, children, ops_of, regions_of}
use Rattle.ir_model.specs.Parent.{IsParent}
use Rattle.ir_model.proofs.Back.{slice_get-in}
use Rattle.ir_model.proofs.Nests.{In-map_back}
use Rattle.ir_core_records.specs.declared.record.EntityIndex.{EntityIndex}
use Rattle.ir_core_records.specs.declared.record.EntityIndex.TheVariants.{Op, Block, Region}
use Rattle.ir_core_records.specs.declared.record.UseIndex.{UseIndex}
use Rattle.ir_core_records.specs.declared.records.Records.{Records}
use Rattle.ir_core_records.specs.Meaning.{entity_of, forest_in}

module _ {W : Dialect} (f : Forest context_ids W) (o : ArenaIndex) where
  -- what has an operation in its list is a block
  in-block : (y : Entity context_ids) → In (an_op o) (children f y) → (a : ArenaIndex) × (y ≡ a_block a) × In o (ops_of f a)
  in-block (a_block a) h =
      let at = In-map_back an_op (an_op o) (ops_of f a) h in
      let e : ◌≡◌ {A = Entity context_ids} (an_op o) (an_op at.0) = at.2 in
      let s : o ≡ at.0 = cc in
      (a, refl, subst (λ z. In z (ops_of f a)) (sym s) at.1)
  in-block (an_op p) h = absurd (let at = In-map_back a_region (an_op o) (regions_of f p) h in let e : ◌≡◌ {A = Entity context_ids} (an_op o) (a_region at.0) = at.2 in cc)
  in-block (a_region g) h = absurd (let at = In-map_back a_block (an_op o) (blocks_of f g) h in let e : ◌≡◌ {A = Entity context_ids} (an_op o) (a_block at.0) = at.2 in cc)

-- a fact on the use at a place of a list, and on the block of its user, which is found under another name
pub kept-at : {W : Dialect} (f : Forest context_ids W) {P : Type 0} (kept : List UseIndex) (i : ℕ) (d : UseIndex) {a b : ArenaIndex} → i < length kept → In (get_or kept i d).user (ops_of f a) → b ≡ a
    → ((u : UseIndex) → slice_get kept i ≡ Some u → In u kept → In u.user (ops_of f b) → P) → P
kept-at f kept i d within stands same holds =
    let at = slice_get-get_or kept i d within in
    holds (get_or kept i d) at (slice_get-in kept i (get_or kept i d) at) (subst (λ z. In (get_or kept i d).user (ops_of f z)) (sym same) stands)

module _ {D A K B S X L : Type 0} (s t : Records D A K B S X L) (same : s ≡ t) (o : ArenaIndex) (r : Option EntityIndex) (is : IsParent (forest_in s) (an_op o) (option_map entity_of r)) where
  -- the parent, where it is told, has the operation in its list
  in-parent : (e : EntityIndex) → r ≡ Some e → In (an_op o) (children (forest_in t) (entity_of e))
  in-parent e there = subst (λ (z : Records D A K B S X L). In (an_op o) (children (forest_in z) (entity_of e))) same (subst (λ (z : Option EntityIndex). IsParent (forest_in s) (an_op o) (option_map entity_of z)) there is)

  pub parent-block : (e : EntityIndex) (b : ArenaIndex) → r ≡ Some e → e ≡ Block b → In o (ops_of (forest_in t) b)
  parent-block e b there block =
      let at = in-block (forest_in t) o (a_block b) (in-parent (Block b) (there ∙ ap Some block)) in
      let e : ◌≡◌ {A = Entity context_ids} (a_block b) (a_block at.0) = at.1 in
      let s : b ≡ at.0 = cc in
      subst (λ z. In o (ops_of (forest_in t) z)) (sym s) at.2

  pub parent-no_op : (e : EntityIndex) (p : ArenaIndex) → r ≡ Some e → e ≡ Op p → ⊥
  parent-no_op e p there op =
      let at = in-block (forest_in t) o (an_op p) (in-parent (Op p) (there ∙ ap Some op)) in
      let e : ◌≡◌ {A = Entity context_ids} (an_op p) (a_block at.0) = at.1 in cc

  pub parent-no_region : (e : EntityIndex) (g : ArenaIndex) → r ≡ Some e → e ≡ Region g → ⊥
  parent-no_region e g there region =
      let at = in-block (forest_in t) o (a_region g) (in-parent (Region g) (there ∙ ap Some region)) in
      let e : ◌≡◌ {A = Entity context_ids} (a_region g) (a_block at.0) = at.1 in cc

  -- a linked operation has a parent
  pub parent-there : IsLinked (forest_in t) (an_op o) → r ≡ None → ⊥
  parent-there linked none =
      let nowhere : (y : Entity context_ids) → In (an_op o) (children (forest_in s) y) → ⊥ = subst (λ (z : Option EntityIndex). IsParent (forest_in s) (an_op o) (option_map entity_of z)) none is in
      nowhere linked.0 (subst (λ (z : Records D A K B S X L). In (an_op o) (children (forest_in z) linked.0)) (sym same) linked.1)
