-- Operations stand in blocks alone.
use Rattle.std.proofs.Common.{◌≡◌, ◌∙◌, ℕ, Bool, Option, Some, None, refl, sym, ap, subst, inl, inr}
use Rattle.std.specs.Prelude.{◌↔◌, IsSome, IsTrue}
use Rattle.std.specs.Option.{option_map}
use Rattle.ir_model.specs.declared.ids.ArenaIndex.{ArenaIndex}
use Rattle.ir_model.specs.ContextIds.{context_ids, same_id}
use Rattle.ir_model.specs.Forest.{BlockRecord, Dialect, Entity, Forest, a_block, a_region, an_op}
use Rattle.ir_model.specs.Nesting.{In, IsLinked, IsLive, WellFormed, blocks_of, children, list_of, ops_of, regions_of}
use Rattle.ir_model.specs.Parent.{IsParent}
use Rattle.ir_model.proofs.IdCases.{id_cases, id_differs, id_same}
use Rattle.ir_model.proofs.Nests.{In-map, In-map_back}
use Rattle.ir_model.proofs.Relinks.{one_block}
use Rattle.ir_model.proofs.TwoRuns.{lawful}
use Rattle.ir_core_records.specs.declared.record.EntityIndex.{EntityIndex}
use Rattle.ir_core_records.specs.declared.record.EntityIndex.TheVariants.{Op, Block, Region}
use Rattle.ir_core_records.specs.declared.records.Records.{Records}
use Rattle.ir_core_records.specs.Meaning.{entity_of, forest_in}

module _ {W : Dialect} (f : Forest context_ids W) where
  -- what has an operation in its list is a block
  in-block : (o : ArenaIndex) (y : Entity context_ids) → In (an_op o) (children f y) → (a : ArenaIndex) × (y ≡ a_block a) × In o (ops_of f a)
  in-block o (a_block a) h =
      let at = In-map_back an_op (an_op o) (ops_of f a) h in
      let e : ◌≡◌ {A = Entity context_ids} (an_op o) (an_op at.0) = at.2 in
      let s : o ≡ at.0 = cc in
      (a, refl, subst (λ z. In z (ops_of f a)) (sym s) at.1)
  in-block o (an_op p) h = absurd (let at = In-map_back a_region (an_op o) (regions_of f p) h in let e : ◌≡◌ {A = Entity context_ids} (an_op o) (a_region at.0) = at.2 in cc)
  in-block o (a_region g) h = absurd (let at = In-map_back a_block (an_op o) (blocks_of f g) h in let e : ◌≡◌ {A = Entity context_ids} (an_op o) (a_block at.0) = at.2 in cc)

  -- a linked operation stands in a block
  pub linked-in : (o : ArenaIndex) → IsLinked f (an_op o) → (a : ArenaIndex) × In o (ops_of f a)
  linked-in o h = let at = in-block o h.0 h.1 in (at.0, at.2)

  -- what an operation stands in is live
  pub stands-live : (o a : ArenaIndex) → In o (ops_of f a) → IsLive f (a_block a)
  stands-live o a h = by (f.blocks a) h
    where
      by : (m : Option (BlockRecord context_ids W)) → In o (list_of (λ (r : BlockRecord context_ids W). r.ops) m) → IsSome m
      by None k = absurd k
      by (Some r) k = refl

  -- an operation stands in a block where that is the one that is found
  pub stands-found : (keys : ℕ) → WellFormed f keys → (o a c : ArenaIndex) (b : Bool) → b ≡ same_id a c → In o (ops_of f a) → IsTrue b ↔ In o (ops_of f c)
  stands-found keys formed o a c b is here = elim (id_cases a c) [
    | inl e ↦ (λ t. subst (λ z. In o (ops_of f z)) e here, λ h. is ∙ ap (λ z. same_id z c) e ∙ id_same c)
    | inr ne ↦ (λ t. absurd (let no = id_differs a c ne in cc), λ h. absurd (ne (one_block lawful f keys formed o a c here h)))
  ]

module _ {D A K B S X L : Type 0} (s t : Records D A K B S X L) (same : s ≡ t) (o : ArenaIndex) (r : Option EntityIndex) (is : IsParent (forest_in s) (an_op o) (option_map entity_of r)) where
  -- the parent, where it is told, has the operation in its list
  in-parent : (e : EntityIndex) → r ≡ Some e → In (an_op o) (children (forest_in t) (entity_of e))
  in-parent e there = subst (λ (z : Records D A K B S X L). In (an_op o) (children (forest_in z) (entity_of e))) same (subst (λ (z : Option EntityIndex). IsParent (forest_in s) (an_op o) (option_map entity_of z)) there is)

  pub parent-block : (e : EntityIndex) (b : ArenaIndex) → r ≡ Some e → e ≡ Block b → In o (ops_of (forest_in t) b)
  parent-block e b there block =
      let at = in-block (forest_in t) o (a_block b) (in-parent (Block b) (there ∙ ap Some block)) in
      let e : ◌≡◌ {A = Entity context_ids} (a_block b) (a_block at.0) = at.1 in
      let s : b ≡ at.0 = cc in
      subst (λ z. In o (ops_of (forest_in t) z)) (sym s) at.2

  pub parent-no_op : (e : EntityIndex) (p : ArenaIndex) → r ≡ Some e → e ≡ Op p → ⊥
  parent-no_op e p there op =
      let at = in-block (forest_in t) o (an_op p) (in-parent (Op p) (there ∙ ap Some op)) in
      let e : ◌≡◌ {A = Entity context_ids} (an_op p) (a_block at.0) = at.1 in cc

  pub parent-no_region : (e : EntityIndex) (g : ArenaIndex) → r ≡ Some e → e ≡ Region g → ⊥
  parent-no_region e g there region =
      let at = in-block (forest_in t) o (a_region g) (in-parent (Region g) (there ∙ ap Some region)) in
      let e : ◌≡◌ {A = Entity context_ids} (a_region g) (a_block at.0) = at.1 in cc

  pub parent-none : r ≡ None → (a : ArenaIndex) → In o (ops_of (forest_in t) a) → ⊥
  parent-none none a h =
      let nowhere : (y : Entity context_ids) → In (an_op o) (children (forest_in s) y) → ⊥ = subst (λ (z : Option EntityIndex). IsParent (forest_in s) (an_op o) (option_map entity_of z)) none is in
      nowhere (a_block a) (In-map an_op o (ops_of (forest_in s) a) (subst (λ (z : Records D A K B S X L). In o (ops_of (forest_in z) a)) (sym same) h))
