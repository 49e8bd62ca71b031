-- A climb to what an entity stands in ends, and meets the root exactly where the entity is inside it.
use Rattle.std.proofs.Common.{◌≡◌, ◌↔◌, ◌<◌, Option, Some, None, sym, subst, arith}
use Rattle.ir_model.specs.ContextIds.{context_ids}
use Rattle.ir_model.specs.Forest.{Dialect, Entity, Forest}
use Rattle.ir_model.specs.Nesting.{below, Inside, Nested}
use Rattle.ir_model.specs.Parent.{IsParent}
use Rattle.ir_core_records.specs.declared.records.Records.{Records}
use Rattle.ir_core_records.specs.Meaning.{forest_in}
use Rattle.ir_core_records.specs.Nested.{AreNested}
use Rattle.ir_core_records.specs.Tree.{tree_of}
use Rattle.ir_core_nesting.specs.Climbs.{Reaches, depth, DepthsFollow}
use Rattle.ir_core_erasing.proofs.Walking.{owner-inside, parent-one}

module _ {W : Dialect} (f : Forest context_ids W) (nested : Nested f) (root x : Entity context_ids) where
  reached : (o : Option (Entity context_ids)) → IsParent f x o → Reaches f root o → Inside f root x
  reached None is r = absurd r
  reached (Some y) is r = below is r

  -- an entity that is not the root is inside it exactly where its parent is
  pub climb-up : (o : Option (Entity context_ids)) → (x ≡ root → ⊥) → IsParent f x o → Inside f root x ↔ Reaches f root o
  climb-up o other is = (
    λ i. (let p = owner-inside f root x other i in subst (Reaches f root) (sym (parent-one f nested x p.0 o p.1 is)) p.2),
    reached o is,
  )

-- the parent stands less deep
pub climb-less : {D A K B S X L : Type 0} → DepthsFollow D A K B S X L → (t : Records D A K B S X L) → AreNested (tree_of t) → Nested (forest_in t) → (x : Entity context_ids) (o : Option (Entity context_ids)) → IsParent (forest_in t) x o → depth t o < depth t (Some x)
climb-less follow t nested formed x None is = omega arith
climb-less follow t nested formed x (Some y) is = let more = follow t x y nested formed is in omega (arith, more)
