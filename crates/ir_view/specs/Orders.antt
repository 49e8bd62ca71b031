-- All that is inside an entity, in a list: in post-order each behind what stands in it, in preorder each ahead of that, and both from the front of each list to its back.
use Rattle.std.specs.Prelude.{◌≡◌, List, [], ◌∷◌, ◌++◌}
use Rattle.ir_model.specs.ContextIds.{context_ids}
use Rattle.ir_model.specs.Ids.{Ids}
use Rattle.ir_model.specs.Forest.{Dialect, Entity, Forest}
use Rattle.ir_model.specs.Nesting.{children}

-- The second list has these and all that is inside them: first what an entity puts ahead, then the same of what stands in it, then what it puts behind, and then the others.
pub data IsOrder {E : Type 0} (ahead behind lists : E → List E) : List E → List E → Type 0 where
  no_more : IsOrder ahead behind lists [] []
  one_more : {e : E} {es xs ys : List E} → IsOrder ahead behind lists (lists e) xs → IsOrder ahead behind lists es ys
      → IsOrder ahead behind lists (e ∷ es) ((ahead e ++ (xs ++ behind e)) ++ ys)

module _ {E : Type 0} where
  -- nothing
  abbrev pub nothing : E → List E
  nothing e = []

  -- the entity alone
  abbrev pub alone : E → List E
  alone e = e ∷ []

module _ {N : Ids} {W : Dialect} where
  -- all that is inside e in post-order: what stands in an entity comes before it
  abbrev pub IsPostOrder : Forest N W → Entity N → List (Entity N) → Type 0
  IsPostOrder f e xs = IsOrder nothing alone (children f) (e ∷ []) xs

  -- all that is inside e in preorder: an entity comes before what stands in it
  abbrev pub IsPreorder : Forest N W → Entity N → List (Entity N) → Type 0
  IsPreorder f e xs = IsOrder alone nothing (children f) (e ∷ []) xs

-- an entity has one post-order and one preorder
abbrev pub OrdersAreOne : Dialect → Type 0
OrdersAreOne W =
    (f : Forest context_ids W) (e : Entity context_ids) (xs ys : List (Entity context_ids))
    → (IsPostOrder f e xs → IsPostOrder f e ys → xs ≡ ys) × (IsPreorder f e xs → IsPreorder f e ys → xs ≡ ys)
