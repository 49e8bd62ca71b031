-- What a walk gives, in either order.
use Rattle.std.specs.Prelude.{suc, List, [], ◌∷◌}
use Rattle.ir_model.specs.ContextIds.{context_ids}
use Rattle.ir_model.specs.Forest.{Dialect, Entity, Forest}
use Rattle.ir_model.specs.Nesting.{children}
use Rattle.ir_core_nesting.specs.Climbs.{size}
use Rattle.ir_core_context.specs.State.{ContextState, forest_of}
use Rattle.ir_view.specs.declared.order.WalkOrder.{WalkOrder}
use Rattle.ir_view.specs.declared.order.WalkOrder.TheVariants.{PostOrder, Preorder}
use Rattle.ir_view.specs.Left.{ordered}
use Rattle.ir_view.specs.Orders.{IsOrder, alone, nothing}

-- what an entity puts ahead of all that stands in it
abbrev pub ahead_in : {E : Type 0} → WalkOrder → E → List E
ahead_in PostOrder = nothing
ahead_in Preorder = alone

-- what an entity puts behind all that stands in it
abbrev pub behind_in : {E : Type 0} → WalkOrder → E → List E
behind_in PostOrder = alone
behind_in Preorder = nothing

-- all that is inside e, in this order
abbrev pub IsInOrder : {W : Dialect} → WalkOrder → Forest context_ids W → Entity context_ids → List (Entity context_ids) → Type 0
IsInOrder order f e xs = IsOrder (ahead_in order) (behind_in order) (children f) (e ∷ []) xs

module _ {D A K B S X L : Type 0} where
  -- all that is inside e, in this order; nothing is deeper than there are slots
  abbrev pub listing : WalkOrder → ContextState D A K B S X L → Entity context_ids → List (Entity context_ids)
  listing order s e = ordered (suc (suc (size s.records))) (ahead_in order) (behind_in order) (children (forest_of s)) (e ∷ [])
