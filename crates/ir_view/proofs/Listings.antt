-- The listing of a state is in its order, and what it lists is live.
use Rattle.std.proofs.Common.{◌≡◌, ◌<◌, ℕ, zero, suc, All, length, slice_index_or, inl, inr, List, [], ◌∷◌, ◌++◌, Option, Some, refl, arith}
use Rattle.ir_model.specs.ContextIds.{context_ids}
use Rattle.ir_model.specs.Forest.{Entity}
use Rattle.ir_model.specs.Nesting.{In, Inside, IsLive, Nested, children}
use Rattle.ir_model.specs.Parent.{first_of}
use Rattle.ir_model.specs.Subtree.{ListsSubtree}
use Rattle.ir_core_records.specs.Nested.{AreNested}
use Rattle.ir_core_records.specs.Tree.{tree_of}
use Rattle.ir_core_nesting.specs.Climbs.{depth, size, DepthsFit, DepthsFollow}
use Rattle.ir_core_context.specs.State.{ContextState, forest_of}
use Rattle.ir_view.specs.declared.order.WalkOrder.{WalkOrder}
use Rattle.ir_view.specs.declared.order.WalkOrder.TheVariants.{PostOrder, Preorder}
use Rattle.ir_view.specs.Left.{left_from}
use Rattle.ir_view.specs.Listings.{IsInOrder, ahead_in, behind_in, listing}
use Rattle.ir_view.proofs.Forests.{inside_live, lists}
use Rattle.ir_view.proofs.Lefts.{left-step}
use Rattle.ir_view.proofs.Levels.{ordered-is}

-- an entity stands once between what it puts ahead and what it puts behind
own : (order : WalkOrder) (e : Entity context_ids) → ahead_in order e ++ behind_in order e ≡ e ∷ []
own PostOrder e = refl
own Preorder e = refl

-- what holds of all that is in a list holds of each of its items
all-of : {A : Type 0} (P : A → Type 0) (xs : List A) → ((x : A) → In x xs → P x) → All P xs
all-of {A = A} P xs each = λ k d within. each (slice_index_or xs k d) (in-list xs k d within)
  where
    in-list : (ys : List A) (k : ℕ) (d : A) → k < length ys → In (slice_index_or ys k d) ys
    in-list [] k d h = absurd (omega arith)
    in-list (y ∷ ys) zero d h = inl refl
    in-list (y ∷ ys) (suc k) d h = inr (in-list ys k d (omega arith))

module _ {D A K B S X L : Type 0} (s : ContextState D A K B S X L) (formed : Nested (forest_of s)) (order : WalkOrder) (e : Entity context_ids) where
  pub listing-is : DepthsFollow D A K B S X L → DepthsFit D A K B S X L → AreNested (tree_of s.records) → IsInOrder order (forest_of s) e (listing order s e)
  listing-is follow fit nested =
      let t = s.records in
      ordered-is (ahead_in order) (behind_in order) (children (forest_of s)) (λ x. depth t (Some x)) (suc (size t)) (λ x. fit t (Some x)) (λ x y i. follow t x y nested formed i)
      (suc (suc (size t))) (e ∷ []) (λ x i. omega arith)

  module _ (xs : List (Entity context_ids)) (is : IsInOrder order (forest_of s) e xs) where
    pub each-once : ListsSubtree (forest_of s) e xs
    each-once = lists (forest_of s) formed (ahead_in order) (behind_in order) (own order) e xs is

    pub each-live : IsLive (forest_of s) e → All (λ x. IsLive (forest_of s) x) xs
    each-live live = all-of (λ x. IsLive (forest_of s) x) xs (λ x i. inside_live (forest_of s) formed e x live ((each-once.exact x).0 i))

    -- a walk that is at an entity inside has it left, and what is left from the next on
    pub taken : (here : Entity context_ids) (next : Option (Entity context_ids)) → Inside (forest_of s) e here
        → ((before behind : List (Entity context_ids)) → xs ≡ before ++ here ∷ behind → next ≡ first_of behind) → left_from (Some here) xs ≡ here ∷ left_from next xs
    taken here next within told = left-step xs here next each-once.once ((each-once.exact here).1 within) told
