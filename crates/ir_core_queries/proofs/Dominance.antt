-- The answer on SSA dominance, by the kind of the region's operation.
use Rattle.std.proofs.Common.{◌≡◌, ℕ, Bool, true, false, cond, slice_get, Some, sym, ap, ◌∙◌}
use Rattle.ir_model.specs.declared.ids.ArenaIndex.{ArenaIndex}
use Rattle.ir_model.specs.ContextIds.{context_ids}
use Rattle.ir_model.specs.Forest.{Dialect, Behaviour, Forest, OpRecord, a_region, an_op}
use Rattle.ir_model.specs.Kinds.{dominance, IsDominance, Kinds, region_kind_interface}
use Rattle.ir_model.specs.Nesting.{Nested, regions_of}
use Rattle.ir_model.specs.Parent.{IsIn, IsIndex}
use Rattle.ir_core_queries.proofs.Places.{index-in, place-of, region-in}

module _ {W : Dialect} (B : Behaviour W) (K : Kinds W) (f : Forest context_ids W) (g o : ArenaIndex) (r : OpRecord context_ids W) (found : f.ops o ≡ Some r) (stands : IsIn f (a_region g) (an_op o)) (kind : ℕ) (of_kind : kind ≡ r.kind) (answer : Bool) where
  told-at : (k : ℕ) → slice_get (regions_of f o) k ≡ Some g → answer ≡ dominance B K kind k → IsDominance B K f g answer
  told-at k at is = (o, (k, at, record { value = r; found = found; holds = is ∙ ap (λ n. dominance B K n k) of_kind }))

  -- the kind says that it has an answer, and it is the dialect's
  pub dominance-asked : Nested f → B.op_impls kind region_kind_interface ≡ true → (k : ℕ) → IsIndex f (a_region g) k → answer ≡ K.dominates kind k → IsDominance B K f g answer
  dominance-asked nested asks k at is = told-at k (index-in f nested o g k stands at) (is ∙ sym (ap (λ b. cond b (K.dominates kind k) true) asks))

  -- the kind has no answer, and it is yes
  pub dominance-plain : B.op_impls kind region_kind_interface ≡ false → answer ≡ true → IsDominance B K f g answer
  dominance-plain plain is =
      let at = place-of g _ (region-in f o g stands) in
      told-at at.0 at.1 (is ∙ sym (ap (λ b. cond b (K.dominates kind at.0) true) plain))
