-- All that is inside entities, made level by level, and what is left of it from an entity on.
use Rattle.std.specs.Prelude.{ℕ, zero, suc, cond, List, [], ◌∷◌, ◌++◌, Option, Some, None}
use Rattle.std.specs.List.{flat_map}
use Rattle.ir_model.specs.ContextIds.{context_ids}
use Rattle.ir_model.specs.Forest.{Entity, same_entity}

-- these and all that is inside them, so many levels deep: for each what it puts ahead, then what stands in it, then what it puts behind
abbrev pub ordered : {E : Type 0} → ℕ → (E → List E) → (E → List E) → (E → List E) → List E → List E
ordered zero ahead behind lists es = []
ordered (suc n) ahead behind lists es = flat_map (λ e. ahead e ++ (ordered n ahead behind lists (lists e) ++ behind e)) es

-- the list from the first place of the next entity on, and nothing where there is none
abbrev pub left_from : Option (Entity context_ids) → List (Entity context_ids) → List (Entity context_ids)
left_from None xs = []
left_from (Some x) [] = []
left_from (Some x) (y ∷ ys) = cond (same_entity context_ids y x) (y ∷ ys) (left_from (Some x) ys)
