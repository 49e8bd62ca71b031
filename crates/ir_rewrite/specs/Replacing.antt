-- Results that are replaced by values, place by place.
use Rattle.std.specs.Prelude.{◌≡◌, ℕ, List, length, map, take, All}
use Rattle.std.specs.List.{zip}
use Rattle.ir_model.specs.declared.ids.ArenaIndex.{ArenaIndex}
use Rattle.ir_model.specs.ContextIds.{context_ids}
use Rattle.ir_model.specs.Forest.{Dialect, Forest, Value, a_region, a_value, an_op, definer_entity, of_op}
use Rattle.ir_model.specs.Nesting.{Inside, IsClosed, IsLive, IsLiveNamed, definitions_of, regions_of}
use Rattle.ir_model_passes.specs.Merging.{redirect_each, values_given}
use Rattle.ir_core_records.specs.declared.handles.Value.{Value as Handle}
use Rattle.ir_core_records.specs.Meaning.{value_of}

module _ {W : Dialect} (f : Forest context_ids W) where
  -- what defines the value isn't inside the operation
  abbrev pub IsOutside : ArenaIndex → Value context_ids → Type 0
  IsOutside o v = Inside f (an_op o) (definer_entity context_ids v.definer) → ⊥

  -- the first of these pairs were redirected, and the others were not
  abbrev pub RedirectsSome : List (Value context_ids × Value context_ids) → Forest context_ids W → Type 0
  RedirectsSome pairs g = (count : ℕ) × (g ≡ redirect_each f (take count pairs))

  module _ {D A K B S X L : Type 0} (o : ArenaIndex) (values : List (Handle D A K B S X L)) where
    -- each result of the operation, and beside it the value at the same place
    abbrev pub results_beside : List (Value context_ids × Value context_ids)
    results_beside = zip (values_given f o) (map (λ v. value_of v.index) values)

    -- the operation may be replaced by the values: it is live, there are as many values as results, they are live and not defined inside it, and nothing outside one of its regions names what is defined inside that
    pub record MayReplace : Type 0 where
      pub live : IsLive f (an_op o)
      pub as_many : length values ≡ length (definitions_of f (of_op o))
      pub values_live : All (λ v. IsLiveNamed f (a_value (value_of v.index))) values
      pub outside : All (λ v. IsOutside o (value_of v.index)) values
      pub closed : All (λ g. IsClosed f (a_region g)) (regions_of f o)
