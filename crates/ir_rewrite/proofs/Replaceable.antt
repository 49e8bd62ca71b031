-- What is asked of an operation that is replaced, and which pair comes next.
use Rattle.std.proofs.Common.{◌≡◌, refl, sym, ap, ◌∙◌, subst, ℕ, suc, ◌+◌, Option, Some, None, List, map, length, take, All, add-one, arith, ◌≤◌}
use Rattle.std.specs.Prelude.{slice_get}
use Rattle.std.specs.List.{zip}
use Rattle.std.specs.Option.{option_map}
use Rattle.std.proofs.lemmas.List.{length-map, take_all}
use Rattle.std.proofs.lemmas.Slice.Zip.{length-zip}
use Rattle.std.proofs.lemmas.Option.{slice_get-map}
use Rattle.ir_model.specs.declared.ids.ArenaIndex.{ArenaIndex}
use Rattle.ir_model.specs.ContextIds.{context_ids}
use Rattle.ir_model.specs.Forest.{Dialect, Definition, Forest, Value, a_region, an_op, definer_entity, of_op}
use Rattle.ir_model.specs.Nesting.{In, Inside, IsClosed, WellFormed, definitions_of, regions_of}
use Rattle.ir_model.specs.Changes.{redirect}
use Rattle.ir_model.proofs.TwoRuns.{lawful}
use Rattle.ir_model.proofs.Nests.{In-map_back}
use Rattle.ir_model_passes.specs.Meaning.{given_by}
use Rattle.ir_model_passes.specs.Merging.{redirect_each, values_given}
use Rattle.ir_core_records.specs.declared.handles.Value.{Value as Handle}
use Rattle.ir_core_records.specs.Meaning.{value_of}
use Rattle.ir_rewrite.specs.Replacing.{IsOutside, MayReplace, results_beside}
use Rattle.ir_rewrite.proofs.Lists.{in_all}
use Rattle.ir_rewrite.proofs.Redirects.{one_more, pair_at, replaced_closed, same_definitions}

module _ {W : Dialect} where
  given_where : (o : ArenaIndex) (m : Option (Definition context_ids W)) (n : ℕ) → option_map (λ (d : Definition context_ids W). d.number) m ≡ Some n
      → option_map (given_by {N = context_ids} {W = W} o) m ≡ Some (record { definer = of_op o; number = n })
  given_where o None n e = let wrong : ◌≡◌ {A = Option ℕ} None (Some n) = e in absurd cc
  given_where o (Some d) n e = let is : d.number ≡ n = cc in ap (λ k. Some (record { definer = of_op o; number = k })) is

  -- the value that the operation gives at a place, by the number there
  pub given_at : (f : Forest context_ids W) (o : ArenaIndex) (rs : List (Definition context_ids W)) (k n : ℕ) → definitions_of f (of_op o) ≡ rs → option_map (λ (d : Definition context_ids W). d.number) (slice_get rs k) ≡ Some n
      → slice_get (values_given f o) k ≡ Some (record { definer = of_op o; number = n })
  given_at f o rs k n is e =
      slice_get-map (given_by o) (definitions_of f (of_op o)) k
      ∙ given_where o (slice_get (definitions_of f (of_op o)) k) n (ap (λ ds. option_map (λ (d : Definition context_ids W). d.number) (slice_get ds k)) is ∙ e)

  module _ {D A K B S X L : Type 0} (f : Forest context_ids W) (o : ArenaIndex) (values : List (Handle D A K B S X L)) where
    -- the operation is closed once its results are replaced
    pub closes : (keys : ℕ) → WellFormed f keys → MayReplace f o values → IsClosed (redirect_each f (results_beside f o values)) (an_op o)
    closes keys w may = replaced_closed lawful f keys w o (map (λ v. value_of v.index) values) many outside (in_all (λ r. IsClosed f (a_region r)) (regions_of f o) may.closed)
      where
        many : length (values_given f o) ≡ length (map (λ (v : Handle D A K B S X L). value_of v.index) values)
        many = length-map (definitions_of f (of_op o)) (given_by o) ∙ sym may.as_many ∙ sym (length-map values (λ (v : Handle D A K B S X L). value_of v.index))

        outside : (v : Value context_ids) → In v (map (λ (v : Handle D A K B S X L). value_of v.index) values) → Inside f (an_op o) (definer_entity context_ids v.definer) → ⊥
        outside v h i =
            let at = In-map_back (λ (v : Handle D A K B S X L). value_of v.index) v values h in
            in_all (λ (u : Handle D A K B S X L). IsOutside f o (value_of u.index)) values may.outside at.0 at.1 (subst (λ z. Inside f (an_op o) (definer_entity context_ids z.definer)) at.2 i)

    -- one result more is replaced
    pub replaced_next : (g h : Forest context_ids W) (k n : ℕ) (v : Handle D A K B S X L) → g ≡ redirect_each f (take k (results_beside f o values))
        → slice_get (values_given f o) k ≡ Some (record { definer = of_op o; number = n }) → slice_get values k ≡ Some v
        → h ≡ redirect g (record { definer = of_op o; number = n }) (value_of v.index)
        → h ≡ redirect_each f (take (k + 1) (results_beside f o values))
    replaced_next g h k n v e result value step =
        let old : Value context_ids = record { definer = of_op o; number = n } in
        let pair : slice_get (results_beside f o values) k ≡ Some (old, value_of v.index) =
        pair_at (values_given f o) (map (λ (v : Handle D A K B S X L). value_of v.index) values) k old (value_of v.index) result
        (slice_get-map (λ (v : Handle D A K B S X L). value_of v.index) values k ∙ ap (option_map (λ (v : Handle D A K B S X L). value_of v.index)) value) in
        step ∙ ap (λ z. redirect z old (value_of v.index)) e ∙ sym (one_more (results_beside f o values) f k (old, value_of v.index) pair)
        ∙ ap (λ m. redirect_each f (take m (results_beside f o values))) (sym (add-one k))

    -- results are the same where some are replaced
    pub same_results : (g : Forest context_ids W) (k : ℕ) → g ≡ redirect_each f (take k (results_beside f o values)) → definitions_of g (of_op o) ≡ definitions_of f (of_op o)
    same_results g k e = ap (λ z. definitions_of z (of_op o)) e ∙ same_definitions (take k (results_beside f o values)) f (of_op o)

    -- there are no more pairs than values
    pub pairs_short : (g : Forest context_ids W) (k : ℕ) → length values ≤ k → g ≡ redirect_each f (take k (results_beside f o values)) → g ≡ redirect_each f (results_beside f o values)
    pairs_short g k le e =
        e ∙ ap (redirect_each f) (take_all k (results_beside f o values) (omega (arith, length-zip (values_given f o) (map (λ (v : Handle D A K B S X L). value_of v.index) values), length-map values (λ (v : Handle D A K B S X L). value_of v.index), le)))
