-- What taking out a result or argument that nothing names leaves of a context.
use Rattle.std.proofs.Common.{◌≡◌, ℕ, ◌-◌, List, [], ◌∷◌, length, map, Some, slice_get, inl, refl, sym, ap, subst, ◌∙◌}
use Rattle.std.specs.List.{remove}
use Rattle.std.specs.Option.{option_map}
use Rattle.std.proofs.lemmas.Option.{same_Some, slice_get-map}
use Rattle.ir_model.specs.Calls.{on_definitions}
use Rattle.ir_model.specs.ContextIds.{context_ids}
use Rattle.ir_model.specs.Edits.{Unused}
use Rattle.ir_model.specs.Forest.{Definer, Definition, a_value, definer_entity}
use Rattle.ir_model.specs.Nesting.{In, IsLive, definitions_of, numbers_of}
use Rattle.ir_core_records.specs.declared.record.Definer.{Definer as Defines}
use Rattle.ir_core_records.specs.declared.record.Definition.{Definition as Kept}
use Rattle.ir_core_records.specs.declared.record.UseIndex.{UseIndex}
use Rattle.ir_core_records.specs.declared.record.ValueIndex.{ValueIndex}
use Rattle.ir_core_records.specs.declared.records.Records.{Records}
use Rattle.ir_core_records.specs.Chains.{AreLinked, chains_of}
use Rattle.ir_core_records.specs.Frames.{KeepsTree}
use Rattle.ir_core_records.specs.Meaning.{closed, definer_of, forest_in, use_of, value_of}
use Rattle.ir_core_records.specs.Meant.{numbers-meant}
use Rattle.ir_core_records.specs.Table.{definitions_at, uses_at}
use Rattle.ir_core_context.specs.Calls.{EntitiesStayLive, SameButForest}
use Rattle.ir_core_context.specs.Definitions.{StayLiveBut, UnusedAt, ValueAt, last_place}
use Rattle.ir_core_context.specs.Named.{use-names}
use Rattle.ir_core_context.specs.Sound.{IsSound}
use Rattle.ir_core_context.specs.State.{ContextState, bare, forest_of}
use Rattle.ir_core_context.proofs.Definitions.{removed-entities-live, removed-kept, removed-live}
use Rattle.ir_core_context.proofs.ExactUses.{uses-exact}
use Rattle.ir_core_context.proofs.PlacedUses.{kept-rest, kept-sound}
use Rattle.ir_core_context.proofs.PlacedValues.{value-count}

module _ {D A K B S X L : Type 0} (s : ContextState D A K B S X L) (linked : AreLinked (chains_of s.records)) where
  -- a value that nothing names has no kept uses
  no-uses : (v : ValueIndex) → Unused (forest_of s) (a_value (value_of v)) → uses_at s.records v ≡ []
  no-uses v unused = by (uses_at s.records v) refl
    where
      by : (us : List UseIndex) → uses_at s.records v ≡ us → us ≡ []
      by [] e = refl
      by (u ∷ us) e =
          let kept = subst (λ (x : List UseIndex). In (use_of u) (map use_of x)) (sym e) (inl refl) in
          absurd (unused u.user (use-names (forest_of s) (value_of v) (use_of u) (((uses-exact s linked v).exact (use_of u)).0 kept)))

  -- so it is at a place
  pub unused-at : (d : Defines) (at : ℕ) → UnusedAt (forest_of s) (definer_of d) at → (r : Kept) → slice_get (definitions_at s.records d) at ≡ Some r → uses_at s.records (record { definer = d; number = r.number }) ≡ []
  unused-at d at unused r found =
      let here : slice_get (numbers_of (forest_of s) (definer_of d)) at ≡ Some r.number =
      ap (λ (ns : List ℕ). slice_get ns at) (numbers-meant s.records d) ∙ slice_get-map (λ (x : Kept). x.number) (definitions_at s.records d) at ∙ ap (option_map (λ (x : Kept). x.number)) found in
      let same : unused.value ≡ r.number = same_Some _ _ (sym unused.found ∙ here) in
      no-uses (record { definer = d; number = r.number }) (subst (λ n. Unused (forest_of s) (a_value (record { definer = definer_of d; number = n }))) same unused.holds)

  -- and at the last one
  pub unused-last : (d : Defines) → UnusedAt (forest_of s) (definer_of d) (last_place (forest_of s) (definer_of d)) → (r : Kept) → slice_get (definitions_at s.records d) (length (definitions_at s.records d) - 1) ≡ Some r
      → uses_at s.records (record { definer = d; number = r.number }) ≡ []
  unused-last d unused = unused-at d (length (definitions_at s.records d) - 1) (subst (λ n. UnusedAt (forest_of s) (definer_of d) (n - 1)) (value-count s.records d) unused)

module _ {D A K B S X L : Type 0} (s : ContextState D A K B S X L) (t : Records D A K B S X L) where
  -- the context is sound, all but its forest is as before, and all that was live is live but the value at this place
  pub record Taken (d : Definer context_ids) (at : ℕ) : Type 0 where
    pub sound : IsSound (record s { records = t })
    pub rest : SameButForest (bare s) (bare (record s { records = t }))
    pub stay_live : ValueAt (forest_of s) d at (StayLiveBut (forest_of s) (forest_in t))
    pub entities_stay_live : EntitiesStayLive (forest_of s) (forest_in t)

module _ {D A K B S X L : Type 0} {s : ContextState D A K B S X L} {t : Records D A K B S X L} (sound : IsSound s) (keeps : KeepsTree s.records t) (linked : AreLinked (chains_of t)) where
  -- a result or argument that nothing names was taken out
  pub value-taken : (d : Definer context_ids) (place : List (Definition context_ids (closed A K B S X L)) → ℕ) → IsLive (forest_of s) (definer_entity context_ids d) → UnusedAt (forest_of s) d (place (definitions_of (forest_of s) d))
      → forest_in t ≡ on_definitions (forest_of s) d (λ xs. remove xs (place xs)) → Taken s t d (place (definitions_of (forest_of s) d))
  value-taken d place live unused is =
      let f = forest_of s in
      record {
        sound = kept-sound sound keeps linked _ is (removed-kept f (length s.types) sound.formed place d live unused.value unused.found unused.holds);
        rest = kept-rest sound keeps linked;
        stay_live = record {
          value = unused.value;
          found = unused.found;
          holds = subst (λ g. StayLiveBut f g (a_value (record { definer = d; number = unused.value }))) (sym is) (removed-live f (length s.types) sound.formed place d live unused.value unused.found);
        };
        entities_stay_live = subst (EntitiesStayLive f) (sym is) (removed-entities-live f (length s.types) sound.formed place d live unused.value unused.found);
      }
