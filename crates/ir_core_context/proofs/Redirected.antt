-- What uses that come to name another definition, and a value that gets another type or name, leave of a context.
use Rattle.std.proofs.Common.{◌≡◌, ◌≢◌, ◌++◌, ℕ, ◌<◌, List, [], length, map, slice_get, if◌then◌else◌, Bool, Option, inl, refl, sym, ap, ap₂, subst, ◌∙◌, arith}
use Rattle.std.specs.Option.{option_map}
use Rattle.ir_model.specs.declared.ids.ArenaIndex.{ArenaIndex}
use Rattle.ir_model.specs.ContextIds.{context_ids}
use Rattle.ir_model.specs.CallLaws.{CallsKeepForm}
use Rattle.ir_model.specs.Calls.{SameStructure, set_name, set_type}
use Rattle.ir_model.specs.Changes.{on_operands, on_successors, redirect, redirected, retarget, retargeted}
use Rattle.ir_model.specs.DefinitionLaws.{TakesUses}
use Rattle.ir_model.specs.Forest.{Dialect, Definer, of_op, of_block, Definition, Forest, OpRecord, Operand, Successor, Text, Value, a_block, a_region, a_value, an_op, the_block}
use Rattle.ir_model.specs.Nesting.{In, IsLiveNamed, WellFormed, definitions_of, use_numbers_of}
use Rattle.ir_model.specs.Redirect.{redirect_uses, retarget_uses}
use Rattle.ir_model.specs.Uses.{IsUse, Use}
use Rattle.ir_model.proofs.Calls.{alone_name, alone_type}
use Rattle.ir_model.proofs.Keeps.{is_some-map, list_of-map}
use Rattle.ir_model.proofs.KeepsUses.{ReplaceAllUses-kept, RetargetAll-kept}
use Rattle.ir_model.proofs.Nests.{In-map_back}
use Rattle.ir_model.proofs.Parts.{Kept}
use Rattle.ir_model.proofs.Redirected.{block_all, block_none, value_all, value_none}
use Rattle.ir_model.proofs.SomeUses.{block_numbers, calls_keep_well_formed, redirected_formed, retargeted_formed, value_numbers}
use Rattle.ir_model.proofs.TwoRuns.{lawful}
use Rattle.ir_core_records.specs.declared.record.BlockIndex.{BlockIndex}
use Rattle.ir_core_records.specs.declared.record.UseIndex.{UseIndex}
use Rattle.ir_core_records.specs.declared.record.UsePlace.{UsePlace}
use Rattle.ir_core_records.specs.declared.record.ValueIndex.{ValueIndex}
use Rattle.ir_core_records.specs.declared.records.Records.{Records}
use Rattle.ir_core_records.specs.Chains.{AreLinked, chains_of}
use Rattle.ir_core_records.specs.Found.{place-In}
use Rattle.ir_core_records.specs.Frames.{KeepsTree}
use Rattle.ir_core_records.specs.Links.{IsPlaced}
use Rattle.ir_core_records.specs.Meaning.{closed, forest_in, operand_of, successor_of, use_of, value_of}
use Rattle.ir_core_records.specs.Meant.{operands-meant, successors-meant, value-same}
use Rattle.ir_core_records.specs.Table.{operands_at, successors_at}
use Rattle.ir_core_replacing.specs.Renamed.{IsPlaceOf}
use Rattle.ir_core_context.specs.Calls.{EntitiesStayLive, StayLive}
use Rattle.ir_core_context.specs.Sound.{IsSound}
use Rattle.ir_core_context.specs.State.{ContextState, forest_of, types_of}
use Rattle.ir_core_context.proofs.Edited.{Edited}
use Rattle.ir_core_context.proofs.PlacedUses.{kept-edited}
use Rattle.ir_core_context.proofs.PlacedValues.{types-count}
use Rattle.ir_core_context.proofs.Rewritten.{structure-entities-stay, structure-stays}

-- an edit of places in all operations leaves results and arguments
module _ {W : Dialect} (f : Forest context_ids W) (edit : ArenaIndex → OpRecord context_ids W → OpRecord context_ids W) (same : (o : ArenaIndex) (r : OpRecord context_ids W) → (edit o r).results ≡ r.results) where
  abbrev after : Forest context_ids W
  after = record f { ops = λ o. option_map (edit o) (f.ops o) }

  definitions-stay : (d : Definer context_ids) → definitions_of after d ≡ definitions_of f d
  definitions-stay (of_op o) = list_of-map (λ (r : OpRecord context_ids W). r.results) (edit o) (same o) (f.ops o)
  definitions-stay (of_block b) = refl

  names-live : StayLive f after
  names-live (a_value v) h = subst (λ (xs : List (Definition context_ids W)). In v.number (map (λ (x : Definition context_ids W). x.number) xs)) (sym (definitions-stay v.definer)) h
  names-live (the_block b) h = h

  entities-live : EntitiesStayLive f after
  entities-live (an_op o) h = is_some-map (edit o) (f.ops o) ∙ h
  entities-live (a_block b) h = h
  entities-live (a_region g) h = h

  after-kept : (keys : ℕ) → WellFormed after keys → ((o : ArenaIndex) → use_numbers_of after o ≡ use_numbers_of f o) → Kept f after keys []
  after-kept keys formed uses = record {
    forest = formed;
    values = λ v h. subst (λ (xs : List (Definition context_ids W)). In v.number (map (λ (x : Definition context_ids W). x.number) xs)) (definitions-stay v.definer) h;
    uses = λ o u h. inl (subst (In u) (uses o) h);
  }

-- where types alone differ, all that is live, all numbers and all uses are the same
module _ {W : Dialect} (f g : Forest context_ids W) (same : SameStructure f g) where
  same-kept : (keys : ℕ) → WellFormed g keys → Kept f g keys []
  same-kept keys formed = record {
    forest = formed;
    values = λ v h. subst (In v.number) (same.numbers v.definer) h;
    uses = λ o u h. inl (subst (In u) (ap₂ (λ (ps : List (Operand context_ids)) (qs : List (Successor context_ids)). map (λ (p : Operand context_ids). p.use_number) ps ++ map (λ (p : Successor context_ids). p.use_number) qs) (same.operands o) (same.successors o)) h);
  }

module _ {D A K B S X L : Type 0} {s : ContextState D A K B S X L} {t : Records D A K B S X L} (sound : IsSound s) (keeps : KeepsTree s.records t) (linked : AreLinked (chains_of t)) where
  abbrev f : Forest context_ids (closed A K B S X L)
  f = forest_of s

  -- all uses of a value, or of a block, name another one
  pub all-redirected : (v w : Value context_ids) → IsLiveNamed f (a_value w) → forest_in t ≡ redirect f v w → Edited s t
  all-redirected v w live is =
      kept-edited sound keeps linked _ is (ReplaceAllUses-kept f (length s.types) [] sound.formed v w live)
      (names-live f (λ o. on_operands (map (redirected v w))) (λ o r. refl)) (entities-live f (λ o. on_operands (map (redirected v w))) (λ o r. refl))

  pub all-retargeted : (b c : ArenaIndex) → IsLiveNamed f (the_block c) → forest_in t ≡ retarget f b c → Edited s t
  all-retargeted b c live is =
      kept-edited sound keeps linked _ is (RetargetAll-kept f (length s.types) [] sound.formed b c live)
      (names-live f (λ o. on_successors (map (retargeted b c))) (λ o r. refl)) (entities-live f (λ o. on_successors (map (retargeted b c))) (λ o r. refl))

  -- then another one has all the uses of both
  pub all-taken : (v w : Value context_ids) → v ≢ w → forest_in t ≡ redirect f v w → TakesUses f (forest_in t) (a_value v) (a_value w)
  all-taken v w differ is = subst (λ g. TakesUses f g (a_value v) (a_value w)) (sym is) (record {
    none = value_none lawful f (length s.types) sound.formed v w differ;
    all = value_all lawful f (length s.types) sound.formed v w differ;
  })

  pub all-targets-taken : (b c : ArenaIndex) → b ≢ c → forest_in t ≡ retarget f b c → TakesUses f (forest_in t) (the_block b) (the_block c)
  all-targets-taken b c differ is = subst (λ g. TakesUses f g (the_block b) (the_block c)) (sym is) (record {
    none = block_none lawful f (length s.types) sound.formed b c differ;
    all = block_all lawful f (length s.types) sound.formed b c differ;
  })

  -- the uses of a set do
  module _ (set : Use context_ids → Bool) where
    pub some-redirected : (w : Value context_ids) → IsLiveNamed f (a_value w) → forest_in t ≡ redirect_uses f set w → Edited s t
    some-redirected w live is =
        let edit : ArenaIndex → OpRecord context_ids (closed A K B S X L) → OpRecord context_ids (closed A K B S X L) = λ o. on_operands (map (λ (a : Operand context_ids). if set (record { user = o; number = a.use_number }) then record a { value = w } else a)) in
        kept-edited sound keeps linked _ is (after-kept f edit (λ o r. refl) (length s.types) (redirected_formed f set w (length s.types) sound.formed live) (value_numbers f set w))
        (names-live f edit (λ o r. refl)) (entities-live f edit (λ o r. refl))

    pub some-retargeted : (c : ArenaIndex) → IsLiveNamed f (the_block c) → forest_in t ≡ retarget_uses f set c → Edited s t
    some-retargeted c live is =
        let edit : ArenaIndex → OpRecord context_ids (closed A K B S X L) → OpRecord context_ids (closed A K B S X L) = λ o. on_successors (map (λ (a : Successor context_ids). if set (record { user = o; number = a.use_number }) then record a { block = c } else a)) in
        kept-edited sound keeps linked _ is (after-kept f edit (λ o r. refl) (length s.types) (retargeted_formed f set c (length s.types) sound.formed live) (block_numbers f set c))
        (names-live f edit (λ o r. refl)) (entities-live f edit (λ o r. refl))

  -- a value has another type
  pub value-retyped : (v : Value context_ids) (ty : ℕ) → ty < length (types_of s) → forest_in t ≡ set_type f v ty → Edited s t
  value-retyped v ty known is =
      let same : SameStructure f (set_type f v ty) = (alone_type f v ty).structure in
      let form : CallsKeepForm f (length s.types) = calls_keep_well_formed (closed A K B S X L) f (length s.types) sound.formed in
      kept-edited sound keeps linked _ is (same-kept f (set_type f v ty) same (length s.types) (form.types v ty (let many = types-count s in omega (arith, known, many))))
      (structure-stays f (set_type f v ty) same) (structure-entities-stay f (set_type f v ty) same)

  -- a value has another name, or none
  pub value-renamed : (v : Value context_ids) (name : Option Text) → forest_in t ≡ set_name f v name → Edited s t
  value-renamed v name is =
      let same : SameStructure f (set_name f v name) = (alone_name f v name).structure in
      let form : CallsKeepForm f (length s.types) = calls_keep_well_formed (closed A K B S X L) f (length s.types) sound.formed in
      kept-edited sound keeps linked _ is (same-kept f (set_name f v name) same (length s.types) (form.names v name))
      (structure-stays f (set_name f v name) same) (structure-entities-stay f (set_name f v name) same)

module _ {D A K B S X L : Type 0} (t : Records D A K B S X L) (u : UseIndex) where
  -- the place of a use, and what stands there
  place-of-use : (v : Value context_ids) → IsUse (forest_in t) (a_value v) (use_of u) → (a : UsePlace ValueIndex) × IsPlaceOf (operands_at t) u a × (v ≡ value_of a.names)
  place-of-use v h =
      let at = In-map_back operand_of (record { use_number = u.number; value = v }) (operands_at t u.user) (subst (In (record { use_number = u.number; value = v })) (operands-meant t u.user) h) in
      let p = place-In (operands_at t u.user) at.0 at.1 in
      (at.0, (p.0, p.1, sym (ap (λ (x : Operand context_ids). x.use_number) at.2)), ap (λ (x : Operand context_ids). x.value) at.2)

  place-of-block-use : (b : ArenaIndex) → IsUse (forest_in t) (the_block b) (use_of u) → (a : UsePlace BlockIndex) × IsPlaceOf (successors_at t) u a × (b ≡ a.names.index)
  place-of-block-use b h =
      let at = In-map_back successor_of (record { use_number = u.number; block = b }) (successors_at t u.user) (subst (In (record { use_number = u.number; block = b })) (successors-meant t u.user) h) in
      let p = place-In (successors_at t u.user) at.0 at.1 in
      (at.0, (p.0, p.1, sym (ap (λ (x : Successor context_ids). x.use_number) at.2)), ap (λ (x : Successor context_ids). x.block) at.2)

  -- a use has a place
  pub use-placed : (v : Value context_ids) → IsUse (forest_in t) (a_value v) (use_of u) → IsPlaced (operands_at t) u
  use-placed v h = let p = place-of-use v h in (p.1.0, p.0, p.1.1, p.1.2)

  pub block-use-placed : (b : ArenaIndex) → IsUse (forest_in t) (the_block b) (use_of u) → IsPlaced (successors_at t) u
  block-use-placed b h = let p = place-of-block-use b h in (p.1.0, p.0, p.1.1, p.1.2)

  -- what holds of the place of a use where it names this holds where the use is one of this
  pub use-of-same : {P : Type 0} (v w : ValueIndex) → IsUse (forest_in t) (a_value (value_of v)) (use_of u) → value_of v ≡ value_of w → ((a : UsePlace ValueIndex) → IsPlaceOf (operands_at t) u a → a.names ≡ w → P) → P
  use-of-same v w h same holds = let p = place-of-use (value_of v) h in holds p.0 p.1 (value-same p.0.names w (sym p.2 ∙ same))

  pub block-use-of-same : {P : Type 0} (b c : ArenaIndex) → IsUse (forest_in t) (the_block b) (use_of u) → b ≡ c → ((a : UsePlace BlockIndex) → IsPlaceOf (successors_at t) u a → a.names ≡ record { index = c } → P) → P
  block-use-of-same b c h same holds =
      let p = place-of-block-use b h in
      let q : p.0.names.index ≡ c = sym p.2 ∙ same in
      holds p.0 p.1 (λ i. record { index = q i })
