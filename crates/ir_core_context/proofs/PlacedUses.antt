-- What putting in, taking out and replacing operands and successors leaves of a context.
use Rattle.std.proofs.Common.{◌≡◌, ◌⊎◌, ℕ, ◌+◌, ◌≤◌, List, [], ◌∷◌, length, map, Option, Some, None, is_some, refl, sym, ap, subst, ◌∙◌, inl, inr, arith}
use Rattle.std.specs.List.{range_with_len}
use Rattle.std.specs.Option.{option_map}
use Rattle.ir_model.specs.declared.ids.ArenaIndex.{ArenaIndex}
use Rattle.ir_model.specs.ContextIds.{context_ids, same_id}
use Rattle.ir_model.specs.Edits.{one_use}
use Rattle.ir_model.specs.Forest.{Dialect, Definer, of_op, of_block, Definition, Forest, OpRecord, Operand, Successor, Value, a_block, a_region, a_value, an_op, the_block}
use Rattle.ir_model.specs.Nesting.{In, IsLive, IsLiveNamed, WellFormed, definitions_of, list_of, numbers_of, use_numbers_of}
use Rattle.ir_model.specs.Changes.{on_op, on_operands, on_successors, operand, successor}
use Rattle.ir_model.proofs.Found.{there}
use Rattle.ir_model.proofs.Keeps.{is_some-map, rewrite_at}
use Rattle.ir_model.proofs.KeepsEntries.{Puts, operand_kept, successor_kept}
use Rattle.ir_model.proofs.Parts.{Kept}
use Rattle.ir_model.proofs.TwoRuns.{id_tells, lawful}
use Rattle.ir_base_arenas.specs.Arena.{Arena, is_passed}
use Rattle.ir_core_records.specs.declared.records.Records.{Records}
use Rattle.ir_core_records.specs.Chains.{AreLinked, chains_of}
use Rattle.ir_core_records.specs.Frames.{KeepsTree}
use Rattle.ir_core_records.specs.Growth.{Grows}
use Rattle.ir_core_records.specs.Links.{IsFreshUse}
use Rattle.ir_core_records.specs.Table.{operands_at, successors_at}
use Rattle.ir_core_records.specs.Meaning.{closed, forest_in}
use Rattle.ir_core_context.specs.Calls.{EntitiesStayLive, HandsOut, HasAll, KeepsAll, SameButForest, StayLive}
use Rattle.ir_core_context.specs.Creation.{AreFresh, Extends, HoldTogether}
use Rattle.ir_core_context.specs.Places.{MakesUse}
use Rattle.ir_core_context.specs.Sound.{IsSound, Keeps}
use Rattle.ir_core_context.specs.State.{ContextState, bare, forest_of, passed_of}
use Rattle.ir_core_context.proofs.Edited.{Edited, keeps-same}
use Rattle.ir_core_context.proofs.Growths.{Grows-ids, Grows-none}
use Rattle.ir_core_context.proofs.Handed.{made, made-hands-out, made-sound}
use Rattle.ir_core_context.proofs.Linking.{fresh-operands, fresh-successors, together-kept}

-- an edit of one operation's places leaves its results
module _ {W : Dialect} (f : Forest context_ids W) (o : ArenaIndex) (edit : OpRecord context_ids W → OpRecord context_ids W) (same : (r : OpRecord context_ids W) → (edit r).results ≡ r.results) where
  abbrev after : Forest context_ids W
  after = on_op f o edit

  results-stay : (p : ArenaIndex) → list_of (λ (r : OpRecord context_ids W). r.results) (after.ops p) ≡ list_of (λ (r : OpRecord context_ids W). r.results) (f.ops p)
  results-stay p = elim (rewrite_at same_id id_tells o edit f.ops p) [
    | inl e ↦ ap (list_of (λ (r : OpRecord context_ids W). r.results)) e.1 ∙ by (f.ops p)
    | inr e ↦ ap (list_of (λ (r : OpRecord context_ids W). r.results)) e.1
  ]
    where
      by : (x : Option (OpRecord context_ids W)) → list_of (λ (r : OpRecord context_ids W). r.results) (option_map edit x) ≡ list_of (λ (r : OpRecord context_ids W). r.results) x
      by None = refl
      by (Some r) = same r

  definitions-stay : (d : Definer context_ids) → definitions_of after d ≡ definitions_of f d
  definitions-stay (of_op p) = results-stay p
  definitions-stay (of_block b) = refl

  pub numbers-stay : (d : Definer context_ids) → numbers_of after d ≡ numbers_of f d
  numbers-stay d = ap (map (λ (x : Definition context_ids W). x.number)) (definitions-stay d)

  pub names-live : StayLive f after
  names-live (a_value v) h = subst (In v.number) (sym (numbers-stay v.definer)) h
  names-live (the_block b) h = h

  pub entities-live : EntitiesStayLive f after
  entities-live (an_op p) h = elim (rewrite_at same_id id_tells o edit f.ops p) [
    | inl e ↦ ap is_some e.1 ∙ is_some-map edit (f.ops p) ∙ h
    | inr e ↦ ap is_some e.1 ∙ h
  ]
  entities-live (a_block b) h = h
  entities-live (a_region g) h = h

module _ {D A K B S X L : Type 0} (s : ContextState D A K B S X L) (t : Records D A K B S X L) where
  -- a context in which an edit under the next use number was done
  abbrev pub with_use : ContextState D A K B S X L
  with_use = record s { records = t; next_use = s.next_use + 1 }

  -- it is sound, the number was handed out, and what was live is live
  pub record Placed (make : ℕ → Forest context_ids (closed A K B S X L)) : Type 0 where
    pub sound : IsSound with_use
    pub made : MakesUse (bare s) (bare with_use) make
    pub keeps : KeepsAll s with_use

module _ {D A K B S X L : Type 0} {s : ContextState D A K B S X L} {t : Records D A K B S X L} (sound : IsSound s) (keeps : KeepsTree s.records t) (linked : AreLinked (chains_of t)) where
  pub together : HoldTogether t
  together = together-kept s.records t (record { linked = sound.linked; nested = sound.nested; own = sound.own }) keeps linked

  pub extends : Extends s.records t [] [] []
  extends = record {
    ops = Grows-ids s.records.ops s.records.ops t.ops [] (Grows-none s.records.ops) keeps.op_ids;
    blocks = Grows-ids s.records.blocks s.records.blocks t.blocks [] (Grows-none s.records.blocks) keeps.block_ids;
    regions = subst (λ (a : Arena _). Grows s.records.regions a []) (sym keeps.regions) (Grows-none s.records.regions);
  }

  -- a use was put in under the next number
  module _ (room : HasAll s one_use) (make : ℕ → Forest context_ids (closed A K B S X L)) (is : forest_in t ≡ make s.next_use) where
    values_fit : s.next_value + 0 ≤ s.limits.values
    values_fit = omega (arith, sound.counted.value_limit)

    no_values : s.next_value + 0 ≡ s.next_value
    no_values = omega arith

    is_after : made s sound t together [] [] [] extends 0 1 values_fit room.uses ≡ with_use s t
    is_after i = record { records = t; types = s.types; next_value = no_values i; next_use = s.next_use + 1; side = s.side; limits = s.limits }

    placed : Kept (forest_of s) (make s.next_use) (length s.types) (s.next_use ∷ []) → StayLive (forest_of s) (make s.next_use) → EntitiesStayLive (forest_of s) (make s.next_use) → Placed s t make
    placed kept stay entities_stay = record {
      sound = subst IsSound is_after (made-sound s sound t together [] [] [] extends 0 1 values_fit room.uses
          (subst (λ f. WellFormed f (length s.types)) (sym is) kept.forest)
          (λ d m h. inr (kept.values (record { definer = d; number = m }) (subst (λ f. In m (numbers_of f d)) is h)))
          (λ o m h. elim (kept.uses o m (subst (λ f. In m (use_numbers_of f o)) is h)) [ inl k ↦ inr k | inr k ↦ inl k ]));
      made = record {
        number = s.next_use;
        handed = subst (λ (z : ContextState D A K B S X L). HandsOut (bare s) (bare z) one_use (record { ops = []; blocks = []; regions = []; numbers = []; uses = s.next_use ∷ [] })) is_after (made-hands-out s sound t together [] [] [] extends 0 1 values_fit room.uses);
        forest = is;
      };
      keeps = record {
        stay_live = subst (StayLive (forest_of s)) (sym is) stay;
        entities_stay_live = subst (EntitiesStayLive (forest_of s)) (sym is) entities_stay;
        types_stay = refl;
      };
    }

    unused : (p : ArenaIndex) → In s.next_use (use_numbers_of (forest_of s) p) → ⊥
    unused p h = let below = sound.counted.uses p s.next_use h in absurd (omega (arith, below))

    module _ (o : ArenaIndex) (live : IsLive (forest_of s) (an_op o)) where
      pub operand-placed : (v : Value context_ids) (edit : List (Operand context_ids) → List (Operand context_ids)) → IsLiveNamed (forest_of s) (a_value v)
          → ((ps : List (Operand context_ids)) → Puts (operand (s.next_use, v)) ps (edit ps)) → make s.next_use ≡ on_op (forest_of s) o (on_operands edit) → Placed s t make
      operand-placed v edit named puts same =
          let q = there ((forest_of s).ops o) live in
          let kept = operand_kept lawful (forest_of s) (length s.types) (s.next_use ∷ []) sound.formed o q.0 q.1 edit s.next_use v puts (inl refl) unused named in
          placed (subst (λ g. Kept (forest_of s) g (length s.types) (s.next_use ∷ [])) (sym same) kept)
          (subst (StayLive (forest_of s)) (sym same) (names-live (forest_of s) o (on_operands edit) (λ r. refl)))
          (subst (EntitiesStayLive (forest_of s)) (sym same) (entities-live (forest_of s) o (on_operands edit) (λ r. refl)))

      pub successor-placed : (b : ArenaIndex) (edit : List (Successor context_ids) → List (Successor context_ids)) → IsLiveNamed (forest_of s) (the_block b)
          → ((ps : List (Successor context_ids)) → Puts (successor (s.next_use, b)) ps (edit ps)) → make s.next_use ≡ on_op (forest_of s) o (on_successors edit) → Placed s t make
      successor-placed b edit named puts same =
          let q = there ((forest_of s).ops o) live in
          let kept = successor_kept lawful (forest_of s) (length s.types) (s.next_use ∷ []) sound.formed o q.0 q.1 edit s.next_use b puts (inl refl) unused named in
          placed (subst (λ g. Kept (forest_of s) g (length s.types) (s.next_use ∷ [])) (sym same) kept)
          (subst (StayLive (forest_of s)) (sym same) (names-live (forest_of s) o (on_successors edit) (λ r. refl)))
          (subst (EntitiesStayLive (forest_of s)) (sym same) (entities-live (forest_of s) o (on_successors edit) (λ r. refl)))

  -- nothing was handed out, and the forest has nothing that wasn't there
  pub kept-sound : (g : Forest context_ids (closed A K B S X L)) → forest_in t ≡ g → Kept (forest_of s) g (length s.types) [] → IsSound (record s { records = t })
  kept-sound g is kept = record {
    linked = linked;
    nested = together.nested;
    own = together.own;
    formed = subst (λ f. WellFormed f (length s.types)) (sym is) kept.forest;
    counted = record {
      values = λ d n h. sound.counted.values d n (kept.values (record { definer = d; number = n }) (subst (λ f. In n (numbers_of f d)) is h));
      uses = λ p n h. elim (kept.uses p n (subst (λ f. In n (use_numbers_of f p)) is h)) [ inl k ↦ sound.counted.uses p n k | inr k ↦ absurd k ];
      value_limit = sound.counted.value_limit;
      use_limit = sound.counted.use_limit;
      limits = sound.counted.limits;
      op_slots = keeps-same s s.records.ops t.ops keeps.op_ids sound.counted.op_slots;
      block_slots = keeps-same s s.records.blocks t.blocks keeps.block_ids sound.counted.block_slots;
      region_slots = subst (Keeps s.limits) (sym keeps.regions) sound.counted.region_slots;
      aux_slots = sound.counted.aux_slots;
    };
  }

  pub kept-rest : SameButForest (bare s) (bare (record s { records = t }))
  kept-rest = record {
    store = refl;
    beside = refl;
    passed = λ i. record (passed_of s) { ops = λ id. keeps.op_ids.passed id i; blocks = λ id. keeps.block_ids.passed id i; regions = is_passed (keeps.regions i) };
    limits = refl;
  }

  -- and what was live is live
  pub kept-edited : (g : Forest context_ids (closed A K B S X L)) → forest_in t ≡ g → Kept (forest_of s) g (length s.types) [] → StayLive (forest_of s) g → EntitiesStayLive (forest_of s) g → Edited s t
  kept-edited g is kept stay entities_stay = record {
    sound = kept-sound g is kept;
    rest = kept-rest;
    keeps = record {
      stay_live = subst (StayLive (forest_of s)) (sym is) stay;
      entities_stay_live = subst (EntitiesStayLive (forest_of s)) (sym is) entities_stay;
      types_stay = refl;
    };
  }

  -- places of one operation were edited under no new number
  pub unplaced : (o : ArenaIndex) (edit : OpRecord context_ids (closed A K B S X L) → OpRecord context_ids (closed A K B S X L)) → ((r : OpRecord context_ids (closed A K B S X L)) → (edit r).results ≡ r.results)
      → Kept (forest_of s) (on_op (forest_of s) o edit) (length s.types) [] → forest_in t ≡ on_op (forest_of s) o edit → Edited s t
  unplaced o edit same kept is = kept-edited (on_op (forest_of s) o edit) is kept (names-live (forest_of s) o edit same) (entities-live (forest_of s) o edit same)

-- the next number is new
module _ {D A K B S X L : Type 0} {s : ContextState D A K B S X L} (sound : IsSound s) where
  next-fresh : AreFresh (forest_of s) s.next_use
  next-fresh = record { below = sound.counted.uses }

  pub next-operand : IsFreshUse (operands_at s.records) s.next_use
  next-operand = fresh-operands s.records s.next_use next-fresh s.next_use (omega arith)

  pub next-successor : IsFreshUse (successors_at s.records) s.next_use
  next-successor = fresh-successors s.records s.next_use next-fresh s.next_use (omega arith)
