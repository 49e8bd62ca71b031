-- What putting in, taking out and retyping results and arguments leaves of a context.
use Rattle.std.proofs.Common.{◌≡◌, ℕ, ◌+◌, ◌<◌, ◌≤◌, List, [], ◌∷◌, length, map, Some, slice_get, refl, sym, ap, subst, ◌∙◌, inl, inr, arith}
use Rattle.std.proofs.lemmas.List.{length-map}
use Rattle.std.proofs.lemmas.Option.{slice_get_within}
use Rattle.ir_model.specs.ContextIds.{context_ids}
use Rattle.ir_model.specs.Calls.{on_definitions}
use Rattle.ir_model.specs.Changes.{definition}
use Rattle.ir_model.specs.Edits.{StoredType, one_number}
use Rattle.ir_model.specs.Forest.{Definer, Definition, Forest, definer_entity}
use Rattle.ir_model.specs.Nesting.{In, IsLive, WellFormed, definitions_of, numbers_of, use_numbers_of}
use Rattle.ir_model.proofs.Back.{slice_get-in}
use Rattle.ir_model.proofs.Entries.{AddsOne, AddsOne-map, AddsOne-still}
use Rattle.ir_model.proofs.KeepsDefinitions.{added_kept}
use Rattle.ir_model.proofs.Nests.{In-map}
use Rattle.ir_core_records.specs.declared.record.Definer.{Definer as Defines}
use Rattle.ir_core_records.specs.declared.record.Definition.{Definition as Kept}
use Rattle.ir_core_records.specs.declared.records.Records.{Records}
use Rattle.ir_core_records.specs.Chains.{AreLinked, chains_of}
use Rattle.ir_core_records.specs.Frames.{KeepsTree}
use Rattle.ir_core_records.specs.Meaning.{closed, definer_of, definition_of, forest_in}
use Rattle.ir_core_records.specs.Meant.{definitions-meant, numbers-meant}
use Rattle.ir_core_records.specs.Table.{IsValue, definitions_at}
use Rattle.ir_core_context.specs.Calls.{EntitiesStayLive, HandsOut, HasAll, KeepsAll, StayLive}
use Rattle.ir_core_context.specs.Definitions.{MakesValue}
use Rattle.ir_core_context.specs.Sound.{IsSound}
use Rattle.ir_core_context.specs.State.{ContextState, bare, forest_of, types_of}
use Rattle.ir_core_context.proofs.Definitions.{defines, names-live}
use Rattle.ir_core_context.proofs.Handed.{made, made-hands-out, made-sound}
use Rattle.ir_core_context.proofs.PlacedUses.{extends, together}

module _ {D A K B S X L : Type 0} (s : ContextState D A K B S X L) (t : Records D A K B S X L) where
  -- a context in which an edit under the next value number was done
  abbrev pub with_value : ContextState D A K B S X L
  with_value = record s { records = t; next_value = s.next_value + 1 }

  -- it is sound, the number was handed out, and what was live is live
  pub record Placed (make : ℕ → Forest context_ids (closed A K B S X L)) : Type 0 where
    pub sound : IsSound with_value
    pub made : MakesValue (bare s) (bare with_value) make
    pub keeps : KeepsAll s with_value

abbrev typed : {A K B S X L : Type 0} → K × B → StoredType (closed A K B S X L)
typed t = record { key = t.0; body = t.1 }

pub types-count : {D A K B S X L : Type 0} (s : ContextState D A K B S X L) → length (types_of s) ≡ length s.types
types-count {A = A} {K = K} {B = B} {S = S} {X = X} {L = L} s = length-map s.types (typed {A = A} {S = S} {X = X} {L = L})

module _ {D A K B S X L : Type 0} {s : ContextState D A K B S X L} {t : Records D A K B S X L} (sound : IsSound s) (keeps : KeepsTree s.records t) (linked : AreLinked (chains_of t)) (room : HasAll s one_number) where
  uses_fit : s.next_use + 0 ≤ s.limits.uses
  uses_fit = omega (arith, sound.counted.use_limit)

  no_uses : s.next_use + 0 ≡ s.next_use
  no_uses = omega arith

  is_after : made s sound t (together sound keeps linked) [] [] [] (extends sound keeps linked) 1 0 room.values uses_fit ≡ with_value s t
  is_after i = record { records = t; types = s.types; next_value = s.next_value + 1; next_use = no_uses i; side = s.side; limits = s.limits }

  unused : (d : Definer context_ids) → In s.next_value (numbers_of (forest_of s) d) → ⊥
  unused d h = let below = sound.counted.values d s.next_value h in absurd (omega (arith, below))

  -- a result or argument was put in under the next number
  pub value-placed : (d : Definer context_ids) (ty : ℕ) (edit : List (Definition context_ids (closed A K B S X L)) → List (Definition context_ids (closed A K B S X L)))
      → IsLive (forest_of s) (definer_entity context_ids d) → ty < length (types_of s) → ((xs : List (Definition context_ids (closed A K B S X L))) → AddsOne (definition (s.next_value, ty)) xs (edit xs))
      → (make : ℕ → Forest context_ids (closed A K B S X L)) → forest_in t ≡ make s.next_value → make s.next_value ≡ on_definitions (forest_of s) d edit → Placed s t make
  value-placed d ty edit live known adds make is same =
      let f = forest_of s in
      let xs = definitions_of f d in
      let at : forest_in t ≡ on_definitions f d edit = is ∙ same in
      let defined = defines f edit d live in
      let kept = added_kept f (on_definitions f d edit) d xs (edit xs) (length s.types) sound.formed defined (definition (s.next_value, ty)) (adds xs) unused (let same = types-count s in omega (arith, known, same)) refl in
      record {
        sound = subst IsSound is_after (made-sound s sound t (together sound keeps linked) [] [] [] (extends sound keeps linked) 1 0 room.values uses_fit
            (subst (λ g. WellFormed g (length s.types)) (sym at) kept.forest)
            (λ e m h. elim (kept.values (record { definer = e; number = m }) (subst (λ g. In m (numbers_of g e)) at h)) [ inl k ↦ inr k | inr k ↦ inl k.1 ])
            (λ o m h. inr (kept.uses o m (subst (λ g. In m (use_numbers_of g o)) at h))));
        made = record {
          number = s.next_value;
          handed = subst (λ (z : ContextState D A K B S X L). HandsOut (bare s) (bare z) one_number (record { ops = []; blocks = []; regions = []; numbers = s.next_value ∷ []; uses = [] })) is_after (made-hands-out s sound t (together sound keeps linked) [] [] [] (extends sound keeps linked) 1 0 room.values uses_fit);
          forest = is;
        };
        keeps = record {
          stay_live = subst (StayLive f) (sym at) (names-live f (on_definitions f d edit) d xs (edit xs) defined (λ n h. AddsOne-still n (AddsOne-map (λ (z : Definition context_ids (closed A K B S X L)). z.number) (adds xs)) h));
          entities_stay_live = subst (EntitiesStayLive f) (sym at) defined.live;
          types_stay = refl;
        };
      }

-- the next number is new
pub next-value : {D A K B S X L : Type 0} {s : ContextState D A K B S X L} → IsSound s → (d : Defines) → IsValue s.records (record { definer = d; number = s.next_value }) → ⊥
next-value {s = s} sound d h =
    let here = In-map (λ (r : Kept). r.number) h.1 (definitions_at s.records d) (slice_get-in (definitions_at s.records d) h.0 h.1 h.2) in
    let named = subst (In s.next_value) (sym (numbers-meant s.records d)) (subst (λ (n : ℕ). In n (map (λ (r : Kept). r.number) (definitions_at s.records d))) h.3 here) in
    let below = sound.counted.values (definer_of d) s.next_value named in
    absurd (omega (arith, below))

module _ {D A K B S X L : Type 0} (t : Records D A K B S X L) (d : Defines) where
  pub value-count : length (definitions_of (forest_in t) (definer_of d)) ≡ length (definitions_at t d)
  value-count = ap (λ (xs : List (Definition context_ids (closed A K B S X L))). length xs) (definitions-meant t d) ∙ length-map (definitions_at t d) (definition_of {A = A} {K = K} {B = B} {S = S} {X = X} {L = L})
