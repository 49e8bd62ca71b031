-- A context after an operation, a block or a region was made.
use Rattle.std.proofs.Common.{◌≡◌, ◌⊎◌, ℕ, ◌+◌, ◌<◌, ◌≤◌, List, [], ◌∷◌, length, map, take, drop, All, Option, Some, None, refl, sym, ap, subst, ◌∙◌, inl, inr, arith}
use Rattle.std.specs.List.{range_with_len, zip}
use Rattle.std.proofs.lemmas.List.{length-map}
use Rattle.ir_model.specs.declared.ids.ArenaIndex.{ArenaIndex}
use Rattle.ir_model.specs.ContextIds.{context_ids}
use Rattle.ir_model.specs.Forest.{Definer, of_op, of_block, Definition as PlainDefinition, Forest, OpRecord, Operand, Successor, Text, a_value, the_block}
use Rattle.ir_model.specs.Nesting.{In, IsLiveNamed, WellFormed, numbers_of, regions_of, use_numbers_of}
use Rattle.ir_model.specs.Changes.{add_region, definition, new_block, new_op, operand, successor}
use Rattle.ir_model.proofs.KeepsDefinitions.{KeptOrMade, defines_block, made_kept}
use Rattle.ir_model.proofs.KeepsRegions.{AddRegion-kept}
use Rattle.ir_model.proofs.Parts.{Kept}
use Rattle.ir_model.proofs.KeepsNew.{NewOp-keeps, definitions_case, uses_case}
use Rattle.ir_model.proofs.TwoRuns.{lawful}
use Rattle.ir_base_dialects.specs.declared.type_handle.TypeHandle.{TypeHandle}
use Rattle.ir_core_records.specs.declared.record.BlockIndex.{BlockIndex}
use Rattle.ir_core_records.specs.declared.record.ValueIndex.{ValueIndex}
use Rattle.ir_core_records.specs.declared.records.Records.{Records}
use Rattle.ir_core_records.specs.Lists.{definitions_from}
use Rattle.ir_core_records.specs.Meaning.{closed, definition_of, forest_in, operands_from, successors_from, value_of}
use Rattle.ir_core_context.specs.Calls.{MakesBlock, MakesOperation, MakesRegion}
use Rattle.ir_core_context.specs.Creation.{Extends, HoldTogether}
use Rattle.ir_core_context.specs.Sound.{IsSound}
use Rattle.ir_core_context.specs.State.{ContextState, bare, forest_of, types_of}
use Rattle.ir_core_context.proofs.Handed.{made, made-hands-out, made-sound}
use Rattle.ir_core_context.proofs.MadeParts.{all-In, definition-numbers, definition-types, definitions-numbered, drop-range, names-live, operands-numbered, place-numbers, successors-numbered, take-range}
use Rattle.ir_core_context.proofs.Numbers.{In-range, range-distinct}

module _ {D A K B S X L : Type 0} (s : ContextState D A K B S X L) (sound : IsSound s) (t : Records D A K B S X L) (together : HoldTogether t) where
  abbrev f : Forest context_ids (closed A K B S X L)
  f = forest_of s

  -- an operation was made
  module _ (unknown : L) (u : ArenaIndex) (kind : ℕ) (ts : List TypeHandle) (vs : List ValueIndex) (bs : List BlockIndex) (rs : List ArenaIndex)
      (extends : Extends s.records t (u ∷ []) [] rs)
      (forest : forest_in t ≡ new_op (forest_of s) u unknown kind (map definition_of (definitions_from s.next_value ts)) (operands_from s.next_use vs) (successors_from (s.next_use + length vs) bs) rs)
      (dead : (forest_of s).ops u ≡ None) (dead_regions : (r : ArenaIndex) → In r rs → (forest_of s).regions r ≡ None)
      (known : All (λ (y : TypeHandle). y.place < length s.types) ts)
      (values : All (λ (v : ValueIndex). IsLiveNamed (forest_of s) (a_value (value_of v))) vs)
      (blocks : All (λ (b : BlockIndex). IsLiveNamed (forest_of s) (the_block b.index)) bs)
      (values_fit : s.next_value + length ts ≤ s.limits.values) (uses_fit : s.next_use + (length vs + length bs) ≤ s.limits.uses) where
    abbrev results : List (PlainDefinition context_ids (closed A K B S X L))
    results = map definition_of (definitions_from s.next_value ts)

    abbrev operands : List (Operand context_ids)
    operands = operands_from s.next_use vs

    abbrev successors : List (Successor context_ids)
    successors = successors_from (s.next_use + length vs) bs

    numbers_case : (d : Definer context_ids) (m : ℕ) → In m (numbers_of (forest_in t) d) → In m (range_with_len s.next_value (length ts)) ⊎ In m (numbers_of f d)
    numbers_case d m h =
        let k : In m (numbers_of (new_op f u unknown kind results operands successors rs) d) = subst (λ g. In m (numbers_of g d)) forest h in
        elim (definitions_case lawful f (length s.types) sound.formed u unknown kind results operands successors rs dead dead_regions d) [
          | inl e ↦ inl (subst (In m) (definition-numbers A K B S X L s.next_value ts) (subst (λ (xs : List (PlainDefinition context_ids (closed A K B S X L))). In m (map (λ (x : PlainDefinition context_ids (closed A K B S X L)). x.number) xs)) e.1 k))
          | inr e ↦ inr (subst (λ (xs : List (PlainDefinition context_ids (closed A K B S X L))). In m (map (λ (x : PlainDefinition context_ids (closed A K B S X L)). x.number) xs)) e k)
        ]

    uses_cases : (o : ArenaIndex) (m : ℕ) → In m (use_numbers_of (forest_in t) o) → In m (range_with_len s.next_use (length vs + length bs)) ⊎ In m (use_numbers_of f o)
    uses_cases o m h =
        let k : In m (use_numbers_of (new_op f u unknown kind results operands successors rs) o) = subst (λ g. In m (use_numbers_of g o)) forest h in
        elim (uses_case lawful f (length s.types) sound.formed u unknown kind results operands successors rs dead dead_regions o) [
          | inl e ↦ inl (subst (In m) (place-numbers s.next_use vs bs) (subst (In m) e.1 k))
          | inr e ↦ inr (subst (In m) e.0 k)
        ]

    formed : WellFormed (forest_in t) (length s.types)
    formed = subst (λ g. WellFormed g (length s.types)) (sym forest)
        (NewOp-keeps lawful f (length s.types) sound.formed u unknown kind results operands successors rs dead dead_regions
        extends.regions.distinct
        (rw (definition-numbers A K B S X L s.next_value ts) (range-distinct s.next_value (length ts)))
        (rw (place-numbers s.next_use vs bs) (range-distinct s.next_use (length vs + length bs)))
        (λ d n h k. (let new = In-range s.next_value (length ts) n (subst (In n) (definition-numbers A K B S X L s.next_value ts) h) in let old = sound.counted.values d n k in omega (arith, new.0, old)))
        (λ p n h k. (let new = In-range s.next_use (length vs + length bs) n (subst (In n) (place-numbers s.next_use vs bs) h) in let old = sound.counted.uses p n k in omega (arith, new.0, old)))
        (names-live f s.next_use (s.next_use + length vs) vs bs values blocks)
        (λ y h. all-In (λ z. z < length s.types) (λ (x : TypeHandle). x.place) ts known y (subst (In y) (definition-types A K B S X L s.next_value ts) h)))

    pub op-sound : IsSound (made s sound t together (u ∷ []) [] rs extends (length ts) (length vs + length bs) values_fit uses_fit)
    op-sound = made-sound s sound t together (u ∷ []) [] rs extends (length ts) (length vs + length bs) values_fit uses_fit formed numbers_case uses_cases

    pub op-made : MakesOperation unknown (bare s) (bare (made s sound t together (u ∷ []) [] rs extends (length ts) (length vs + length bs) values_fit uses_fit)) u kind (map (λ (y : TypeHandle). y.place) ts) (map value_of vs) (map (λ (b : BlockIndex). b.index) bs) (length rs)
    op-made =
        let types : length (map (λ (y : TypeHandle). y.place) ts) ≡ length ts = length-map ts (λ (y : TypeHandle). y.place) in
        let named : length (map value_of vs) ≡ length vs = length-map vs value_of in
        let targets : length (map (λ (b : BlockIndex). b.index) bs) ≡ length bs = length-map bs (λ (b : BlockIndex). b.index) in
        record {
          fresh = record { ops = u ∷ []; blocks = []; regions = rs; numbers = range_with_len s.next_value (length ts); uses = range_with_len s.next_use (length vs + length bs) };
          named = refl;
          handed = rw (types, named, targets) (made-hands-out s sound t together (u ∷ []) [] rs extends (length ts) (length vs + length bs) values_fit uses_fit);
          forest =
              forest
              ∙ (λ i. new_op f u unknown kind (definitions-numbered {A = A} {K = K} {B = B} {S = S} {X = X} {L = L} s.next_value ts i)
              ((operands-numbered s.next_use vs ∙ ap (λ xs. map operand (zip xs (map value_of vs))) (sym (ap (λ k. take k (range_with_len s.next_use (length vs + length bs))) named ∙ take-range s.next_use (length vs) (length bs)))) i)
              ((successors-numbered (s.next_use + length vs) bs ∙ ap (λ xs. map successor (zip xs (map (λ (b : BlockIndex). b.index) bs))) (sym (ap (λ k. drop k (range_with_len s.next_use (length vs + length bs))) named ∙ drop-range s.next_use (length vs) (length bs)))) i)
              rs);
        }

  -- a block was made
  module _ (unknown : L) (b : ArenaIndex) (label : Option Text) (ts : List TypeHandle)
      (extends : Extends s.records t [] (b ∷ []) [])
      (forest : forest_in t ≡ new_block (forest_of s) b unknown label (map definition_of (definitions_from s.next_value ts)))
      (dead : (forest_of s).blocks b ≡ None)
      (known : All (λ (y : TypeHandle). y.place < length s.types) ts)
      (values_fit : s.next_value + length ts ≤ s.limits.values) (uses_fit : s.next_use + 0 ≤ s.limits.uses) where
    abbrev arguments : List (PlainDefinition context_ids (closed A K B S X L))
    arguments = map definition_of (definitions_from s.next_value ts)

    abbrev with_block : Forest context_ids (closed A K B S X L)
    with_block = new_block f b unknown label arguments

    kept : KeptOrMade f with_block (of_block b) [] arguments (length s.types) sound.formed (defines_block lawful f b unknown label arguments dead) (map (λ (x : PlainDefinition context_ids (closed A K B S X L)). x.number) arguments)
    kept =
        made_kept f with_block (of_block b) [] arguments (length s.types) sound.formed (defines_block lawful f b unknown label arguments dead) (map (λ (x : PlainDefinition context_ids (closed A K B S X L)). x.number) arguments)
        (λ n h. absurd h)
        (λ n h. inr h)
        (λ e n h k. (let new = In-range s.next_value (length ts) n (subst (In n) (definition-numbers A K B S X L s.next_value ts) h) in let old = sound.counted.values e n k in omega (arith, new.0, old)))
        (λ _. rw (definition-numbers A K B S X L s.next_value ts) (range-distinct s.next_value (length ts)))
        (λ y h. inr (all-In (λ z. z < length s.types) (λ (x : TypeHandle). x.place) ts known y (subst (In y) (definition-types A K B S X L s.next_value ts) h)))

    block_numbers : (d : Definer context_ids) (m : ℕ) → In m (numbers_of (forest_in t) d) → In m (range_with_len s.next_value (length ts)) ⊎ In m (numbers_of f d)
    block_numbers d m h = elim (kept.values (record { definer = d; number = m }) (subst (λ g. In m (numbers_of g d)) forest h)) [
      | inl k ↦ inr k
      | inr k ↦ inl (subst (In m) (definition-numbers A K B S X L s.next_value ts) k.1)
    ]

    block_uses : (o : ArenaIndex) (m : ℕ) → In m (use_numbers_of (forest_in t) o) → In m (range_with_len s.next_use 0) ⊎ In m (use_numbers_of f o)
    block_uses o m h = inr (subst (λ g. In m (use_numbers_of g o)) forest h)

    pub block-sound : IsSound (made s sound t together [] (b ∷ []) [] extends (length ts) 0 values_fit uses_fit)
    block-sound = made-sound s sound t together [] (b ∷ []) [] extends (length ts) 0 values_fit uses_fit (subst (λ g. WellFormed g (length s.types)) (sym forest) kept.forest) block_numbers block_uses

    pub block-made : MakesBlock unknown (bare s) (bare (made s sound t together [] (b ∷ []) [] extends (length ts) 0 values_fit uses_fit)) b label (map (λ (y : TypeHandle). y.place) ts)
    block-made =
        let types : length (map (λ (y : TypeHandle). y.place) ts) ≡ length ts = length-map ts (λ (y : TypeHandle). y.place) in
        record {
          fresh = record { ops = []; blocks = b ∷ []; regions = []; numbers = range_with_len s.next_value (length ts); uses = [] };
          named = refl;
          handed = rw types (made-hands-out s sound t together [] (b ∷ []) [] extends (length ts) 0 values_fit uses_fit);
          forest = forest ∙ (λ i. new_block f b unknown label (definitions-numbered {A = A} {K = K} {B = B} {S = S} {X = X} {L = L} s.next_value ts i));
        }

  -- a region was made
  module _ (o r : ArenaIndex) (rec : OpRecord context_ids (closed A K B S X L))
      (extends : Extends s.records t [] [] (r ∷ []))
      (forest : forest_in t ≡ add_region (forest_of s) o r)
      (is : (forest_of s).ops o ≡ Some rec) (dead : (forest_of s).regions r ≡ None)
      (values_fit : s.next_value + 0 ≤ s.limits.values) (uses_fit : s.next_use + 0 ≤ s.limits.uses) where
    region_kept : Kept f (add_region f o r) (length s.types) []
    region_kept = AddRegion-kept lawful f (length s.types) [] sound.formed r o rec is dead

    region_numbers : (d : Definer context_ids) (m : ℕ) → In m (numbers_of (forest_in t) d) → In m (range_with_len s.next_value 0) ⊎ In m (numbers_of f d)
    region_numbers d m h = inr (region_kept.values (record { definer = d; number = m }) (subst (λ g. In m (numbers_of g d)) forest h))

    region_uses : (p : ArenaIndex) (m : ℕ) → In m (use_numbers_of (forest_in t) p) → In m (range_with_len s.next_use 0) ⊎ In m (use_numbers_of f p)
    region_uses p m h = elim (region_kept.uses p m (subst (λ g. In m (use_numbers_of g p)) forest h)) [ inl k ↦ inr k | inr k ↦ absurd k ]

    pub region-sound : IsSound (made s sound t together [] [] (r ∷ []) extends 0 0 values_fit uses_fit)
    region-sound = made-sound s sound t together [] [] (r ∷ []) extends 0 0 values_fit uses_fit (subst (λ g. WellFormed g (length s.types)) (sym forest) region_kept.forest) region_numbers region_uses

    pub region-made : MakesRegion (bare s) (bare (made s sound t together [] [] (r ∷ []) extends 0 0 values_fit uses_fit)) o r
    region-made = record {
      fresh = record { ops = []; blocks = []; regions = r ∷ []; numbers = []; uses = [] };
      named = refl;
      handed = made-hands-out s sound t together [] [] (r ∷ []) extends 0 0 values_fit uses_fit;
      forest = forest;
    }
