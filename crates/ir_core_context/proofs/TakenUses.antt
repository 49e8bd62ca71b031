-- What is told of an operand or successor that is taken out, and what taking it out leaves.
use Rattle.std.proofs.Common.{◌≡◌, ℕ, ◌-◌, List, [], length, map, Some, slice_get, refl, sym, ap, subst, ◌∙◌}
use Rattle.std.specs.List.{remove}
use Rattle.std.specs.Option.{option_map}
use Rattle.std.proofs.lemmas.List.{length-map}
use Rattle.std.proofs.lemmas.Option.{slice_get-map}
use Rattle.ir_model.specs.declared.ids.ArenaIndex.{ArenaIndex}
use Rattle.ir_model.specs.ContextIds.{context_ids}
use Rattle.ir_model.specs.Changes.{on_op, on_operands, on_successors}
use Rattle.ir_model.specs.Forest.{Forest, OpRecord, Operand, Successor, Value, a_value, an_op, the_block}
use Rattle.ir_model.specs.Nesting.{In, IsLive, IsLiveNamed, WellFormed, operands_of, successors_of}
use Rattle.ir_model.proofs.Back.{slice_get-in}
use Rattle.ir_model.proofs.Found.{there}
use Rattle.ir_model.proofs.KeepsEntries.{loses_kept}
use Rattle.ir_model.proofs.Trees.{Sub-all, Sub-append, Sub-map, Sub-remove}
use Rattle.ir_model.proofs.TwoRuns.{lawful}
use Rattle.ir_core_records.specs.declared.record.BlockIndex.{BlockIndex}
use Rattle.ir_core_records.specs.declared.record.UsePlace.{UsePlace}
use Rattle.ir_core_records.specs.declared.record.ValueIndex.{ValueIndex}
use Rattle.ir_core_records.specs.declared.records.Records.{Records}
use Rattle.ir_core_records.specs.Chains.{AreLinked, chains_of}
use Rattle.ir_core_records.specs.Found.{some_behind}
use Rattle.ir_core_records.specs.Frames.{KeepsTree}
use Rattle.ir_core_records.specs.Meaning.{closed, forest_in, operand_of, successor_of, value_of}
use Rattle.ir_core_records.specs.Meant.{operands-meant, successors-meant}
use Rattle.ir_core_records.specs.Table.{operands_at, successors_at}
use Rattle.ir_core_context.specs.Named.{block-use-live, use-live}
use Rattle.ir_core_context.specs.Sound.{IsSound}
use Rattle.ir_core_context.specs.State.{ContextState, forest_of}
use Rattle.ir_core_context.proofs.Edited.{Edited}
use Rattle.ir_core_context.proofs.PlacedUses.{names-live, unplaced}

module _ {D A K B S X L : Type 0} (t : Records D A K B S X L) (o : ArenaIndex) where
  pub operand-count : length (operands_of (forest_in t) o) ≡ length (operands_at t o)
  operand-count = ap (λ (ps : List (Operand context_ids)). length ps) (operands-meant t o) ∙ length-map (operands_at t o) operand_of

  pub successor-count : length (successors_of (forest_in t) o) ≡ length (successors_at t o)
  successor-count = ap (λ (ps : List (Successor context_ids)). length ps) (successors-meant t o) ∙ length-map (successors_at t o) successor_of

  pub operand-named : (at : ℕ) (v : ValueIndex) → option_map (λ (a : UsePlace ValueIndex). a.names) (slice_get (operands_at t o) at) ≡ Some v
      → option_map (λ (p : Operand context_ids). p.value) (slice_get (operands_of (forest_in t) o) at) ≡ Some (value_of v)
  operand-named at v is =
      let found = some_behind (λ (a : UsePlace ValueIndex). a.names) (slice_get (operands_at t o) at) v is in
      ap (λ (ps : List (Operand context_ids)). option_map (λ (p : Operand context_ids). p.value) (slice_get ps at)) (operands-meant t o)
      ∙ ap (option_map (λ (p : Operand context_ids). p.value)) (slice_get-map operand_of (operands_at t o) at ∙ ap (option_map operand_of) found.1)
      ∙ ap (λ w. Some (value_of w)) found.2

  pub successor-named : (at : ℕ) (b : BlockIndex) → option_map (λ (a : UsePlace BlockIndex). a.names) (slice_get (successors_at t o) at) ≡ Some b
      → option_map (λ (p : Successor context_ids). p.block) (slice_get (successors_of (forest_in t) o) at) ≡ Some b.index
  successor-named at b is =
      let found = some_behind (λ (a : UsePlace BlockIndex). a.names) (slice_get (successors_at t o) at) b is in
      ap (λ (ps : List (Successor context_ids)). option_map (λ (p : Successor context_ids). p.block) (slice_get ps at)) (successors-meant t o)
      ∙ ap (option_map (λ (p : Successor context_ids). p.block)) (slice_get-map successor_of (successors_at t o) at ∙ ap (option_map successor_of) found.1)
      ∙ ap (λ (c : BlockIndex). Some c.index) found.2

module _ {D A K B S X L : Type 0} {s : ContextState D A K B S X L} {t : Records D A K B S X L} (sound : IsSound s) (keeps : KeepsTree s.records t) (linked : AreLinked (chains_of t)) (o : ArenaIndex) where
  -- what an operand or a successor names is live
  operand-live : (at : ℕ) (v : Value context_ids) → option_map (λ (p : Operand context_ids). p.value) (slice_get (operands_of (forest_of s) o) at) ≡ Some v → IsLiveNamed (forest_of s) (a_value v)
  operand-live at v is =
      let found = some_behind (λ (p : Operand context_ids). p.value) (slice_get (operands_of (forest_of s) o) at) v is in
      subst (λ w. IsLiveNamed (forest_of s) (a_value w)) found.2
      (use-live (forest_of s) (length s.types) found.0.value (record { user = o; number = found.0.use_number }) sound.formed (slice_get-in (operands_of (forest_of s) o) at found.0 found.1))

  successor-live : (at : ℕ) (b : ArenaIndex) → option_map (λ (p : Successor context_ids). p.block) (slice_get (successors_of (forest_of s) o) at) ≡ Some b → IsLiveNamed (forest_of s) (the_block b)
  successor-live at b is =
      let found = some_behind (λ (p : Successor context_ids). p.block) (slice_get (successors_of (forest_of s) o) at) b is in
      subst (λ c. IsLiveNamed (forest_of s) (the_block c)) found.2
      (block-use-live (forest_of s) (length s.types) found.0.block (record { user = o; number = found.0.use_number }) sound.formed (slice_get-in (successors_of (forest_of s) o) at found.0 found.1))

  -- and stays so
  pub operand-still : (edit : List (Operand context_ids) → List (Operand context_ids)) → forest_in t ≡ on_op (forest_of s) o (on_operands edit) → (at : ℕ) (v : Value context_ids)
      → option_map (λ (p : Operand context_ids). p.value) (slice_get (operands_of (forest_of s) o) at) ≡ Some v → IsLiveNamed (forest_in t) (a_value v)
  operand-still edit is at v named = subst (λ f. IsLiveNamed f (a_value v)) (sym is) (names-live (forest_of s) o (on_operands edit) (λ r. refl) (a_value v) (operand-live at v named))

  pub successor-still : (edit : List (Successor context_ids) → List (Successor context_ids)) → forest_in t ≡ on_op (forest_of s) o (on_successors edit) → (at : ℕ) (b : ArenaIndex)
      → option_map (λ (p : Successor context_ids). p.block) (slice_get (successors_of (forest_of s) o) at) ≡ Some b → IsLiveNamed (forest_in t) (the_block b)
  successor-still edit is at b named = subst (λ f. IsLiveNamed f (the_block b)) (sym is) (names-live (forest_of s) o (on_successors edit) (λ r. refl) (the_block b) (successor-live at b named))

  module _ (live : IsLive (forest_of s) (an_op o)) where
    pub operand-taken : (at : List (Operand context_ids) → ℕ) → forest_in t ≡ on_op (forest_of s) o (on_operands (λ ps. remove ps (at ps))) → Edited s t
    operand-taken at is =
        let q = there ((forest_of s).ops o) live in
        let r : OpRecord context_ids (closed A K B S X L) = q.0 in
        unplaced sound keeps linked o (on_operands (λ ps. remove ps (at ps))) (λ r. refl)
        (loses_kept lawful (forest_of s) (length s.types) [] sound.formed o r q.1 (λ ps. remove ps (at ps)) (λ ps. ps)
        (Sub-append (Sub-map (λ (p : Operand context_ids). p.use_number) (Sub-remove r.operands (at r.operands))) (Sub-all _))
        (Sub-append (Sub-map (λ (p : Operand context_ids). a_value p.value) (Sub-remove r.operands (at r.operands))) (Sub-all _)))
        is

    pub successor-taken : (at : List (Successor context_ids) → ℕ) → forest_in t ≡ on_op (forest_of s) o (on_successors (λ ps. remove ps (at ps))) → Edited s t
    successor-taken at is =
        let q = there ((forest_of s).ops o) live in
        let r : OpRecord context_ids (closed A K B S X L) = q.0 in
        unplaced sound keeps linked o (on_successors (λ ps. remove ps (at ps))) (λ r. refl)
        (loses_kept lawful (forest_of s) (length s.types) [] sound.formed o r q.1 (λ ps. ps) (λ ps. remove ps (at ps))
        (Sub-append (Sub-all _) (Sub-map (λ (p : Successor context_ids). p.use_number) (Sub-remove r.successors (at r.successors))))
        (Sub-append (Sub-all _) (Sub-map (λ (p : Successor context_ids). the_block p.block) (Sub-remove r.successors (at r.successors)))))
        is

-- the last one
module _ {D A K B S X L : Type 0} (t : Records D A K B S X L) (o : ArenaIndex) where
  pub last-operand-named : (v : ValueIndex) → option_map (λ (a : UsePlace ValueIndex). a.names) (slice_get (operands_at t o) (length (operands_at t o) - 1)) ≡ Some v
      → option_map (λ (p : Operand context_ids). p.value) (slice_get (operands_of (forest_in t) o) (length (operands_of (forest_in t) o) - 1)) ≡ Some (value_of v)
  last-operand-named v is = operand-named t o (length (operands_of (forest_in t) o) - 1) v
      (subst (λ n. option_map (λ (a : UsePlace ValueIndex). a.names) (slice_get (operands_at t o) (n - 1)) ≡ Some v) (sym (operand-count t o)) is)

  pub last-successor-named : (b : BlockIndex) → option_map (λ (a : UsePlace BlockIndex). a.names) (slice_get (successors_at t o) (length (successors_at t o) - 1)) ≡ Some b
      → option_map (λ (p : Successor context_ids). p.block) (slice_get (successors_of (forest_in t) o) (length (successors_of (forest_in t) o) - 1)) ≡ Some b.index
  last-successor-named b is = successor-named t o (length (successors_of (forest_in t) o) - 1) b
      (subst (λ n. option_map (λ (a : UsePlace BlockIndex). a.names) (slice_get (successors_at t o) (n - 1)) ≡ Some b) (sym (successor-count t o)) is)
