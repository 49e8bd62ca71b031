-- What a live operation or block leads to is live, part by part.
use Rattle.std.proofs.Common.{◌≡◌, ◌∙◌, ℕ, ◌<◌, List, [], ◌∷◌, map, All, Some, Result, Ok, Err, refl, sym, ap, subst, slice_get}
use Rattle.std.specs.Prelude.{IfOk}
use Rattle.std.specs.Option.{option_map}
use Rattle.std.proofs.lemmas.Option.{slice_get-map}
use Rattle.ir_model.specs.declared.ids.ArenaIndex.{ArenaIndex}
use Rattle.ir_model.specs.ContextIds.{context_ids}
use Rattle.ir_model.specs.Forest.{Definition, Operand, Successor, Value, a_block, a_value}
use Rattle.ir_model.specs.Nesting.{IsLive, IsLiveNamed}
use Rattle.ir_core_records.specs.declared.record.BasicBlock.{BasicBlock}
use Rattle.ir_core_records.specs.declared.record.Definer.TheVariants.{Op, Block}
use Rattle.ir_core_records.specs.declared.record.Operation.{Operation}
use Rattle.ir_core_records.specs.declared.record.UseIndex.{UseIndex}
use Rattle.ir_core_records.specs.declared.record.UsePlace.{UsePlace}
use Rattle.ir_core_records.specs.declared.record.ValueIndex.{ValueIndex}
use Rattle.ir_core_records.specs.Meaning.{closed, block_index, block_record, op_index, op_record, operand_of, use_of, value_of}
use Rattle.ir_core_records.specs.Values.{IsLiveBlockUse, IsLiveUse}
use Rattle.ir_view_parts.specs.Parts.{argument_types_of, arguments_of, operand_uses_of, result_types_of, results_of, successor_uses_of, successor_blocks_of, WhereBlockLive, WhereLive}
use Rattle.ir_view_parts.proofs.Items.{all-mapped, all-read}

-- the values that operands name, as the record and the forest have them
pub operands-named : (xs : List (UsePlace ValueIndex)) → map value_of (map (λ (a : UsePlace ValueIndex). a.names) xs) ≡ map (λ (a : Operand context_ids). a.value) (map operand_of xs)
operands-named [] = refl
operands-named (x ∷ xs) = ap (λ vs. value_of x.names ∷ vs) (operands-named xs)

-- a result or an argument, as the forest has it
abbrev Defined : Type 0 → Type 0 → Type 0 → Type 0 → Type 0 → Type 0 → Type 0
Defined A K B S X L = Definition context_ids (closed A K B S X L)

module _ {D A K B S X L : Type 0} where
  module _ (op : Operation D A K B S X L) where
    pub results-live : (result : List ValueIndex) → result ≡ results_of op → WhereLive op (λ f known. All (λ v. IsLiveNamed f (a_value (value_of v))) result)
    results-live result is f known leads =
        let P : ValueIndex → Type 0 = λ v. IsLiveNamed f (a_value (value_of v)) in
        subst (All P) (sym is) (all-mapped P (λ (d : Defined A K B S X L). record { definer = Op (op_index op); number = d.number }) (op_record op).results
        (λ k d e. leads.results (record { definer = Op (op_index op); number = d.number }) k refl (ap (option_map (λ (x : Defined A K B S X L). x.number)) e)))

    pub result-types-known : (result : List ℕ) → result ≡ result_types_of op → WhereLive op (λ f known. All (λ t. t < known) result)
    result-types-known result is f known leads =
        subst (All (λ t. t < known)) (sym is) (all-mapped (λ t. t < known) (λ (d : Defined A K B S X L). d.ty) (op_record op).results
        (λ k d e. leads.types d.ty k (ap (option_map (λ (x : Defined A K B S X L). x.ty)) e)))

    pub operands-live : (result : List ValueIndex) → result ≡ map (λ (a : UsePlace ValueIndex). a.names) op.operands → WhereLive op (λ f known. All (λ v. IsLiveNamed f (a_value (value_of v))) result)
    operands-live result is f known leads =
        let P : ValueIndex → Type 0 = λ v. IsLiveNamed f (a_value (value_of v)) in
        subst (All P) (sym is) (all-mapped P (λ (a : UsePlace ValueIndex). a.names) op.operands
        (λ k a e. leads.operands a.names k (ap (option_map (λ (x : Operand context_ids). x.value)) (slice_get-map operand_of op.operands k ∙ ap (option_map operand_of) e))))

    pub operand-uses-live : (result : List UseIndex) → result ≡ operand_uses_of op → WhereLive op (λ f known. All (λ u. IsLiveUse f (use_of u)) result)
    operand-uses-live result is f known leads =
        let P : UseIndex → Type 0 = λ u. IsLiveUse f (use_of u) in
        subst (All P) (sym is) (all-mapped P (λ (a : Operand context_ids). record { user = op_index op; number = a.use_number }) (op_record op).operands
        (λ k a e. leads.uses (record { user = op_index op; number = a.use_number }) k refl (ap (option_map (λ (x : Operand context_ids). x.use_number)) e)))

    pub successors-live : (result : List ArenaIndex) → result ≡ successor_blocks_of op → WhereLive op (λ f known. All (λ b. IsLive f (a_block b)) result)
    successors-live result is f known leads =
        let P : ArenaIndex → Type 0 = λ b. IsLive f (a_block b) in
        subst (All P) (sym is) (all-mapped P (λ (a : Successor context_ids). a.block) (op_record op).successors
        (λ k a e. leads.successors a.block k (ap (option_map (λ (x : Successor context_ids). x.block)) e)))

    pub successor-uses-live : (result : List UseIndex) → result ≡ successor_uses_of op → WhereLive op (λ f known. All (λ u. IsLiveBlockUse f (use_of u)) result)
    successor-uses-live result is f known leads =
        let P : UseIndex → Type 0 = λ u. IsLiveBlockUse f (use_of u) in
        subst (All P) (sym is) (all-mapped P (λ (a : Successor context_ids). record { user = op_index op; number = a.use_number }) (op_record op).successors
        (λ k a e. leads.successor_uses (record { user = op_index op; number = a.use_number }) k refl (ap (option_map (λ (x : Successor context_ids). x.use_number)) e)))

    -- in an answer that has the blocks that the operation names
    pub targets-live : {V E P : Type 0} (index : P → ArenaIndex) (items : V → List P) (r : Result V E) → IfOk r (λ v. map index (items v) ≡ successor_blocks_of op)
        → WhereLive op (λ f known. IfOk r (λ v. All (λ p. IsLive f (a_block (index p))) (items v)))
    targets-live index items (Ok v) is f known leads = all-read (λ b. IsLive f (a_block b)) index (items v) (successors-live (map index (items v)) is f known leads)
    targets-live index items (Err e) is f known leads = tt

  module _ (b : BasicBlock D A K B S X L) where
    pub arguments-live : (result : List ValueIndex) → result ≡ arguments_of b → WhereBlockLive b (λ f known. All (λ v. IsLiveNamed f (a_value (value_of v))) result)
    arguments-live result is f known index leads =
        let P : ValueIndex → Type 0 = λ v. IsLiveNamed f (a_value (value_of v)) in
        subst (All P) (sym is) (all-mapped P (λ (d : Defined A K B S X L). record { definer = Block (block_index b); number = d.number }) (block_record [] b).arguments
        (λ k d e. leads.arguments (record { definer = Block (block_index b); number = d.number }) k refl (ap (option_map (λ (x : Defined A K B S X L). x.number)) e)))

    pub argument-types-known : (result : List ℕ) → result ≡ argument_types_of b → WhereBlockLive b (λ f known. All (λ t. t < known) result)
    argument-types-known result is f known index leads =
        subst (All (λ t. t < known)) (sym is) (all-mapped (λ t. t < known) (λ (d : Defined A K B S X L). d.ty) (block_record [] b).arguments
        (λ k d e. leads.types d.ty k (ap (option_map (λ (x : Defined A K B S X L). x.ty)) e)))
