-- The conditions of edits, as they are tested: on the entries of the tables.
use Rattle.std.proofs.Common.{◌≡◌, sym, subst, ℕ, ◌<◌, ◌↔◌, List, length, Some, IsSome, Option, None, arith, refl}
use Rattle.std.specs.Prelude.{slice_get}
use Rattle.std.proofs.lemmas.List.{length-map}
use Rattle.ir_model.specs.Forest.{a_value, a_block, an_op}
use Rattle.ir_model.specs.Nesting.{IsLive, IsLiveNamed}
use Rattle.ir_model.specs.ContextIds.{context_ids}
use Rattle.ir_model.specs.Edits.{AddRegion, Condition, Each, NewOp, Tables as PlainTables, The}
use Rattle.ir_core_records.specs.Meaning.{value_of}
use Rattle.ir_core_queries.specs.State.{ContextState, forest_of, session_of}
use Rattle.ir_base_arenas.specs.declared.ptr.Ptr.{Ptr}
use Rattle.ir_core_records.specs.declared.handles.Value.{Value}
use Rattle.ir_core_records.specs.declared.record.BasicBlock.{BasicBlock}
use Rattle.ir_run_sessions.specs.declared.session_tables.Tables.{Tables}
use Rattle.ir_run_sessions.specs.SessionTables.{entries_of}
use Rattle.ir_run_sessions.specs.SessionLists.{Each-same, each-map, the-map}

pub there : {A : Type 0} (m : Option A) → IsSome m ↔ The m (λ _. Unit {0})
there None = (λ h. absurd cc, λ t. absurd (let e = t.found in cc))
there (Some x) = (λ h. record { value = x; found = refl; holds = tt }, λ t. refl)

alone : {A : Type 0} → A ↔ (A × Unit {0})
alone = (λ a. (a, tt), λ p. p.0)

module _ {D A K B S X L : Type 0} (c : ContextState D A K B S X L) (t : Tables D A K B S X L) where
  -- these are numbers of live values
  abbrev pub AreValues : List ℕ → Type 0
  AreValues = Each (λ n. The (slice_get t.values.items n) (λ v. IsLiveNamed (forest_of c) (a_value (value_of v.index))))

  -- these are numbers of live blocks
  abbrev pub AreBlocks : List ℕ → Type 0
  AreBlocks = Each (λ n. The (slice_get t.blocks.items n) (λ p. IsLive (forest_of c) (a_block p.index)))

  -- these are numbers of types
  abbrev pub AreTypes : List ℕ → Type 0
  AreTypes = Each (λ n. n < length t.types.items)

  pub types_so : (ns : List ℕ) → AreTypes ns ↔ Each (λ n. n < length (entries_of t).types) ns
  types_so =
      let long : length (entries_of t).types ≡ length t.types.items = length-map t.types.items (λ y. y.place) in
      Each-same (λ n. n < length t.types.items) (λ n. n < length (entries_of t).types) (λ n. (λ h. omega (arith, h, long), λ h. omega (arith, h, long)))

  pub values_so : (ns : List ℕ) → AreValues ns ↔ Each (λ n. The (slice_get (entries_of t).values n) (λ v. IsLiveNamed (forest_of c) (a_value v) × Unit {0})) ns
  values_so =
      each-map (λ v. value_of v.index) t.values.items (λ v. IsLiveNamed (forest_of c) (a_value (value_of v.index))) (λ v. IsLiveNamed (forest_of c) (a_value v) × Unit {0}) (λ v. alone)

  pub blocks_so : (ns : List ℕ) → AreBlocks ns ↔ Each (λ n. The (slice_get (entries_of t).blocks n) (λ b. The ((forest_of c).blocks b) (λ _. Unit {0}))) ns
  blocks_so =
      each-map (λ p. p.index) t.blocks.items (λ p. IsLive (forest_of c) (a_block p.index)) (λ b. The ((forest_of c).blocks b) (λ _. Unit {0})) (λ p. there ((forest_of c).blocks p.index))

  -- what is tested for an operation is its condition
  pub op_condition : (kind : ℕ) (types operands successors : List ℕ) (regions : ℕ)
      → (AreTypes types × AreValues operands × AreBlocks successors) ↔ Condition (session_of c (entries_of t)).state (NewOp kind types operands successors regions)
  op_condition kind types operands successors regions = (
    λ h. ((types_so types).0 h.0, (values_so operands).0 h.1, (blocks_so successors).0 h.2),
    λ h. ((types_so types).1 h.0, (values_so operands).1 h.1, (blocks_so successors).1 h.2),
  )

  -- and so for the operation that gets a region
  pub region_condition : (n : ℕ) → The (slice_get t.ops.items n) (λ p. IsLive (forest_of c) (an_op p.index)) ↔ Condition (session_of c (entries_of t)).state (AddRegion n)
  region_condition = the-map (λ p. p.index) t.ops.items (λ p. IsLive (forest_of c) (an_op p.index)) (λ o. The ((forest_of c).ops o) (λ _. Unit {0})) (λ p. there ((forest_of c).ops p.index))

-- where place was made in the tables, the numbers name what they named
module _ {D A K B S X L : Type 0} (c : ContextState D A K B S X L) (t u : Tables D A K B S X L) (same : entries_of u ≡ entries_of t) where
  pub types_still : (ns : List ℕ) → Each (λ n. n < length (entries_of t).types) ns → AreTypes c u ns
  types_still ns h = let P : PlainTables context_ids → Type 0 = λ e. Each (λ n. n < length e.types) ns in (types_so c u ns).1 (subst P (sym same) h)

  pub op_still : (kind : ℕ) (types operands successors : List ℕ) (regions : ℕ) → Condition (session_of c (entries_of t)).state (NewOp kind types operands successors regions)
      → AreTypes c u types × AreValues c u operands × AreBlocks c u successors
  op_still kind types operands successors regions h =
      let P : PlainTables context_ids → Type 0 = λ e. Condition (session_of c e).state (NewOp kind types operands successors regions) in
      (op_condition c u kind types operands successors regions).1 (subst P (sym same) h)

-- what is tested of the tables as they are lent
module _ {D A K B S X L : Type 0} (c : ContextState D A K B S X L) (t : Tables D A K B S X L) where
  pub types_tested : (count : ℕ) → count ≡ length t.types.items → (ns : List ℕ) → Each (λ n. n < count) ns ↔ Each (λ n. n < length (entries_of t).types) ns
  types_tested count is ns = let P : ℕ → Type 0 = λ k. Each (λ n. n < k) ns ↔ Each (λ n. n < length (entries_of t).types) ns in subst P (sym is) (types_so c t ns)

  pub values_tested : (lent : List (Value D A K B S X L)) → lent ≡ t.values.items → (ns : List ℕ)
      → Each (λ n. The (slice_get lent n) (λ v. IsLiveNamed (forest_of c) (a_value (value_of v.index)))) ns ↔ Each (λ n. The (slice_get (entries_of t).values n) (λ v. IsLiveNamed (forest_of c) (a_value v) × Unit {0})) ns
  values_tested lent is ns =
      let P : List (Value D A K B S X L) → Type 0 = λ xs. Each (λ n. The (slice_get xs n) (λ v. IsLiveNamed (forest_of c) (a_value (value_of v.index)))) ns ↔ Each (λ n. The (slice_get (entries_of t).values n) (λ v. IsLiveNamed (forest_of c) (a_value v) × Unit {0})) ns in
      subst P (sym is) (values_so c t ns)

  pub blocks_tested : (lent : List (Ptr (BasicBlock D A K B S X L))) → lent ≡ t.blocks.items → (ns : List ℕ)
      → Each (λ n. The (slice_get lent n) (λ p. IsLive (forest_of c) (a_block p.index))) ns ↔ Each (λ n. The (slice_get (entries_of t).blocks n) (λ b. The ((forest_of c).blocks b) (λ _. Unit {0}))) ns
  blocks_tested lent is ns =
      let P : List (Ptr (BasicBlock D A K B S X L)) → Type 0 = λ xs. Each (λ n. The (slice_get xs n) (λ p. IsLive (forest_of c) (a_block p.index))) ns ↔ Each (λ n. The (slice_get (entries_of t).blocks n) (λ b. The ((forest_of c).blocks b) (λ _. Unit {0}))) ns in
      subst P (sym is) (blocks_so c t ns)
