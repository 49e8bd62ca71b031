-- What a live operation or block gives is live, and its types are known.
use Rattle.std.proofs.Common.{◌≡◌, sym, ap, subst, ◌∙◌, ℕ, ◌<◌, List, map, Some, Result, Ok, Err, IfOk, slice_get}
use Rattle.std.specs.Option.{option_map}
use Rattle.std.proofs.lemmas.Option.{slice_get-map}
use Rattle.ir_model.specs.declared.ids.ArenaIndex.{ArenaIndex}
use Rattle.ir_model.specs.ContextIds.{context_ids}
use Rattle.ir_model.specs.Forest.{Definer as DefinedBy, Forest, OpRecord, BlockRecord, Definition, Operand, Successor, of_op, of_block, a_block, a_region, a_value, an_op, the_block}
use Rattle.ir_model.specs.Nesting.{In, IsLive, IsLiveNamed, WellFormed, list_of, definitions_of, operands_of, ops_of, regions_of, successors_of}
use Rattle.ir_model.proofs.Nests.{In-map}
use Rattle.ir_model.proofs.Back.{slice_get-in}
use Rattle.ir_core_records.specs.declared.record.Operation.{Operation}
use Rattle.ir_core_records.specs.declared.record.BasicBlock.{BasicBlock}
use Rattle.ir_core_records.specs.declared.record.Definer.TheVariants.{Op, Block}
use Rattle.ir_core_records.specs.declared.record.UseIndex.{UseIndex}
use Rattle.ir_core_records.specs.declared.record.ValueIndex.{ValueIndex}
use Rattle.ir_core_records.specs.Meaning.{closed, block_record, definer_of, op_record, use_of, value_of}
use Rattle.ir_core_records.specs.Values.{IsLiveBlockUse, IsLiveUse}
use Rattle.ir_core_records.specs.Found.{some_behind}
use Rattle.ir_core_context.specs.Calls.{BlockLeadsToLive, IsBlock, IsOperation, LeadsToLive}
use Rattle.ir_core_context.specs.Named.{block-use-live, use-live}

-- what is read at a place stands among what is read of all
read-in : {A B : Type 0} (g : A → B) (xs : List A) (k : ℕ) (b : B) → option_map g (slice_get xs k) ≡ Some b → In b (map g xs)
read-in g xs k b e = slice_get-in (map g xs) k b (slice_get-map g xs k ∙ e)

module _ {A K B S X L : Type 0} (f : Forest context_ids (closed A K B S X L)) (keys : ℕ) (formed : WellFormed f keys) where
  abbrev Defined : Type 0
  Defined = Definition context_ids (closed A K B S X L)

  -- the results of an operation, or the arguments of a block
  module _ (d : DefinedBy context_ids) (ds : List Defined) (here : definitions_of f d ≡ ds) where
    definition-live : (v : ValueIndex) (k : ℕ) → definer_of v.definer ≡ d → option_map (λ (x : Defined). x.number) (slice_get ds k) ≡ Some v.number → IsLiveNamed f (a_value (value_of v))
    definition-live v k is e =
        subst (In v.number) (sym (ap (λ y. map (λ (x : Defined). x.number) (definitions_of f y)) is ∙ ap (map (λ (x : Defined). x.number)) here)) (read-in (λ (x : Defined). x.number) ds k v.number e)

    definition-known : (t k : ℕ) → option_map (λ (x : Defined). x.ty) (slice_get ds k) ≡ Some t → t < keys
    definition-known t k e = formed.known d t (subst (In t) (sym (ap (map (λ (x : Defined). x.ty)) here)) (read-in (λ (x : Defined). x.ty) ds k t e))

  module _ {D : Type 0} (o : ArenaIndex) (op : Operation D A K B S X L) (is : IsOperation f o op) where
    results-here : definitions_of f (of_op o) ≡ (op_record op).results
    results-here = ap (list_of (λ (r : OpRecord context_ids (closed A K B S X L)). r.results)) is.found

    operands-here : operands_of f o ≡ (op_record op).operands
    operands-here = ap (list_of (λ (r : OpRecord context_ids (closed A K B S X L)). r.operands)) is.found

    successors-here : successors_of f o ≡ (op_record op).successors
    successors-here = ap (list_of (λ (r : OpRecord context_ids (closed A K B S X L)). r.successors)) is.found

    pub regions-here : regions_of f o ≡ op.regions
    regions-here = ap (list_of (λ (r : OpRecord context_ids (closed A K B S X L)). r.regions)) is.found

    operand-live : (v : ValueIndex) (k : ℕ) → option_map (λ (a : Operand context_ids). a.value) (slice_get (op_record op).operands k) ≡ Some (value_of v) → IsLiveNamed f (a_value (value_of v))
    operand-live v k e =
        let at = some_behind (λ (a : Operand context_ids). a.value) (slice_get (op_record op).operands k) (value_of v) e in
        let here : In (record { use_number = at.0.use_number; value = at.0.value }) (operands_of f o) = subst (In at.0) (sym operands-here) (slice_get-in (op_record op).operands k at.0 at.1) in
        subst (λ w. IsLiveNamed f (a_value w)) at.2 (use-live f keys at.0.value (record { user = o; number = at.0.use_number }) formed here)

    operand-use-live : (u : UseIndex) (k : ℕ) → u.user ≡ op.index → option_map (λ (a : Operand context_ids). a.use_number) (slice_get (op_record op).operands k) ≡ Some u.number → IsLiveUse f (use_of u)
    operand-use-live u k d e =
        let at = some_behind (λ (a : Operand context_ids). a.use_number) (slice_get (op_record op).operands k) u.number e in
        let here : operands_of f u.user ≡ (op_record op).operands = ap (operands_of f) (d ∙ is.own) ∙ operands-here in
        let there : In (record { use_number = at.0.use_number; value = at.0.value }) (operands_of f u.user) = subst (In at.0) (sym here) (slice_get-in (op_record op).operands k at.0 at.1) in
        (at.0.value, subst (λ n. In (record { use_number = n; value = at.0.value }) (operands_of f u.user)) at.2 there)

    successor-live : (b : ArenaIndex) (k : ℕ) → option_map (λ (a : Successor context_ids). a.block) (slice_get (op_record op).successors k) ≡ Some b → IsLive f (a_block b)
    successor-live b k e =
        let at = some_behind (λ (a : Successor context_ids). a.block) (slice_get (op_record op).successors k) b e in
        let here : In (record { use_number = at.0.use_number; block = at.0.block }) (successors_of f o) = subst (In at.0) (sym successors-here) (slice_get-in (op_record op).successors k at.0 at.1) in
        subst (λ c. IsLiveNamed f (the_block c)) at.2 (block-use-live f keys at.0.block (record { user = o; number = at.0.use_number }) formed here)

    successor-use-live : (u : UseIndex) (k : ℕ) → u.user ≡ op.index → option_map (λ (a : Successor context_ids). a.use_number) (slice_get (op_record op).successors k) ≡ Some u.number → IsLiveBlockUse f (use_of u)
    successor-use-live u k d e =
        let at = some_behind (λ (a : Successor context_ids). a.use_number) (slice_get (op_record op).successors k) u.number e in
        let here : successors_of f u.user ≡ (op_record op).successors = ap (successors_of f) (d ∙ is.own) ∙ successors-here in
        let there : In (record { use_number = at.0.use_number; block = at.0.block }) (successors_of f u.user) = subst (In at.0) (sym here) (slice_get-in (op_record op).successors k at.0 at.1) in
        (at.0.block, subst (λ n. In (record { use_number = n; block = at.0.block }) (successors_of f u.user)) at.2 there)

    region-live : (g : ArenaIndex) (k : ℕ) → slice_get op.regions k ≡ Some g → IsLive f (a_region g)
    region-live g k e = formed.nested.live (a_region g) (an_op o) (In-map a_region g (regions_of f o) (subst (In g) (sym regions-here) (slice_get-in op.regions k g e)))

    pub leads-to-live : LeadsToLive f keys op
    leads-to-live = record {
      results = λ v k d e. definition-live (of_op o) (op_record op).results results-here v k (ap definer_of (d ∙ ap Op is.own)) e;
      operands = operand-live;
      uses = operand-use-live;
      successors = successor-live;
      successor_uses = successor-use-live;
      regions = region-live;
      types = definition-known (of_op o) (op_record op).results results-here;
    }

  module _ {D : Type 0} (b : ArenaIndex) (x : BasicBlock D A K B S X L) (is : IsBlock f b x) where
    arguments-here : definitions_of f (of_block b) ≡ (block_record (ops_of f b) x).arguments
    arguments-here = ap (list_of (λ (r : BlockRecord context_ids (closed A K B S X L)). r.arguments)) is.found

    pub block-leads-to-live : BlockLeadsToLive f keys b x
    block-leads-to-live = record {
      arguments = λ v k d e. definition-live (of_block b) (block_record (ops_of f b) x).arguments arguments-here v k (ap definer_of (d ∙ ap Block is.own)) e;
      types = definition-known (of_block b) (block_record (ops_of f b) x).arguments arguments-here;
    }

-- a look-up that may answer a fault
module _ {D A K B S X L T E : Type 0} (f : Forest context_ids (closed A K B S X L)) (keys : ℕ) (i : ArenaIndex) where
  pub leads-found : (now : T → Operation D A K B S X L) (r : Result T E) → WellFormed f keys → IfOk r (λ x. IsOperation f i (now x)) → IfOk r (λ x. LeadsToLive f keys (now x))
  leads-found now (Ok x) formed is = leads-to-live f keys formed i (now x) is
  leads-found now (Err e) formed is = tt

  pub block-leads-found : (now : T → BasicBlock D A K B S X L) (r : Result T E) → WellFormed f keys → IfOk r (λ x. IsBlock f i (now x)) → IfOk r (λ x. BlockLeadsToLive f keys i (now x))
  block-leads-found now (Ok x) formed is = block-leads-to-live f keys formed i (now x) is
  block-leads-found now (Err e) formed is = tt
