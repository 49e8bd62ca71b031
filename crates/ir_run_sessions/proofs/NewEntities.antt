-- What an edit that makes an entity changes, from what the call of the context promises.
use Rattle.std.proofs.Common.{◌≡◌, refl, sym, ap, subst, ◌∙◌, ℕ, ◌+◌, cond, List, [], ◌∷◌, ◌++◌, map, length, take, drop, Option, Some, arith}
use Rattle.std.specs.Prelude.{slice_get}
use Rattle.std.specs.List.{zip}
use Rattle.std.specs.Option.{option_map}
use Rattle.ir_model.specs.declared.answer.Answer.TheVariants.{Made}
use Rattle.ir_model.specs.declared.ids.ArenaIndex.{ArenaIndex}
use Rattle.ir_model.specs.ContextIds.{context_ids}
use Rattle.ir_model.specs.Ids.{Counts}
use Rattle.ir_model.specs.Forest.{Dialect, Behaviour, BlockRecord, Definition, Forest, OpRecord, Text, Value, a_value, of_op, of_block}
use Rattle.ir_model.specs.Nesting.{IsLiveNamed, ops_of}
use Rattle.ir_model.specs.Changes.{definition, operand, successor, new_block, new_op}
use Rattle.ir_model.specs.Edits.{AddRegion, Condition, Edit, NewBlock, NewOp, NewType, Tables, The, needs, no_needs, numbered, these, type_place, with_type as with_key}
use Rattle.ir_model.specs.Sessions.{Passed, Passes, Session, Step, made}
use Rattle.ir_model.proofs.TwoRuns.{id_tells}
use Rattle.ir_core_records.specs.Meaning.{block_index, block_record, closed, op_index, op_record}
use Rattle.ir_core_records.specs.declared.record.BasicBlock.{BasicBlock}
use Rattle.ir_core_records.specs.declared.record.Operation.{Operation}
use Rattle.ir_core_queries.specs.Calls.{IsBlock, IsOperation, MakesBlock, MakesOperation, MakesRegion, SameButTypes, block_needs, op_needs, region_needs}
use Rattle.ir_core_queries.specs.State.{ContextState, bare, forest_of, session_of, types_of}
use Rattle.ir_run_sessions.specs.SessionTables.{with_block, with_op, with_region, with_type_entered}
use Rattle.ir_run_sessions.specs.SessionLists.{below, length-these}
use Rattle.ir_run_sessions.proofs.SessionSteps.{HasRoom, made_so, no_fresh, passes_none, same-state}

-- what is counted of a record that is found
pub count_is : {R : Type 0} (count : R → ℕ) (m : Option R) (r : R) (n : ℕ) → option_map count m ≡ Some n → m ≡ Some r → count r ≡ n
count_is count m r n counted found = let e : Some (count r) ≡ Some n = sym (ap (option_map count) found) ∙ counted in cc

some-same : {A : Type 0} {x y : A} → Some x ≡ Some y → x ≡ y
some-same e = cc

numbers-zip : (W : Dialect) (ns ts : List ℕ) → length ns ≡ length ts → map (λ (x : Definition context_ids W). x.number) (map definition (zip ns ts)) ≡ ns
numbers-zip W [] ts e = refl
numbers-zip W (n ∷ ns) [] e = absurd (omega (arith, e))
numbers-zip W (n ∷ ns) (t ∷ ts) e = ap (λ xs. n ∷ xs) (numbers-zip W ns ts (omega (arith, e)))

-- what was put under an id is found there
put_there : {R : Type 0} (id : ArenaIndex) (put r : R) (m others : Option R) → m ≡ cond (context_ids.same_op id id) (Some put) others → m ≡ Some r → r ≡ put
put_there id put r m others is found = some-same (sym found ∙ is ∙ ap (λ b. cond b (Some put) others) ((id_tells id id).1 refl))

-- operations of as many parts need as much
pub op_asks : (a b e n m k regions : ℕ) → a ≡ n → b ≡ m → e ≡ k → op_needs a (b + e) regions ≡ op_needs n (m + k) regions
op_asks a b e n m k regions p q r = ap (λ x. op_needs x (b + e) regions) p ∙ ap (λ x. op_needs n (x + e) regions) q ∙ ap (λ x. op_needs n (m + x) regions) r

module _ {D A K B S X L : Type 0} (behave : Behaviour (closed A K B S X L)) (c : ContextState D A K B S X L) (tb : Tables context_ids) where
  abbrev s : Session (closed A K B S X L)
  s = session_of c tb

  -- the type is stored, or was, and stands behind the others
  pub type_made : (key : K) → HasRoom (bare c) no_needs → (d : ContextState D A K B S X L) → SameButTypes (bare c) (bare d) → types_of d ≡ with_key behave (types_of c) key
      → (tc : Tables context_ids) → tc ≡ with_type_entered tb (type_place behave (types_of c) key) → (n : ℕ) → n ≡ length tb.types → Step behave s (NewType key) (Made n) (session_of d tc)
  type_made key room d same stored tc entered n numbered_so =
      let passes : Passes s.passed no_fresh (bare d).passed = (let P : Passed → Type 0 = λ p. Passes s.passed no_fresh p in subst P (sym same.passed) (passes_none s.passed)) in
      made tt (record { values = room.numbers.values; uses = room.numbers.uses }) (record { ops = room.slots.ops; blocks = room.slots.blocks; regions = room.slots.regions }) (ap Made numbered_so) (record {
        new = no_fresh;
        enough = refl;
        distinct = record { ops = tt; blocks = tt; regions = tt; numbers = tt; uses = tt };
        are_new = record { ops = λ i h. absurd h; blocks = λ i h. absurd h; regions = λ i h. absurd h; numbers = λ i h. absurd h; uses = λ i h. absurd h };
        change = same-state _ _ _ _ _ _ same.forest stored entered;
        passed = passes;
        beside = same.beside;
        limits = same.limits;
      })

  module _ (kind : ℕ) (types operands successors : List ℕ) (regions : ℕ) (may : Condition s.state (NewOp kind types operands successors regions))
      (ys : List ℕ) (vs : List (Value context_ids)) (bs : List ArenaIndex) (typed : ys ≡ these tb.types types) (valued : vs ≡ these tb.values operands) (blocked : bs ≡ these tb.blocks successors) where
    abbrev the_op : Edit (closed A K B S X L)
    the_op = NewOp kind types operands successors regions

    operands_long : length vs ≡ length operands
    operands_long = ap length valued ∙ length-these tb.values operands (below tb.values (λ v. IsLiveNamed (forest_of c) (a_value v) × Unit {0}) operands may.1)

    made_asks : op_needs (length ys) (length vs + length bs) regions ≡ needs the_op
    made_asks =
        op_asks (length ys) (length vs) (length bs) (length types) (length operands) (length successors) regions
        (ap length typed ∙ length-these tb.types types may.0)
        operands_long
        (ap length blocked ∙ length-these tb.blocks successors (below tb.blocks (λ b. The ((forest_of c).blocks b) (λ _. Unit {0})) successors may.2))

    module _ (d : ContextState D A K B S X L) (id : ArenaIndex) (makes : MakesOperation behave.unknown (bare c) (bare d) id kind ys vs bs regions) where
      abbrev made_forest : List ℕ → ℕ → List (Value context_ids) → List ArenaIndex → Forest context_ids (closed A K B S X L)
      made_forest ts n us cs =
          new_op (forest_of c) id behave.unknown kind
          (map definition (zip makes.fresh.numbers ts))
          (map operand (zip (take n makes.fresh.uses) us))
          (map successor (zip (drop n makes.fresh.uses) cs))
          makes.fresh.regions

      op_forest : (forest_of d) ≡ made_forest (these tb.types types) (length operands) (these tb.values operands) (these tb.blocks successors)
      op_forest =
          makes.forest
          ∙ ap (λ ts. made_forest ts (length vs) vs bs) typed
          ∙ ap (λ n. made_forest (these tb.types types) n vs bs) operands_long
          ∙ ap (λ us. made_forest (these tb.types types) (length operands) us bs) valued
          ∙ ap (λ cs. made_forest (these tb.types types) (length operands) (these tb.values operands) cs) blocked

      -- what is entered is what was made
      op_entered : (op : Operation D A K B S X L) → IsOperation (forest_of d) id op
          → with_op tb op ≡ record tb { ops = tb.ops ++ id ∷ []; regions = tb.regions ++ makes.fresh.regions; values = tb.values ++ numbered (of_op id) makes.fresh.numbers }
      op_entered op is =
          let put : OpRecord context_ids (closed A K B S X L) = record {
            kind = kind;
            results = map definition (zip makes.fresh.numbers ys);
            operands = map operand (zip (take (length vs) makes.fresh.uses) vs);
            successors = map successor (zip (drop (length vs) makes.fresh.uses) bs);
            regions = makes.fresh.regions;
            attributes = [];
            loc = behave.unknown;
          } in
          let same : op_record op ≡ put = put_there id put (op_record op) ((forest_of d).ops id) ((forest_of c).ops id) (ap (λ f. f.ops id) makes.forest) is.found in
          let numbers : map (λ x. x.number) (op_record op).results ≡ makes.fresh.numbers =
          ap (λ q. map (λ x. x.number) q.results) same ∙ numbers-zip (closed A K B S X L) makes.fresh.numbers ys (ap (λ n. n.numbers) makes.handed.enough) in
          entries (op_index op) id (op_record op).regions makes.fresh.regions (map (λ x. x.number) (op_record op).results) makes.fresh.numbers is.own (ap (λ q. q.regions) same) numbers
        where
          entries : (i j : ArenaIndex) (rs qs : List ArenaIndex) (ns ms : List ℕ) → i ≡ j → rs ≡ qs → ns ≡ ms
              → record tb { ops = tb.ops ++ i ∷ []; regions = tb.regions ++ rs; values = tb.values ++ numbered (of_op i) ns } ≡ record tb { ops = tb.ops ++ j ∷ []; regions = tb.regions ++ qs; values = tb.values ++ numbered (of_op j) ms }
          entries i j rs qs ns ms e f g =
              ap (λ k. record tb { ops = tb.ops ++ k ∷ []; regions = tb.regions ++ rs; values = tb.values ++ numbered (of_op k) ns }) e
              ∙ ap (λ ks. record tb { ops = tb.ops ++ j ∷ []; regions = tb.regions ++ ks; values = tb.values ++ numbered (of_op j) ns }) f
              ∙ ap (λ ks. record tb { ops = tb.ops ++ j ∷ []; regions = tb.regions ++ qs; values = tb.values ++ numbered (of_op j) ks }) g

      -- the operation, its regions and its results stand behind the others
      pub op_made : (m : Counts) → m ≡ needs the_op → HasRoom (bare c) m → (op : Operation D A K B S X L) → IsOperation (forest_of d) id op
          → (tc : Tables context_ids) → tc ≡ with_op tb op → (n : ℕ) → n ≡ length tb.ops → Step behave s the_op (Made n) (session_of d tc)
      op_made m asked room op is tc entered n numbered_so =
          made_so behave c tb the_op may m asked room d tc makes.fresh (op_needs (length ys) (length vs + length bs) regions) made_asks makes.handed (record {
            value = id;
            found = ap (λ xs. slice_get xs 0) makes.named;
            holds = same-state _ _ _ _ _ _ op_forest makes.handed.store (entered ∙ op_entered op is);
          })
          (Made n) (ap Made numbered_so)

  module _ (label : Option Text) (types : List ℕ) (may : Condition s.state (NewBlock label types)) (ys : List ℕ) (typed : ys ≡ these tb.types types) where
    abbrev the_block : Edit (closed A K B S X L)
    the_block = NewBlock label types

    module _ (d : ContextState D A K B S X L) (id : ArenaIndex) (makes : MakesBlock behave.unknown (bare c) (bare d) id label ys) where
      -- what is entered is what was made
      block_entered : (block : BasicBlock D A K B S X L) → IsBlock (forest_of d) id block → with_block tb block ≡ record tb { blocks = tb.blocks ++ id ∷ []; values = tb.values ++ numbered (of_block id) makes.fresh.numbers }
      block_entered block is =
          let put : BlockRecord context_ids (closed A K B S X L) = record { label = label; arguments = map definition (zip makes.fresh.numbers ys); ops = []; attributes = []; loc = behave.unknown } in
          let same : block_record (ops_of (forest_of d) id) block ≡ put =
          put_there id put (block_record (ops_of (forest_of d) id) block) ((forest_of d).blocks id) ((forest_of c).blocks id) (ap (λ f. f.blocks id) makes.forest) is.found in
          let numbers : map (λ x. x.number) (block_record [] block).arguments ≡ makes.fresh.numbers =
          ap (λ q. map (λ x. x.number) q.arguments) same ∙ numbers-zip (closed A K B S X L) makes.fresh.numbers ys (ap (λ n. n.numbers) makes.handed.enough) in
          entries (block_index block) id (map (λ x. x.number) (block_record [] block).arguments) makes.fresh.numbers is.own numbers
        where
          entries : (i j : ArenaIndex) (ns ms : List ℕ) → i ≡ j → ns ≡ ms
              → record tb { blocks = tb.blocks ++ i ∷ []; values = tb.values ++ numbered (of_block i) ns } ≡ record tb { blocks = tb.blocks ++ j ∷ []; values = tb.values ++ numbered (of_block j) ms }
          entries i j ns ms e f =
              ap (λ k. record tb { blocks = tb.blocks ++ k ∷ []; values = tb.values ++ numbered (of_block k) ns }) e
              ∙ ap (λ ks. record tb { blocks = tb.blocks ++ j ∷ []; values = tb.values ++ numbered (of_block j) ks }) f

      -- the block and its arguments stand behind the others
      pub block_made : (m : Counts) → m ≡ needs the_block → HasRoom (bare c) m → (block : BasicBlock D A K B S X L) → IsBlock (forest_of d) id block
          → (tc : Tables context_ids) → tc ≡ with_block tb block → (n : ℕ) → n ≡ length tb.blocks → Step behave s the_block (Made n) (session_of d tc)
      block_made m asked room block is tc entered n numbered_so =
          made_so behave c tb the_block may m asked room d tc makes.fresh (block_needs (length ys)) (ap block_needs (ap length typed ∙ length-these tb.types types may)) makes.handed (record {
            value = id;
            found = ap (λ xs. slice_get xs 0) makes.named;
            holds = same-state _ _ _ _ _ _ (makes.forest ∙ ap (λ ts. new_block (forest_of c) id behave.unknown label (map definition (zip makes.fresh.numbers ts))) typed) makes.handed.store (entered ∙ block_entered block is);
          })
          (Made n) (ap Made numbered_so)

  -- the region stands behind the others
  pub region_made : (k : ℕ) (op : ArenaIndex) → slice_get tb.ops k ≡ Some op → Condition s.state (AddRegion k) → (m : Counts) → m ≡ region_needs → HasRoom (bare c) m
      → (d : ContextState D A K B S X L) (id : ArenaIndex) → MakesRegion (bare c) (bare d) op id → (tc : Tables context_ids) → tc ≡ with_region tb id
      → (n : ℕ) → n ≡ length tb.regions → Step behave s (AddRegion k) (Made n) (session_of d tc)
  region_made k op at may m asked room d id makes tc entered n numbered_so =
      made_so behave c tb (AddRegion k) may m asked room d tc makes.fresh region_needs refl makes.handed (record {
        value = op;
        found = at;
        holds = record { value = id; found = ap (λ xs. slice_get xs 0) makes.named; holds = same-state _ _ _ _ _ _ makes.forest makes.handed.store entered };
      })
      (Made n) (ap Made numbered_so)
