-- The edits of results and arguments as steps, from what the calls of the context promise.
use Rattle.std.proofs.Common.{◌≡◌, refl, sym, ap, subst, ◌∙◌, ℕ, ◌<◌, ◌≤◌, ◌↔◌, List, [], ◌∷◌, ◌++◌, cond, length, map, Err, Result, Some, arith}
use Rattle.std.specs.Prelude.{slice_get}
use Rattle.std.specs.Option.{option_map}
use Rattle.std.proofs.lemmas.List.{length-map}
use Rattle.std.proofs.lemmas.Option.{slice_get_within, slice_get-map}
use Rattle.ir_model.specs.declared.answer.Answer.TheVariants.{Done, Made}
use Rattle.ir_model.specs.declared.error.CoreError.{CoreError}
use Rattle.ir_model.specs.declared.error.CoreError.TheVariants.{CounterSpent, SlotsSpent}
use Rattle.ir_model.specs.declared.ids.ArenaIndex.{ArenaIndex}
use Rattle.ir_model.specs.ContextIds.{context_ids}
use Rattle.ir_model.specs.Ids.{Counts, Fresh}
use Rattle.ir_model.specs.Forest.{Behaviour, BlockRecord, Definer, Definition, Dialect, Forest, OpRecord, Value, a_block, a_value, an_op, definer_entity, of_block, of_op}
use Rattle.std.specs.List.{insert}
use Rattle.ir_model.specs.Nesting.{IsLive, definitions_of, list_of, numbers_of}
use Rattle.ir_model.specs.Calls.{on_definitions}
use Rattle.ir_model.specs.Changes.{definition, on_arguments, on_results}
use Rattle.ir_model.specs.Edits.{Change, Condition, Edit, InsertArgument, InsertResult, MayRunOut, PushArgument, PushResult, RemoveArgument, RemoveResult, Tables, The, Unused, needs, no_needs, one_number, answer as reply}
use Rattle.ir_model.specs.Sessions.{HasNumbers, LacksNumbers, LacksSlots, Session, Step}
use Rattle.ir_model.specs.Soundness.{Sound}
use Rattle.ir_model.proofs.Back.{slice_get-in}
use Rattle.ir_model.proofs.IdCases.{id_same}
use Rattle.ir_core_records.specs.Mapped.{slice_get-insert_at}
use Rattle.ir_core_records.specs.Meaning.{closed}
use Rattle.ir_core_chains.specs.ListReads.{slice_get-push_at}
use Rattle.ir_core_queries.specs.Calls.{SameButForest, SkipsAtMost}
use Rattle.ir_core_queries.specs.Definitions.{MakesValue, UnusedAt, definition_inserted, definition_pushed, definition_removed}
use Rattle.ir_core_queries.specs.State.{ContextState, bare, forest_of, session_of, types_of}
use Rattle.ir_run_sessions.specs.Named.{NamesLive}
use Rattle.ir_run_sessions.specs.SessionLists.{the-map}
use Rattle.ir_run_sessions.specs.SessionTables.{answer_of, with_value}
use Rattle.ir_run_sessions.proofs.SessionSteps.{HasRoom, made_so, refusal_tells, refused, same-state, skips_none}
use Rattle.ir_run_sessions.proofs.EntryKinds.{blocks, listed, not_one, one, ops, the_value, unlisted}
use Rattle.ir_run_sessions.proofs.DoneSteps.{done, left}

-- one value number, and nothing else, is new
abbrev pub fresh_number : ℕ → Fresh context_ids
fresh_number n = record { ops = []; blocks = []; regions = []; numbers = n ∷ []; uses = [] }

-- the value that d defines with this number
abbrev pub value_by : Definer context_ids → ℕ → Value context_ids
value_by d n = record { definer = d; number = n }

module _ {W : Dialect} (f : Forest context_ids W) where
  abbrev results_in : OpRecord context_ids W → List (Definition context_ids W)
  results_in r = r.results

  abbrev arguments_in : BlockRecord context_ids W → List (Definition context_ids W)
  arguments_in r = r.arguments

  abbrev number_in : Definition context_ids W → ℕ
  number_in x = x.number

  -- the results or arguments are what they were rewritten to
  rewritten : (g : List (Definition context_ids W) → List (Definition context_ids W)) (d : Definer context_ids) → IsLive f (definer_entity context_ids d) → definitions_of (on_definitions f d g) d ≡ g (definitions_of f d)
  rewritten g (of_op o) live =
      let r = the_value (f.ops o) live in
      ap (λ b. list_of results_in (cond b (option_map (on_results g) (f.ops o)) (f.ops o))) (id_same o)
      ∙ ap (λ q. list_of results_in (option_map (on_results g) q)) r.1
      ∙ sym (ap (λ q. g (list_of results_in q)) r.1)
  rewritten g (of_block b) live =
      let r = the_value (f.blocks b) live in
      ap (λ x. list_of arguments_in (cond x (option_map (on_arguments g) (f.blocks b)) (f.blocks b))) (id_same b)
      ∙ ap (λ q. list_of arguments_in (option_map (on_arguments g) q)) r.1
      ∙ sym (ap (λ q. g (list_of arguments_in q)) r.1)

  module _ (d : Definer context_ids) (live : IsLive f (definer_entity context_ids d)) (ty : ℕ) where
    -- what was put in last, or at a place, stands there
    pub pushed_there : (at : ℕ) → at ≡ length (definitions_of f d) → (n : ℕ) → slice_get (numbers_of (definition_pushed f d ty n) d) at ≡ Some n
    pushed_there at last n =
        ap (λ xs. slice_get (map number_in xs) at) (rewritten (λ xs. xs ++ definition (n, ty) ∷ []) d live)
        ∙ slice_get-map number_in (definitions_of f d ++ definition (n, ty) ∷ []) at
        ∙ ap (λ k. option_map number_in (slice_get (definitions_of f d ++ definition (n, ty) ∷ []) k)) last
        ∙ ap (option_map number_in) (slice_get-push_at (definitions_of f d) (definition (n, ty)))

    pub inserted_there : (at : ℕ) → at ≤ length (definitions_of f d) → (n : ℕ) → slice_get (numbers_of (definition_inserted f d at ty n) d) at ≡ Some n
    inserted_there at within n =
        ap (λ xs. slice_get (map number_in xs) at) (rewritten (λ xs. insert xs at (definition (n, ty))) d live)
        ∙ slice_get-map number_in (insert (definitions_of f d) at (definition (n, ty))) at
        ∙ ap (option_map number_in) (slice_get-insert_at (definitions_of f d) at (definition (n, ty)) within)

-- what stands at a place is within
pub place_within : {W : Dialect} (f g : Forest context_ids W) (d : Definer context_ids) (at n : ℕ) → g ≡ f → slice_get (numbers_of f d) at ≡ Some n → at < length (definitions_of g d)
place_within {W = W} f g d at n same there =
    omega (arith, slice_get_within (numbers_of g d) at n (ap (λ x. slice_get (numbers_of x d) at) same ∙ there), length-map (definitions_of g d) (λ (x : Definition context_ids W). x.number))

-- an edit that makes one value number
module _ {D A K B S X L : Type 0} (behave : Behaviour (closed A K B S X L)) (c : ContextState D A K B S X L) (tb : Tables context_ids) (edit : Edit (closed A K B S X L)) (may : Condition (session_of c tb).state edit) (asks : one_number ≡ needs edit) where
  abbrev before : Session (closed A K B S X L)
  before = session_of c tb

  module _ (tc : Tables context_ids) (kept : tc ≡ tb) (runs_out : MayRunOut before.state edit) (e : CoreError) where
    abbrev failed : CoreError → Result (Unit {0}) CoreError
    failed x = Err x

    -- is refused where no room was made
    pub no_room : Sound before → (n : Counts) → n ≡ one_number → ((failed e ≡ failed CounterSpent) ↔ LacksNumbers (bare c) n) → ((failed e ≡ failed SlotsSpent) ↔ (HasNumbers (bare c) n × LacksSlots (bare c) n))
        → Step behave before edit (answer_of (Err e)) (session_of c tc)
    no_room sound n is counter slots = refused behave c tb edit may n (is ∙ asks) e runs_out (refusal_tells c tb (Unit {0}) n sound e counter slots) c tc kept (skips_none (bare c) n)

    abbrev failed_call : (T : Type 0) → CoreError → Result T CoreError
    failed_call T x = Err x

    -- and where its call is
    pub not_made : (T : Type 0) (n : Counts) → n ≡ one_number → HasRoom (bare c) n → ((failed_call T e ≡ failed_call T CounterSpent) ↔ LacksNumbers (bare c) one_number) → (failed_call T e ≡ failed_call T SlotsSpent → ⊥)
        → (d : ContextState D A K B S X L) → d ≡ c → Step behave before edit (answer_of (Err e)) (session_of d tc)
    not_made T n is room counter slots d same =
        let P : ContextState D A K B S X L → Type 0 = λ x. SkipsAtMost (bare c) (bare x) one_number in
        let Q : Counts → Type 0 = λ k. HasRoom (bare c) k in
        refused behave c tb edit may one_number asks e runs_out (record {
          memory = λ of. subst Q is room;
          counter = λ of. counter.0 (ap (failed_call T) of);
          slots = λ of. absurd (slots (ap (failed_call T) of));
        }) d tc kept (subst P (sym same) (skips_none (bare c) one_number))

  module _ (n : Counts) (is : n ≡ one_number) (room : HasRoom (bare c) n) (d : ContextState D A K B S X L) (by : Definer context_ids) (make : ℕ → Forest context_ids (closed A K B S X L)) (makes : MakesValue (bare c) (bare d) make)
      (at : ℕ) (there : (k : ℕ) → slice_get (numbers_of (make k) by) at ≡ Some k) (ready tc : Tables context_ids) (kept : ready ≡ tb) where
    -- else it is made, and its value stands behind the others
    pub value_made : (entered : The (slice_get (numbers_of (forest_of d) by) at) (λ k. tc ≡ with_value ready (value_by by k)))
        → ((k : ℕ) → (session_of d tc).state ≡ record (before.state) { forest = make k; tables = with_value tb (value_by by k) } → Change behave before.state edit (fresh_number k) (session_of d tc).state)
        → (number : ℕ) → number ≡ length ready.values → Made (length tb.values) ≡ reply before.state edit → Step behave before edit (Made number) (session_of d tc)
    value_made entered change number last says =
        let found : Some entered.value ≡ Some makes.number = sym entered.found ∙ ap (λ f. slice_get (numbers_of f by) at) makes.forest ∙ there makes.number in
        let same : entered.value ≡ makes.number = cc in
        let tables : tc ≡ with_value tb (value_by by makes.number) = entered.holds ∙ ap (λ k. with_value ready (value_by by k)) same ∙ ap (λ t. with_value t (value_by by makes.number)) kept in
        made_so behave c tb edit may n (is ∙ asks) room d tc (fresh_number makes.number) one_number asks makes.handed
        (change makes.number (same-state _ _ _ _ _ _ makes.forest makes.handed.store tables))
        (Made number) (ap Made (last ∙ ap (λ (t : Tables context_ids). length t.values) kept) ∙ says)

module _ {D A K B S X L : Type 0} (c : ContextState D A K B S X L) (tb : Tables context_ids) where
  abbrev s : Session (closed A K B S X L)
  s = session_of c tb

  abbrev f : Forest context_ids (closed A K B S X L)
  f = forest_of c

  -- the type with a number is known
  pub stored : Sound s → (n t : ℕ) → slice_get tb.types n ≡ Some t → t < length (types_of c)
  stored sound n t at = sound.stored t (slice_get-in tb.types n t at)

  -- the results or arguments have one at the place that nothing names
  abbrev unused_in : (ArenaIndex → Definer context_ids) → ℕ → ArenaIndex → List (Definition context_ids (closed A K B S X L)) → Type 0
  unused_in definer at i xs = The (slice_get xs at) (λ x. Unused f (a_value (value_by (definer i) x.number)))

  -- so many there are
  abbrev reaches : ℕ → ArenaIndex → List (Definition context_ids (closed A K B S X L)) → Type 0
  reaches at i xs = at ≤ length xs

  unused_so : (d : Definer context_ids) (at : ℕ) → The (slice_get (definitions_of f d) at) (λ x. Unused f (a_value (value_by d x.number))) ↔ UnusedAt f d at
  unused_so d at = the-map (λ x. x.number) (definitions_of f d) (λ x. Unused f (a_value (value_by d x.number))) (λ n. Unused f (a_value (value_by d n))) (λ x. (λ h. h, λ h. h)) at

  module _ (n ty : ℕ) where
    -- what is tested of numbers is the condition
    pub not_push_result : ((i : ArenaIndex) (t : ℕ) → NamesLive f an_op tb.ops n i → slice_get tb.types ty ≡ Some t → ⊥) → Condition s.state (PushResult n ty) → ⊥
    not_push_result fails h = not_one (ops f tb) n (λ i. Unit {0}) (λ i x r. fails i h.1.value x h.1.found) h.0

    pub not_push_argument : ((i : ArenaIndex) (t : ℕ) → NamesLive f a_block tb.blocks n i → slice_get tb.types ty ≡ Some t → ⊥) → Condition s.state (PushArgument n ty) → ⊥
    not_push_argument fails h = not_one (blocks f tb) n (λ i. Unit {0}) (λ i x r. fails i h.1.value x h.1.found) h.0

  module _ (n at : ℕ) where
    pub not_insert_result : (ty : ℕ) → ((i : ArenaIndex) (t : ℕ) → NamesLive f an_op tb.ops n i → slice_get tb.types ty ≡ Some t → at ≤ length (definitions_of f (of_op i)) → ⊥) → Condition s.state (InsertResult n at ty) → ⊥
    not_insert_result ty fails h =
        not_one (ops f tb) n (λ i. at ≤ length (definitions_of f (of_op i))) (λ i x r. fails i h.1.value x h.1.found r) (unlisted tb.ops f.ops (λ (r : OpRecord context_ids (closed A K B S X L)). r.results) (reaches at) n h.0)

    pub not_insert_argument : (ty : ℕ) → ((i : ArenaIndex) (t : ℕ) → NamesLive f a_block tb.blocks n i → slice_get tb.types ty ≡ Some t → at ≤ length (definitions_of f (of_block i)) → ⊥) → Condition s.state (InsertArgument n at ty) → ⊥
    not_insert_argument ty fails h =
        not_one (blocks f tb) n (λ i. at ≤ length (definitions_of f (of_block i))) (λ i x r. fails i h.1.value x h.1.found r) (unlisted tb.blocks f.blocks (λ (r : BlockRecord context_ids (closed A K B S X L)). r.arguments) (reaches at) n h.0)

    pub not_remove_result : ((i : ArenaIndex) → NamesLive f an_op tb.ops n i → UnusedAt f (of_op i) at → ⊥) → Condition s.state (RemoveResult n at) → ⊥
    not_remove_result fails t =
        not_one (ops f tb) n (λ i. unused_in of_op at i (definitions_of f (of_op i))) (λ i x r. fails i x ((unused_so (of_op i) at).0 r)) (unlisted tb.ops f.ops (λ (r : OpRecord context_ids (closed A K B S X L)). r.results) (unused_in of_op at) n t)

    pub not_remove_argument : ((i : ArenaIndex) → NamesLive f a_block tb.blocks n i → UnusedAt f (of_block i) at → ⊥) → Condition s.state (RemoveArgument n at) → ⊥
    not_remove_argument fails t =
        not_one (blocks f tb) n (λ i. unused_in of_block at i (definitions_of f (of_block i))) (λ i x r. fails i x ((unused_so (of_block i) at).0 r)) (unlisted tb.blocks f.blocks (λ (r : BlockRecord context_ids (closed A K B S X L)). r.arguments) (unused_in of_block at) n t)

  module _ (n m : ℕ) (i : ArenaIndex) (t : ℕ) (typed : slice_get tb.types m ≡ Some t) where
    abbrev has_type : The (slice_get tb.types m) (λ _. Unit {0})
    has_type = record { value = t; found = typed; holds = tt }

    -- what is named may get one more
    pub may_push_result : NamesLive f an_op tb.ops n i → Condition s.state (PushResult n m)
    may_push_result x = (one (ops f tb) n (λ _. Unit {0}) i x tt, has_type)

    pub may_push_argument : NamesLive f a_block tb.blocks n i → Condition s.state (PushArgument n m)
    may_push_argument x = (one (blocks f tb) n (λ _. Unit {0}) i x tt, has_type)

    module _ (at : ℕ) where
      pub may_insert_result : NamesLive f an_op tb.ops n i → at ≤ length (definitions_of f (of_op i)) → Condition s.state (InsertResult n at m)
      may_insert_result x within = (
        listed tb.ops f.ops (λ (r : OpRecord context_ids (closed A K B S X L)). r.results) (reaches at) n (one (ops f tb) n (λ i. at ≤ length (definitions_of f (of_op i))) i x within),
        has_type,
      )

      pub may_insert_argument : NamesLive f a_block tb.blocks n i → at ≤ length (definitions_of f (of_block i)) → Condition s.state (InsertArgument n at m)
      may_insert_argument x within = (
        listed tb.blocks f.blocks (λ (r : BlockRecord context_ids (closed A K B S X L)). r.arguments) (reaches at) n (one (blocks f tb) n (λ i. at ≤ length (definitions_of f (of_block i))) i x within),
        has_type,
      )

  module _ (behave : Behaviour (closed A K B S X L)) (room : HasRoom (bare c) no_needs) (d : ContextState D A K B S X L) (same : SameButForest (bare c) (bare d)) (n at : ℕ) (i : ArenaIndex) where
    pub remove_result_done : NamesLive f an_op tb.ops n i → UnusedAt f (of_op i) at → forest_of d ≡ definition_removed f (of_op i) at → Step behave s (RemoveResult n at) Done (session_of d tb)
    remove_result_done x unused e =
        done c tb behave room d same (RemoveResult n at)
        (listed tb.ops f.ops (λ (r : OpRecord context_ids (closed A K B S X L)). r.results) (unused_in of_op at) n (one (ops f tb) n (λ i. unused_in of_op at i (definitions_of f (of_op i))) i x ((unused_so (of_op i) at).1 unused)))
        refl refl (record { value = i; found = x.found; holds = left c tb d same _ e })

    pub remove_argument_done : NamesLive f a_block tb.blocks n i → UnusedAt f (of_block i) at → forest_of d ≡ definition_removed f (of_block i) at → Step behave s (RemoveArgument n at) Done (session_of d tb)
    remove_argument_done x unused e =
        done c tb behave room d same (RemoveArgument n at)
        (listed tb.blocks f.blocks (λ (r : BlockRecord context_ids (closed A K B S X L)). r.arguments) (unused_in of_block at) n (one (blocks f tb) n (λ i. unused_in of_block at i (definitions_of f (of_block i))) i x ((unused_so (of_block i) at).1 unused)))
        refl refl (record { value = i; found = x.found; holds = left c tb d same _ e })
