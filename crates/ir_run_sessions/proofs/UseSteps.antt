-- The edits of operands and successors as steps, from what the calls of the context promise.
use Rattle.std.proofs.Common.{◌≡◌, refl, ap, ℕ, ◌<◌, ◌≤◌, ◌↔◌, List, length, Err, Result}
use Rattle.std.specs.Prelude.{OnErr, OnOk}
use Rattle.std.specs.List.{remove}
use Rattle.ir_model.specs.declared.answer.Answer.{Answer}
use Rattle.ir_model.specs.declared.answer.Answer.TheVariants.{Done}
use Rattle.ir_model.specs.declared.error.CoreError.{CoreError}
use Rattle.ir_model.specs.declared.error.CoreError.TheVariants.{CounterSpent, SlotsSpent}
use Rattle.ir_model.specs.declared.ids.ArenaIndex.{ArenaIndex}
use Rattle.ir_model.specs.ContextIds.{context_ids}
use Rattle.ir_model.specs.Forest.{Behaviour, Forest, OpRecord, Operand, Successor, Value, a_block, an_op}
use Rattle.ir_model.specs.Nesting.{list_of, operands_of, successors_of}
use Rattle.ir_model.specs.Changes.{on_op, on_operands, on_successors}
use Rattle.ir_model.specs.Edits.{Condition, InsertOperand, InsertSuccessor, PushOperand, PushSuccessor, RemoveOperand, RemoveSuccessor, ReplaceOperand, ReplaceSuccessor, Tables, no_needs, one_use}
use Rattle.ir_model.specs.Sessions.{LacksNumbers, Session, Step}
use Rattle.ir_core_records.specs.declared.record.Operation.{Operation}
use Rattle.ir_core_records.specs.Meaning.{closed, op_record}
use Rattle.ir_core_queries.specs.Calls.{IsOperation, SameButForest}
use Rattle.ir_core_queries.specs.Places.{MakesUse, operand_inserted, operand_pushed, operand_replaced, successor_inserted, successor_pushed, successor_replaced}
use Rattle.ir_core_queries.specs.State.{ContextState, bare, forest_of, session_of}
use Rattle.ir_run_sessions.specs.Named.{NamesLive, NamesLiveValue}
use Rattle.ir_run_sessions.specs.SessionTables.{done_of}
use Rattle.ir_run_sessions.proofs.SessionSteps.{HasRoom}
use Rattle.ir_run_sessions.proofs.EntryKinds.{One, blocks, listed, not_one, not_two, one, ops, two, unlisted, values}
use Rattle.ir_run_sessions.proofs.DoneSteps.{done, left, use_made}

module _ {D A K B S X L : Type 0} (f : Forest context_ids (closed A K B S X L)) (i : ArenaIndex) (r : Operation D A K B S X L) (is : IsOperation f i r) where
  -- what is counted of a record is counted of its operation
  pub operand_count : length (operands_of f i) ≡ length (op_record r).operands
  operand_count = ap (λ q. length (list_of (λ (o : OpRecord context_ids (closed A K B S X L)). o.operands) q)) is.found

  pub successor_count : length (successors_of f i) ≡ length (op_record r).successors
  successor_count = ap (λ q. length (list_of (λ (o : OpRecord context_ids (closed A K B S X L)). o.successors) q)) is.found

module _ {D A K B S X L : Type 0} (c : ContextState D A K B S X L) (tb : Tables context_ids) where
  abbrev s : Session (closed A K B S X L)
  s = session_of c tb

  abbrev f : Forest context_ids (closed A K B S X L)
  f = forest_of c

  abbrev Record : Type 0
  Record = OpRecord context_ids (closed A K B S X L)

  -- the number names a live value, and there are so many operands
  abbrev value_at : ℕ → (ℕ → Type 0) → ArenaIndex → List (Operand context_ids) → Type 0
  value_at m P o ps = One (values f tb) m (λ v. P (length ps))

  abbrev block_at : ℕ → (ℕ → Type 0) → ArenaIndex → List (Successor context_ids) → Type 0
  block_at m P o ps = One (blocks f tb) m (λ b. P (length ps))

  module _ (n m : ℕ) where
    -- what is tested of two numbers is the condition
    pub not_push_operand : ((i : ArenaIndex) (v : Value context_ids) → NamesLive f an_op tb.ops n i → NamesLiveValue f tb.values m v → ⊥) → Condition s.state (PushOperand n m) → ⊥
    not_push_operand fails = not_two (ops f tb) (values f tb) n m (λ i v. Unit {0}) (λ i v x y r. fails i v x y)

    pub not_push_successor : ((i j : ArenaIndex) → NamesLive f an_op tb.ops n i → NamesLive f a_block tb.blocks m j → ⊥) → Condition s.state (PushSuccessor n m) → ⊥
    not_push_successor fails = not_two (ops f tb) (blocks f tb) n m (λ i j. Unit {0}) (λ i j x y r. fails i j x y)

  module _ (n at m : ℕ) where
    pub not_insert_operand : ((i : ArenaIndex) (v : Value context_ids) → NamesLive f an_op tb.ops n i → NamesLiveValue f tb.values m v → at ≤ length (operands_of f i) → ⊥) → Condition s.state (InsertOperand n at m) → ⊥
    not_insert_operand fails t = not_two (ops f tb) (values f tb) n m (λ i v. at ≤ length (operands_of f i)) fails (unlisted tb.ops f.ops (λ (r : Record). r.operands) (value_at m (λ k. at ≤ k)) n t)

    pub not_replace_operand : ((i : ArenaIndex) (v : Value context_ids) → NamesLive f an_op tb.ops n i → NamesLiveValue f tb.values m v → at < length (operands_of f i) → ⊥) → Condition s.state (ReplaceOperand n at m) → ⊥
    not_replace_operand fails t = not_two (ops f tb) (values f tb) n m (λ i v. at < length (operands_of f i)) fails (unlisted tb.ops f.ops (λ (r : Record). r.operands) (value_at m (λ k. at < k)) n t)

    pub not_insert_successor : ((i j : ArenaIndex) → NamesLive f an_op tb.ops n i → NamesLive f a_block tb.blocks m j → at ≤ length (successors_of f i) → ⊥) → Condition s.state (InsertSuccessor n at m) → ⊥
    not_insert_successor fails t = not_two (ops f tb) (blocks f tb) n m (λ i j. at ≤ length (successors_of f i)) fails (unlisted tb.ops f.ops (λ (r : Record). r.successors) (block_at m (λ k. at ≤ k)) n t)

    pub not_replace_successor : ((i j : ArenaIndex) → NamesLive f an_op tb.ops n i → NamesLive f a_block tb.blocks m j → at < length (successors_of f i) → ⊥) → Condition s.state (ReplaceSuccessor n at m) → ⊥
    not_replace_successor fails t = not_two (ops f tb) (blocks f tb) n m (λ i j. at < length (successors_of f i)) fails (unlisted tb.ops f.ops (λ (r : Record). r.successors) (block_at m (λ k. at < k)) n t)

  module _ (n at : ℕ) where
    -- and so for one number and a place
    pub not_remove_operand : ((i : ArenaIndex) → NamesLive f an_op tb.ops n i → at < length (operands_of f i) → ⊥) → Condition s.state (RemoveOperand n at) → ⊥
    not_remove_operand fails t = not_one (ops f tb) n (λ i. at < length (operands_of f i)) fails (unlisted tb.ops f.ops (λ (r : Record). r.operands) (λ o ps. at < length ps) n t)

    pub not_remove_successor : ((i : ArenaIndex) → NamesLive f an_op tb.ops n i → at < length (successors_of f i) → ⊥) → Condition s.state (RemoveSuccessor n at) → ⊥
    not_remove_successor fails t = not_one (ops f tb) n (λ i. at < length (successors_of f i)) fails (unlisted tb.ops f.ops (λ (r : Record). r.successors) (λ o ps. at < length ps) n t)

  module _ (behave : Behaviour (closed A K B S X L)) (room : HasRoom (bare c) no_needs) (d : ContextState D A K B S X L) where
    module _ (same : SameButForest (bare c) (bare d)) (n at : ℕ) (i : ArenaIndex) (x : NamesLive f an_op tb.ops n i) where
      pub remove_operand_done : at < length (operands_of f i) → forest_of d ≡ on_op f i (on_operands (λ ps. remove ps at)) → Step behave s (RemoveOperand n at) Done (session_of d tb)
      remove_operand_done there e =
          done c tb behave room d same (RemoveOperand n at) (listed tb.ops f.ops (λ (r : Record). r.operands) (λ o ps. at < length ps) n (one (ops f tb) n (λ i. at < length (operands_of f i)) i x there)) refl refl (record { value = i; found = x.found; holds = left c tb d same _ e })

      pub remove_successor_done : at < length (successors_of f i) → forest_of d ≡ on_op f i (on_successors (λ ps. remove ps at)) → Step behave s (RemoveSuccessor n at) Done (session_of d tb)
      remove_successor_done there e =
          done c tb behave room d same (RemoveSuccessor n at) (listed tb.ops f.ops (λ (r : Record). r.successors) (λ o ps. at < length ps) n (one (ops f tb) n (λ i. at < length (successors_of f i)) i x there)) refl refl (record { value = i; found = x.found; holds = left c tb d same _ e })

    -- a call that made one use number, or was refused, and how that is answered
    module _ {T : Type 0} (result : Result T CoreError) (counter : (result ≡ Err CounterSpent) ↔ LacksNumbers (bare c) one_use) (slots : result ≡ Err SlotsSpent → ⊥) (err : OnErr result (d ≡ c)) (a : Answer) (is : a ≡ done_of result) (n : ℕ) (i : ArenaIndex) (x : NamesLive f an_op tb.ops n i) (m : ℕ) where
      module _ (v : Value context_ids) (y : NamesLiveValue f tb.values m v) where
        pub push_operand_made : OnOk result (MakesUse (bare c) (bare d) (operand_pushed f i v)) → Step behave s (PushOperand n m) a (session_of d tb)
        push_operand_made made =
            use_made c tb behave room d (PushOperand n m) (two (ops f tb) (values f tb) n m (λ i v. Unit {0}) i v x y tt) refl refl tt (operand_pushed f i v)
            (λ u e. record { value = i; found = x.found; holds = record { value = v; found = y.found; holds = record { value = u; found = refl; holds = e } } })
            result made counter slots err a is

        module _ (at : ℕ) where
          pub insert_operand_made : at ≤ length (operands_of f i) → OnOk result (MakesUse (bare c) (bare d) (operand_inserted f i at v)) → Step behave s (InsertOperand n at m) a (session_of d tb)
          insert_operand_made there made =
              use_made c tb behave room d (InsertOperand n at m)
              (listed tb.ops f.ops (λ (r : Record). r.operands) (value_at m (λ k. at ≤ k)) n (two (ops f tb) (values f tb) n m (λ i v. at ≤ length (operands_of f i)) i v x y there)) refl refl tt (operand_inserted f i at v)
              (λ u e. record { value = i; found = x.found; holds = record { value = v; found = y.found; holds = record { value = u; found = refl; holds = e } } })
              result made counter slots err a is

          pub replace_operand_made : at < length (operands_of f i) → OnOk result (MakesUse (bare c) (bare d) (operand_replaced f i at v)) → Step behave s (ReplaceOperand n at m) a (session_of d tb)
          replace_operand_made there made =
              use_made c tb behave room d (ReplaceOperand n at m)
              (listed tb.ops f.ops (λ (r : Record). r.operands) (value_at m (λ k. at < k)) n (two (ops f tb) (values f tb) n m (λ i v. at < length (operands_of f i)) i v x y there)) refl refl tt (operand_replaced f i at v)
              (λ u e. record { value = i; found = x.found; holds = record { value = v; found = y.found; holds = record { value = u; found = refl; holds = e } } })
              result made counter slots err a is

      module _ (j : ArenaIndex) (y : NamesLive f a_block tb.blocks m j) where
        pub push_successor_made : OnOk result (MakesUse (bare c) (bare d) (successor_pushed f i j)) → Step behave s (PushSuccessor n m) a (session_of d tb)
        push_successor_made made =
            use_made c tb behave room d (PushSuccessor n m) (two (ops f tb) (blocks f tb) n m (λ i j. Unit {0}) i j x y tt) refl refl tt (successor_pushed f i j)
            (λ u e. record { value = i; found = x.found; holds = record { value = j; found = y.found; holds = record { value = u; found = refl; holds = e } } })
            result made counter slots err a is

        module _ (at : ℕ) where
          pub insert_successor_made : at ≤ length (successors_of f i) → OnOk result (MakesUse (bare c) (bare d) (successor_inserted f i at j)) → Step behave s (InsertSuccessor n at m) a (session_of d tb)
          insert_successor_made there made =
              use_made c tb behave room d (InsertSuccessor n at m)
              (listed tb.ops f.ops (λ (r : Record). r.successors) (block_at m (λ k. at ≤ k)) n (two (ops f tb) (blocks f tb) n m (λ i j. at ≤ length (successors_of f i)) i j x y there)) refl refl tt (successor_inserted f i at j)
              (λ u e. record { value = i; found = x.found; holds = record { value = j; found = y.found; holds = record { value = u; found = refl; holds = e } } })
              result made counter slots err a is

          pub replace_successor_made : at < length (successors_of f i) → OnOk result (MakesUse (bare c) (bare d) (successor_replaced f i at j)) → Step behave s (ReplaceSuccessor n at m) a (session_of d tb)
          replace_successor_made there made =
              use_made c tb behave room d (ReplaceSuccessor n at m)
              (listed tb.ops f.ops (λ (r : Record). r.successors) (block_at m (λ k. at < k)) n (two (ops f tb) (blocks f tb) n m (λ i j. at < length (successors_of f i)) i j x y there)) refl refl tt (successor_replaced f i at j)
              (λ u e. record { value = i; found = x.found; holds = record { value = j; found = y.found; holds = record { value = u; found = refl; holds = e } } })
              result made counter slots err a is
