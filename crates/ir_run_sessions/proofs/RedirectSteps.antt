-- The edits by which uses come to name something else as steps, from what the calls of the context promise.
use Rattle.std.proofs.Common.{◌≡◌, refl, sym, ap, ◌∙◌, true, false, ℕ, List, Ok, Err, Result, Some}
use Rattle.std.specs.Prelude.{IfErr, IsOk, OnErr, OnOk, slice_get}
use Rattle.ir_model.specs.declared.answer.Answer.{Answer}
use Rattle.ir_model.specs.declared.error.CoreError.{CoreError}
use Rattle.ir_model.specs.declared.error.CoreError.TheVariants.{OutOfMemory}
use Rattle.ir_model.specs.declared.ids.ArenaIndex.{ArenaIndex}
use Rattle.ir_model.specs.ContextIds.{context_ids}
use Rattle.ir_model.specs.Forest.{Behaviour, Forest, Value, a_block}
use Rattle.ir_model.specs.Changes.{redirect, retarget}
use Rattle.ir_model.specs.Edits.{Condition, ReplaceAllUses, RetargetAll, Tables, UsersLinked, no_needs}
use Rattle.ir_model.specs.Sessions.{Session, Step}
use Rattle.ir_core_records.specs.Meaning.{closed}
use Rattle.ir_core_queries.specs.Calls.{SameButForest}
use Rattle.ir_core_queries.specs.State.{ContextState, bare, forest_of, session_of}
use Rattle.ir_run_sessions.specs.Named.{NamesLive, NamesLiveValue}
use Rattle.ir_run_sessions.specs.SessionTables.{done_of}
use Rattle.ir_run_sessions.proofs.SessionSteps.{HasRoom}
use Rattle.ir_run_sessions.proofs.EntryKinds.{blocks, not_two, two, values}
use Rattle.ir_run_sessions.proofs.DoneSteps.{done_unless, left}

-- where one number names what two calls were given, both were given the same
same_entry : {I : Type 0} (table : List I) (n m : ℕ) (i j : I) → slice_get table n ≡ Some i → slice_get table m ≡ Some j → n ≡ m → i ≡ j
same_entry table n m i j found other e = let both : Some i ≡ Some j = sym found ∙ ap (slice_get table) e ∙ other in cc

-- a call that was refused isn't one that never is
not_itself : {T E : Type 0} (P : Type 0) (result : Result T E) (e : E) → result ≡ Err e → (P → IsOk result) → P → ⊥
not_itself P (Ok x) e is may p = cc
not_itself P (Err x) e is may p = let none : false ≡ true = may p in cc

module _ {D A K B S X L : Type 0} (c : ContextState D A K B S X L) (tb : Tables context_ids) where
  abbrev s : Session (closed A K B S X L)
  s = session_of c tb

  abbrev f : Forest context_ids (closed A K B S X L)
  f = forest_of c

  module _ (n m : ℕ) where
    -- what is tested of two numbers is the condition
    pub not_replace_all : ((v w : Value context_ids) → NamesLiveValue f tb.values n v → NamesLiveValue f tb.values m w → ⊥) → Condition s.state (ReplaceAllUses n m) → ⊥
    not_replace_all fails = not_two (values f tb) (values f tb) n m (λ v w. Unit {0}) (λ v w x y r. fails v w x y)

    pub not_retarget_all : ((i j : ArenaIndex) → NamesLive f a_block tb.blocks n i → NamesLive f a_block tb.blocks m j → UsersLinked f i → ⊥) → Condition s.state (RetargetAll n m) → ⊥
    not_retarget_all = not_two (blocks f tb) (blocks f tb) n m (λ i j. UsersLinked f i)

    module _ (behave : Behaviour (closed A K B S X L)) (room : HasRoom (bare c) no_needs) (d : ContextState D A K B S X L) {T : Type 0} (result : Result T CoreError) (memory : IfErr result (λ e. e ≡ OutOfMemory)) (err : OnErr result (d ≡ c)) (same : SameButForest (bare c) (bare d)) (a : Answer) (is : a ≡ done_of result) where
      -- a call that is done, or refused for memory where it names two, and how that is answered
      pub replace_all_made : (v w : Value context_ids) → NamesLiveValue f tb.values n v → NamesLiveValue f tb.values m w → (v ≡ w → IsOk result) → OnOk result (forest_of d ≡ redirect f v w) → Step behave s (ReplaceAllUses n m) a (session_of d tb)
      replace_all_made v w x y itself made =
          done_unless c tb behave room d same (ReplaceAllUses n m) (two (values f tb) (values f tb) n m (λ v w. Unit {0}) v w x y tt) refl refl (redirect f v w)
          (λ e. record { value = v; found = x.found; holds = record { value = w; found = y.found; holds = left c tb d same _ e } })
          result made (λ e failed number. not_itself (v ≡ w) result e failed itself (same_entry tb.values n m v w x.found y.found number)) memory err a is

      pub retarget_all_made : (i j : ArenaIndex) → NamesLive f a_block tb.blocks n i → NamesLive f a_block tb.blocks m j → UsersLinked f i → (i ≡ j → IsOk result) → OnOk result (forest_of d ≡ retarget f i j) → Step behave s (RetargetAll n m) a (session_of d tb)
      retarget_all_made i j x y linked itself made =
          done_unless c tb behave room d same (RetargetAll n m) (two (blocks f tb) (blocks f tb) n m (λ i j. UsersLinked f i) i j x y linked) refl refl (retarget f i j)
          (λ e. record { value = i; found = x.found; holds = record { value = j; found = y.found; holds = left c tb d same _ e } })
          result made (λ e failed number. not_itself (i ≡ j) result e failed itself (same_entry tb.blocks n m i j x.found y.found number)) memory err a is
