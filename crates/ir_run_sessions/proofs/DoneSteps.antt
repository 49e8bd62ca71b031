-- Edits that are answered with done, or refused: those that need nothing, and those that make one use number.
use Rattle.std.proofs.Common.{◌≡◌, refl, sym, ap, subst, ◌∙◌, inl, inr, ℕ, ◌+◌, [], ◌∷◌, ◌↔◌, Ok, Err, Result}
use Rattle.std.specs.Prelude.{IfErr, OnErr, OnOk}
use Rattle.ir_model.specs.declared.answer.Answer.{Answer}
use Rattle.ir_model.specs.declared.answer.Answer.TheVariants.{Done, Refused}
use Rattle.ir_model.specs.declared.answer.Refused.TheVariants.{Condition as ForCondition}
use Rattle.ir_model.specs.declared.error.CoreError.{CoreError}
use Rattle.ir_model.specs.declared.error.CoreError.TheVariants.{CounterSpent, OutOfMemory, SlotsSpent}
use Rattle.ir_model.specs.ContextIds.{context_ids}
use Rattle.ir_model.specs.Ids.{Counts, Fresh}
use Rattle.ir_model.specs.Forest.{Behaviour, Dialect, Forest}
use Rattle.ir_model.specs.Edits.{Change, Condition, Edit, MayRunOut, Tables, needs, no_needs, one_use, over, answer as reply}
use Rattle.ir_model.specs.Sessions.{HasNumbers, LacksNumbers, Passed, Passes, Session, Step, condition}
use Rattle.ir_model.proofs.Decided.{at_most}
use Rattle.ir_model.proofs.Supply.{above}
use Rattle.ir_core_records.specs.Meaning.{closed}
use Rattle.ir_core_queries.specs.Calls.{HandsOut, SameButForest, SkipsAtMost}
use Rattle.ir_core_queries.specs.Places.{MakesUse}
use Rattle.ir_core_queries.specs.State.{ContextState, bare, forest_of, session_of}
use Rattle.ir_run_sessions.specs.SessionTables.{done_of}
use Rattle.ir_run_sessions.proofs.SessionSteps.{HasRoom, Tells, made_so, no_fresh, passes_none, refused, same-state, skips_none, tells_memory}

-- where there is room for nothing and numbers aren't lacking, there are numbers
numbers_unless : {W : Dialect} (s : Session W) (n : Counts) → HasNumbers s no_needs → (LacksNumbers s n → ⊥) → HasNumbers s n
numbers_unless s n none lacking = elim (at_most (none.values.0 + n.numbers) s.limits.values) [
  | inr no_more ↦ absurd (lacking (inl (none.values.0, none.values.1, above _ _ no_more)))
  | inl values ↦ elim (at_most (none.uses.0 + n.uses) s.limits.uses) [
    | inr no_more ↦ absurd (lacking (inr (none.uses.0, none.uses.1, above _ _ no_more)))
    | inl uses ↦ record { values = (none.values.0, none.values.1, values); uses = (none.uses.0, none.uses.1, uses) }
  ]
]

-- one use number, and nothing else, is new
abbrev pub fresh_use : ℕ → Fresh context_ids
fresh_use u = record { ops = []; blocks = []; regions = []; numbers = []; uses = u ∷ [] }

module _ {D A K B S X L : Type 0} (c : ContextState D A K B S X L) (tb : Tables context_ids) where
  abbrev s : Session (closed A K B S X L)
  s = session_of c tb

  -- an edit whose condition doesn't hold is refused for it
  pub refused_so : (behave : Behaviour (closed A K B S X L)) (edit : Edit (closed A K B S X L)) → (Condition s.state edit → ⊥) → Step behave s edit (Refused ForCondition) s
  refused_so behave edit fails = condition fails refl refl

-- a call that needs nothing
module _ {D A K B S X L : Type 0} (c : ContextState D A K B S X L) (d : ContextState D A K B S X L) (same : SameButForest (bare c) (bare d)) where
  -- hands nothing out
  pub handed : HandsOut (bare c) (bare d) no_needs no_fresh
  handed = record {
    enough = refl;
    distinct = record { ops = tt; blocks = tt; regions = tt; numbers = tt; uses = tt };
    are_new = record { ops = λ i h. absurd h; blocks = λ i h. absurd h; regions = λ i h. absurd h; numbers = λ i h. absurd h; uses = λ i h. absurd h };
    store = same.store;
    beside = same.beside;
    passed = (let P : Passed → Type 0 = λ p. Passes (bare c).passed no_fresh p in subst P (sym same.passed) (passes_none (bare c).passed));
    limits = same.limits;
  }

module _ {D A K B S X L : Type 0} (c : ContextState D A K B S X L) (tb : Tables context_ids) where
  module _ (d : ContextState D A K B S X L) (same : SameButForest (bare c) (bare d)) where
    -- and leaves all but the forest
    pub left : (g : Forest context_ids (closed A K B S X L)) → forest_of d ≡ g → (session_of d tb).state ≡ over (session_of c tb).state g
    left g e = same-state _ _ _ _ _ _ e same.store refl

  module _ (behave : Behaviour (closed A K B S X L)) (room : HasRoom (bare c) no_needs) (d : ContextState D A K B S X L) where
    -- an edit that needs nothing and makes nothing is done
    pub done : SameButForest (bare c) (bare d) → (edit : Edit (closed A K B S X L)) → Condition (session_of c tb).state edit → no_needs ≡ needs edit → Done ≡ reply (session_of c tb).state edit
        → Change behave (session_of c tb).state edit no_fresh (session_of d tb).state → Step behave (session_of c tb) edit Done (session_of d tb)
    done same edit may is says change = made_so behave c tb edit may no_needs is room d tb no_fresh no_needs is (handed c d same) change Done says

    -- an edit that needs nothing is done, or refused for memory as its call is
    pub done_unless : SameButForest (bare c) (bare d) → (edit : Edit (closed A K B S X L)) → Condition (session_of c tb).state edit → no_needs ≡ needs edit → Done ≡ reply (session_of c tb).state edit
        → (g : Forest context_ids (closed A K B S X L)) → (forest_of d ≡ g → Change behave (session_of c tb).state edit no_fresh (session_of d tb).state)
        → {T : Type 0} (result : Result T CoreError) → OnOk result (forest_of d ≡ g) → ((e : CoreError) → result ≡ Err e → MayRunOut (session_of c tb).state edit) → IfErr result (λ e. e ≡ OutOfMemory) → OnErr result (d ≡ c)
        → (a : Answer) → a ≡ done_of result → Step behave (session_of c tb) edit a (session_of d tb)
    done_unless same edit may asks says g change (Ok x) made runs_out memory err a is =
        let Q : Answer → Type 0 = λ x. Step behave (session_of c tb) edit x (session_of d tb) in
        subst Q (sym is) (done same edit may asks says (change made))
    done_unless same edit may asks says g change (Err e) made runs_out memory err a is =
        let P : ContextState D A K B S X L → Type 0 = λ x. SkipsAtMost (bare c) (bare x) no_needs in
        let Q : Answer → Type 0 = λ x. Step behave (session_of c tb) edit x (session_of d tb) in
        let R : CoreError → Type 0 = λ x. Tells (bare c) no_needs x in
        subst Q (sym is) (refused behave c tb edit may no_needs asks e (runs_out e refl) (subst R (sym memory) (tells_memory (bare c) no_needs room)) d tb refl (subst P (sym err) (skips_none (bare c) no_needs)))

    -- an edit that makes one use number is done, or refused as its call is
    module _ (edit : Edit (closed A K B S X L)) (may : Condition (session_of c tb).state edit) (asks : one_use ≡ needs edit) (says : Done ≡ reply (session_of c tb).state edit) (runs_out : MayRunOut (session_of c tb).state edit)
        (make : ℕ → Forest context_ids (closed A K B S X L))
        (change : (u : ℕ) → (session_of d tb).state ≡ over (session_of c tb).state (make u) → Change behave (session_of c tb).state edit (fresh_use u) (session_of d tb).state) where
      use_room : (LacksNumbers (bare c) one_use → ⊥) → HasRoom (bare c) one_use
      use_room lacking = record { numbers = numbers_unless (bare c) one_use room.numbers lacking; slots = record { ops = room.slots.ops; blocks = room.slots.blocks; regions = room.slots.regions } }

      pub use_made : {T : Type 0} (result : Result T CoreError) → OnOk result (MakesUse (bare c) (bare d) make)
          → ((result ≡ Err CounterSpent) ↔ LacksNumbers (bare c) one_use) → (result ≡ Err SlotsSpent → ⊥) → OnErr result (d ≡ c)
          → (a : Answer) → a ≡ done_of result → Step behave (session_of c tb) edit a (session_of d tb)
      use_made {T = T} (Ok x) m counter slots err a is =
          let okay : Result T CoreError = Ok x in
          let spent : Result T CoreError = Err CounterSpent in
          let room_for = use_room (λ l. let e : okay ≡ spent = counter.1 l in absurd cc) in
          made_so behave c tb edit may one_use asks room_for d tb (fresh_use m.number) one_use asks m.handed (change m.number (same-state _ _ _ _ _ _ m.forest m.handed.store refl)) a (is ∙ says)
      use_made {T = T} (Err e) m counter slots err a is =
          let failed : CoreError → Result T CoreError = λ x. Err x in
          let P : ContextState D A K B S X L → Type 0 = λ x. SkipsAtMost (bare c) (bare x) one_use in
          let Q : Answer → Type 0 = λ x. Step behave (session_of c tb) edit x (session_of d tb) in
          subst Q (sym is) (refused behave c tb edit may one_use asks e runs_out (record {
            memory = λ of. use_room (λ l. let told : failed e ≡ failed CounterSpent = counter.1 l in absurd cc);
            counter = λ of. counter.0 (ap failed of);
            slots = λ of. absurd (slots (ap failed of));
          }) d tb refl (subst P (sym err) (skips_none (bare c) one_use)))
