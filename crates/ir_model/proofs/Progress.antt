-- Sessions go on.
use mathlib.Core.Path.{◌≡◌, refl, sym, ◌∙◌, subst}
use Rattle.std.proofs.Common.{ℕ, ◌+◌, ◌≤◌, ◌⊎◌, ◌↔◌, inl, inr, Bool, true, false, eqb, ◌||◌, Option, Some, None, List, [], length, IsTrue, arith}
use Rattle.std.specs.Prelude.{slice_get}
use Rattle.std.specs.List.{list_any}
use Rattle.ir_model.specs.declared.ids.ArenaIndex.{ArenaIndex}
use Rattle.ir_model.specs.declared.answer.Answer.TheVariants.{Done, Refused}
use Rattle.ir_model.specs.declared.answer.Refused.TheVariants.{Condition as ForCondition, Counter, Slots, Memory}
use Rattle.ir_model.specs.Ids.{Fresh, Counts, counts}
use Rattle.ir_model.specs.ContextIds.{context_ids, same_id}
use Rattle.ir_model.specs.Forest.{Dialect, Behaviour, OpRecord, Entity, an_op, a_block, a_region}
use Rattle.ir_model.specs.Nesting.{In, list_of}
use Rattle.ir_model.specs.Changes.{Removes}
use Rattle.ir_model.specs.Edits.{Edit, State, The, Condition, needs, MayRunOut, answer as reply, NewOp, NewBlock, AddRegion, EraseOp, EraseBlock, EraseRegion}
use Rattle.ir_model.specs.Sessions.{Session, Step, condition, counter, slots, memory, made, Skips, Makes, HasNumbers, HasSlots, LacksNumbers, LacksSlots, live_op, live_block, live_region}
use Rattle.ir_model.specs.Soundness.{AreGone, Sound}
use Rattle.ir_model.specs.OneOfEach.{HasStep, NewSessionsStep}
use Rattle.ir_model.specs.StepTells.{line, NumbersFit, SlotsFit}
use Rattle.ir_model.specs.Progress.{IsRoomFor, IsTakenOut, RoomIsEnough, SoundSessionsGoOn, RunsAreCounted, RunsGoOn, ClosedCanGo, ClosedAreErased}
use Rattle.ir_model.proofs.Renaming.{Tells}
use Rattle.ir_model.proofs.TwoRuns.{lawful, id_tells, number_tells}
use Rattle.ir_model.proofs.Roomy.{any_iff}
use Rattle.ir_model.proofs.Grows.{new_sound}
use Rattle.ir_model.proofs.StepSound.{steps_sound, runs_sound}
use Rattle.ir_model.proofs.KeepsErase.{Removes-kept}
use Rattle.ir_model.proofs.StepTells.{takes_so, answers_so, makes_by}
use Rattle.ir_model.proofs.Decided.{Decided, some_so, at_most}
use Rattle.ir_model.proofs.Conditions.{condition_so}
use Rattle.ir_model.proofs.Supply.{above, supply_numbers, supply_ids}
use Rattle.ir_model.proofs.Outcomes.{list_there, removes_it, change_is}

or_iff : (a b : Bool) → IsTrue (a || b) ↔ (IsTrue a ⊎ IsTrue b)
or_iff true b = (λ h. inl refl, λ h. refl)
or_iff false b = (λ h. inr h, λ h. elim h [ inl e ↦ absurd (let g : false ≡ true = e in cc) | inr e ↦ e ])

-- what had passed, and these
more_iff : {A : Type 0} (same : A → A → Bool) (tells : Tells same) (old : A → Bool) (xs : List A) (x : A) → IsTrue (old x || list_any (λ y. same y x) xs) ↔ (IsTrue (old x) ⊎ In x xs)
more_iff same tells old xs x = (
  λ h. elim ((or_iff (old x) (list_any (λ y. same y x) xs)).0 h) [ inl e ↦ inl e | inr e ↦ inr ((any_iff same tells xs x).0 e) ],
  λ h. (or_iff (old x) (list_any (λ y. same y x) xs)).1 (elim h [ inl e ↦ inl e | inr i ↦ inr ((any_iff same tells xs x).1 i) ]),
)

-- it is there, and so it is as was said
the_one : {A : Type 0} {m : Option A} {P : A → Type 0} → The m P → (x : A) → m ≡ Some x → P x
the_one {m = m} {P = P} t x e =
    let f : Some t.value ≡ Some x = sym t.found ∙ e in
    let g : t.value ≡ x = cc in
    subst P g t.holds

module _ {W : Dialect} where
  -- a refusal may skip nothing
  skips_nothing : (s : Session W) (edit : Edit W) → Skips s edit s
  skips_nothing s edit = record {
    state = refl;
    beside = refl;
    limits = refl;
    skipped = record { ops = []; blocks = []; regions = []; numbers = []; uses = [] };
    within = record { ops = omega arith; blocks = omega arith; regions = omega arith; numbers = omega arith; uses = omega arith };
    were_new = record { ops = λ i k. elim k [ ]; blocks = λ i k. elim k [ ]; regions = λ i k. elim k [ ]; numbers = λ i k. elim k [ ]; uses = λ i k. elim k [ ] };
    passed = record {
      ops = λ i. (λ k. inl k, λ k. elim k [ inl p ↦ p | inr p ↦ elim p [ ] ]);
      blocks = λ i. (λ k. inl k, λ k. elim k [ inl p ↦ p | inr p ↦ elim p [ ] ]);
      regions = λ i. (λ k. inl k, λ k. elim k [ inl p ↦ p | inr p ↦ elim p [ ] ]);
      numbers = λ i. (λ k. inl k, λ k. elim k [ inl p ↦ p | inr p ↦ elim p [ ] ]);
      uses = λ i. (λ k. inl k, λ k. elim k [ inl p ↦ p | inr p ↦ elim p [ ] ]);
    };
  }

  numbers_there : (s : Session W) (gone n : Counts) → AreGone s gone → NumbersFit s gone n → HasNumbers s n
  numbers_there s gone n g h = record { values = (gone.numbers, g.numbers, h.0); uses = (gone.uses, g.uses, h.1) }

  slots_there : (s : Session W) (gone n : Counts) → AreGone s gone → SlotsFit s gone n → HasSlots s n
  slots_there s gone n g h = record { ops = (gone.ops, g.ops, h.0); blocks = (gone.blocks, g.blocks, h.1); regions = (gone.regions, g.regions, h.2) }

  numbers_so : (s : Session W) (gone n : Counts) → AreGone s gone → HasNumbers s n ⊎ LacksNumbers s n
  numbers_so s gone n g = elim (at_most (gone.numbers + n.numbers) s.limits.values) [
    | inr h ↦ inr (inl (gone.numbers, g.numbers, above _ _ h))
    | inl h ↦ elim (at_most (gone.uses + n.uses) s.limits.uses) [ inr l ↦ inr (inr (gone.uses, g.uses, above _ _ l)) | inl l ↦ inl (numbers_there s gone n g (h, l)) ]
  ]

  slots_so : (s : Session W) (gone n : Counts) → AreGone s gone → HasSlots s n ⊎ LacksSlots s n
  slots_so s gone n g = elim (at_most (gone.ops + n.ops) s.limits.slots) [
    | inr h ↦ inr (inl (gone.ops, g.ops, above _ _ h))
    | inl h ↦ elim (at_most (gone.blocks + n.blocks) s.limits.slots) [
      | inr l ↦ inr (inr (inl (gone.blocks, g.blocks, above _ _ l)))
      | inl l ↦ elim (at_most (gone.regions + n.regions) s.limits.slots) [ inr m ↦ inr (inr (inr (gone.regions, g.regions, above _ _ m))) | inl m ↦ inl (slots_there s gone n g (h, l, m)) ]
    ]
  ]

  -- how many ids the edit needs
  abbrev ids_needed : Edit W → ℕ
  ids_needed edit = (needs edit).ops + (needs edit).blocks + (needs edit).regions

  -- an edit that needs ids may run out of memory
  runs_out_or_needs_none : (s : State context_ids W) (edit : Edit W) → MayRunOut s edit ⊎ (1 ≤ ids_needed edit → ⊥)
  runs_out_or_needs_none s (NewOp kind types operands successors regions) = inl tt
  runs_out_or_needs_none s (NewBlock label types) = inl tt
  runs_out_or_needs_none s (AddRegion n) = inl tt
  runs_out_or_needs_none s _ = inr (λ some. omega (arith, some))

module _ {W : Dialect} (B : Behaviour W) where
  -- the edit is made
  make : (edit : Edit W) (s : Session W) → Sound s → (1 ≤ ids_needed edit → 1 ≤ s.limits.last_version) → Condition s.state edit → HasNumbers s (needs edit) → HasSlots s (needs edit) → (t : Session W) × Step B s edit (reply s.state edit) t
  make edit s k first c n m =
      let ops = supply_ids s.limits s.passed.ops (live_op s.state) (λ i. some_so (s.state.forest.ops i)) (needs edit).ops (λ some. first (omega (arith, some))) m.ops in
      let blocks = supply_ids s.limits s.passed.blocks (live_block s.state) (λ i. some_so (s.state.forest.blocks i)) (needs edit).blocks (λ some. first (omega (arith, some))) m.blocks in
      let regions = supply_ids s.limits s.passed.regions (live_region s.state) (λ i. some_so (s.state.forest.regions i)) (needs edit).regions (λ some. first (omega (arith, some))) m.regions in
      let numbers = supply_numbers s.limits.values s.passed.numbers (needs edit).numbers n.values in
      let uses = supply_numbers s.limits.uses s.passed.uses (needs edit).uses n.uses in
      let new : Fresh context_ids = record { ops = ops.0; blocks = blocks.0; regions = regions.0; numbers = numbers.0; uses = uses.0 } in
      let enough : counts context_ids new ≡ needs edit = (λ i. record { ops = ops.2 i; blocks = blocks.2 i; regions = regions.2 i; numbers = numbers.2 i; uses = uses.2 i }) in
      let after = change_is B s k new edit c enough in (
        record s {
          state = after.0;
          passed = record {
            ops = λ i. s.passed.ops i || list_any (λ j. same_id j i) ops.0;
            blocks = λ i. s.passed.blocks i || list_any (λ j. same_id j i) blocks.0;
            regions = λ i. s.passed.regions i || list_any (λ j. same_id j i) regions.0;
            numbers = λ i. s.passed.numbers i || list_any (λ j. eqb j i) numbers.0;
            uses = λ i. s.passed.uses i || list_any (λ j. eqb j i) uses.0;
          };
        },
        made c n m refl (record {
          new = new;
          enough = enough;
          distinct = record { ops = ops.1; blocks = blocks.1; regions = regions.1; numbers = numbers.1; uses = uses.1 };
          are_new = record { ops = ops.3; blocks = blocks.3; regions = regions.3; numbers = numbers.3; uses = uses.3 };
          change = after.1;
          passed = record {
            ops = more_iff same_id id_tells s.passed.ops ops.0;
            blocks = more_iff same_id id_tells s.passed.blocks blocks.0;
            regions = more_iff same_id id_tells s.passed.regions regions.0;
            numbers = more_iff eqb number_tells s.passed.numbers numbers.0;
            uses = more_iff eqb number_tells s.passed.uses uses.0;
          };
          beside = refl;
          limits = refl;
        }),
      )

  pub room_is_enough : RoomIsEnough W B
  room_is_enough edit s k c r =
      let n = subst (HasNumbers s) (sym (takes_so s.state edit)) (numbers_there s r.gone (line s.state edit).takes r.are_gone r.numbers) in
      let m = subst (HasSlots s) (sym (takes_so s.state edit)) (slots_there s r.gone (line s.state edit).takes r.are_gone r.slots) in
      let first = subst (λ (x : Counts). 1 ≤ x.ops + x.blocks + x.regions → 1 ≤ s.limits.last_version) (sym (takes_so s.state edit)) r.first_version in
      let t = make edit s k first c n m in
      (t.0, subst (λ a. Step B s edit a t.0) (answers_so s.state edit) t.1)

  pub sound_sessions_go_on : SoundSessionsGoOn W B
  sound_sessions_go_on edit s k = by (condition_so s k edit) (numbers_so s (k.counted).0 (needs edit) (k.counted).1) (slots_so s (k.counted).0 (needs edit) (k.counted).1)
    where
      by : Decided (Condition s.state edit) → HasNumbers s (needs edit) ⊎ LacksNumbers s (needs edit) → HasSlots s (needs edit) ⊎ LacksSlots s (needs edit) → HasStep B s edit
      by (inr fails) n m = record { given = Refused ForCondition; after = s; step = condition fails refl refl }
      by (inl c) (inr n) m = record { given = Refused Counter; after = s; step = counter c n refl (skips_nothing s edit) }
      by (inl c) (inl n) (inr m) = record { given = Refused Slots; after = s; step = slots c n m refl (skips_nothing s edit) }
      by (inl c) (inl n) (inl m) = elim (runs_out_or_needs_none s.state edit) [
        | inl may ↦ record { given = Refused Memory; after = s; step = memory c n m may refl (skips_nothing s edit) }
        | inr none ↦ (let t = make edit s k (λ some. absurd (none some)) c n m in record { given = reply s.state edit; after = t.0; step = t.1 })
      ]

  pub runs_are_counted : RunsAreCounted W B
  runs_are_counted edits s t answers n r = (runs_sound B edits s t answers (new_sound s n) r).counted

  pub runs_go_on : RunsGoOn W B
  runs_go_on edits s t answers edit n r = sound_sessions_go_on edit t (runs_sound B edits s t answers (new_sound s n) r)

  pub new_sessions_step : NewSessionsStep W B
  new_sessions_step s edit n = sound_sessions_go_on edit s (new_sound s n)

  pub closed_can_go : ClosedCanGo W B
  closed_can_go s e k closed =
      let g = removes_it B s k e in
      (g.0, g.1, (Removes-kept lawful s.state.forest g.0 e (length s.state.store) k.forest g.1 [] closed).forest)

  -- an erasing step takes out what it names
  taken_out : (edit : Edit W) (s : Session W) (e : Entity context_ids) → Sound s → Condition s.state edit → IsRoomFor s (line s.state edit).takes → (line s.state edit).answer ≡ Done
      → ((t : Session W) → (m : Makes B s edit t) → Removes s.state.forest e t.state.forest) → IsTakenOut B s edit e
  taken_out edit s e k c r done removes =
      let t = room_is_enough edit s k c r in
      let step : Step B s edit Done t.0 = subst (λ a. Step B s edit a t.0) done t.1 in
      record {
        after = t.0;
        step = step;
        removed = removes t.0 (makes_by W B edit s t.0 (line s.state edit).answer refl t.1);
        well_formed = (steps_sound B edit s t.0 Done k step).forest;
      }

  pub closed_are_erased : ClosedAreErased W B
  closed_are_erased = record {
    ops = λ s n o k r e live closed. (
        let found = list_there (s.state.forest.ops o) live in
        taken_out (EraseOp n) s (an_op o) k (record { value = o; found = e; holds = record { value = found.value; found = found.found; holds = closed } }) r refl (λ t m. (the_one m.change o e).0));
    blocks = λ s n b k r e live closed. (
        let found = list_there (s.state.forest.blocks b) live in
        taken_out (EraseBlock n) s (a_block b) k (record { value = b; found = e; holds = record { value = found.value; found = found.found; holds = closed } }) r refl (λ t m. (the_one m.change b e).0));
    regions = λ s n at o g k r e i closed. (
        let found = region_at (s.state.forest.ops o) at g i in
        taken_out (EraseRegion n at) s (a_region g) k (record { value = o; found = e; holds = record { value = found.value; found = found.found; holds = record { value = g; found = found.holds; holds = closed } } }) r refl
        (λ t m. (the_one (the_one (the_one m.change o e) found.value found.found) g found.holds).0));
  }
    where
      region_at : (m : Option (OpRecord context_ids W)) (at : ℕ) (g : ArenaIndex) → slice_get (list_of (λ (q : OpRecord context_ids W). q.regions) m) at ≡ Some g → The m (λ q. slice_get q.regions at ≡ Some g)
      region_at None at g h = absurd cc
      region_at (Some q) at g h = record { value = q; found = refl; holds = h }
