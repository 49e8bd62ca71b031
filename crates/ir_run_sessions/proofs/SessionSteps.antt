-- A step of a session, from what the calls of its context promise.
use Rattle.std.proofs.Common.{◌≡◌, refl, ap, subst, ◌∙◌, inl, inr, ℕ, ◌+◌, ◌↔◌, List, [], arith, Ok, Err, Result}
use Rattle.ir_model.specs.declared.answer.Answer.{Answer}
use Rattle.ir_model.specs.declared.error.CoreError.{CoreError}
use Rattle.ir_model.specs.declared.error.CoreError.TheVariants.{OutOfMemory, CounterSpent, SlotsSpent}
use Rattle.ir_model.specs.ContextIds.{context_ids}
use Rattle.ir_model.specs.Ids.{Fresh, Counts}
use Rattle.ir_model.specs.Forest.{Dialect, Behaviour, Forest}
use Rattle.ir_model.specs.Edits.{Edit, State as Holds, StoredType, Tables, Condition, Change, MayRunOut, needs, no_needs, answer as reply}
use Rattle.ir_model.specs.Sessions.{Passed, Passes, Session, Skips, Step, counter, slots, memory, made, HasNumbers, HasSlots, LacksNumbers, LacksSlots}
use Rattle.ir_model.specs.Soundness.{AreGone, IsCounted, Sound}
use Rattle.ir_model.proofs.Decided.{at_most}
use Rattle.ir_model.proofs.Supply.{above}
use Rattle.ir_core_queries.specs.State.{ContextState, bare, session_of}
use Rattle.ir_core_queries.specs.Calls.{HandsOut, SkipsAtMost, block_needs, op_needs, region_needs}
use Rattle.ir_core_records.specs.Meaning.{closed}
use Rattle.ir_run_sessions.specs.SessionTables.{answer_of}

-- there is room for so much
pub record HasRoom {W : Dialect} (s : Session W) (n : Counts) : Type 0 where
  pub numbers : HasNumbers s n
  pub slots : HasSlots s n

-- a refusal for this reason tells what there is room for
pub record Tells {W : Dialect} (s : Session W) (n : Counts) (e : CoreError) : Type 0 where
  pub memory : e ≡ OutOfMemory → HasRoom s n
  pub counter : e ≡ CounterSpent → LacksNumbers s n
  pub slots : e ≡ SlotsSpent → HasNumbers s n × LacksSlots s n

-- what is counted doesn't lack room exactly where there is
module _ {W : Dialect} (s : Session W) (n : Counts) where
  numbers_there : (gone : Counts) → AreGone s gone → (LacksNumbers s n → ⊥) → HasNumbers s n
  numbers_there gone g h = elim (at_most (gone.numbers + n.numbers) s.limits.values) [
    | inr no_more ↦ absurd (h (inl (gone.numbers, g.numbers, above _ _ no_more)))
    | inl values ↦ elim (at_most (gone.uses + n.uses) s.limits.uses) [
      | inr no_more ↦ absurd (h (inr (gone.uses, g.uses, above _ _ no_more)))
      | inl uses ↦ record { values = (gone.numbers, g.numbers, values); uses = (gone.uses, g.uses, uses) }
    ]
  ]

  slots_there : (gone : Counts) → AreGone s gone → (LacksSlots s n → ⊥) → HasSlots s n
  slots_there gone g h = elim (at_most (gone.ops + n.ops) s.limits.slots) [
    | inr no_more ↦ absurd (h (inl (gone.ops, g.ops, above _ _ no_more)))
    | inl ops ↦ elim (at_most (gone.blocks + n.blocks) s.limits.slots) [
      | inr no_more ↦ absurd (h (inr (inl (gone.blocks, g.blocks, above _ _ no_more))))
      | inl blocks ↦ elim (at_most (gone.regions + n.regions) s.limits.slots) [
        | inr no_more ↦ absurd (h (inr (inr (gone.regions, g.regions, above _ _ no_more))))
        | inl regions ↦ record { ops = (gone.ops, g.ops, ops); blocks = (gone.blocks, g.blocks, blocks); regions = (gone.regions, g.regions, regions) }
      ]
    ]
  ]

  room_there : IsCounted s → (LacksNumbers s n → ⊥) → (HasNumbers s n → LacksSlots s n → ⊥) → HasRoom s n
  room_there k no_lack h =
      let numbers = numbers_there k.0 k.1 no_lack in
      record { numbers = numbers; slots = slots_there k.0 k.1 (h numbers) }

abbrev pub no_fresh : Fresh context_ids
no_fresh = record { ops = []; blocks = []; regions = []; numbers = []; uses = [] }

-- what is asked for an operation, a block and a region
module _ (none : Counts) (is_none : none ≡ no_needs) where
  pub op_asked : (results uses regions : ℕ) → record none { ops = 1; regions = regions; numbers = results; uses = uses } ≡ op_needs results uses regions
  op_asked results uses regions = ap (λ (n : Counts). record n { ops = 1; regions = regions; numbers = results; uses = uses }) is_none

  pub block_asked : (arguments : ℕ) → record none { blocks = 1; numbers = arguments } ≡ block_needs arguments
  block_asked arguments = ap (λ (n : Counts). record n { blocks = 1; numbers = arguments }) is_none

  pub region_asked : record none { regions = 1 } ≡ region_needs
  region_asked = ap (λ (n : Counts). record n { regions = 1 }) is_none

-- where there is room and a call is refused, it is for memory
pub tells_memory : {W : Dialect} (s : Session W) (n : Counts) → HasRoom s n → Tells s n OutOfMemory
tells_memory s n room = record { memory = λ is. room; counter = λ is. absurd cc; slots = λ is. absurd cc }

-- where nothing was handed out nothing is passed
pub passes_none : (p : Passed) → Passes p no_fresh p
passes_none p = record {
  ops = λ i. (λ h. inl h, λ h. elim h [ inl k ↦ k | inr k ↦ absurd k ]);
  blocks = λ i. (λ h. inl h, λ h. elim h [ inl k ↦ k | inr k ↦ absurd k ]);
  regions = λ i. (λ h. inl h, λ h. elim h [ inl k ↦ k | inr k ↦ absurd k ]);
  numbers = λ i. (λ h. inl h, λ h. elim h [ inl k ↦ k | inr k ↦ absurd k ]);
  uses = λ i. (λ h. inl h, λ h. elim h [ inl k ↦ k | inr k ↦ absurd k ]);
}

-- where nothing was done nothing was skipped
pub skips_none : {W : Dialect} (s : Session W) (n : Counts) → SkipsAtMost s s n
skips_none s n = record {
  forest = refl;
  store = refl;
  beside = refl;
  limits = refl;
  skipped = no_fresh;
  within = record { ops = omega arith; blocks = omega arith; regions = omega arith; numbers = omega arith; uses = omega arith };
  were_new = record { ops = λ i h. absurd h; blocks = λ i h. absurd h; regions = λ i h. absurd h; numbers = λ i h. absurd h; uses = λ i h. absurd h };
  passed = passes_none s.passed;
}

abbrev holds : {W : Dialect} → Forest context_ids W → List (StoredType W) → Tables context_ids → Holds context_ids W
holds f st tb = record { forest = f; store = st; tables = tb }

pub same-state : {W : Dialect} (f g : Forest context_ids W) (st su : List (StoredType W)) (tb tc : Tables context_ids) → f ≡ g → st ≡ su → tb ≡ tc → holds f st tb ≡ holds g su tc
same-state f g st su tb tc p q r = ap (λ x. holds x st tb) p ∙ ap (λ x. holds g x tb) q ∙ ap (λ x. holds g su x) r

-- what a call tells of room
module _ {D A K B S X L : Type 0} (c : ContextState D A K B S X L) (tb : Tables context_ids) where
  also_counted : (gone : Counts) → AreGone (session_of c tb) gone → AreGone (bare c) gone
  also_counted gone g = record { numbers = g.numbers; uses = g.uses; ops = g.ops; blocks = g.blocks; regions = g.regions }

  module _ (Out : Type 0) (n : Counts) (k : Sound (session_of c tb)) where
    abbrev okay : Out → Result Out CoreError
    okay a = Ok a

    abbrev err : CoreError → Result Out CoreError
    err e = Err e

    room_unless : (LacksNumbers (bare c) n → ⊥) → (HasNumbers (bare c) n → LacksSlots (bare c) n → ⊥) → HasRoom (bare c) n
    room_unless = room_there (bare c) n ((k.counted).0, also_counted (k.counted).0 (k.counted).1)

    -- a call that isn't refused tells that there is room
    pub room_found : (a : Out) → ((okay a ≡ err CounterSpent) ↔ LacksNumbers (bare c) n) → ((okay a ≡ err SlotsSpent) ↔ (HasNumbers (bare c) n × LacksSlots (bare c) n)) → HasRoom (bare c) n
    room_found a told_counter told_slots =
        room_unless (λ l. let e : okay a ≡ err CounterSpent = told_counter.1 l in absurd cc) (λ h l. let e : okay a ≡ err SlotsSpent = told_slots.1 (h, l) in absurd cc)

    -- and one that is refused tells why
    pub refusal_tells : (e : CoreError) → ((err e ≡ err CounterSpent) ↔ LacksNumbers (bare c) n) → ((err e ≡ err SlotsSpent) ↔ (HasNumbers (bare c) n × LacksSlots (bare c) n)) → Tells (bare c) n e
    refusal_tells e told_counter told_slots = record {
      memory = λ is. room_unless (λ l. let f : err e ≡ err CounterSpent = told_counter.1 l in absurd cc) (λ h l. let f : err e ≡ err SlotsSpent = told_slots.1 (h, l) in absurd cc);
      counter = λ is. told_counter.0 (ap err is);
      slots = λ is. told_slots.0 (ap err is);
    }

module _ {D A K B S X L : Type 0} (behave : Behaviour (closed A K B S X L)) (c : ContextState D A K B S X L) (tb : Tables context_ids) where
  -- what there is room for doesn't depend on the tables
  also_numbers : (n : Counts) → HasNumbers (bare c) n → HasNumbers (session_of c tb) n
  also_numbers n h = record { values = h.values; uses = h.uses }

  also_slots : (n : Counts) → HasSlots (bare c) n → HasSlots (session_of c tb) n
  also_slots n h = record { ops = h.ops; blocks = h.blocks; regions = h.regions }

  module _ (edit : Edit (closed A K B S X L)) (may : Condition (session_of c tb).state edit) where
    abbrev s : Session (closed A K B S X L)
    s = session_of c tb

    module _ (d : ContextState D A K B S X L) (tc : Tables context_ids) (kept : tc ≡ tb) (skips : SkipsAtMost (bare c) (bare d) (needs edit)) where
      skipped : Skips s edit (session_of d tc)
      skipped = record {
        state = same-state _ _ _ _ _ _ skips.forest skips.store kept;
        beside = skips.beside;
        limits = skips.limits;
        skipped = skips.skipped;
        within = skips.within;
        were_new = record { ops = skips.were_new.ops; blocks = skips.were_new.blocks; regions = skips.were_new.regions; numbers = skips.were_new.numbers; uses = skips.were_new.uses };
        passed = skips.passed;
      }

      refused_so : (e : CoreError) → MayRunOut s.state edit → Tells (bare c) (needs edit) e → Step behave s edit (answer_of (Err e)) (session_of d tc)
      refused_so OutOfMemory runs_out t = let room = t.memory refl in memory may (also_numbers (needs edit) room.numbers) (also_slots (needs edit) room.slots) runs_out refl skipped
      refused_so CounterSpent runs_out t = counter may (t.counter refl) refl skipped
      refused_so SlotsSpent runs_out t = let lack = t.slots refl in slots may (also_numbers (needs edit) lack.0) lack.1 refl skipped

    -- the edit is refused
    pub refused : (n : Counts) → n ≡ needs edit → (e : CoreError) → MayRunOut s.state edit → Tells (bare c) n e
        → (d : ContextState D A K B S X L) (tc : Tables context_ids) → tc ≡ tb → SkipsAtMost (bare c) (bare d) n → Step behave s edit (answer_of (Err e)) (session_of d tc)
    refused n is e runs_out t d tc kept skips =
        let P : Counts → Type 0 = λ m. Tells (bare c) m e in
        let Q : Counts → Type 0 = λ m. SkipsAtMost (bare c) (bare d) m in
        refused_so d tc kept (subst Q is skips) e runs_out (subst P is t)

    -- the edit is made, with new ids and numbers that were handed out
    pub made_so : (m : Counts) → m ≡ needs edit → HasRoom (bare c) m → (d : ContextState D A K B S X L) (tc : Tables context_ids) (fresh : Fresh context_ids) (n : Counts) → n ≡ needs edit → HandsOut (bare c) (bare d) n fresh
        → Change behave s.state edit fresh (session_of d tc).state → (a : Answer) → a ≡ reply s.state edit → Step behave s edit a (session_of d tc)
    made_so m asked room d tc fresh n is handed change a says =
        let P : Counts → Type 0 = λ k. HasRoom (bare c) k in
        let there = subst P asked room in
        made may (also_numbers (needs edit) there.numbers) (also_slots (needs edit) there.slots) says (record {
          new = fresh;
          enough = handed.enough ∙ is;
          distinct = handed.distinct;
          are_new = record { ops = handed.are_new.ops; blocks = handed.are_new.blocks; regions = handed.are_new.regions; numbers = handed.are_new.numbers; uses = handed.are_new.uses };
          change = change;
          passed = handed.passed;
          beside = handed.beside;
          limits = handed.limits;
        })
