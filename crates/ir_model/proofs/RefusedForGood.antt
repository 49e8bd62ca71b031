-- What was handed out and is gone stays gone.
use mathlib.Core.Path.{◌≡◌}
use Rattle.std.proofs.Common.{ℕ, inl, inr, Bool, true, false, List, [], ◌∷◌, IsTrue}
use Rattle.ir_model.specs.Ids.{Fresh}
use Rattle.ir_model.specs.ContextIds.{context_ids}
use Rattle.ir_model.specs.Forest.{Dialect, Behaviour, Value}
use Rattle.ir_model.specs.Edits.{Edit, Condition}
use Rattle.ir_model.specs.declared.answer.Answer.{Answer}
use Rattle.ir_model.specs.declared.ids.ArenaIndex.{ArenaIndex}
use Rattle.ir_model.specs.Sessions.{Session, Step, condition, counter, slots, memory, made, Run, live_op, live_block, live_region, Skips, Makes, Passed, Passes}
use Rattle.ir_model.specs.Soundness.{Sound}
use Rattle.ir_model.specs.Gone.{StaysGone, GoneForGood, ErasedAreGone}
use Rattle.ir_model.proofs.Nests.{In-map}
use Rattle.ir_model.proofs.TwoRuns.{lawful, new_unpassed}
use Rattle.ir_model.proofs.Back.{Change-back}
use Rattle.ir_model.proofs.Grows.{Grows, new_not_in}
use Rattle.ir_model.proofs.GrowsEach.{grows_each}
use Rattle.ir_model.proofs.StepSound.{steps_sound}

-- all that was passed has passed
pub record Remembers (old new : Passed) : Type 0 where
  pub ops : (i : ArenaIndex) → IsTrue (old.ops i) → IsTrue (new.ops i)
  pub blocks : (i : ArenaIndex) → IsTrue (old.blocks i) → IsTrue (new.blocks i)
  pub regions : (i : ArenaIndex) → IsTrue (old.regions i) → IsTrue (new.regions i)
  pub numbers : (n : ℕ) → IsTrue (old.numbers n) → IsTrue (new.numbers n)
  pub uses : (u : ℕ) → IsTrue (old.uses u) → IsTrue (new.uses u)

remembered : (old new : Passed) (fresh : Fresh context_ids) → Passes old fresh new → Remembers old new
remembered old new fresh p = record {
  ops = λ i h. (p.ops i).1 (inl h);
  blocks = λ i h. (p.blocks i).1 (inl h);
  regions = λ i h. (p.regions i).1 (inl h);
  numbers = λ i h. (p.numbers i).1 (inl h);
  uses = λ i h. (p.uses i).1 (inl h);
}

all_remembered : (p : Passed) → Remembers p p
all_remembered p = record { ops = λ i h. h; blocks = λ i h. h; regions = λ i h. h; numbers = λ i h. h; uses = λ i h. h }

-- the one is passed, and the other is new
pub clash : {A : Type 0} (passed : A → Bool) (x : A) → IsTrue (passed x) → passed x ≡ false → ⊥
clash passed x h e = (let t : passed x ≡ true = h in cc)

module _ {W : Dialect} where
  all_stays : (s : Session W) → StaysGone s s
  all_stays s = record { ops = λ i g. g; blocks = λ i g. g; regions = λ i g. g; numbers = λ i g. g; uses = λ i g. g }

  then_stays : (s t u : Session W) → StaysGone s t → StaysGone t u → StaysGone s u
  then_stays s t u a b = record {
    ops = λ i g. b.ops i (a.ops i g);
    blocks = λ i g. b.blocks i (a.blocks i g);
    regions = λ i g. b.regions i (a.regions i g);
    numbers = λ i g. b.numbers i (a.numbers i g);
    uses = λ i g. b.uses i (a.uses i g);
  }

  skips_stay : (s t : Session W) (edit : Edit W) → Skips s edit t → StaysGone s t
  skips_stay s t edit k =
      let r = remembered s.passed t.passed k.skipped k.passed in
      record {
        ops = λ i g. (r.ops i g.0, rw k.state g.1);
        blocks = λ i g. (r.blocks i g.0, rw k.state g.1);
        regions = λ i g. (r.regions i g.0, rw k.state g.1);
        numbers = λ i g. (r.numbers i g.0, rw k.state g.1);
        uses = λ i g. (r.uses i g.0, rw k.state g.1);
      }

  module _ (B : Behaviour W) where
    makes_stay : (s t : Session W) (edit : Edit W) → Sound s → Condition s.state edit → Makes B s edit t → StaysGone s t
    makes_stay s t edit k c m =
        let r = remembered s.passed t.passed m.new m.passed in
        let back = Change-back B lawful edit s.state t.state m.new m.change in
        let grows : Grows s.state t.state m.new = grows_each B lawful edit s.state t.state m.new k.forest k.stored c m.enough (new_not_in B s t edit k m) m.change in
        record {
          ops = λ i g. (r.ops i g.0, λ h. elim (back.ops i h) [ inl l ↦ g.1 l | inr n ↦ clash s.passed.ops i g.0 (new_unpassed s.limits s.passed.ops (live_op s.state) i (m.are_new.ops i n)) ]);
          blocks = λ i g. (r.blocks i g.0, λ h. elim (back.blocks i h) [ inl l ↦ g.1 l | inr n ↦ clash s.passed.blocks i g.0 (new_unpassed s.limits s.passed.blocks (live_block s.state) i (m.are_new.blocks i n)) ]);
          regions = λ i g. (r.regions i g.0, λ h. elim (back.regions i h) [ inl l ↦ g.1 l | inr n ↦ clash s.passed.regions i g.0 (new_unpassed s.limits s.passed.regions (live_region s.state) i (m.are_new.regions i n)) ]);
          numbers = λ n g. (r.numbers n g.0, λ h. elim (grows.live_values (record { definer = h.0; number = n }) h.1) [ inl l ↦ g.1 (h.0, l) | inr i ↦ clash s.passed.numbers n g.0 (m.are_new.numbers n i.1).1 ]);
          uses = λ u g. (r.uses u g.0, λ h. elim (grows.uses h.0 u h.1) [ inl l ↦ g.1 (h.0, l) | inr i ↦ clash s.passed.uses u g.0 (m.are_new.uses u i).1 ]);
        }

    step_stays : (s t : Session W) (edit : Edit W) (a : Answer) → Sound s → Step B s edit a t → StaysGone s t
    step_stays s t edit a k (condition c e f) = rw f (all_stays s)
    step_stays s t edit a k (counter c n e p) = skips_stay s t edit p
    step_stays s t edit a k (slots c n m e p) = skips_stay s t edit p
    step_stays s t edit a k (memory c n m x e p) = skips_stay s t edit p
    step_stays s t edit a k (made c n m e p) = makes_stay s t edit k c p

    pub gone_for_good : GoneForGood W B
    gone_for_good [] s t answers k r = rw r.1 (all_stays s)
    gone_for_good (edit ∷ rest) s t answers k r =
        then_stays s r.2 t (step_stays s r.2 edit r.0 k r.4) (gone_for_good rest r.2 t r.1 (steps_sound B edit s r.2 r.0 k r.4) r.5)

    pub step_remembers : (s t : Session W) (edit : Edit W) (a : Answer) → Step B s edit a t → Remembers s.passed t.passed
    step_remembers s t edit a (condition c e f) = rw f (all_remembered s.passed)
    step_remembers s t edit a (counter c n e p) = remembered s.passed t.passed p.skipped p.passed
    step_remembers s t edit a (slots c n m e p) = remembered s.passed t.passed p.skipped p.passed
    step_remembers s t edit a (memory c n m x e p) = remembered s.passed t.passed p.skipped p.passed
    step_remembers s t edit a (made c n m e p) = remembered s.passed t.passed p.new p.passed

    then_remembers : (a b c : Passed) → Remembers a b → Remembers b c → Remembers a c
    then_remembers a b c p q = record {
      ops = λ i h. q.ops i (p.ops i h);
      blocks = λ i h. q.blocks i (p.blocks i h);
      regions = λ i h. q.regions i (p.regions i h);
      numbers = λ i h. q.numbers i (p.numbers i h);
      uses = λ i h. q.uses i (p.uses i h);
    }

    pub run_remembers : (edits : List (Edit W)) (s t : Session W) (answers : List Answer) → Run B s edits answers t → Remembers s.passed t.passed
    run_remembers [] s t answers r = rw r.1 (all_remembered s.passed)
    run_remembers (edit ∷ rest) s t answers r = then_remembers s.passed (r.2).passed t.passed (step_remembers s r.2 edit r.0 r.4) (run_remembers rest r.2 t r.1 r.5)

    pub erased_are_gone : ErasedAreGone W B
    erased_are_gone edits s t answers k run =
        let r = run_remembers edits s t answers run in
        record {
          ops = λ i l n. (r.ops i (k.passed.ops i (k.listed.ops i l)), n);
          blocks = λ i l n. (r.blocks i (k.passed.blocks i (k.listed.blocks i l)), n);
          regions = λ i l n. (r.regions i (k.passed.regions i (k.listed.regions i l)), n);
          numbers = λ m l n. (
              let v : Value context_ids = record { definer = l.0; number = m } in
              (r.numbers m (k.passed.numbers m (In-map (λ (v : Value context_ids). v.number) v s.state.tables.values (k.listed.values v l.1))), n));
          uses = λ u l n. (r.uses u (k.passed.uses l.0 u l.1), n);
        }
