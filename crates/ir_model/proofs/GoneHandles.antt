-- What was refused stays refused, by the pairs that callers hold.
use mathlib.Core.Path.{◌≡◌, sym, subst}
use Rattle.std.proofs.Common.{ℕ, inl, inr, List, [], ◌∷◌, ◌++◌, map, Option, Some, None, IsTrue}
use Rattle.ir_model.specs.declared.ids.ArenaIndex.{ArenaIndex}
use Rattle.ir_model.specs.declared.answer.Answer.{Answer}
use Rattle.ir_model.specs.Ids.{Distinct}
use Rattle.ir_model.specs.ContextIds.{context_ids}
use Rattle.ir_model.specs.Forest.{Dialect, Behaviour, Definer, Value, OpRecord}
use Rattle.ir_model.specs.Nesting.{In, list_of, use_numbers_of}
use Rattle.ir_model.specs.Edits.{Edit, Condition}
use Rattle.ir_model.specs.Sessions.{Session, Step, condition, counter, slots, memory, made, Run, Skips, Makes}
use Rattle.ir_model.specs.Soundness.{Sound}
use Rattle.ir_model.specs.GoneHandles.{HasDefinition, HasOperand, HasSuccessor, RunsKeepNumbers, RefusedForGood}
use Rattle.ir_model.proofs.Nests.{In-map, In-left, In-right, not_in-Absent}
use Rattle.ir_model.proofs.TwoRuns.{lawful}
use Rattle.ir_model.proofs.Grows.{Grows, new_not_in}
use Rattle.ir_model.proofs.GrowsEach.{grows_each}
use Rattle.ir_model.proofs.StepSound.{steps_sound}
use Rattle.ir_model.proofs.RefusedForGood.{Remembers, step_remembers, clash}
use Rattle.ir_model.proofs.Places.{operand_numbers, successor_numbers, Change-places}

-- what stands in the front of a list without repeats does not stand behind it
front_only : {A : Type 0} (xs ys : List A) → Distinct (xs ++ ys) → (x : A) → In x xs → In x ys → ⊥
front_only [] ys d x h k = h
front_only (z ∷ xs) ys d x (inl e) k = not_in-Absent z (xs ++ ys) d.0 (In-right z xs ys (subst (λ y. In y ys) e k))
front_only (z ∷ xs) ys d x (inr h) k = front_only xs ys d.1 x h k

module _ {W : Dialect} where
  -- the numbers of the record are those of the operation
  operands_read : (x : Option (OpRecord context_ids W)) → map (λ p. p.use_number) (list_of (λ (r : OpRecord context_ids W). r.operands) x) ≡ list_of operand_numbers x
  operands_read None = λ i. []
  operands_read (Some r) = λ i. operand_numbers r

  successors_read : (x : Option (OpRecord context_ids W)) → map (λ p. p.use_number) (list_of (λ (r : OpRecord context_ids W). r.successors) x) ≡ list_of successor_numbers x
  successors_read None = λ i. []
  successors_read (Some r) = λ i. successor_numbers r

  -- what has a number that was handed out before had it before
  record Back (s t : Session W) : Type 0 where
    pub values : (d : Definer context_ids) (n : ℕ) → IsTrue (s.passed.numbers n) → HasDefinition t d n → HasDefinition s d n
    pub operands : (o : ArenaIndex) (u : ℕ) → IsTrue (s.passed.uses u) → HasOperand t o u → HasOperand s o u
    pub successors : (o : ArenaIndex) (u : ℕ) → IsTrue (s.passed.uses u) → HasSuccessor t o u → HasSuccessor s o u

  same_back : (s : Session W) → Back s s
  same_back s = record { values = λ d n p h. h; operands = λ o u p h. h; successors = λ o u p h. h }

  then_back : (s t u : Session W) → Remembers s.passed t.passed → Back s t → Back t u → Back s u
  then_back s t u r a b = record {
    values = λ d n p h. a.values d n p (b.values d n (r.numbers n p) h);
    operands = λ o n p h. a.operands o n p (b.operands o n (r.uses n p) h);
    successors = λ o n p h. a.successors o n p (b.successors o n (r.uses n p) h);
  }

  skips_back : (s t : Session W) (edit : Edit W) → Skips s edit t → Back s t
  skips_back s t edit k = record {
    values = λ d n p h. rw k.state at h;
    operands = λ o u p h. rw k.state at h;
    successors = λ o u p h. rw k.state at h;
  }

  module _ (B : Behaviour W) where
    makes_back : (s t : Session W) (edit : Edit W) → Sound s → Condition s.state edit → Makes B s edit t → Back s t
    makes_back s t edit k c m =
        let grows : Grows s.state t.state m.new = grows_each B lawful edit s.state t.state m.new k.forest k.stored c m.enough (new_not_in B s t edit k m) m.change in
        let places = Change-places B edit s.state t.state m.new m.change in
        record {
          values = λ d n p h. elim (grows.live_values (record { definer = d; number = n }) h) [ inl l ↦ l | inr i ↦ absurd (clash s.passed.numbers n p (m.are_new.numbers n i.1).1) ];
          operands = λ o u p h. elim (places.operands o u (subst (In u) (operands_read (t.state.forest.ops o)) h)) [
            | inl l ↦ subst (In u) (sym (operands_read (s.state.forest.ops o))) l
            | inr i ↦ absurd (clash s.passed.uses u p (m.are_new.uses u i).1)
          ];
          successors = λ o u p h. elim (places.successors o u (subst (In u) (successors_read (t.state.forest.ops o)) h)) [
            | inl l ↦ subst (In u) (sym (successors_read (s.state.forest.ops o))) l
            | inr i ↦ absurd (clash s.passed.uses u p (m.are_new.uses u i).1)
          ];
        }

    step_back : (s t : Session W) (edit : Edit W) (a : Answer) → Sound s → Step B s edit a t → Back s t
    step_back s t edit a k (condition c e f) = rw f (same_back s)
    step_back s t edit a k (counter c n e p) = skips_back s t edit p
    step_back s t edit a k (slots c n m e p) = skips_back s t edit p
    step_back s t edit a k (memory c n m x e p) = skips_back s t edit p
    step_back s t edit a k (made c n m e p) = makes_back s t edit k c p

    run_back : (edits : List (Edit W)) (s t : Session W) (answers : List Answer) → Sound s → Run B s edits answers t → Back s t
    run_back [] s t answers k r = rw r.1 (same_back s)
    run_back (edit ∷ rest) s t answers k r =
        then_back s r.2 t (step_remembers B s r.2 edit r.0 r.4) (step_back s r.2 edit r.0 k r.4) (run_back rest r.2 t r.1 (steps_sound B edit s r.2 r.0 k r.4) r.5)

    pub refused_for_good : RefusedForGood W B
    refused_for_good edits s t answers k r =
        let back = run_back edits s t answers k r in
        record {
          values = λ d n p refused h. refused (back.values d n p h);
          operands = λ o u p refused h. refused (back.operands o u p h);
          successors = λ o u p refused h. refused (back.successors o u p h);
        }

    pub runs_keep_numbers : RunsKeepNumbers W B
    runs_keep_numbers edits s t answers k r =
        let back = run_back edits s t answers k r in
        record {
          values = λ d e n h i. k.forest.numbers d e n h (back.values e n (number_passed d n h) i);
          operands = λ o p u h i. k.forest.uses o p u (operand_use o u h) (operand_use p u (back.operands p u (use_passed o u (operand_use o u h)) i));
          successors = λ o p u h i. k.forest.uses o p u (successor_use o u h) (successor_use p u (back.successors p u (use_passed o u (successor_use o u h)) i));
          operands_only = λ o p u h i. apart o p u h (back.successors p u (use_passed o u (operand_use o u h)) i);
          successors_only = λ o p u h i. apart p o u (back.operands p u (use_passed o u (successor_use o u h)) i) h;
        }
      where
        number_passed : (d : Definer context_ids) (n : ℕ) → HasDefinition s d n → IsTrue (s.passed.numbers n)
        number_passed d n h =
            let v : Value context_ids = record { definer = d; number = n } in
            k.passed.numbers n (In-map (λ (v : Value context_ids). v.number) v s.state.tables.values (k.listed.values v h))

        operand_use : (o : ArenaIndex) (u : ℕ) → HasOperand s o u → In u (use_numbers_of s.state.forest o)
        operand_use o u h = In-left u _ _ h

        successor_use : (o : ArenaIndex) (u : ℕ) → HasSuccessor s o u → In u (use_numbers_of s.state.forest o)
        successor_use o u h = In-right u _ _ h

        use_passed : (o : ArenaIndex) (u : ℕ) → In u (use_numbers_of s.state.forest o) → IsTrue (s.passed.uses u)
        use_passed o u h = k.passed.uses o u h

        apart : (o p : ArenaIndex) (u : ℕ) → HasOperand s o u → HasSuccessor s p u → ⊥
        apart o p u h i =
            let one : o ≡ p = k.forest.uses o p u (operand_use o u h) (successor_use p u i) in
            front_only _ _ (k.forest.uses_once p) u (subst (λ x. HasOperand s x u) one h) i
