-- The law on two runs.
use mathlib.Core.Path.{◌≡◌, refl, sym, ap, ◌∙◌, subst}
use Rattle.std.proofs.Common.{ℕ, ◌⊎◌, inl, inr, Bool, true, false, None, List, [], ◌∷◌, ◌&&◌, eqb, arith}
use Rattle.std.proofs.lemmas.Bool.{eqb-true, eq-eqb}
use Rattle.ir_model.specs.Ids.{Ids, Fresh, Absent, AllAbsent}
use Rattle.ir_model.specs.Forest.{Dialect, Behaviour}
use Rattle.ir_model.specs.Nesting.{In}
use Rattle.ir_model.specs.Edits.{Edit, NewType, State, Change, Condition, answer as reply}
use Rattle.ir_model.specs.declared.answer.Answer.{Answer}
use Rattle.ir_model.specs.declared.answer.Answer.TheVariants.{Refused}
use Rattle.ir_model.specs.declared.answer.Refused.TheVariants.{Condition as ForCondition}
use Rattle.ir_model.specs.Views.{view}
use Rattle.ir_model.specs.declared.ids.ArenaIndex.{ArenaIndex}
use Rattle.ir_model.specs.declared.ids.Limits.{Limits}
use Rattle.ir_model.specs.ContextIds.{context_ids, same_id}
use Rattle.ir_model.specs.Sessions.{Passed, Session, AreNew, IsNewId, Passes, Skips, Makes, Step, condition, counter, slots, memory, made, Run, IsSpared, SameRefusals, live_op, live_block, live_region, IsNewSession, TwoRuns}
use Rattle.ir_model.proofs.Renaming.{Tells}
use Rattle.ir_model.proofs.Loops.{Lawful}
use Rattle.ir_model.proofs.Simulation.{History, NewTo, Alike, RestsOn, RestsOn-more, Alike-more}
use Rattle.ir_model.proofs.Unique.{Change-unique}

pub number_tells : Tells eqb
number_tells a b = (eqb-true a b, eq-eqb a b)

and_both : (p q : Bool) → (p && q) ≡ true → (p ≡ true) × (q ≡ true)
and_both true q e = (refl, e)
and_both false q e = (e, absurd (cc))

pub id_tells : Tells same_id
id_tells a b = (
  λ e. let both = and_both (eqb a.slot b.slot) (eqb a.version b.version) e in λ i. record { slot = eqb-true a.slot b.slot both.0 i; version = eqb-true a.version b.version both.1 i },
  λ e. let s : eqb a.slot b.slot ≡ true = eq-eqb a.slot b.slot (ap (λ (x : ArenaIndex). x.slot) e) in let v : eqb a.version b.version ≡ true = eq-eqb a.version b.version (ap (λ (x : ArenaIndex). x.version) e) in rw (s, v),
)

pub lawful : Lawful context_ids
lawful = record { same_use = eqb; ops = id_tells; blocks = id_tells; regions = id_tells; numbers = number_tells; uses = number_tells }

-- what has passed is apart from what has not
absent_by : {A : Type 0} (p : A → Bool) (x : A) (ys : List A) → p x ≡ true → ((y : A) → In y ys → p y ≡ false) → Absent x ys
absent_by p x [] h k = tt
absent_by p x (y ∷ ys) h k = (
  λ e. (let f : p y ≡ false = k y (inl refl) in let g : p x ≡ p y = ap p e in cc),
  absent_by p x ys h (λ z at. k z (inr at)),
)

apart_by : {A : Type 0} (p : A → Bool) (xs ys : List A) → ((x : A) → In x xs → p x ≡ true) → ((y : A) → In y ys → p y ≡ false) → AllAbsent xs ys
apart_by p [] ys h k = tt
apart_by p (x ∷ xs) ys h k = (absent_by p x ys (h x (inl refl)) k, apart_by p xs ys (λ z at. h z (inr at)) k)

not_true : (b : Bool) → (b ≡ true → ⊥) → b ≡ false
not_true true h = absurd (h refl)
not_true false h = refl

pub new_unpassed : (limits : Limits) (passed : ArenaIndex → Bool) (live : ArenaIndex → Type 0) (i : ArenaIndex) → IsNewId limits passed live i → passed i ≡ false
new_unpassed limits passed live i new = not_true _ (λ h. elim new.3 [
  | inl first ↦ first.1 i h refl
  | inr later ↦ (let below = later.5 i h refl in omega arith)
])

-- what was made has passed
pub record HasPassed (passed : Passed) (m : Fresh context_ids) : Type 0 where
  pub ops : (i : ArenaIndex) → In i m.ops → passed.ops i ≡ true
  pub blocks : (i : ArenaIndex) → In i m.blocks → passed.blocks i ≡ true
  pub regions : (i : ArenaIndex) → In i m.regions → passed.regions i ≡ true
  pub numbers : (n : ℕ) → In n m.numbers → passed.numbers n ≡ true
  pub uses : (n : ℕ) → In n m.uses → passed.uses n ≡ true

abbrev AllPassed : Passed → History context_ids → Type 0
AllPassed passed [] = Unit {0}
AllPassed passed (m ∷ history) = HasPassed passed m × AllPassed passed history

new_to : {W : Dialect} (s : Session W) (new : Fresh context_ids) (history : History context_ids) → AreNew s new → AllPassed s.passed history → NewTo context_ids history new
new_to s new [] are all = tt
new_to s new (m ∷ history) are all = (
  record {
    ops = apart_by s.passed.ops m.ops new.ops all.0.ops (λ y at. new_unpassed s.limits s.passed.ops (live_op s.state) y (are.ops y at));
    blocks = apart_by s.passed.blocks m.blocks new.blocks all.0.blocks (λ y at. new_unpassed s.limits s.passed.blocks (live_block s.state) y (are.blocks y at));
    regions = apart_by s.passed.regions m.regions new.regions all.0.regions (λ y at. new_unpassed s.limits s.passed.regions (live_region s.state) y (are.regions y at));
    numbers = apart_by s.passed.numbers m.numbers new.numbers all.0.numbers (λ y at. (are.numbers y at).1);
    uses = apart_by s.passed.uses m.uses new.uses all.0.uses (λ y at. (are.uses y at).1);
  },
  new_to s new history are all.1,
)

still_passed : (old new : Passed) (m : Fresh context_ids) (history : History context_ids) → Passes old m new → AllPassed old history → AllPassed new history
still_passed old new m [] passes all = tt
still_passed old new m (was ∷ history) passes all = (
  record {
    ops = λ i at. (passes.ops i).1 (inl (all.0.ops i at));
    blocks = λ i at. (passes.blocks i).1 (inl (all.0.blocks i at));
    regions = λ i at. (passes.regions i).1 (inl (all.0.regions i at));
    numbers = λ i at. (passes.numbers i).1 (inl (all.0.numbers i at));
    uses = λ i at. (passes.uses i).1 (inl (all.0.uses i at));
  },
  still_passed old new m history passes all.1,
)

now_passed : (old new : Passed) (m : Fresh context_ids) → Passes old m new → HasPassed new m
now_passed old new m passes = record {
  ops = λ i at. (passes.ops i).1 (inr at);
  blocks = λ i at. (passes.blocks i).1 (inr at);
  regions = λ i at. (passes.regions i).1 (inr at);
  numbers = λ i at. (passes.numbers i).1 (inr at);
  uses = λ i at. (passes.uses i).1 (inr at);
}

abbrev States : Dialect → Ids → Type 0
States W N = State N W

module _ {W : Dialect} where
  -- nothing made yet
  abbrev pub empty : (N : Ids) → State N W
  empty N = record {
    forest = record { ops = λ _. None; blocks = λ _. None; regions = λ _. None };
    store = [];
    tables = record { types = []; ops = []; blocks = []; regions = []; values = [] };
  }

  pub new_is_empty : (s : Session W) → IsNewSession s → s.state ≡ empty context_ids
  new_is_empty s n = λ i. record {
    forest = record { ops = λ x. n.ops x i; blocks = λ x. n.blocks x i; regions = λ x. n.regions x i };
    store = n.store i;
    tables = n.tables i;
  }

module _ {W : Dialect} (B : Behaviour W) where
  -- the edit was refused by its condition, or for want of room or memory, or was made
  data Outcome (s : Session W) (edit : Edit W) (a : Answer) (t : Session W) : Type 0 where
    refused : (Condition s.state edit → ⊥) → a ≡ Refused ForCondition → t ≡ s → Outcome s edit a t
    spared : Condition s.state edit → IsSpared a → Skips s edit t → Outcome s edit a t
    done : Condition s.state edit → a ≡ reply s.state edit → Makes B s edit t → Outcome s edit a t

  outcome : (s : Session W) (edit : Edit W) (a : Answer) (t : Session W) → Step B s edit a t → Outcome s edit a t
  outcome s edit a t (condition c e f) = refused c e f
  outcome s edit a t (counter c n e k) = spared c (subst IsSpared (sym e) tt) k
  outcome s edit a t (slots c n m e k) = spared c (subst IsSpared (sym e) tt) k
  outcome s edit a t (memory c n m g e k) = spared c (subst IsSpared (sym e) tt) k
  outcome s edit a t (made c n m e k) = done c e k

  reply_unspared : {N : Ids} (s : State N W) (edit : Edit W) → IsSpared (reply s edit) → ⊥
  reply_unspared s (NewType key) h = h
  reply_unspared s _ h = h

  -- both sessions rest on what their runs made, all of it has passed, and the two are alike
  record Related (s t : Session W) : Type 1 where
    made_s : History context_ids
    made_t : History context_ids
    rests_s : RestsOn context_ids (States W) (s.state, made_s)
    rests_t : RestsOn context_ids (States W) (t.state, made_t)
    passed_s : AllPassed s.passed made_s
    passed_t : AllPassed t.passed made_t
    alike : Alike context_ids (States W) (s.state, made_s) (t.state, made_t)

  same_condition : (s t : Session W) (edit : Edit W) → Related s t → Condition s.state edit → Condition t.state edit
  same_condition s t edit r c = coe 0 1 (i. Condition {N = r.alike.names i} (r.alike.over i).0 edit) c

  other_condition : (s t : Session W) (edit : Edit W) → Related s t → Condition t.state edit → Condition s.state edit
  other_condition s t edit r c = coe 1 0 (i. Condition {N = r.alike.names i} (r.alike.over i).0 edit) c

  same_reply : (s t : Session W) (edit : Edit W) → Related s t → reply s.state edit ≡ reply t.state edit
  same_reply s t edit r = λ i. reply {N = r.alike.names i} (r.alike.over i).0 edit

  same_view : (s t : Session W) → Related s t → view s.state ≡ view t.state
  same_view s t r = λ i. view {N = r.alike.names i} (r.alike.over i).0

  skip : (s t s' t' : Session W) (edit : Edit W) → Related s t → Skips s edit s' → Skips t edit t' → Related s' t'
  skip s t s' t' edit r k m = record {
    made_s = r.made_s;
    made_t = r.made_t;
    rests_s = rw k.state r.rests_s;
    rests_t = rw m.state r.rests_t;
    passed_s = still_passed s.passed s'.passed k.skipped r.made_s k.passed r.passed_s;
    passed_t = still_passed t.passed t'.passed m.skipped r.made_t m.passed r.passed_t;
    alike = rw (k.state, m.state) r.alike;
  }

  make : (s t s' t' : Session W) (edit : Edit W) → Related s t → Makes B s edit s' → Makes B t edit t' → Related s' t'
  make s t s' t' edit r k m =
      let change = λ (M : Ids) (x : State M W) (new : Fresh M) (y : State M W). Change B x edit new y in
      let unique = λ (x a b : State context_ids W) (new : Fresh context_ids). Change-unique B edit x a b new in
      record {
        made_s = k.new ∷ r.made_s;
        made_t = m.new ∷ r.made_t;
        rests_s = RestsOn-more context_ids lawful (States W) change unique (s.state, r.made_s) k.new s'.state r.rests_s k.change;
        rests_t = RestsOn-more context_ids lawful (States W) change unique (t.state, r.made_t) m.new t'.state r.rests_t m.change;
        passed_s = (now_passed s.passed s'.passed k.new k.passed, still_passed s.passed s'.passed k.new r.made_s k.passed r.passed_s);
        passed_t = (now_passed t.passed t'.passed m.new m.passed, still_passed t.passed t'.passed m.new r.made_t m.passed r.passed_t);
        alike = Alike-more context_ids lawful (States W) change unique (s.state, r.made_s) (t.state, r.made_t) k.new m.new s'.state t'.state r.rests_t r.alike
            (new_to s k.new r.made_s k.are_new r.passed_s) (new_to t m.new r.made_t m.are_new r.passed_t) k.distinct m.distinct (k.enough ∙ sym m.enough) k.change m.change;
      }

  step : (s t s' t' : Session W) (edit : Edit W) (a b : Answer) → Related s t → Outcome s edit a s' → Outcome t edit b t' → (IsSpared a ⊎ IsSpared b → a ≡ b) → (a ≡ b) × Related s' t'
  step s t s' t' edit a b r (refused c e f) (refused d g h) same = (e ∙ sym g, rw (f, h) r)
  step s t s' t' edit a b r (refused c e f) (spared d g h) same = absurd (c (other_condition s t edit r d))
  step s t s' t' edit a b r (refused c e f) (done d g h) same = absurd (c (other_condition s t edit r d))
  step s t s' t' edit a b r (spared c e f) (refused d g h) same = absurd (d (same_condition s t edit r c))
  step s t s' t' edit a b r (spared c e f) (spared d g h) same = (same (inl e), skip s t s' t' edit r f h)
  step s t s' t' edit a b r (spared c e f) (done d g h) same = absurd (reply_unspared t.state edit (subst IsSpared (same (inl e) ∙ g) e))
  step s t s' t' edit a b r (done c e f) (refused d g h) same = absurd (d (same_condition s t edit r c))
  step s t s' t' edit a b r (done c e f) (spared d g h) same = absurd (reply_unspared s.state edit (subst IsSpared (sym (same (inr g)) ∙ e) g))
  step s t s' t' edit a b r (done c e f) (done d g h) same = (e ∙ same_reply s t edit r ∙ sym g, make s t s' t' edit r f h)

  along_runs : (edits : List (Edit W)) (s t s' t' : Session W) (answers others : List Answer) → Related s t
      → Run B s edits answers s' → Run B t edits others t' → SameRefusals answers others → (answers ≡ others) × (view s'.state ≡ view t'.state)
  along_runs [] s t s' t' answers others r p q same = (p.0 ∙ sym q.0, rw (p.1, q.1) (same_view s t r))
  along_runs (edit ∷ rest) s t s' t' answers others r p q same =
      let refusals : SameRefusals (p.0 ∷ p.1) (q.0 ∷ q.1) = rw (p.3, q.3) at same in
      let one = step s t p.2 q.2 edit p.0 q.0 r (outcome s edit p.0 p.2 p.4) (outcome t edit q.0 q.2 q.4) refusals.0 in
      let more = along_runs rest p.2 q.2 s' t' p.1 q.1 one.1 p.5 q.5 refusals.1 in
      (p.3 ∙ ap (λ x. x ∷ p.1) one.0 ∙ ap (λ xs. q.0 ∷ xs) more.0 ∙ sym q.3, more.1)

  empty_rests : (s : Session W) → IsNewSession s → RestsOn context_ids (States W) (s.state, [])
  empty_rests s n = rw (new_is_empty s n) (λ p q i. empty (p i))

  new_related : (s t : Session W) → IsNewSession s → IsNewSession t → Related s t
  new_related s t n m = record {
    made_s = [];
    made_t = [];
    rests_s = empty_rests s n;
    rests_t = empty_rests t m;
    passed_s = tt;
    passed_t = tt;
    alike = record { names = λ i. context_ids; over = λ i. ((new_is_empty s n ∙ sym (new_is_empty t m)) i, []) };
  }

pub two_runs : (W : Dialect) (B : Behaviour W) → TwoRuns W B
two_runs W B edits s t s' t' answers others n m p q same = along_runs B edits s t s' t' answers others (new_related B s t n m) p q same
