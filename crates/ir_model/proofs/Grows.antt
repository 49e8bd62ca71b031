-- From what one edit does to a state, that its steps keep a session sound.
use mathlib.Core.Path.{◌≡◌, sym, subst}
use Rattle.std.proofs.Common.{ℕ, ◌<◌, ◌⊎◌, inl, inr, true, false, Option, Some, None, List, ◌++◌, map, length, is_some}
use Rattle.ir_model.specs.Ids.{Ids, Fresh, Distinct, counts}
use Rattle.ir_model.specs.Forest.{Dialect, Behaviour, Definer, of_op, of_block, Value, Entity, an_op, a_block, a_region, a_value}
use Rattle.ir_model.specs.Nesting.{In, children, IsLiveNamed, WellFormed, use_numbers_of, numbers_of, definition_types_of}
use Rattle.ir_model.specs.Edits.{Edit, State, Condition, Change, needs}
use Rattle.ir_model.specs.ContextIds.{context_ids}
use Rattle.ir_model.specs.Sessions.{Session, condition, counter, slots, memory, made, Skips, Makes, IsNewSession, live_op, live_block, live_region}
use Rattle.ir_model.specs.Soundness.{Sound, KeepsSound}
use Rattle.ir_model.proofs.Nests.{In-append, In-left, In-right, In-map, Distinct-append}
use Rattle.ir_model.proofs.TwoRuns.{lawful, new_unpassed, empty, new_is_empty}
use Rattle.ir_model.proofs.Back.{Back, Change-back}
use Rattle.ir_model.proofs.Fresh.{NotIn}
use Rattle.ir_model.proofs.Counting.{new_counted, still_counted}

module _ {N : Ids} {W : Dialect} where
  -- the forest is well formed, the tables have what was made and nothing else more, and so do the records
  pub record Grows (s t : State N W) (new : Fresh N) : Type 0 where
    pub forest : WellFormed t.forest (length t.store)
    pub stored : (k : ℕ) → In k t.tables.types → k < length t.store
    pub ops : t.tables.ops ≡ s.tables.ops ++ new.ops
    pub blocks : t.tables.blocks ≡ s.tables.blocks ++ new.blocks
    pub regions : t.tables.regions ≡ s.tables.regions ++ new.regions
    pub numbers : map (λ (v : Value N). v.number) t.tables.values ≡ map (λ (v : Value N). v.number) s.tables.values ++ new.numbers
    pub values : (v : Value N) → In v s.tables.values → In v t.tables.values
    pub live_values : (v : Value N) → IsLiveNamed t.forest (a_value v) → IsLiveNamed s.forest (a_value v) ⊎ (In v t.tables.values × In v.number new.numbers)
    pub uses : (o : N.Op) (u : N.UseNumber) → In u (use_numbers_of t.forest o) → In u (use_numbers_of s.forest o) ⊎ In u new.uses

-- what an edit owes where its condition holds and all that it makes is new
abbrev pub GrowsBy : (N : Ids) {W : Dialect} → Behaviour W → Edit W → Type 0
GrowsBy N {W} B edit =
    (s t : State N W) (new : Fresh N) → WellFormed s.forest (length s.store) → ((k : ℕ) → In k s.tables.types → k < length s.store)
    → Condition s edit → counts N new ≡ needs edit → NotIn s.forest new → Change B s edit new t → Grows s t new

dead : {A : Type 0} (m : Option A) → (is_some m ≡ true → ⊥) → m ≡ None
dead None h = λ i. None
dead (Some x) h = absurd (h (λ i. true))

still_live : {A : Type 0} (now was new : List A) (x : A) → now ≡ was ++ new → In x was ⊎ In x new → In x now
still_live now was new x e (inl h) = subst (λ l. In x l) (sym e) (In-left x was new h)
still_live now was new x e (inr h) = subst (λ l. In x l) (sym e) (In-right x was new h)

was_or_new : {A : Type 0} (now was new : List A) (x : A) → now ≡ was ++ new → In x now → In x was ⊎ In x new
was_or_new now was new x e h = In-append x was new (subst (λ l. In x l) e h)

once_more : {A : Type 0} (now was new : List A) → now ≡ was ++ new → Distinct was → Distinct new → ((x : A) → In x was → In x new → ⊥) → Distinct now
once_more now was new e d f apart = subst Distinct (sym e) (Distinct-append was new d f apart)

listed : {A P : Type 0} {Q : Type 0} → (P → Q) → P ⊎ A → Q ⊎ A
listed f (inl p) = inl (f p)
listed f (inr a) = inr a

module _ {W : Dialect} where
  -- what may be handed out stands nowhere
  pub new_not_in : (B : Behaviour W) (s t : Session W) (edit : Edit W) → Sound s → (m : Makes B s edit t) → NotIn s.state.forest m.new
  new_not_in B s t edit k m = record {
    distinct = m.distinct;
    ops = λ o h. dead _ (λ l. (let e = new_unpassed s.limits s.passed.ops (live_op s.state) o (m.are_new.ops o h) in let p : s.passed.ops o ≡ true = k.passed.ops o (k.listed.ops o l) in cc));
    blocks = λ o h. dead _ (λ l. (let e = new_unpassed s.limits s.passed.blocks (live_block s.state) o (m.are_new.blocks o h) in let p : s.passed.blocks o ≡ true = k.passed.blocks o (k.listed.blocks o l) in cc));
    regions = λ o h. dead _ (λ l. (let e = new_unpassed s.limits s.passed.regions (live_region s.state) o (m.are_new.regions o h) in let p : s.passed.regions o ≡ true = k.passed.regions o (k.listed.regions o l) in cc));
    numbers = λ d n h l. (
        let v : Value context_ids = record { definer = d; number = n } in
        let e : s.passed.numbers n ≡ false = (m.are_new.numbers n h).1 in
        let p : s.passed.numbers n ≡ true = k.passed.numbers n (In-map (λ (v : Value context_ids). v.number) v s.state.tables.values (k.listed.values v l)) in
        cc);
    uses = λ o u h l. (let e : s.passed.uses u ≡ false = (m.are_new.uses u h).1 in let p : s.passed.uses u ≡ true = k.passed.uses o u l in cc);
  }

  makes_sound : (B : Behaviour W) (s t : Session W) (edit : Edit W) → Sound s → (m : Makes B s edit t) → Grows s.state t.state m.new → Sound t
  makes_sound B s t edit k m g =
      let back = Change-back B lawful edit s.state t.state m.new m.change in
      let not_in = new_not_in B s t edit k m in
      record {
        forest = g.forest;
        stored = g.stored;
        listed = record {
          ops = λ o h. still_live _ s.state.tables.ops m.new.ops o g.ops (listed (k.listed.ops o) (back.ops o h));
          blocks = λ o h. still_live _ s.state.tables.blocks m.new.blocks o g.blocks (listed (k.listed.blocks o) (back.blocks o h));
          regions = λ o h. still_live _ s.state.tables.regions m.new.regions o g.regions (listed (k.listed.regions o) (back.regions o h));
          values = λ v h. elim (g.live_values v h) [ inl l ↦ g.values v (k.listed.values v l) | inr i ↦ i.0 ];
        };
        passed = record {
          ops = λ o h. (m.passed.ops o).1 (listed (k.passed.ops o) (was_or_new _ s.state.tables.ops m.new.ops o g.ops h));
          blocks = λ o h. (m.passed.blocks o).1 (listed (k.passed.blocks o) (was_or_new _ s.state.tables.blocks m.new.blocks o g.blocks h));
          regions = λ o h. (m.passed.regions o).1 (listed (k.passed.regions o) (was_or_new _ s.state.tables.regions m.new.regions o g.regions h));
          numbers = λ n h. (m.passed.numbers n).1 (listed (k.passed.numbers n) (was_or_new _ _ m.new.numbers n g.numbers h));
          uses = λ o u h. (m.passed.uses u).1 (listed (k.passed.uses o u) (g.uses o u h));
        };
        once = record {
          ops = once_more _ s.state.tables.ops m.new.ops g.ops k.once.ops m.distinct.ops (λ o h i. (let e = new_unpassed s.limits s.passed.ops (live_op s.state) o (m.are_new.ops o i) in let p : s.passed.ops o ≡ true = k.passed.ops o h in cc));
          blocks = once_more _ s.state.tables.blocks m.new.blocks g.blocks k.once.blocks m.distinct.blocks (λ o h i. (let e = new_unpassed s.limits s.passed.blocks (live_block s.state) o (m.are_new.blocks o i) in let p : s.passed.blocks o ≡ true = k.passed.blocks o h in cc));
          regions = once_more _ s.state.tables.regions m.new.regions g.regions k.once.regions m.distinct.regions (λ o h i. (let e = new_unpassed s.limits s.passed.regions (live_region s.state) o (m.are_new.regions o i) in let p : s.passed.regions o ≡ true = k.passed.regions o h in cc));
          numbers = once_more _ _ m.new.numbers g.numbers k.once.numbers m.distinct.numbers (λ n h i. (let e : s.passed.numbers n ≡ false = (m.are_new.numbers n i).1 in let p : s.passed.numbers n ≡ true = k.passed.numbers n h in cc));
        };
        counted = still_counted s t m.new m.limits m.passed back k.counted;
      }

  skips_sound : (s t : Session W) (edit : Edit W) → Sound s → Skips s edit t → Sound t
  skips_sound s t edit k p = record {
    forest = rw p.state k.forest;
    stored = rw p.state k.stored;
    listed = record { ops = rw p.state k.listed.ops; blocks = rw p.state k.listed.blocks; regions = rw p.state k.listed.regions; values = rw p.state k.listed.values };
    passed = record {
      ops = λ o h. (p.passed.ops o).1 (inl (k.passed.ops o (rw p.state at h)));
      blocks = λ o h. (p.passed.blocks o).1 (inl (k.passed.blocks o (rw p.state at h)));
      regions = λ o h. (p.passed.regions o).1 (inl (k.passed.regions o (rw p.state at h)));
      numbers = λ n h. (p.passed.numbers n).1 (inl (k.passed.numbers n (rw p.state at h)));
      uses = λ o u h. (p.passed.uses u).1 (inl (k.passed.uses o u (rw p.state at h)));
    };
    once = record { ops = rw p.state k.once.ops; blocks = rw p.state k.once.blocks; regions = rw p.state k.once.regions; numbers = rw p.state k.once.numbers };
    counted = still_counted s t p.skipped p.limits p.passed (subst (λ (u : State context_ids W). Back s.state.forest u.forest p.skipped) (sym p.state) (record { ops = λ o h. inl h; blocks = λ b h. inl h; regions = λ r h. inl h })) k.counted;
  }

  pub step_sound : (B : Behaviour W) (edit : Edit W) → GrowsBy context_ids B edit → KeepsSound B edit
  step_sound B edit grows s t a k (condition c e f) = rw f k
  step_sound B edit grows s t a k (counter c n e p) = skips_sound s t edit k p
  step_sound B edit grows s t a k (slots c n m e p) = skips_sound s t edit k p
  step_sound B edit grows s t a k (memory c n m x e p) = skips_sound s t edit k p
  step_sound B edit grows s t a k (made c n m e p) = makes_sound B s t edit k p (grows s.state t.state p.new k.forest k.stored c p.enough (new_not_in B s t edit k p) p.change)

  pub new_sound : (s : Session W) → IsNewSession s → Sound s
  new_sound s n =
      let e = new_is_empty s n in
      record {
        forest = rw e (record {
          nested = record {
            one_list = λ x y z h. elim (nothing y x h) [ ];
            once = all_once;
            live = λ x y h. elim (nothing y x h) [ ];
            no_cycle = λ x y h. elim (nothing y x h) [ ];
            regions_linked = λ g h. absurd (not_some h);
          };
          numbers = λ d c m h. elim (no_numbers d m h) [ ];
          numbers_once = numbers_once;
          uses = λ o p u h. elim h [ ];
          uses_once = λ o. tt;
          named = λ o d h. elim h [ ];
          known = λ d m h. elim (no_types d m h) [ ];
        });
        stored = rw e (λ k h. elim h [ ]);
        listed = record { ops = rw e (λ o h. absurd (not_some h)); blocks = rw e (λ o h. absurd (not_some h)); regions = rw e (λ o h. absurd (not_some h)); values = rw e (λ v h. elim (no_numbers v.definer v.number h) [ ]) };
        passed = record { ops = rw e (λ o h. elim h [ ]); blocks = rw e (λ o h. elim h [ ]); regions = rw e (λ o h. elim h [ ]); numbers = rw e (λ o h. elim h [ ]); uses = rw e (λ o u h. elim h [ ]) };
        once = record { ops = rw e tt; blocks = rw e tt; regions = rw e tt; numbers = rw e tt };
        counted = new_counted s n;
      }
    where
      not_some : false ≡ true → ⊥
      not_some e = cc

      nothing : (y x : Entity context_ids) → In x (children (empty {W = W} context_ids).forest y) → ⊥
      nothing (an_op o) x h = h
      nothing (a_block o) x h = h
      nothing (a_region o) x h = h

      all_once : (y : Entity context_ids) → Distinct (children (empty {W = W} context_ids).forest y)
      all_once (an_op o) = tt
      all_once (a_block o) = tt
      all_once (a_region o) = tt

      no_numbers : (d : Definer context_ids) (m : ℕ) → In m (numbers_of (empty {W = W} context_ids).forest d) → ⊥
      no_numbers (of_op o) m h = h
      no_numbers (of_block o) m h = h

      no_types : (d : Definer context_ids) (m : ℕ) → In m (definition_types_of (empty {W = W} context_ids).forest d) → ⊥
      no_types (of_op o) m h = h
      no_types (of_block o) m h = h

      numbers_once : (d : Definer context_ids) → Distinct (numbers_of (empty {W = W} context_ids).forest d)
      numbers_once (of_op o) = tt
      numbers_once (of_block o) = tt
