-- An edit that is made passes what it makes.
use mathlib.Core.Path.{◌≡◌, refl, sym, subst}
use Rattle.std.proofs.Common.{◌⊎◌, ◌↔◌, inl, inr, Bool, false, List, ◌++◌, IsTrue}
use Rattle.ir_model.specs.Forest.{Dialect, Behaviour}
use Rattle.ir_model.specs.Nesting.{In}
use Rattle.ir_model.specs.Edits.{Edit, Condition}
use Rattle.ir_model.specs.Sessions.{Session, Makes, live_op, live_block, live_region}
use Rattle.ir_model.specs.Soundness.{Sound}
use Rattle.ir_model.specs.StepTells.{line, ListsWhatPassed, MadePassWhatTheyMake}
use Rattle.ir_model.proofs.Nests.{In-append, In-right}
use Rattle.ir_model.proofs.TwoRuns.{lawful, new_unpassed}
use Rattle.ir_model.proofs.Grows.{Grows, new_not_in}
use Rattle.ir_model.proofs.GrowsEach.{grows_each}
use Rattle.ir_model.proofs.RefusedForGood.{clash}
use Rattle.ir_model.proofs.StepTells.{conditions_by, makes_by}

-- the table grew by these, and so did what has passed
both_grew : {A : Type 0} (was now new : List A) (old next : A → Bool) → now ≡ was ++ new → ((x : A) → IsTrue (next x) ↔ (IsTrue (old x) ⊎ In x new)) → ((x : A) → In x was → IsTrue (old x)) → ((x : A) → In x new → old x ≡ false)
    → (x : A) → (In x now × (In x was → ⊥)) ↔ (IsTrue (next x) × (old x ≡ false))
both_grew was now new old next grew passes listed fresh x = (
  λ h. elim (In-append x was new (subst (In x) grew h.0)) [ inl i ↦ absurd (h.1 i) | inr i ↦ ((passes x).1 (inr i), fresh x i) ],
  λ h. elim ((passes x).0 h.0) [ inl p ↦ absurd (clash old x p h.1) | inr i ↦ (subst (In x) (sym grew) (In-right x was new i), λ j. clash old x (listed x j) h.1) ],
)

module _ (W : Dialect) (B : Behaviour W) where
  lists_made : (edit : Edit W) (s t : Session W) → Sound s → Condition s.state edit → Makes B s edit t → ListsWhatPassed s t
  lists_made edit s t k c m =
      let grows : Grows s.state t.state m.new = grows_each B lawful edit s.state t.state m.new k.forest k.stored c m.enough (new_not_in B s t edit k m) m.change in
      record {
        ops = both_grew s.state.tables.ops _ m.new.ops s.passed.ops t.passed.ops grows.ops m.passed.ops k.passed.ops (λ i h. new_unpassed s.limits s.passed.ops (live_op s.state) i (m.are_new.ops i h));
        blocks = both_grew s.state.tables.blocks _ m.new.blocks s.passed.blocks t.passed.blocks grows.blocks m.passed.blocks k.passed.blocks (λ i h. new_unpassed s.limits s.passed.blocks (live_block s.state) i (m.are_new.blocks i h));
        regions = both_grew s.state.tables.regions _ m.new.regions s.passed.regions t.passed.regions grows.regions m.passed.regions k.passed.regions (λ i h. new_unpassed s.limits s.passed.regions (live_region s.state) i (m.are_new.regions i h));
        numbers = both_grew _ _ m.new.numbers s.passed.numbers t.passed.numbers grows.numbers m.passed.numbers k.passed.numbers (λ n h. (m.are_new.numbers n h).1);
        uses = λ o u h out. elim (grows.uses o u h) [ inl i ↦ absurd (out i) | inr i ↦ ((m.passed.uses u).1 (inr i), (m.are_new.uses u i).1) ];
      }

  pub made_pass_what_they_make : MadePassWhatTheyMake W B
  made_pass_what_they_make edit s t k step = lists_made edit s t k (conditions_by W B edit s t (line s.state edit).answer refl step) (makes_by W B edit s t (line s.state edit).answer refl step)
