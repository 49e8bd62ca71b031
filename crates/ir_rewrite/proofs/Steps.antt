-- Steps of a driver, and the round after which it ends.
use Rattle.std.proofs.Common.{◌≡◌, ◌⊎◌, ◌≤◌, sym, subst, inl, inr, ℕ, ◌+◌, All, List, map, add-one, Bool, true, false}
use Rattle.std.specs.Prelude.{Result, Ok, Err, IfErr}
use Rattle.ir_checked_core.specs.Answers.{out_of_memory}
use Rattle.ir_checked_core.specs.declared.error.CheckedErr.{CheckedErr}
use Rattle.ir_model.specs.declared.ids.ArenaIndex.{ArenaIndex}
use Rattle.ir_model.specs.ContextIds.{context_ids}
use Rattle.ir_model.specs.Forest.{Dialect, Forest, an_op}
use Rattle.ir_model.specs.Nesting.{In, Inside}
use Rattle.ir_rewrite.proofs.Passed.{at_error}
use Rattle.ir_rewrite.specs.Driving.{NoneApplies, OnNo, OnYes, OneChanges, Rewrites, Stands, one_step}

module _ {W : Dialect} {S P : Type 0} (forest : S → Forest context_ids W) (root : ArenaIndex) (patterns : List P) where
  -- one step more
  pub stepped : (changes : P → S → ArenaIndex → S → Type 0) (s t u : S) (n : ℕ) → Rewrites forest changes root patterns s t n → OneChanges forest changes root patterns t u → Rewrites forest changes root patterns s u (n + 1)
  stepped changes s t u n steps one = subst (λ m. Rewrites forest changes root patterns s u m) (sym (add-one n)) (one_step steps one)

  -- where nothing changed in a round over all that is inside, nothing applies
  pub none_applies : {H : Type 0} (index : H → ArenaIndex) (declines : P → S → ArenaIndex → Type 0) (s t : S) (todo : List H) → t ≡ s
      → ((o : ArenaIndex) → Inside (forest s) (an_op root) (an_op o) → In o (map index todo))
      → ((o : ArenaIndex) → In o (map index todo) → Stands (forest s) root o → All (λ p. declines p s o) patterns)
      → NoneApplies forest declines root patterns t
  none_applies index declines s t todo same all declined = subst (λ z. NoneApplies forest declines root patterns z) (sym same) (λ o st. declined o (all o st.1) st)

  -- what a pattern failed at since nothing had changed
  pub failed_since : {T : Type 0} (fails : P → S → ArenaIndex → CheckedErr → S → Type 0) (r : Result T CheckedErr) (e : CheckedErr) → r ≡ Err e → (s t u : S) → t ≡ s
      → OneChanges forest (λ p x o y. fails p x o e y) root patterns t u → IfErr r (λ z. OneChanges forest (λ p x o y. fails p x o z y) root patterns s u)
  failed_since fails r e is s t u same one =
      at_error (λ z. OneChanges forest (λ p x o y. fails p x o z y) root patterns s u) r e is
      (subst (λ v. OneChanges forest (λ p x o y. fails p x o e y) root patterns v u) same one)

  module _ (changes : P → S → ArenaIndex → S → Type 0) (fails : P → S → ArenaIndex → CheckedErr → S → Type 0) (s u : S) (limit : ℕ) where
    -- what a driver leaves that ends with this error
    abbrev pub Leaves : CheckedErr → Type 0
    Leaves z = (t : S) × (n : ℕ) × Rewrites forest changes root patterns s t n × (n ≤ limit) × (((z ≡ out_of_memory) × (u ≡ t)) ⊎ OneChanges forest (λ p x o y. fails p x o z y) root patterns t u)

    module _ {T : Type 0} (r : Result T CheckedErr) (e : CheckedErr) (is : r ≡ Err e) (t : S) (n : ℕ) (steps : Rewrites forest changes root patterns s t n) (within : n ≤ limit) where
      pub lacking : e ≡ out_of_memory → u ≡ t → IfErr r Leaves
      lacking why same = at_error Leaves r e is (t, n, steps, within, inl (why, same))

      pub failing : OneChanges forest (λ p x o y. fails p x o e y) root patterns t u → IfErr r Leaves
      failing one = at_error Leaves r e is (t, n, steps, within, inr one)

-- where the answer is no, what is said on no
pub on_no : {P : Type 0} (b : Bool) → b ≡ false → OnNo {E = CheckedErr} (Ok b) P → P
on_no {P = P} b e h = subst (λ z. OnNo {E = CheckedErr} (Ok z) P) e h

-- where it is yes, what is said on yes
pub on_yes : {P : Type 0} (b : Bool) → b ≡ true → OnYes {E = CheckedErr} (Ok b) P → P
on_yes {P = P} b e h = subst (λ z. OnYes {E = CheckedErr} (Ok z) P) e h
