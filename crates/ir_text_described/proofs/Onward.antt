-- Steps from row to row of two forests side by side.
use Rattle.std.proofs.Common.{◌≡◌, ℕ, ◌+◌, ◌<◌, ◌≤◌, refl, sym, ap, ◌∙◌, subst, inl, inr, ⊎_elim, arith}
use Rattle.std.proofs.lemmas.Bool.{cases_lt, cases_eq}
use Rattle.ir_text_described.specs.Trees.{NamedTree}
use Rattle.ir_text_described.specs.Written.{Leads, none, more}
use Rattle.ir_text_described.proofs.Ranks.{GiveNothing, none_give, more_give}

-- from step k at a row on to the last of these steps, and to this row
pub data Onward (Step : ℕ → ℕ → ℕ → Type 0) (n end : ℕ) : ℕ → ℕ → Type 0 where
  there : {k at : ℕ} → k ≡ n → at ≡ end → Onward Step n end k at
  on : {k at next : ℕ} → Step k at next → Onward Step n end (k + 1) next → Onward Step n end k at

onward_from : {Step : ℕ → ℕ → ℕ → Type 0} {from : ℕ} (n end : ℕ) {k at : ℕ} → Leads Step from k at → Onward Step n end k at → Onward Step n end 0 from
onward_from n end none o = o
onward_from n end (more l s) o = onward_from n end l (on s o)

pub onward : {Step : ℕ → ℕ → ℕ → Type 0} {from n end : ℕ} → Leads Step from n end → Onward Step n end 0 from
onward {n = n} {end = end} l = onward_from n end l (there refl refl)

-- both steps, each between the same rows
pub record Twice (S S' : ℕ → ℕ → ℕ → Type 0) (k : ℕ) : Type 0 where
  pub at : ℕ
  pub next : ℕ
  pub one : S k at next
  pub other : S' k at next

-- both steps pass the row
pub record Passed (S S' : ℕ → ℕ → ℕ → Type 0) (r : ℕ) : Type 0 where
  pub k : ℕ
  pub at : ℕ
  pub next : ℕ
  pub one : S k at next
  pub other : S' k at next
  pub from : at ≤ r
  pub to : r < next

-- both ways have the same steps
pub record Same (S S' : ℕ → ℕ → ℕ → Type 0) (k at n n' end end' : ℕ) : Type 0 where
  pub so_many : n ≡ n'
  pub ends : end ≡ end'
  pub each : (j : ℕ) → k ≤ j → j < n → Twice S S' j
  pub passed : (r : ℕ) → at ≤ r → r < end → Passed S S' r

module _ (rank : ℕ → ℕ) (q : ℕ) where
  -- a row from which the steps lead has that rank, or a higher one
  pub low : {S : ℕ → ℕ → ℕ → Type 0} {n end k at : ℕ} → ((k at next : ℕ) → S k at next → rank at ≡ q) → Onward S n end k at → q ≤ rank end → q ≤ rank at
  low is (there e h) far = let same : rank _ ≡ rank _ = ap rank h in omega arith
  low is (on s o) far = let here = is _ _ _ s in omega arith

  module _ (S S' : ℕ → ℕ → ℕ → Type 0)
      (is : (k at next : ℕ) → S k at next → rank at ≡ q) (is' : (k at next : ℕ) → S' k at next → rank at ≡ q)
      (one : (k at next next' : ℕ) → S k at next → S' k at next' → q ≤ rank next → q ≤ rank next' → next ≡ next') where
    -- where both end at rows of higher ranks
    pub meet : {n n' end end' k at : ℕ} → Onward S n end k at → Onward S' n' end' k at → q < rank end → q < rank end' → Same S S' k at n n' end end'
    meet (there e h) (there e' h') far far' = record { so_many = sym e ∙ e'; ends = sym h ∙ h'; each = λ j le lt. absurd (omega arith); passed = λ r le lt. absurd (omega arith) }
    meet (there e h) (on s' o') far far' = let here = is' _ _ _ s' in let same = ap rank h in absurd (omega arith)
    meet (on s o) (there e' h') far far' = let here = is _ _ _ s in let same = ap rank h' in absurd (omega arith)
    meet {n = n} {n' = n'} {end = end} {end' = end'} {k = k} {at = at} (on {next = next} s o) (on {next = next'} s' o') far far' =
        let same : next ≡ next' = one k at next next' s s' (low is o (omega arith)) (low is' o' (omega arith)) in
        let r = meet o (subst (λ m. Onward S' n' end' (k + 1) m) (sym same) o') far far' in
        record {
          so_many = r.so_many;
          ends = r.ends;
          each = λ j le lt. elim (cases_eq k j) [
            | inl e ↦ subst (Twice S S') e (record { at = at; next = next; one = s; other = subst (λ m. S' k at m) (sym same) s' })
            | inr differ ↦ r.each j (omega arith) lt
          ];
          passed = λ x le lt. ⊎_elim (λ before. record { k = k; at = at; next = next; one = s; other = subst (λ m. S' k at m) (sym same) s'; from = le; to = before }) (λ behind. r.passed x behind lt) (cases_lt x next);
        }

-- where other step passes a row that names what is defined, none on the way does
pub steps_give_nothing : (t : NamedTree) {S : ℕ → ℕ → ℕ → Type 0} {n end k at : ℕ} → ((k at next : ℕ) → S k at next → GiveNothing t at next) → Onward S n end k at → GiveNothing t at end
steps_give_nothing t other (there e h) = none_give t _ _ h
steps_give_nothing t other (on s o) = more_give t _ _ _ (other _ _ _ s) (steps_give_nothing t other o)
