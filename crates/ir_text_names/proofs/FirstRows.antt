-- The first row of which something holds, from one row to the next, and the first of two faults.
use Rattle.std.proofs.Common.{◌≡◌, ◌⊎◌, ℕ, ◌+◌, ◌<◌, ◌≤◌, Bool, true, false, cond, leb, List, length, Option, Some, None, IfSome, refl, sym, subst, inl, inr, ⊎_elim, below_more, leb-true, leb-false, arith}
use Rattle.std.proofs.lemmas.Bool.{false≢true}
use Rattle.ir_text_tree.specs.declared.row.Row.{Row}
use Rattle.ir_text_names.specs.declared.fault.Wrong.{Wrong}
use Rattle.ir_text_names.specs.declared.fault.Fault.{Fault}
use Rattle.ir_text_names.specs.declared.fault.Fault.TheVariants as faults
use Rattle.ir_text_names.specs.declared.firsts.Found.{Found}
use Rattle.ir_text_names.specs.Rows.{row_of}
use Rattle.ir_text_names.specs.Firsts.{IsFirst, noted, IsFirstWrong, told, sooner, fault_of, IsFirstFault}

pub first_more : (P : ℕ → Type 0) (n : ℕ) (o : Option ℕ) (b : Bool) → (b ≡ true → P n) → (P n → b ≡ true) → IsFirst P n o → IsFirst P (n + 1) (noted o n b)
first_more P n None true holds known h = (omega arith, holds refl, h)
first_more P n None false holds known h = below_more (λ (k : ℕ). P k → ⊥) n h (λ p. false≢true (known p))
first_more P n (Some i) b holds known h = let lt : i < n = h.0 in (omega arith, h.1, h.2)

pub noted_not : (o : Option ℕ) (n : ℕ) → noted o n false ≡ o
noted_not None n = refl
noted_not (Some i) n = refl

-- of row n it doesn't hold
pub first_kept : (P : ℕ → Type 0) (n : ℕ) (o : Option ℕ) → (P n → ⊥) → IsFirst P n o → IsFirst P (n + 1) o
first_kept P n o other h = subst (λ (r : Option ℕ). IsFirst P (n + 1) r) (noted_not o n) (first_more P n o false (λ e. absurd (false≢true e)) (λ p. absurd (other p)) h)

-- the same, where it need be told only of the first
pub first_more_clear : (P : ℕ → Type 0) (n : ℕ) (o : Option ℕ) (b : Bool) → (b ≡ true → P n) → (((k : ℕ) → k < n → P k → ⊥) → P n → b ≡ true) → IsFirst P n o → IsFirst P (n + 1) (noted o n b)
first_more_clear P n None b holds known h = first_more P n None b holds (known h) h
first_more_clear P n (Some i) b holds known h = let lt : i < n = h.0 in (omega arith, h.1, h.2)

pub first_none : (P : ℕ → Type 0) → IsFirst P 0 None
first_none P = λ k lt p. absurd (omega (arith, lt))

pub told_first : (P : ℕ → Type 0) (w : Wrong) (n : ℕ) (o : Option ℕ) → IsFirst P n o → IsFirstWrong (λ v i. (v ≡ w) × P i) n (told o w)
told_first P w n None h = λ k lt v f. h k lt f.1
told_first P w n (Some i) h = (h.0, (refl, h.1), λ k lt v f. h.2 k lt f.1)

sooner_both : (A B : Wrong → ℕ → Type 0) (n : ℕ) (f g : Found) (b : Bool) → b ≡ leb f.row g.row → IsFirstWrong A n (Some f) → IsFirstWrong B n (Some g) → IsFirstWrong (λ v i. A v i ⊎ B v i) n (cond b (Some f) (Some g))
sooner_both A B n f g true e h j =
    let le : f.row ≤ g.row = leb-true f.row g.row (sym e) in
    (h.0, inl h.1, λ k lt v. ⊎_elim (h.2 k lt v) (j.2 k (omega arith) v))
sooner_both A B n f g false e h j =
    let above : g.row < f.row = leb-false f.row g.row (sym e) in
    (j.0, inr j.1, λ k lt v. ⊎_elim (h.2 k (omega arith) v) (j.2 k lt v))

pub sooner_first : (A B : Wrong → ℕ → Type 0) (n : ℕ) (a b : Option Found) → IsFirstWrong A n a → IsFirstWrong B n b → IsFirstWrong (λ v i. A v i ⊎ B v i) n (sooner a b)
sooner_first A B n None None h j = λ k lt v. ⊎_elim (h k lt v) (j k lt v)
sooner_first A B n None (Some g) h j = let within : g.row < n = j.0 in (j.0, inr j.1, λ k lt v. ⊎_elim (h k (omega arith) v) (j.2 k lt v))
sooner_first A B n (Some f) None h j = let within : f.row < n = h.0 in (h.0, inl h.1, λ k lt v. ⊎_elim (h.2 k lt v) (j k (omega arith) v))
sooner_first A B n (Some f) (Some g) h j = sooner_both A B n f g (leb f.row g.row) refl h j

-- the same of faults that are the same
pub first_wrong_as : (A B : Wrong → ℕ → Type 0) (n : ℕ) (o : Option Found) → ((v : Wrong) (i : ℕ) → A v i → B v i) → ((v : Wrong) (i : ℕ) → B v i → A v i) → IsFirstWrong A n o → IsFirstWrong B n o
first_wrong_as A B n None to from h = λ k lt v f. h k lt v (from v k f)
first_wrong_as A B n (Some f) to from h = (h.0, to f.what f.row h.1, λ k lt v g. h.2 k lt v (from v k g))

-- the row that was found is one of these
pub found_within : (W : Wrong → ℕ → Type 0) (n : ℕ) (o : Option Found) → IsFirstWrong W n o → IfSome o (λ f. f.row < n)
found_within W n None h = tt
found_within W n (Some f) h = h.0

none_found : (rows : List Row) (f : Found) → fault_of rows (Some f) ≡ None → ⊥
none_found rows f e = cc

the_fault : (rows : List Row) (f : Found) (e : Fault) → fault_of rows (Some f) ≡ Some e → faults.Wrong f.what (row_of rows f.row).span.start ≡ e
the_fault rows f e is = cc

no_fault : (rows : List Row) (e : Fault) → fault_of rows None ≡ Some e → ⊥
no_fault rows e is = cc

pub all_well : (W : Wrong → ℕ → Type 0) (rows : List Row) (o : Option Found) → fault_of rows o ≡ None → IsFirstWrong W (length rows) o → (k : ℕ) → k < length rows → (v : Wrong) → W v k → ⊥
all_well W rows None e h = h
all_well W rows (Some f) e h = absurd (none_found rows f e)

pub first_fault : (W : Wrong → ℕ → Type 0) (rows : List Row) (e : Fault) (o : Option Found) → fault_of rows o ≡ Some e → IsFirstWrong W (length rows) o → IsFirstFault W rows e
first_fault W rows e None is h = absurd (no_fault rows e is)
first_fault W rows e (Some f) is h = subst (IsFirstFault W rows) (the_fault rows f e is) (f.row, h.0, refl, h.1, h.2)

-- the same of what is the same of each row
pub first_as : (P Q : ℕ → Type 0) (n : ℕ) (o : Option ℕ) → ((i : ℕ) → i < n → P i → Q i) → ((i : ℕ) → i < n → Q i → P i) → IsFirst P n o → IsFirst Q n o
first_as P Q n None to from h = λ k lt q. h k lt (from k lt q)
first_as P Q n (Some i) to from h = let within : i < n = h.0 in (h.0, to i h.0 h.1, λ k lt q. h.2 k lt (from k (omega arith) q))
