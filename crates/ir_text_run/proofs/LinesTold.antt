-- Lines that tell faults, piece by piece.
use Rattle.std.proofs.Common.{◌≡◌, ◌≤◌, ◌+◌, ◌==◌, ℕ, suc, Bool, true, false, List, [], ◌∷◌, ◌++◌, length, cond, Option, Result, Ok, Err, is_ok, refl, sym, ap, subst, ◌∙◌, append_assoc, arith}
use Rattle.std.specs.Io.KnownBytes.{Appends}
use Rattle.std.proofs.KnownBytes.{Appends-trans}
use Rattle.ir_text_tokens.specs.Places.{place_after}
use Rattle.ir_text_spelling.specs.Writings.{AppendsFront, Writes}
use Rattle.ir_text_run.specs.declared.fault.Fault.{Fault}
use Rattle.ir_text_run.specs.declared.fault.Fault.TheVariants as faults
use Rattle.ir_text_run.specs.Telling.{AreWordsOf, GrewBy}

-- a whole write, and then a front part of another
pub front_after : (a b c : Option (List ℕ)) (x y : List ℕ) → Appends a b x → AppendsFront b c y → AppendsFront a c (x ++ y)
front_after a b c x y p q = (x ++ q.0, q.1, ap (λ (l : List ℕ). x ++ l) q.2 ∙ sym (append_assoc x q.0 q.1), Appends-trans a b c x q.0 p q.3)

pub front_of : (a b : Option (List ℕ)) (x y : List ℕ) → AppendsFront a b x → AppendsFront a b (x ++ y)
front_of a b x y p = (p.0, p.1 ++ y, ap (λ (l : List ℕ). l ++ y) p.2 ∙ append_assoc p.0 p.1 y, p.3)

-- a whole write, and then another
pub then_writes : {X E : Type 0} (a b c : Option (List ℕ)) (x y : List ℕ) (r : Result X E) → Appends a b x → Writes b c y r → Writes a c (x ++ y) r
then_writes a b c x y (Ok v) p q = Appends-trans a b c x y p q
then_writes a b c x y (Err e) p q = front_after a b c x y p q

-- the line was told whole, or a front part of it
pub told_so : {X E : Type 0} (a b : Option (List ℕ)) (line : List ℕ) (r : Result X E) (is_told : Bool) → is_told ≡ is_ok r → Writes a b line r → GrewBy is_told a b line
told_so a b line (Ok v) is_told e p = subst (λ (t : Bool). GrewBy t a b line) (sym e) p
told_so a b line (Err x) is_told e p = subst (λ (t : Bool). GrewBy t a b line) (sym e) p

-- each fault has words
pub some_words : (e : Fault) → (words : List ℕ) × AreWordsOf e words
some_words faults.OutOfMemory = (_, refl)
some_words faults.Unreadable = (_, refl)
some_words faults.Unwritable = (_, refl)
some_words (faults.Reading e) = ([], omega arith)
some_words (faults.Naming e) = ([], omega arith)

-- a line has no more lines in front than bytes
line_step : (is : Bool) (line k n : ℕ) → k ≤ cond is (line + 1) line + n → k ≤ line + suc n
line_step true line k n h = omega (arith, h)
line_step false line k n h = omega (arith, h)

pub line_bounded : (line column : ℕ) (bytes : List ℕ) → (place_after line column bytes).0 ≤ line + length bytes
unfolding place_after
line_bounded line column [] = omega arith
line_bounded line column (b ∷ bytes) =
    line_step (b == 10) line (place_after (cond (b == 10) (line + 1) line) (cond (b == 10) 1 (column + 1)) bytes).0 (length bytes) (line_bounded (cond (b == 10) (line + 1) line) (cond (b == 10) 1 (column + 1)) bytes)
