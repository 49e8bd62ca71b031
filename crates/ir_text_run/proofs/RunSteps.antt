-- Steps of a run over parts, and what the run says of what was written and told.
use Rattle.std.proofs.Common.{◌≡◌, ◌≢◌, ◌≤◌, ◌⊎◌, ◌+◌, ◌&&◌, inl, inr, ℕ, suc, max, Bool, true, false, List, [], ◌∷◌, ◌++◌, length, cond, ◌==◌, Option, None, MatchOption, Result, Ok, Err, IfErr, OnOk, is_err, codes, refl, sym, ap, subst, ◌∙◌, length-append, arith}
use Rattle.std.specs.Io.KnownBytes.{Keeps, Appends}
use Rattle.std.specs.List.{onto_first}
use Rattle.std.proofs.KnownBytes.{Keeps-refl, Keeps-trans}
use Rattle.std.proofs.lemmas.Bool.{false≢true}
use Rattle.ir_text_spelling.specs.Writings.{AppendsFront, Writes}
use Rattle.ir_text_run.specs.declared.ending.Ending.{Ending}
use Rattle.ir_text_run.specs.declared.fault.Fault.{Fault}
use Rattle.ir_text_run.specs.declared.fault.Fault.TheVariants as faults
use Rattle.ir_text_run.specs.Endings.{status_of, both, unwritable}
use Rattle.ir_text_run.specs.Faults.{IsFaultOf}
use Rattle.ir_text_run.specs.Parts.{IsDivided, IsDivider, WritesBefore, RespellsParts, RespellsSomeParts, lines_of}
use Rattle.ir_text_run.specs.Respellings.{Respells, RespellsOrKeeps}
use Rattle.ir_text_run.specs.Runs.{Held, held, IsSpelled, IsDone, ComesTo, nothing, part, Ends}
use Rattle.ir_text_run.specs.Telling.{Tells}
use Rattle.ir_text_run.proofs.PartSteps.{nothing_yet, and_one_more, and_some_more, and_the_last, and_the_last_of_some, respells_kept, told_wrong}

-- of two endings neither is worse than both
zero_both : (a b : Ending) → (both a b).status ≡ 0 → (a.status ≡ 0) × (b.status ≡ 0)
zero_both a b e = let here : max a.status b.status ≡ 0 = e in (omega (arith, here), omega (arith, here))

-- what is done was spelled, or nothing was written for it
done_some : (name p : List ℕ) (lines : ℕ) (e : Ending) (a b : Held) → IsDone name p lines e a b → RespellsOrKeeps p a.written b.written
done_some name p lines e a b (inl d) = inl d.2.0
done_some name p lines e a b (inr d) = inr d.1.0

-- under status 0 it was spelled
done_right : (name p : List ℕ) (lines : ℕ) (e : Ending) (a b : Held) → e.status ≡ 0 → IsDone name p lines e a b → IsSpelled p a b
done_right name p lines e a b is (inl d) = d.2
done_right name p lines e a b is (inr d) = let one : e.status ≡ 1 = d.0 in absurd (omega (arith, is, one))

-- the parts that were done, each spelled or with nothing written for it
some_parts : (name text : List ℕ) (start : Held) (rest : List ℕ) (now : Held) (lines : ℕ) (e : Ending) → ComesTo name text start rest lines e now → (ps : List (List ℕ)) × WritesBefore RespellsOrKeeps ps text rest start.written now.written
some_parts name text start rest now lines e (nothing) = nothing_yet RespellsOrKeeps text start.written
some_parts name text start rest now lines e (part {rest = r} {p = p} {behind = more} {lines = n} {before = f} {here = h} {reached = a} {now = c} comes divided passed) =
    and_some_more text p r more start.written a.written passed.0.written c.written (some_parts name text start r a n f comes) divided (done_some name p n h a passed.0 passed.1) passed.2

-- under status 0 each was spelled, and nothing was told
right_parts : (name text : List ℕ) (start : Held) (rest : List ℕ) (now : Held) (lines : ℕ) (e : Ending) → ComesTo name text start rest lines e now → e.status ≡ 0 → ((ps : List (List ℕ)) × WritesBefore Respells ps text rest start.written now.written) × Keeps start.told now.told
right_parts name text start rest now lines e (nothing) is = (nothing_yet Respells text start.written, Keeps-refl start.told)
right_parts name text start rest now lines e (part {rest = r} {p = p} {behind = more} {lines = n} {before = f} {here = h} {reached = a} {now = c} comes divided passed) is =
    let each = zero_both f h is in
    let before = right_parts name text start r a n f comes each.0 in
    let here = done_right name p n h a passed.0 each.1 passed.1 in
    (and_one_more text p r more start.written a.written passed.0.written c.written before.0 divided here.0 passed.2, Keeps-trans start.told a.told c.told before.1 (Keeps-trans a.told passed.0.told c.told here.1 passed.3))

pub all_parts : (name text : List ℕ) (e : Ending) (start end : Held) → Ends name text e start end → RespellsSomeParts text start.written end.written
all_parts name text e start end run =
    and_the_last_of_some text run.last run.last start.written run.reached.written end.written end.written (some_parts name text start run.last run.reached run.lines run.before run.comes) (refl, run.is_last) (done_some name run.last run.lines run.here run.reached end run.done) (Keeps-refl end.written)

pub all_right : (name text : List ℕ) (e : Ending) (start end : Held) → Ends name text e start end → e.status ≡ 0 → RespellsParts text start.written end.written × Keeps start.told end.told
all_right name text e start end run well =
    let each = zero_both run.before run.here (ap (λ (x : Ending). x.status) (sym run.is) ∙ well) in
    let before = right_parts name text start run.last run.reached run.lines run.before run.comes each.0 in
    let here = done_right name run.last run.lines run.here run.reached end each.1 run.done in
    (and_the_last text run.last run.last start.written run.reached.written end.written end.written before.0 (refl, run.is_last) here.0 (Keeps-refl end.written), Keeps-trans start.told run.reached.told end.told before.1 here.1)

-- what came of a part that was read, and told where it had a fault
pub part_done : {O : Type 0} (known : O → Option (List ℕ)) (name p : List ℕ) (lines : ℕ) (o n : O) (f g : Option (List ℕ)) (r : Result (Unit {0}) Fault) (e : Ending) → e.status ≡ status_of r → e.status ≢ 3
    → OnOk r (Respells p (known o) (known n)) → IfErr r (λ x. x ≢ faults.Unwritable → n ≡ o) → IfErr r (IsFaultOf p)
    → ((e.status ≡ 0) ⊎ (e.status ≡ 3) → (e.is_told ≡ true) × Keeps f g) → IfErr r (λ x. e.status ≡ 1 → Tells name p lines x e.is_told f g)
    → IsDone name p lines e (held (known o) f) (held (known n) g)
part_done known name p lines o n f g (Ok x) e is not right wrong fault kept told = let quiet = kept (inl is) in inl (is, quiet.0, (right, quiet.1))
part_done known name p lines o n f g (Err faults.Unwritable) e is not right wrong fault kept told = absurd (not is)
part_done known name p lines o n f g (Err faults.OutOfMemory) e is not right wrong fault kept told = inr (is, (told_wrong known o n (Err faults.OutOfMemory) refl wrong, (faults.OutOfMemory, refl, fault, told is)))
part_done known name p lines o n f g (Err faults.Unreadable) e is not right wrong fault kept told = absurd fault
part_done known name p lines o n f g (Err (faults.Reading x)) e is not right wrong fault kept told = inr (is, (told_wrong known o n (Err (faults.Reading x)) refl wrong, (faults.Reading x, refl, fault, told is)))
part_done known name p lines o n f g (Err (faults.Naming x)) e is not right wrong fault kept told = inr (is, (told_wrong known o n (Err (faults.Naming x)) refl wrong, (faults.Naming x, refl, fault, told is)))

-- a text has no more lines than bytes
more_lines : (b : ℕ) (ls : List (List ℕ)) (n : ℕ) → length ls ≤ n → length (onto_first b ls) ≤ suc n
more_lines b [] n h = omega arith
more_lines b (l ∷ ls) n h = omega (arith, h)

by_line : (is : Bool) (b : ℕ) (ls : List (List ℕ)) (n : ℕ) → length ls ≤ n → length (cond is ((b ∷ []) ∷ ls) (onto_first b ls)) ≤ suc n
by_line true b ls n h = omega (arith, h)
by_line false b ls n h = more_lines b ls n h

lines_bounded : (text : List ℕ) → length (lines_of text) ≤ length text
unfolding lines_of
lines_bounded [] = omega arith
lines_bounded (b ∷ bytes) = by_line (b == 10) b (lines_of bytes) (length bytes) (lines_bounded bytes)

divider_long : (line : List ℕ) → IsDivider line → 1 ≤ length line
divider_long line (inl (inl e)) = rw e (omega arith)
divider_long line (inl (inr e)) = rw e (omega arith)
divider_long line (inr (inl e)) = rw e (omega arith)
divider_long line (inr (inr e)) = rw e (omega arith)

-- the lines of a part, with the one behind it, and the bytes behind that are no more than the bytes of all
pub divided_room : (text p behind : List ℕ) → IsDivided text p behind → length (lines_of p) + 1 + length behind ≤ length text
divided_room text p behind d =
    let long : 1 ≤ length d.0 = divider_long d.0 d.1 in
    let few : length (lines_of p) ≤ length p = lines_bounded p in
    let all : length text ≡ length p + length (d.0 ++ behind) = ap length d.4 ∙ length-append p (d.0 ++ behind) in
    let both : length (d.0 ++ behind) ≡ length d.0 + length behind = length-append d.0 behind in
    omega (arith, long, few, all, both)

-- a front that has nothing behind it is the last part
pub last_part_is : {X : Type 0} (o : Option X) (A : Type 0) (B : X → Type 0) → o ≡ None → MatchOption o A B → A
last_part_is {X = X} o A B e h = subst (λ (p : Option X). MatchOption p A B) e h

pub some_status : (r : Result (Unit {0}) Fault) → (status_of r ≡ 0) ⊎ ((status_of r ≡ 1) ⊎ (status_of r ≡ 3))
some_status (Ok x) = inl refl
some_status (Err faults.OutOfMemory) = inr (inl refl)
some_status (Err faults.Unreadable) = inr (inl refl)
some_status (Err faults.Unwritable) = inr (inr refl)
some_status (Err (faults.Reading f)) = inr (inl refl)
some_status (Err (faults.Naming f)) = inr (inl refl)

-- while neither is 3
low : (n k : ℕ) → (n ≡ 0) ⊎ ((n ≡ 1) ⊎ (n ≡ 3)) → (k ≡ 0) ⊎ (k ≡ 1) → max k n ≢ 3 → (max k n ≡ 0) ⊎ (max k n ≡ 1)
low n k (inl a) (inl b) not = inl (omega (arith, a, b))
low n k (inl a) (inr b) not = inr (omega (arith, a, b))
low n k (inr (inl a)) (inl b) not = inr (omega (arith, a, b))
low n k (inr (inl a)) (inr b) not = inr (omega (arith, a, b))
low n k (inr (inr a)) (inl b) not = let three : max k n ≡ 3 = omega (arith, a, b) in absurd (not three)
low n k (inr (inr a)) (inr b) not = let three : max k n ≡ 3 = omega (arith, a, b) in absurd (not three)

pub still_low : (before here all : Ending) (r : Result (Unit {0}) Fault) → all ≡ both before here → here.status ≡ status_of r → (before.status ≡ 0) ⊎ (before.status ≡ 1) → all.status ≢ 3 → (all.status ≡ 0) ⊎ (all.status ≡ 1)
still_low before here all r is same so not =
    let sum : all.status ≡ max before.status here.status = ap (λ (e : Ending). e.status) is in
    let some : (here.status ≡ 0) ⊎ ((here.status ≡ 1) ⊎ (here.status ≡ 3)) = rw same (some_status r) in
    subst (λ (n : ℕ). (n ≡ 0) ⊎ (n ≡ 1)) (sym sum) (low here.status before.status some so (λ three. not (sum ∙ three)))

pub not_here : (before here all : Ending) → all ≡ both before here → (before.status ≡ 0) ⊎ (before.status ≡ 1) → all.status ≢ 3 → here.status ≢ 3
not_here before here all is (inl a) not = λ three. let sum : all.status ≡ max before.status here.status = ap (λ (e : Ending). e.status) is in not (omega (arith, sum, a, three))
not_here before here all is (inr a) not = λ three. let sum : all.status ≡ max before.status here.status = ap (λ (e : Ending). e.status) is in not (omega (arith, sum, a, three))

-- a write that went well, and one that didn't
pub wrote : {X E : Type 0} (a b : Option (List ℕ)) (x : List ℕ) (r : Result X E) → is_err r ≡ false → Writes a b x r → Appends a b x
wrote a b x (Ok v) e p = p
wrote a b x (Err f) e p = absurd (false≢true (sym e))

pub broke : {X E : Type 0} (a b : Option (List ℕ)) (x : List ℕ) (r : Result X E) → is_err r ≡ true → Writes a b x r → AppendsFront a b x
broke a b x (Ok v) e p = absurd (false≢true e)
broke a b x (Err f) e p = p

-- one part more is done
pub one_more : (name text rest p behind : List ℕ) (start a c : Held) (b : Held) (lines more : ℕ) (before here all : Ending) → ComesTo name text start rest lines before a → IsDivided rest p behind → IsDone name p lines here a b
    → Appends b.written c.written (codes "// -----\n") → Keeps b.told c.told → more ≡ length (lines_of p) + 1 → all ≡ both before here → ComesTo name text start behind (lines + more) all c
one_more name text rest p behind start a c b lines more before here all comes divided done line kept count is =
    let next : ComesTo name text start behind (lines + length (lines_of p) + 1) (both before here) c = part comes divided (b, done, line, kept) in
    let sum : lines + length (lines_of p) + 1 ≡ lines + more = omega (arith, count) in
    subst (λ (e : Ending). ComesTo name text start behind (lines + more) e c) (sym is) (subst (λ (n : ℕ). ComesTo name text start behind n (both before here) c) sum next)

-- known bytes stay after a part was done
pub done_kept : (name p : List ℕ) (lines : ℕ) (e : Ending) (old new : Held) (w : Option (List ℕ)) → IsDone name p lines e old new → Keeps new.written w → IsDone name p lines e old (held w new.told)
done_kept name p lines e old new w (inl d) k = inl (d.0, d.1, (respells_kept p old.written new.written w d.2.0 k, d.2.1))
done_kept name p lines e old new w (inr d) k = inr (d.0, (Keeps-trans old.written new.written w d.1.0 k, d.1.1))

-- whether all was told where the output failed
pub told_both : (before here all last : Ending) → all ≡ both before here → last ≡ unwritable all.is_told → last.is_told ≡ before.is_told && here.is_told
told_both before here all last is failed = ap (λ (e : Ending). e.is_told) failed ∙ ap (λ (e : Ending). e.is_told) is
