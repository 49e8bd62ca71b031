-- Kinds and their numbers, and which kinds are pure.
use Rattle.std.proofs.Common.{◌≡◌, ℕ, ◌+◌, ◌-◌, ◌*◌, ◌/◌, ◌%◌, ◌<◌, ◌≤◌, ◌^◌, Bool, true, false, cond, nat_eq, nat_lt, Option, Some, None, slice_get, All, refl, sym, ap, ap₂, subst, ◌∙◌, true≢false, arith, ltb-false, lt-ltb, le-ltb, eqb-true, eq-eqb}
use Rattle.std.proofs.lemmas.Option.{slice_get_within, get_or_from_slice_get}
use Rattle.generic_table.specs.Cut.{Operation}
use Rattle.generic_table.specs.Safe.{IsSafe}
use Rattle.generic_table.specs.Table.{operations}
use Rattle.generic_dialect.specs.declared.kinds.Kind.{Kind}
use Rattle.generic_dialect.specs.declared.kinds.Kind.TheVariants.{Listed, Open}
use Rattle.generic_dialect.specs.declared.texts.TextId.{TextId}
use Rattle.generic_dialect.specs.Kinds.{kind_of, number_of, IsKind}
use Rattle.generic_dialect.specs.Implemented.{implements, kind_implements, row_implements}

not_one : (n : ℕ) → nat_eq n 1 ≡ false → n ≡ 1 → ⊥
not_one n e f = true≢false (sym (eq-eqb n 1 f) ∙ e)

-- a number from its half and whether it is odd
halves : (n : ℕ) (b : Bool) → nat_eq (n % 2) 1 ≡ b → cond b ((65536 + 2 * (n / 2)) + 1) (65536 + 2 * (n / 2)) ≡ 65536 + n
halves n true e = let one = eqb-true (n % 2) 1 e in omega (arith, one)
halves n false e =
    let less : n % 2 < 2 = omega arith in
    let none : n % 2 ≡ 0 = below_two (n % 2) less (not_one (n % 2) e) in
    omega (arith, none)
  where
    below_two : (m : ℕ) → m < 2 → (m ≡ 1 → ⊥) → m ≡ 0
    below_two m lt other = omega (arith, lt, other)

pub number_back : (number : ℕ) → number < 2 ^ 32 → number_of (kind_of number) ≡ Some number
number_back number fits = by (nat_lt number 65536) refl
  where
    by : (b : Bool) → nat_lt number 65536 ≡ b → number_of (cond b (Listed number) (Open (record { 0 = (number - 65536) / 2 }) (nat_eq ((number - 65536) % 2) 1))) ≡ Some number
    by true e = refl
    by false e =
        let le : 65536 ≤ number = ltb-false number 65536 e in
        let half : (number - 65536) / 2 < 2147450880 = omega (arith, le, fits) in
        let small = lt-ltb ((number - 65536) / 2) 2147450880 half in
        let whole : 65536 + (number - 65536) ≡ number = omega (arith, le) in
        ap (λ (b : Bool). cond b (Some (cond (nat_eq ((number - 65536) % 2) 1) ((65536 + 2 * ((number - 65536) / 2)) + 1) (65536 + 2 * ((number - 65536) / 2)))) None) small
        ∙ ap Some (halves (number - 65536) (nat_eq ((number - 65536) % 2) 1) refl ∙ whole)

some_same : (m n : ℕ) → Some m ≡ Some n → m ≡ n
some_same m n e = cc

abbrev no_number : Option ℕ
no_number = None

none_some : (n : ℕ) → no_number ≡ Some n → ⊥
none_some n e = cc

open_even : (n : ℕ) (name : TextId) → name.0 ≡ n → kind_of (65536 + 2 * n) ≡ Open name false
open_even n name e =
    let past : nat_lt (65536 + 2 * n) 65536 ≡ false = le-ltb (65536 + 2 * n) 65536 (omega arith) in
    let half : ((65536 + 2 * n) - 65536) / 2 ≡ name.0 = omega (arith, e) in
    let even : ((65536 + 2 * n) - 65536) % 2 ≡ 0 = omega arith in
    ap (λ (b : Bool). cond b (Listed (65536 + 2 * n)) (Open (record { 0 = ((65536 + 2 * n) - 65536) / 2 }) (nat_eq (((65536 + 2 * n) - 65536) % 2) 1))) past
    ∙ ap₂ (λ (h m : ℕ). Open (record { 0 = h }) (nat_eq m 1)) half even

open_odd : (n : ℕ) (name : TextId) → name.0 ≡ n → kind_of ((65536 + 2 * n) + 1) ≡ Open name true
open_odd n name e =
    let past : nat_lt ((65536 + 2 * n) + 1) 65536 ≡ false = le-ltb ((65536 + 2 * n) + 1) 65536 (omega arith) in
    let half : (((65536 + 2 * n) + 1) - 65536) / 2 ≡ name.0 = omega (arith, e) in
    let odd : (((65536 + 2 * n) + 1) - 65536) % 2 ≡ 1 = omega arith in
    ap (λ (b : Bool). cond b (Listed ((65536 + 2 * n) + 1)) (Open (record { 0 = (((65536 + 2 * n) + 1) - 65536) / 2 }) (nat_eq ((((65536 + 2 * n) + 1) - 65536) % 2) 1))) past
    ∙ ap₂ (λ (h m : ℕ). Open (record { 0 = h }) (nat_eq m 1)) half odd

pub kind_back : (kind : Kind) (number : ℕ) → IsKind kind → number_of kind ≡ Some number → kind_of number ≡ kind
kind_back (Listed row) number small e =
    let less : nat_lt row 65536 ≡ true = lt-ltb row 65536 small in
    ap kind_of (sym (some_same row number e))
    ∙ ap (λ (b : Bool). cond b (Listed row) (Open (record { 0 = (row - 65536) / 2 }) (nat_eq ((row - 65536) % 2) 1))) less
kind_back (Open name ends) number small e = by (nat_lt name.0 2147450880) ends e
  where
    by : (b s : Bool) → cond b (Some (cond s ((65536 + 2 * name.0) + 1) (65536 + 2 * name.0))) None ≡ Some number → kind_of number ≡ Open name s
    by false s e = absurd (none_some number e)
    by true true e = ap kind_of (sym (some_same ((65536 + 2 * name.0) + 1) number e)) ∙ open_odd name.0 name refl
    by true false e = ap kind_of (sym (some_same (65536 + 2 * name.0) number e)) ∙ open_even name.0 name refl

abbrev AreSafe : Type 0
AreSafe = All (λ (o : Operation). IsSafe o.1) operations

row_safe : AreSafe → (row : ℕ) (o : Option Operation) → slice_get operations row ≡ o → row_implements o 6 ≡ true → row_implements o 1 ≡ false
row_safe all row None at pure = refl
row_safe all row (Some o) at pure =
    let within = slice_get_within operations row o at in
    let safe = all row o within in
    (subst (λ (q : Operation). IsSafe q.1) (get_or_from_slice_get operations row o o at) safe).ends_no_block pure

kind_safe : AreSafe → (kind : Kind) → kind_implements kind 6 ≡ true → kind_implements kind 1 ≡ false
kind_safe all (Listed row) pure = row_safe all row (slice_get operations row) refl pure
kind_safe all (Open name ends) pure = absurd (true≢false (sym pure))

pub pure_safe : AreSafe → (kind : ℕ) → implements kind 6 ≡ true → implements kind 1 ≡ false
pure_safe all kind pure = kind_safe all (kind_of kind) pure
