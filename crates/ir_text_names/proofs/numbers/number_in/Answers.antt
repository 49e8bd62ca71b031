use Rattle.std.proofs.Common.{◌≡◌, ℕ, ◌+◌, ◌*◌, ◌-◌, ◌<◌, Bool, true, false, eqb, List, [], ◌∷◌, length, get_or, Some, None, refl, sym, ap, ◌∙◌, arith}
use Rattle.std.proofs.lemmas.Bool.{false≢true}
use Rattle.ir_text_names.specs.Numbers.{is_digit, amount_of, digits_behind, number_in}
use Rattle.ir_text_names.proofs.Amounts.{digits_more, digits_stop, digits_end, number_some}
use Rattle.ir_text_names.proofs.numbers.number_in.Goals as goal

-- a text that is told not to be empty
filled : (xs : List ℕ) (b : Bool) → b ≡ eqb (length xs) 0 → b ≡ false → 0 < length xs
filled [] b e f = absurd (false≢true (sym f ∙ e))
filled (x ∷ xs) b e f = omega arith

pub loop-byte-init : goal.loop-byte-init
loop-byte-init c = (0, refl, refl)

pub loop-byte-preserved : goal.loop-byte-preserved
loop-byte-preserved c =
    let l = c.loop-byte in
    let text = c.args.text.now in
    let i = l.invariant in
    let byte = get_or text l.byte-index 0 in
    let digit : is_digit byte ≡ true = sym c.is_digit.ensures ∙ c.if-not-is_digit.false in
    (10 * i.0 + (byte - 48), c.extend-amount.ensures i.0 i.1, digits_more text l.byte-index i.0 (digits_behind 0 text) c.loop-byte-test.true digit i.2)

pub returns-then-not-is_digit : goal.returns-then-not-is_digit
returns-then-not-is_digit c =
    let l = c.loop-byte in
    let text = c.args.text.now in
    let i = l.invariant in
    let digit : is_digit (get_or text l.byte-index 0) ≡ false = sym c.is_digit.ensures ∙ c.if-not-is_digit.true in
    let none : digits_behind 0 text ≡ None = digits_stop text l.byte-index i.0 (digits_behind 0 text) c.loop-byte-test.true digit i.2 in
    let some : digits_behind 0 text ≡ number_in text = number_some text (omega (arith, c.loop-byte-test.true)) in
    ap amount_of (sym none ∙ some)

pub returns : goal.returns
returns c =
    let l = c.loop-byte in
    let text = c.args.text.now in
    let i = l.invariant in
    let end : digits_behind 0 text ≡ Some i.0 = digits_end text l.byte-index i.0 (digits_behind 0 text) c.loop-byte-test.false i.2 in
    let some : digits_behind 0 text ≡ number_in text = number_some text (filled text c.is_empty.result c.is_empty.ensures c.if-is_empty.false) in
    i.1 ∙ ap amount_of (sym end ∙ some)
