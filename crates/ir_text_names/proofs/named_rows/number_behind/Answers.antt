use Rattle.std.proofs.Common.{◌≡◌, true, false, drop, get_or, sym, ap, ◌∙◌}
use Rattle.ir_text_names.specs.NamedRows.{below}
use Rattle.ir_text_names.specs.Numbers.{is_digit, digits_behind}
use Rattle.ir_text_names.proofs.Amounts.{digits_more, digits_stop, digits_end}
use Rattle.ir_text_names.proofs.Spots.{large_none}
use Rattle.ir_text_names.proofs.named_rows.number_behind.Goals as goal

pub loop-byte-preserved : goal.loop-byte-preserved
loop-byte-preserved c =
    let l = c.loop-byte in
    let digits = c.args.digits.now in
    let digit : is_digit (get_or digits l.byte-index 0) ≡ true = sym c.is_digit.ensures ∙ c.if-not-is_digit.false in
    digits_more digits l.byte-index l.number (digits_behind 1 digits) c.loop-byte-test.true digit l.invariant

pub returns-then-not-is_digit : goal.returns-then-not-is_digit
returns-then-not-is_digit c =
    let l = c.loop-byte in
    let digits = c.args.digits.now in
    let digit : is_digit (get_or digits l.byte-index 0) ≡ false = sym c.is_digit.ensures ∙ c.if-not-is_digit.true in
    sym (ap (below c.args.limit) (digits_stop digits l.byte-index l.number (digits_behind 1 digits) c.loop-byte-test.true digit l.invariant))

pub returns : goal.returns
returns c =
    let l = c.loop-byte in
    let digits = c.args.digits.now in
    c.below.ensures ∙ sym (ap (below c.args.limit) (digits_end digits l.byte-index l.number (digits_behind 1 digits) c.loop-byte-test.false l.invariant))

pub returns-then-number-limit : goal.returns-then-number-limit
returns-then-number-limit c =
    let l = c.loop-byte in
    let digits = c.args.digits.now in
    sym (ap (below c.args.limit) (sym l.invariant) ∙ large_none c.args.limit l.number (drop l.byte-index digits) c.if-number-limit.true)
