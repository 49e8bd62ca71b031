use Rattle.std.proofs.Common.{rules, ◌≡◌, ◌≤◌, ◌<◌, ◌+◌, length, get_or, drop, arith}
use Rattle.std.proofs.lemmas.List.{drop_more, drop_all}
use Rattle.ir_text_outline.specs.Sources.{digits_behind, held, with_digit}
use Rattle.ir_text_outline.proofs.Digits.{one_read, all_read}
use Rattle.ir_text_outline.proofs.source.number.Goals as goal

pub loop-byte-preserved : goal.loop-byte-preserved
loop-byte-preserved c =
    let l = c.loop-byte in
    let text = c.args.piece.now in
    let b = get_or text l.byte-index 0 in
    let inside : l.byte-index < length text = search rules in
    let is : c.with_digit-number.result ≡ held (with_digit l.number b) = search rules in
    record {
      read = one_read l.number c.with_digit-number.result b (held (digits_behind 0 text)) (drop l.byte-index text) (drop (l.byte-index + 1) text) is (drop_more text l.byte-index 0 inside) l.invariant.read;
      small = omega (arith, is);
    }

pub returns : goal.returns
returns c =
    let l = c.loop-byte in
    let text = c.args.piece.now in
    let past : length text ≤ l.byte-index = omega (arith, c.loop-byte-test.false) in
    all_read l.number (held (digits_behind 0 text)) (drop l.byte-index text) (drop_all l.byte-index text past) l.invariant.small l.invariant.read
