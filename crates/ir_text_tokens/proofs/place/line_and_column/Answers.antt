use Rattle.std.proofs.Common.{◌≡◌, ◌+◌, ◌∷◌, get_or, drop, take, sym, ap, ◌∙◌, arith}
use Rattle.std.proofs.lemmas.List.{drop_more, drop_all}
use Rattle.ir_text_tokens.specs.Places.{place_after}
use Rattle.ir_text_tokens.proofs.Columns.{place_newline, place_other, place_end}
use Rattle.ir_text_tokens.proofs.place.line_and_column.Goals.{then-byte-eq10, else-byte-eq10}
use Rattle.ir_text_tokens.proofs.place.line_and_column.Goals as goal

pub loop-byte-preserved : goal.loop-byte-preserved
loop-byte-preserved c =
    let front = take c.args.at c.args.text.now in
    let l = c.loop-byte in
    let i = l.byte-index in
    let cut : drop i front ≡ get_or front i 0 ∷ drop (i + 1) front = drop_more front i 0 c.loop-byte-test.true in
    let before : place_after l.line l.column (get_or front i 0 ∷ drop (i + 1) front) ≡ place_after 1 1 front = ap (place_after l.line l.column) (sym cut) ∙ l.invariant.2 in
    elim c.if-byte-eq10.branch [
      | then-byte-eq10 w ↦ let e = w.if-byte-eq10.true in rw (w.line-is, w.column-is) (omega arith, omega arith, sym (place_newline l.line l.column (get_or front i 0) (drop (i + 1) front) e) ∙ before)
      | else-byte-eq10 w ↦ let e = w.if-byte-eq10.false in rw (w.line-is, w.column-is) (omega arith, omega arith, sym (place_other l.line l.column (get_or front i 0) (drop (i + 1) front) e) ∙ before)
    ]

pub returns : goal.returns
returns c =
    let front = take c.args.at c.args.text.now in
    let l = c.loop-byte in
    sym (place_end l.line l.column) ∙ ap (place_after l.line l.column) (sym (drop_all l.byte-index front c.loop-byte-test.false)) ∙ l.invariant.2
