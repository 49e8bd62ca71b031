use Rattle.std.proofs.Common.{rules, ◌≡◌, ◌++◌, [], Option, IfSome, Err, subst, append_assoc}
use Rattle.std.proofs.KnownBytes.{Appends-nil}
use Rattle.ir_text_tree.specs.declared.row.Span.{Span}
use Rattle.ir_text_spelling.specs.Marks.{before}
use Rattle.ir_text_spelling.specs.Spellings.{piece}
use Rattle.ir_text_spelling.proofs.WritingSteps.{left_broke}
use Rattle.ir_text_spelling.proofs.spelling.write_row.Goals as goal

pub returns-in-Some : goal.returns-in-Some
returns-in-Some g c =
    let text = c.args.text.now in
    let bytes = piece text c.args.left ++ (before c.args.depth c.args.last c.args.row.part ++ piece text c.args.row.span) in
    ([], Appends-nil (g.W.Write.contents c.args.output.now), subst (λ (o : Option Span). IfSome o (λ (m : Span). piece text m ≡ bytes)) c.in-Some.is c.continued.ensures)

pub returns-in_err-write_left-in-None : goal.returns-in_err-write_left-in-None
returns-in_err-write_left-in-None g c =
    let a = g.W.Write.contents c.args.output.now in
    let b = g.W.Write.contents c.write_left.new.output in
    let f = c.in_err-write_left-in-None.field-0.0 in
    let is : c.from_residual.result ≡ Err f = search rules in
    rw is (left_broke a b (piece c.args.text.now c.args.left) (before c.args.depth c.args.last c.args.row.part) (piece c.args.text.now c.args.row.span) c.in_err-write_left-in-None.ensures)

pub returns-in_ok-write_left-in-None : goal.returns-in_ok-write_left-in-None
returns-in_ok-write_left-in-None g c =
    let left = piece c.args.text.now c.args.left in
    let mark = before c.args.depth c.args.last c.args.row.part in
    (left ++ mark, c.in_ok-write_left-in-None.ensures, append_assoc left mark (piece c.args.text.now c.args.row.span))
