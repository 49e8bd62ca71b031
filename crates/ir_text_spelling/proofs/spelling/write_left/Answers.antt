use Rattle.std.proofs.Common.{rules, ◌≡◌, ℕ, List, Err, subst}
use Rattle.std.specs.Io.KnownBytes.{Appends}
use Rattle.ir_text_spelling.specs.Marks.{before}
use Rattle.ir_text_spelling.specs.Spellings.{piece}
use Rattle.ir_text_spelling.specs.Writings.{AppendsFront}
use Rattle.ir_text_spelling.proofs.WritingSteps.{front_of, then_writes}
use Rattle.ir_text_spelling.proofs.spelling.write_left.Goals as goal

pub returns-in_err-write_bytes : goal.returns-in_err-write_bytes
returns-in_err-write_bytes g c =
    let a = g.W.Write.contents c.args.output.now in
    let b = g.W.Write.contents c.write_bytes.new.output in
    let f = c.in_err-write_bytes.field-0.0 in
    let is : c.from_residual.result ≡ Err f = search rules in
    rw is (front_of a b (piece c.args.text.now c.args.left) (before c.args.depth c.args.last c.args.next) (subst (λ (l : List ℕ). AppendsFront a b l) c.piece_of.ensures c.in_err-write_bytes.ensures))

pub returns : goal.returns
returns g c =
    let a = g.W.Write.contents c.args.output.now in
    let b = g.W.Write.contents c.write_bytes.new.output in
    let d = g.W.Write.contents c.write_before.new.output in
    then_writes a b d (piece c.args.text.now c.args.left) (before c.args.depth c.args.last c.args.next) c.write_before.result (subst (λ (l : List ℕ). Appends a b l) c.piece_of.ensures c.in_ok-write_bytes.ensures) c.write_before.ensures
