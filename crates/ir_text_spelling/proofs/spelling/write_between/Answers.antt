use Rattle.std.proofs.Common.{rules, ◌≡◌, Err, ◌∙◌}
use Rattle.ir_text_spelling.specs.Marks.{closing}
use Rattle.ir_text_spelling.proofs.WritingSteps.{between_broke, between_wrote}
use Rattle.ir_text_spelling.proofs.spelling.write_between.Goals as goal

pub returns-in_err-write_bytes : goal.returns-in_err-write_bytes
returns-in_err-write_bytes g c =
    let a = g.W.Write.contents c.args.output.now in
    let b = g.W.Write.contents c.write_bytes-else-is_joined.new.output in
    let f = c.in_err-write_bytes.field-0.0 in
    let is : c.from_residual.result ≡ Err f = search rules in
    let closes : c.as_bytes-else-is_joined.result.now ≡ closing c.args.last = c.as_bytes-else-is_joined.ensures.value ∙ c.closing.ensures in
    rw is (between_broke a b c.args.depth c.args.last c.args.next c.is_joined.result c.as_bytes-else-is_joined.result.now c.is_joined.ensures c.if-is_joined.false closes c.in_err-write_bytes.ensures)

pub returns-in_ok-write_bytes : goal.returns-in_ok-write_bytes
returns-in_ok-write_bytes g c =
    let a = g.W.Write.contents c.args.output.now in
    let b = g.W.Write.contents c.write_bytes-else-is_joined.new.output in
    let d = g.W.Write.contents c.write_opening.new.output in
    let closes : c.as_bytes-else-is_joined.result.now ≡ closing c.args.last = c.as_bytes-else-is_joined.ensures.value ∙ c.closing.ensures in
    between_wrote a b d c.args.depth c.args.last c.args.next c.is_joined.result c.as_bytes-else-is_joined.result.now c.write_opening.result c.is_joined.ensures c.if-is_joined.false closes c.in_ok-write_bytes.ensures c.write_opening.ensures
