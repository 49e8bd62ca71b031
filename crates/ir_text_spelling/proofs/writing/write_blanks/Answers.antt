use Rattle.std.proofs.Common.{rules, ◌≡◌, Err}
use Rattle.ir_text_spelling.proofs.WritingSteps.{blanks_went, blanks_broke, blanks_end}
use Rattle.ir_text_spelling.proofs.writing.write_blanks.Goals as goal

pub loop-rest-preserved : goal.loop-rest-preserved
loop-rest-preserved g c =
    let (done, appended, total) = c.loop-rest.invariant in
    blanks_went (g.W.Write.contents c.args.output.now) (g.W.Write.contents c.loop-rest.output) (g.W.Write.contents c.write_bytes.new.output) done c.blanks_of.result.now c.loop-rest.rest c.args.levels c.loop-rest-test.true c.blanks_of.ensures appended c.in_ok-write_bytes.ensures total

pub returns-in_err-write_bytes : goal.returns-in_err-write_bytes
returns-in_err-write_bytes g c =
    let (done, appended, total) = c.loop-rest.invariant in
    let f = c.in_err-write_bytes.field-0.0 in
    let is : c.from_residual.result ≡ Err f = search rules in
    rw is (blanks_broke (g.W.Write.contents c.args.output.now) (g.W.Write.contents c.loop-rest.output) (g.W.Write.contents c.write_bytes.new.output) done c.blanks_of.result.now c.loop-rest.rest c.args.levels c.loop-rest-test.true c.blanks_of.ensures appended c.in_err-write_bytes.ensures total)

pub returns : goal.returns
returns g c =
    let (done, appended, total) = c.loop-rest.invariant in
    blanks_end (g.W.Write.contents c.args.output.now) (g.W.Write.contents c.loop-rest.output) (g.W.Write.contents c.write_bytes-2.new.output) done c.blanks_of-2.result.now c.loop-rest.rest c.args.levels c.write_bytes-2.result c.blanks_of-2.ensures appended c.write_bytes-2.ensures total
