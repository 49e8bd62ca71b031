use Rattle.std.proofs.Common.{rules, ◌≡◌, ◌++◌, Err, codes, decimal}
use Rattle.ir_text_run.proofs.LinesTold.{front_after, front_of, then_writes}
use Rattle.ir_text_run.proofs.telling.write_line_and_column.Goals as goal

pub returns-in_err-write_bytes : goal.returns-in_err-write_bytes
returns-in_err-write_bytes g c =
    let a = g.F.Write.contents c.args.fault.now in
    let b = g.F.Write.contents c.write_bytes.new.output in
    let is : c.from_residual.result ≡ Err c.in_err-write_bytes.field-0.0 = search rules in
    rw is (front_of a b (codes ":") (decimal c.args.line ++ (codes ":" ++ decimal c.args.column)) c.in_err-write_bytes.ensures)

pub returns-in_err-write_number : goal.returns-in_err-write_number
returns-in_err-write_number g c =
    let a = g.F.Write.contents c.args.fault.now in
    let b = g.F.Write.contents c.write_bytes.new.output in
    let d = g.F.Write.contents c.write_number.new.fault in
    let line = decimal c.args.line in
    let column = codes ":" ++ decimal c.args.column in
    let is : c.from_residual-in_err-write_number.result ≡ Err c.in_err-write_number.field-0.0 = search rules in
    rw is (front_after a b d (codes ":") (line ++ column) c.in_ok-write_bytes.ensures (front_of b d line column c.in_err-write_number.ensures))

pub returns-in_err-write_bytes-2 : goal.returns-in_err-write_bytes-2
returns-in_err-write_bytes-2 g c =
    let a = g.F.Write.contents c.args.fault.now in
    let b = g.F.Write.contents c.write_bytes.new.output in
    let d = g.F.Write.contents c.write_number.new.fault in
    let e = g.F.Write.contents c.write_bytes-2.new.output in
    let line = decimal c.args.line in
    let column = decimal c.args.column in
    let is : c.from_residual-in_err-write_bytes-2.result ≡ Err c.in_err-write_bytes-2.field-0.0 = search rules in
    rw is (front_after a b e (codes ":") (line ++ (codes ":" ++ column)) c.in_ok-write_bytes.ensures (front_after b d e line (codes ":" ++ column) c.in_ok-write_number.ensures (front_of d e (codes ":") column c.in_err-write_bytes-2.ensures)))

pub returns : goal.returns
returns g c =
    let a = g.F.Write.contents c.args.fault.now in
    let b = g.F.Write.contents c.write_bytes.new.output in
    let d = g.F.Write.contents c.write_number.new.fault in
    let e = g.F.Write.contents c.write_bytes-2.new.output in
    let f = g.F.Write.contents c.write_number-2.new.fault in
    let line = decimal c.args.line in
    let column = decimal c.args.column in
    let r = c.write_number-2.result in
    then_writes a b f (codes ":") (line ++ (codes ":" ++ column)) r c.in_ok-write_bytes.ensures (then_writes b d f line (codes ":" ++ column) r c.in_ok-write_number.ensures (then_writes d e f (codes ":") column r c.in_ok-write_bytes-2.ensures c.write_number-2.ensures))
