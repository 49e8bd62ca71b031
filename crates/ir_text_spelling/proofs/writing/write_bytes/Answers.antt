use Rattle.std.proofs.Common.{◌≡◌, ℕ, ◌-◌, List, ◌++◌, length, take, drop, sym, ap, ◌∙◌, Bor}
use Rattle.ir_text_spelling.proofs.WritingSteps.{bytes_moved, bytes_kept}
use Rattle.ir_text_spelling.proofs.writing.write_bytes.Goals as goal
use Rattle.ir_text_spelling.proofs.writing.write_bytes.Goals.{in-Ok, in-Err+else-ne}

pub loop-preserved : goal.loop-preserved
loop-preserved g c =
    let (done, split, appended) = c.loop.invariant in
    let a = g.W.Write.contents c.args.output.now in
    let b = g.W.Write.contents c.loop.output in
    let d = g.W.Write.contents c.write.new.self in
    let all = c.args.bytes.now in
    let rest = c.loop.rest.now in
    elim c.match-write.branch [
      | in-Ok w ↦
          let n = w.in-Ok.count in
          let m = bytes_moved a b d all done rest c.write.result n w.in-Ok.is split appended c.write.ensures.bytes in
          let is : c.match-write.rest.now ≡ take (length rest - n) (drop n rest) = ap (λ (x : Bor (List ℕ)). x.now) w.rest-is in
          (m.0, m.1 ∙ ap (λ (x : List ℕ). m.0 ++ x) (sym is), m.2)
      | in-Err+else-ne w ↦
          let m = bytes_kept a b d all done rest c.write.result w.in-Err.error w.in-Err.is split appended c.write.ensures.bytes in
          let is : c.match-write.rest.now ≡ rest = ap (λ (x : Bor (List ℕ)). x.now) w.rest-is in
          (m.0, m.1 ∙ ap (λ (x : List ℕ). m.0 ++ x) (sym is), m.2)
    ]
