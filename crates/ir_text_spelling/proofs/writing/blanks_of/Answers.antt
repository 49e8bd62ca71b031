use Rattle.std.proofs.Common.{◌≡◌, ◌≤◌, ℕ, ◌*◌, List, take, replicate, ap, ◌∙◌, arith}
use Rattle.std.proofs.lemmas.List.{take-replicate}
use Rattle.ir_text_spelling.proofs.writing.blanks_of.Goals as goal

pub returns : goal.returns
returns c =
    let n = 2 * c.args.levels in
    let all : c.as_bytes-blanks.result.now ≡ replicate 64 32 = c.as_bytes-blanks.ensures.value in
    let fits : n ≤ 64 = omega (arith, c.requires) in
    ap (λ (x : List ℕ). take n x) all ∙ take-replicate n 64 32 fits
