use Rattle.std.proofs.Common.{ℕ, ◌++◌, List, sym, ap, ◌∙◌}
use Rattle.ir_text_spelling.specs.Spellings.{piece}
use Rattle.ir_text_spelling.proofs.WritingSteps.{pieces_join}
use Rattle.ir_text_spelling.proofs.spelling.continued.Goals as goal

pub returns-then-leads_to : goal.returns-then-leads_to
returns-then-leads_to c =
    let text = c.args.text.now in
    let left = c.args.left in
    let span = c.args.row.span in
    pieces_join text left.start left.end span.start span.end c.if-left.true c.if-gap.true c.if-row.true
    ∙ ap (λ (l : List ℕ). piece text left ++ (l ++ piece text span)) (sym c.piece_of.ensures ∙ c.leads_to.ensures c.if-leads_to.true)
