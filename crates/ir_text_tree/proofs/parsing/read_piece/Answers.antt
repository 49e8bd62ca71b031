use Rattle.std.proofs.Common.{◌≡◌, ◌++◌, List, Option, reverse, refl, sym, ap, ◌∙◌}
use Rattle.ir_text_tree.specs.declared.row.Row.{Row}
use Rattle.ir_text_tree.specs.declared.parsing.State.{State}
use Rattle.ir_text_tree.specs.declared.tree_step.Mode.{Mode}
use Rattle.ir_text_tree.specs.declared.tree_step.Step.TheVariants.{Go, Bad}
use Rattle.ir_text_tree.specs.TextSteps.{innermost}
use Rattle.ir_text_tree.specs.Parsings.{is_inside, ended_row, token_row, listed}
use Rattle.ir_text_tree.proofs.ParsingSteps.{step_is, is_bad, reads_on, stops_on}
use Rattle.ir_text_tree.proofs.parsing.read_piece.Goals as goal

pub returns-in_default-clause-reads : goal.returns-in_default-clause-reads
returns-in_default-clause-reads c =
    let st = c.args.state in
    let x = c.args.piece in
    let front = c.args.rows.now.items in
    let bs = reverse c.args.brackets.now.items in
    let e = step_is st.mode c.is_inside-inside.result (is_inside st.depth) c.last_of.result (innermost bs) x.sort c.tree_step-step.result Bad c.tree_step-step.ensures c.is_inside-inside.ensures c.last_of.ensures (is_bad c.tree_step-step.result c.in_default.not-Go) in
    stops_on front front st bs bs x c.is_inside-inside.result c.wanted.result e c.wanted.ensures c.is_inside-inside.ensures

pub returns-clause-reads : goal.returns-clause-reads
returns-clause-reads c =
    let st = c.args.state in
    let x = c.args.piece in
    let front = c.args.rows.now.items in
    let bs = reverse c.args.brackets.now.items in
    let w = c.in-Go in
    let e = step_is st.mode c.is_inside-inside.result (is_inside st.depth) c.last_of.result (innermost bs) x.sort c.tree_step-step.result (Go w.ended w.action w.to) c.tree_step-step.ensures c.is_inside-inside.ensures c.last_of.ensures w.is in
    let r = ended_row w.ended st.text in
    let q = token_row w.action x.span st.text in
    let one : c.put.new.rows.items ≡ front ++ listed r = c.in_ok-put.ensures ∙ ap (λ (o : Option Row). front ++ listed o) c.ended_row.ensures in
    let two : c.act.new.rows.items ≡ (front ++ listed r) ++ listed q = c.in_ok-behind.ensures.rows ∙ ap (λ (rows : List Row). rows ++ listed q) one in
    let to : State = c.in_ok-behind.behind in
    let goes = e ∙ ap (λ (m : Mode). Go w.ended w.action m) (sym c.in_ok-behind.ensures.mode) in
    reads_on front c.act.new.rows.items r q st to bs (reverse c.act.new.brackets.items) x w.ended w.action goes two refl refl c.in_ok-behind.ensures.depth c.in_ok-behind.ensures.brackets c.in_ok-behind.ensures.text
