use Rattle.std.proofs.Common.{◌≡◌, ◌++◌, List, [], Option, Ok, true, false, sym, ap, ◌∙◌}
use Rattle.ir_text_tree.specs.declared.row.Row.{Row}
use Rattle.ir_text_tree.specs.Parsings.{is_inside, last_row, listed, behind_rows, parsing_from}
use Rattle.ir_text_tree.specs.Reading.{parsing_done, parsing_breaks_off}
use Rattle.ir_text_tree.proofs.ParsingSteps.{told, whole_is}
use Rattle.ir_text_tree.proofs.parsing.finish.Goals as goal

pub returns-then-not-is_whole-clause-reads : goal.returns-then-not-is_whole-clause-reads
returns-then-not-is_whole-clause-reads c = λ bs.
    let st = c.args.state in
    let e = whole_is st.mode c.is_inside-inside.result (is_inside st.depth) c.is_whole.result false c.is_whole.ensures c.is_inside-inside.ensures c.if-not-is_whole.true in
    told st.mode c.is_inside-inside.result (is_inside st.depth) c.wanted.result c.args.end (parsing_from c.args.end st bs []) c.wanted.ensures c.is_inside-inside.ensures (parsing_breaks_off c.args.end st.mode st.depth bs st.text e)

pub returns-clause-reads : goal.returns-clause-reads
returns-clause-reads c = λ bs.
    let st = c.args.state in
    let front = c.args.rows.now.items in
    let e = whole_is st.mode c.is_inside-inside.result (is_inside st.depth) c.is_whole.result true c.is_whole.ensures c.is_inside-inside.ensures c.if-not-is_whole.false in
    let rows : c.put.new.rows.items ≡ front ++ listed (last_row st.mode st.text) = c.in_ok-put.ensures ∙ ap (λ (o : Option Row). front ++ listed o) c.last_row.ensures in
    ap (behind_rows front) (parsing_done c.args.end st.mode st.depth bs st.text e) ∙ ap (λ (x : List Row). Ok x) (sym rows)
