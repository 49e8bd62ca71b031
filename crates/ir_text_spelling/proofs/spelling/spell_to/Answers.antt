use Rattle.std.proofs.Common.{rules, ◌≡◌, ◌≤◌, ℕ, ◌+◌, ◌++◌, List, get_or, drop, Some, Err, sym, subst}
use Rattle.std.proofs.lemmas.List.{drop_more, drop_all}
use Rattle.ir_text_tree.specs.declared.row.Row.{Row}
use Rattle.ir_text_tree.specs.declared.row.Part.TheVariants as parts
use Rattle.ir_text_tree.specs.Rows.{row, span}
use Rattle.ir_text_spelling.specs.Marks.{depth_behind}
use Rattle.ir_text_spelling.specs.Spellings.{piece, spelled, rows_spelled}
use Rattle.ir_text_spelling.specs.Writings.{AppendsFront, Writes}
use Rattle.ir_text_spelling.proofs.SpellingSteps.{depth_fits}
use Rattle.ir_text_spelling.proofs.WritingSteps.{row_wrote, row_broke, end_wrote}
use Rattle.ir_text_spelling.proofs.TreesSpelled.{rows_are_tree}
use Rattle.ir_text_spelling.proofs.spelling.spell_to.Goals as goal

-- the element past the end
abbrev nothing : Row
nothing = row parts.Result (span 0 0)

pub loop-row-preserved : goal.loop-row-preserved
loop-row-preserved g c =
    let (done, appended, total, shallow) = c.loop-row.invariant in
    let all = c.args.rows.now in
    let l = c.loop-row in
    let x = get_or all l.row-index nothing in
    let rest = drop (l.row-index + 1) all in
    let wrote = row_wrote (g.W.Write.contents c.args.output.now) (g.W.Write.contents l.output) (g.W.Write.contents c.write_row.new.output) c.args.text.now done (rows_spelled c.args.text.now all) l.depth l.last x (drop l.row-index all) rest l.left c.in_ok-left.left (drop_more all l.row-index nothing c.loop-row-test.true) appended total c.in_ok-left.ensures in
    let is : c.depth_behind-depth.result ≡ depth_behind x.part l.depth = c.depth_behind-depth.ensures in (
      wrote.0,
      wrote.1,
      subst (λ (d : ℕ). wrote.0 ++ (piece c.args.text.now c.in_ok-left.left ++ spelled c.args.text.now d (Some x.part) rest) ≡ rows_spelled c.args.text.now all) (sym is) wrote.2,
      subst (λ (d : ℕ). d ≤ l.row-index + 1) (sym is) (depth_fits x.part l.depth l.row-index shallow),
    )

pub returns-in_err-left-clause-exact : goal.returns-in_err-left-clause-exact
returns-in_err-left-clause-exact g c =
    let (done, appended, total, shallow) = c.loop-row.invariant in
    let all = c.args.rows.now in
    let l = c.loop-row in
    let x = get_or all l.row-index nothing in
    let f = c.in_err-left.field-0.0 in
    let is : c.from_residual.result ≡ Err f = search rules in
    rw is (row_broke (g.W.Write.contents c.args.output.now) (g.W.Write.contents l.output) (g.W.Write.contents c.write_row.new.output) c.args.text.now done (rows_spelled c.args.text.now all) l.depth l.last x (drop l.row-index all) (drop (l.row-index + 1) all) l.left (drop_more all l.row-index nothing c.loop-row-test.true) appended total c.in_err-left.ensures)

pub returns-in_err-left-clause-tree : goal.returns-in_err-left-clause-tree
returns-in_err-left-clause-tree g c = λ b e.
    let (done, appended, total, shallow) = c.loop-row.invariant in
    let all = c.args.rows.now in
    let l = c.loop-row in
    let x = get_or all l.row-index nothing in
    let f = c.in_err-left.field-0.0 in
    let is : c.from_residual.result ≡ Err f = search rules in
    let a = g.W.Write.contents c.args.output.now in
    let d = g.W.Write.contents c.write_row.new.output in
    rw is (subst (λ (o : List ℕ). AppendsFront a d o) (rows_are_tree c.args.text.now all b e) (row_broke a (g.W.Write.contents l.output) d c.args.text.now done (rows_spelled c.args.text.now all) l.depth l.last x (drop l.row-index all) (drop (l.row-index + 1) all) l.left (drop_more all l.row-index nothing c.loop-row-test.true) appended total c.in_err-left.ensures))

pub returns-clause-exact : goal.returns-clause-exact
returns-clause-exact g c =
    let (done, appended, total, shallow) = c.loop-row.invariant in
    let all = c.args.rows.now in
    let l = c.loop-row in
    end_wrote (g.W.Write.contents c.args.output.now) (g.W.Write.contents l.output) (g.W.Write.contents c.write_rest.new.output) c.args.text.now done (rows_spelled c.args.text.now all) l.depth l.last (drop l.row-index all) l.left c.write_rest.result (drop_all l.row-index all c.loop-row-test.false) appended total c.write_rest.ensures

pub returns-clause-tree : goal.returns-clause-tree
returns-clause-tree g c = λ b e.
    let (done, appended, total, shallow) = c.loop-row.invariant in
    let all = c.args.rows.now in
    let l = c.loop-row in
    let a = g.W.Write.contents c.args.output.now in
    let d = g.W.Write.contents c.write_rest.new.output in
    subst (λ (o : List ℕ). Writes a d o c.write_rest.result) (rows_are_tree c.args.text.now all b e)
    (end_wrote a (g.W.Write.contents l.output) d c.args.text.now done (rows_spelled c.args.text.now all) l.depth l.last (drop l.row-index all) l.left c.write_rest.result (drop_all l.row-index all c.loop-row-test.false) appended total c.write_rest.ensures)
