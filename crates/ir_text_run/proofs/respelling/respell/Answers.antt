use Rattle.std.proofs.Common.{rules, ◌≡◌, List, length, Err, sym, subst}
use Rattle.ir_text_tree.specs.declared.row.Row.{Row}
use Rattle.ir_text_tree.specs.Rows.{GoForward, row_spans}
use Rattle.ir_text_names.specs.Resolved.{IsWrong}
use Rattle.ir_text_run.specs.Faults.{of_naming}
use Rattle.ir_text_run.proofs.RowsWithin.{fault_within}
use Rattle.ir_text_run.proofs.respelling.respell.Goals as goal

pub returns-in_err-resolve-clause-placed : goal.returns-in_err-resolve-clause-placed
returns-in_err-resolve-clause-placed g c =
    let text = c.args.text.now in
    let rows = c.as_slice-rows.result.now in
    let e = c.in_err-resolve.field-0.0 in
    let same : rows ≡ c.in_ok-tree.tree.rows.items = search rules in
    let forward : GoForward (length text) 0 (row_spans rows) = subst (λ (r : List Row). GoForward (length text) 0 (row_spans r)) (sym same) c.in_ok-tree.ensures.in_order in
    let is : c.from_residual-in_err-resolve.result ≡ Err (of_naming e) = search rules in
    rw is (fault_within text rows (IsWrong text rows) e forward c.in_err-resolve.ensures.checked)
