use Rattle.std.proofs.Common.{◌-◌, length, take, drop, ℕ, List, ap, ap₂, ◌∙◌, arith}
use Rattle.generic_table.proofs.TableFacts.{no_row, operations-length, rows-few, row_facts}
use Rattle.generic_table.proofs.look_up.name_of.Goals as goal

pub start_of-start-requires : goal.start_of-start-requires
start_of-start-requires c = omega (arith, c.requires, operations-length)

pub offset_bounds-rows-row : goal.offset_bounds-rows-row
offset_bounds-rows-row c = omega (arith, c.requires, operations-length, rows-few)

pub bounds-rows-row : goal.bounds-rows-row
bounds-rows-row c = let same = ap length c.rows.ensures in omega (arith, c.requires, operations-length, same)

pub slice_bounds-result-count : goal.slice_bounds-result-count
slice_bounds-result-count c =
    let row = row_facts c.args.row c.start_of-start.result c.rows.result.now no_row c.requires c.rows.ensures c.start_of-start.ensures in
    omega (arith, row.forward, c.from.ensures)

pub slice_bounds-result-start : goal.slice_bounds-result-start
slice_bounds-result-start c =
    let row = row_facts c.args.row c.start_of-start.result c.rows.result.now no_row c.requires c.rows.ensures c.start_of-start.ensures in
    omega (arith, row.forward, c.from.ensures)

pub slice_bounds-result-end : goal.slice_bounds-result-end
slice_bounds-result-end c =
    let row = row_facts c.args.row c.start_of-start.result c.rows.result.now no_row c.requires c.rows.ensures c.start_of-start.ensures in
    let all = ap length c.all_names.ensures in
    omega (arith, row.within, c.from.ensures, all)

pub returns : goal.returns
returns c = λ d.
    let row = row_facts c.args.row c.start_of-start.result c.rows.result.now no_row c.requires c.rows.ensures c.start_of-start.ensures in
    ap₂ (λ (n : ℕ) (names : List ℕ). take (n - c.start_of-start.result) (drop c.start_of-start.result names)) c.from.ensures c.all_names.ensures
    ∙ row.name d
