use Rattle.std.proofs.Common.{sym, inr}
use Rattle.ir_text_names.specs.Resolved.{IsWrong}
use Rattle.ir_text_names.proofs.FirstRows.{first_fault, all_well, found_within}
use Rattle.ir_text_names.proofs.FirstOfAll.{first_of_all}
use Rattle.ir_text_names.proofs.resolving.resolve.Goals as goal

pub returns-in-Some-clause-checked : goal.returns-in-Some-clause-checked
returns-in-Some-clause-checked c =
    let text = c.args.text.now in
    let rows = c.args.rows.now in
    let first = first_of_all text rows c.in_ok-blocks.blocks.found c.in_ok-keys.keys c.type_fault-types.result c.result_fault-results.result c.in_ok-values.values.found c.sooner-places.result c.sooner-numbers.result c.sooner-uses.result c.sooner-found.result c.sooner-places.ensures c.sooner-numbers.ensures c.sooner-uses.ensures c.sooner-found.ensures
    c.in_ok-blocks.ensures.found c.in_ok-keys.ensures c.type_fault-types.ensures c.result_fault-results.ensures c.in_ok-values.ensures.found in
    first_fault (IsWrong text rows) rows c.in-Some.fault c.sooner-found.result (sym c.in-Some.ensures) first

pub returns-in-None-clause-values : goal.returns-in-None-clause-values
returns-in-None-clause-values c =
    let text = c.args.text.now in
    let rows = c.args.rows.now in
    let first = first_of_all text rows c.in_ok-blocks.blocks.found c.in_ok-keys.keys c.type_fault-types.result c.result_fault-results.result c.in_ok-values.values.found c.sooner-places.result c.sooner-numbers.result c.sooner-uses.result c.sooner-found.result c.sooner-places.ensures c.sooner-numbers.ensures c.sooner-uses.ensures c.sooner-found.ensures
    c.in_ok-blocks.ensures.found c.in_ok-keys.ensures c.type_fault-types.ensures c.result_fault-results.ensures c.in_ok-values.ensures.found in
    let well = all_well (IsWrong text rows) rows c.sooner-found.result (sym c.in-None.ensures) first in
    c.in_ok-values.ensures.table (λ k lt v w. well k lt v (inr (inr w)))

pub returns-in-None-clause-checked : goal.returns-in-None-clause-checked
returns-in-None-clause-checked c =
    let text = c.args.text.now in
    let rows = c.args.rows.now in
    let first = first_of_all text rows c.in_ok-blocks.blocks.found c.in_ok-keys.keys c.type_fault-types.result c.result_fault-results.result c.in_ok-values.values.found c.sooner-places.result c.sooner-numbers.result c.sooner-uses.result c.sooner-found.result c.sooner-places.ensures c.sooner-numbers.ensures c.sooner-uses.ensures c.sooner-found.ensures
    c.in_ok-blocks.ensures.found c.in_ok-keys.ensures c.type_fault-types.ensures c.result_fault-results.ensures c.in_ok-values.ensures.found in
    all_well (IsWrong text rows) rows c.sooner-found.result (sym c.in-None.ensures) first

pub fault_of-requires : goal.fault_of-requires
fault_of-requires c =
    let text = c.args.text.now in
    let rows = c.args.rows.now in
    found_within (IsWrong text rows) _ c.sooner-found.result
    (first_of_all text rows c.in_ok-blocks.blocks.found c.in_ok-keys.keys c.type_fault-types.result c.result_fault-results.result c.in_ok-values.values.found c.sooner-places.result c.sooner-numbers.result c.sooner-uses.result c.sooner-found.result c.sooner-places.ensures c.sooner-numbers.ensures c.sooner-uses.ensures c.sooner-found.ensures
    c.in_ok-blocks.ensures.found c.in_ok-keys.ensures c.type_fault-types.ensures c.result_fault-results.ensures c.in_ok-values.ensures.found)
