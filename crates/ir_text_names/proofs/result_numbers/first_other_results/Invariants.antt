use Rattle.std.proofs.Common.{◌≡◌, ◌≢◌, ◌+◌, get_or, Some, None}
use Rattle.ir_text_tree.specs.declared.row.Part.TheVariants as parts
use Rattle.ir_text_names.specs.Firsts.{IsFirst}
use Rattle.ir_text_names.specs.Numbers.{amount_of, results_before}
use Rattle.ir_text_names.specs.Operations.{number_of}
use Rattle.ir_text_names.specs.Rows.{part_of}
use Rattle.ir_text_names.proofs.result_numbers.first_other_results.Given as goal

abbrev pub invariant-loop-at : goal.invariant-loop-at
invariant-loop-at l = record {
  number : l.number ≡ number_of l.rows l.at;
  first : IsFirst (λ i. (part_of l.rows i ≡ parts.Name) × (results_before l.text l.rows i ≢ get_or l.types (number_of l.rows (i + 1)) 0)) l.at None;
  results : l.results ≡ amount_of (Some (results_before l.text l.rows l.at));
}
