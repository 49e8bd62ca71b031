use Rattle.std.proofs.Common.{◌≡◌, ◌≢◌, ◌+◌, get_or}
use Rattle.ir_text_tree.specs.declared.row.Part.TheVariants as parts
use Rattle.ir_text_names.specs.Firsts.{IsFirst}
use Rattle.ir_text_names.specs.Operations.{number_of}
use Rattle.ir_text_names.specs.Rows.{part_of}
use Rattle.ir_text_names.proofs.counting.first_different.Given as goal

abbrev pub invariant-loop-at : goal.invariant-loop-at
invariant-loop-at l = record {
  number : l.number ≡ number_of l.rows l.at;
  first : IsFirst (λ i. (part_of l.rows i ≡ parts.Name) × (get_or l.some (number_of l.rows (i + 1)) 0 ≢ get_or l.others (number_of l.rows (i + 1)) 0)) l.at l.first;
}
