use Rattle.std.proofs.Common.{rules, ◌≡◌, replicate, ap, ◌∙◌}
use Rattle.ir_text_names.specs.Entries.{all_entries}
use Rattle.ir_text_names.proofs.Entries.{none_entries}
use Rattle.ir_text_names.proofs.row_table.RowTable.of_none.Goals as goal

pub returns : goal.returns
returns c =
    let filled : c.in_ok-entries.entries.items ≡ replicate c.args.rows 0 = search rules in
    ap all_entries filled ∙ none_entries c.args.rows
