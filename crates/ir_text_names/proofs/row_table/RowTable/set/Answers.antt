use Rattle.std.proofs.Common.{ℕ, List, map, set, Option, ap, ◌∙◌}
use Rattle.std.proofs.lemmas.List.{map-set}
use Rattle.ir_text_names.specs.Entries.{entry}
use Rattle.ir_text_names.proofs.row_table.RowTable.set.Goals as goal

pub returns : goal.returns
returns c =
    let items = c.self.inside.entries.items in
    map-set entry items c.args.at c.number_for.result ∙ ap (set (map entry items) c.args.at) c.number_for.ensures ∙ ap (λ (t : List (Option ℕ)). set t c.args.at c.args.row) c.self.view_is
