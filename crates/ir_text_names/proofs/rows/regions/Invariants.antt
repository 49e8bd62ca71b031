use Rattle.std.proofs.Common.{◌≡◌, ◌++◌, reverse, drop}
use Rattle.ir_text_names.specs.Rows.{top, row_regions, regions_behind, scopes_from}
use Rattle.ir_text_names.proofs.rows.regions.Given as goal

abbrev pub invariant-loop-at : goal.invariant-loop-at
invariant-loop-at l = record {
  told : l.regions.items ++ scopes_from regions_behind (reverse l.around.items) l.at (drop l.at l.rows) ≡ row_regions l.rows;
  innermost : l.innermost ≡ top (reverse l.around.items);
}
