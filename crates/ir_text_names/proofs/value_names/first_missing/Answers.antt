use Rattle.std.proofs.Common.{◌≡◌, ◌+◌, ℕ, get_or, Option, None, sym, ap, subst, ◌∙◌}
use Rattle.ir_text_names.specs.Blocks.{misses}
use Rattle.ir_text_names.specs.Firsts.{IsFirst}
use Rattle.ir_text_names.specs.Values.{IsMissing}
use Rattle.ir_text_names.proofs.FirstRows.{first_more}
use Rattle.ir_text_names.proofs.Tables.{misses_is, misses_told}
use Rattle.ir_text_names.proofs.value_names.first_missing.Goals as goal

pub loop-at-preserved : goal.loop-at-preserved
loop-at-preserved c =
    let l = c.loop-at in
    let rows = c.args.rows.now in
    let table = c.args.table.now in
    let uses = c.is_operand.result in
    let is : c.misses.result ≡ misses uses (get_or table l.at None) = c.misses.ensures ∙ ap (misses uses) c.get.ensures in
    subst (λ (o : Option ℕ). IsFirst (IsMissing rows table) (l.at + 1) o) (sym c.noted-missing.ensures)
    (first_more (IsMissing rows table) l.at l.missing c.misses.result (λ e. let both = misses_is uses (get_or table l.at None) (sym is ∙ e) in (c.is_operand.ensures.0 both.0, both.1))
    (λ m. is ∙ misses_told uses (get_or table l.at None) (c.is_operand.ensures.1 m.0) m.1) l.invariant)
