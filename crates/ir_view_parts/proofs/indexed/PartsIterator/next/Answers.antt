use Rattle.std.proofs.Common.{sym, ◌∙◌, arith, ◌<◌}
use Rattle.ir_view_parts.proofs.Ranges.{range-first}
use Rattle.ir_view_parts.proofs.indexed.PartsIterator.next.Goals as goal

pub returns-clause-steps : goal.returns-clause-steps
returns-clause-steps g c =
    let below : c.self.inside.first < c.self.inside.end = omega (arith, c.if-self.false) in
    sym c.self.view_is ∙ range-first _ c.self.inside.first c.self.inside.end _ below c.part-part.ensures
