use Rattle.std.proofs.Common.{◌≡◌, ◌↔◌, true}
use Rattle.ir_model.specs.Nesting.{children}
use Rattle.ir_core_context.specs.State.{forest_of}
use Rattle.ir_core_queries.specs.Entities.{meant}
use Rattle.ir_core_queries.specs.Shallow.{IsAt, IsShallow}
use Rattle.ir_core_queries.proofs.Shallow.{at_top, at-within}
use Rattle.ir_core_queries.proofs.entity.is_inside.Goals as goal

pub returns-then-is_shallow : goal.returns-then-is_shallow
returns-then-is_shallow g c =
    let f = forest_of c.args.ctx.now in
    let inner = meant c.args.inner in
    let outer = meant c.args.outer in
    let shallow : IsShallow (children f) outer = (rw (c.records-records.ensures, c.index-outer.ensures) at c.is_shallow.ensures) c.if-is_shallow.true in
    let at : (c.is_at.result ≡ true) ↔ IsAt (children f) outer inner = rw (c.records-records.ensures, c.index-outer.ensures, c.index-inner.ensures) at c.is_at.ensures in
    (λ yes. at-within (children f) outer inner (at.0 yes), λ within. at.1 (at_top (children f) outer inner shallow within))

pub returns : goal.returns
returns g c = rw (c.records-records.ensures, c.index-outer.ensures, c.index-inner.ensures) at c.is_inside.ensures
