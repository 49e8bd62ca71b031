use Rattle.std.proofs.Common.{sym}
use Rattle.ir_model.specs.Nesting.{children}
use Rattle.ir_core_context.specs.State.{forest_of}
use Rattle.ir_core_queries.specs.Entities.{meant}
use Rattle.ir_view.proofs.Forests.{first-inside, first-none, pre-first}
use Rattle.ir_view.proofs.next.next_in_preorder.Goals as goal

pub returns-in-Some-clause-inside : goal.returns-in-Some-clause-inside
returns-in-Some-clause-inside g c = first-inside (forest_of c.args.ctx.now) c.recall_well_formed.ensures.nested (meant c.args.root) (meant c.args.here) (meant c.in-Some.child) c.in-Some.ensures c.requires.inside

pub returns-in-Some-clause-next : goal.returns-in-Some-clause-next
returns-in-Some-clause-next g c = λ xs before behind is splits.
    pre-first (forest_of c.args.ctx.now) c.recall_well_formed.ensures.nested (meant c.args.root) (meant c.args.here) c.requires.inside xs before behind splits is (meant c.in-Some.child) c.in-Some.ensures

pub next_after_leaf-requires-clause-leaf : goal.next_after_leaf-requires-clause-leaf
next_after_leaf-requires-clause-leaf g c = first-none (children (forest_of c.args.ctx.now) (meant c.args.here)) (sym c.in-None.ensures)
