use Rattle.ir_model.specs.Nesting.{itself, children}
use Rattle.std.proofs.Common.{[]}
use Rattle.ir_core_context.specs.State.{forest_of}
use Rattle.ir_core_queries.specs.Entities.{meant}
use Rattle.ir_view.proofs.Steps.{begins}
use Rattle.ir_view.proofs.next.first_inside.Goals as goal

pub returns-in-PostOrder-clause-first : goal.returns-in-PostOrder-clause-first
returns-in-PostOrder-clause-first g c = rw c.in-PostOrder.is c.innermost.ensures.first

pub returns-in-Preorder-clause-inside : goal.returns-in-Preorder-clause-inside
returns-in-Preorder-clause-inside g c = itself

pub returns-in-Preorder-clause-first : goal.returns-in-Preorder-clause-first
returns-in-Preorder-clause-first g c = rw c.in-Preorder.is (λ xs h. begins (children (forest_of c.args.ctx.now)) (meant c.args.root) [] xs h)
