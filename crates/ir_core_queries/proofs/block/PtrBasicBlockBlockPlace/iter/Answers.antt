use Rattle.std.proofs.Common.{◌≡◌, All, refl, sym, ◌∙◌, subst}
use Rattle.ir_model.specs.Forest.{an_op, a_block}
use Rattle.ir_model.specs.Nesting.{IsLive, ops_of}
use Rattle.ir_core_records.specs.Tree.{tree_of, ops_in}
use Rattle.ir_core_context.specs.State.{forest_of}
use Rattle.ir_core_queries.proofs.Listed.{ops-meant}
use Rattle.ir_core_queries.proofs.Neighbours.{all-of, each-live}
use Rattle.ir_core_queries.proofs.block.PtrBasicBlockBlockPlace.iter.Goals as goal

pub returns-clause-items : goal.returns-clause-items
returns-clause-items g c =
    let nested = c.recall_holds_together.ensures.nested in
    (rw c.records-records.ensures at c.iter.ensures) (ops_in (tree_of c.args.ctx.now.records)) nested.op_lists ∙ sym (ops-meant c.args.ctx.now.records nested c.args.self.index)

pub returns-clause-live : goal.returns-clause-live
returns-clause-live g c =
    let f = forest_of c.args.ctx.now in
    let listed = ops_of f c.args.self.index in
    subst (All (λ x. IsLive f (an_op x))) (sym (returns-clause-items g c)) (all-of (λ x. IsLive f (an_op x)) listed (each-live f c.recall_well_formed.ensures.nested an_op (a_block c.args.self.index) listed refl))
