use Rattle.std.proofs.Common.{rules, tests}
use Rattle.std.proofs.lemmas.Iterator.{cases_from_all, YieldsList-from_slice}
use Rattle.ir_model.specs.Forest.{an_op}
use Rattle.ir_model.specs.Nesting.{IsLinked}
use Rattle.ir_core_records.specs.declared.record.UseIndex.{UseIndex}
use Rattle.ir_core_context.specs.State.{forest_of}
use Rattle.ir_core_queries.proofs.BlockUsers.{all-told}
use Rattle.ir_core_queries.proofs.users.all_linked.Goals as goal

pub returns : goal.returns
returns g c =
    let P : UseIndex → Type 0 = λ u. IsLinked (forest_of c.args.ctx.now) (an_op u.user) in
    all-told P c.all.result c.args.uses.now (cases_from_all _ _ c.all.result P (λ u. P u → ⊥) c.all.ensures.ran (YieldsList-from_slice c.args.uses.now cc) (λ x q k. search (rules, tests)) (λ x q k. search (rules, tests)))
