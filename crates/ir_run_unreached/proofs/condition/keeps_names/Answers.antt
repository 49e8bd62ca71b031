use Rattle.std.proofs.Common.{◌↔◌, refl, sym, subst}
use Rattle.std.specs.Prelude.{IsTrue}
use Rattle.ir_core_queries.specs.Entities.{meant}
use Rattle.ir_core_queries.specs.State.{forest_of}
use Rattle.ir_run_unreached.specs.Kept.{KeepsOwn}
use Rattle.ir_run_unreached.proofs.KeptNames.{region_keeps}
use Rattle.ir_run_unreached.proofs.condition.keeps_names.Goals as goal

pub returns-in-Op : goal.returns-in-Op
returns-in-Op g c = subst (λ e. IsTrue c.keeps_results.result ↔ KeepsOwn (forest_of c.args.ctx.now) c.args.marked.now (meant e)) (sym c.in-Op.is) c.keeps_results.ensures

pub returns-in-Block : goal.returns-in-Block
returns-in-Block g c = subst (λ e. IsTrue c.keeps_block.result ↔ KeepsOwn (forest_of c.args.ctx.now) c.args.marked.now (meant e)) (sym c.in-Block.is) c.keeps_block.ensures

pub returns-in-Region : goal.returns-in-Region
returns-in-Region g c = (λ _. subst (λ e. KeepsOwn (forest_of c.args.ctx.now) c.args.marked.now (meant e)) (sym c.in-Region.is) (region_keeps (forest_of c.args.ctx.now) c.args.marked.now c.in-Region.field-0.index), λ _. refl)
