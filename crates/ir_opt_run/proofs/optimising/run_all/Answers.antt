use Rattle.std.proofs.Common.{rules, ◌+◌, ◌<◌, ◌≤◌, List, length, get_or, drop, subst}
use Rattle.std.proofs.lemmas.List.{drop_more, drop_all}
use Rattle.ir_core_queries.specs.State.{bare, forest_of}
use Rattle.ir_opt_run.specs.declared.options.Pass.{Pass}
use Rattle.ir_opt_run.specs.declared.options.Pass.TheVariants as passes
use Rattle.ir_opt_run.specs.Passes.{PassLeads}
use Rattle.ir_opt_run.specs.GenericBehaviour.{generic_behaviour, generic_same}
use Rattle.ir_opt_run.proofs.PassSteps.{led_one_more, led_by_all, same_joined}
use Rattle.ir_opt_run.proofs.optimising.run_all.Goals as goal

pub loop-pass-preserved : goal.loop-pass-preserved
loop-pass-preserved g c =
    let (led, rest, live) = c.loop-pass.invariant in
    let all = c.args.options.now.passes.items in
    let i = c.loop-pass.pass-index in
    let ahead : i < length all = search rules in
    let one : PassLeads generic_behaviour generic_same c.args.module.now.root.index (get_or all i passes.Sweep) (forest_of c.loop-pass.ctx) (forest_of c.run_one.new.ctx) =
    subst (λ (ps : List Pass). PassLeads generic_behaviour generic_same c.args.module.now.root.index (get_or ps i passes.Sweep) (forest_of c.loop-pass.ctx) (forest_of c.run_one.new.ctx)) c.as_slice-pass-items.ensures.value c.in_ok-run_one.ensures.leads in (
      led_one_more generic_behaviour generic_same c.args.module.now.root.index all (forest_of c.args.ctx.now) (drop i all) (drop (i + 1) all) (get_or all i passes.Sweep) (forest_of c.loop-pass.ctx) (forest_of c.run_one.new.ctx) (drop_more all i passes.Sweep ahead) led one,
      same_joined (bare c.args.ctx.now) (bare c.loop-pass.ctx) (bare c.run_one.new.ctx) rest c.in_ok-run_one.ensures.rest,
      c.in_ok-run_one.ensures.live,
    )

pub returns-clause-lead : goal.returns-clause-lead
returns-clause-lead g c =
    let all = c.args.options.now.passes.items in
    let none_ahead : length all ≤ c.loop-pass.pass-index = search rules in
    led_by_all generic_behaviour generic_same c.args.module.now.root.index all (forest_of c.args.ctx.now) (drop c.loop-pass.pass-index all) (forest_of c.loop-pass.ctx) (drop_all c.loop-pass.pass-index all none_ahead) c.loop-pass.invariant.0
