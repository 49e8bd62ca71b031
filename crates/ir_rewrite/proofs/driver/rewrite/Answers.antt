use Rattle.std.proofs.Common.{◌≡◌, ◌+◌, refl, sym, ap, subst, ◌∙◌, zero, Ok, All, arith, rules, true, false, map}
use Rattle.ir_checked_core.specs.declared.error.CheckedErr.TheVariants.{Core}
use Rattle.ir_model.specs.Forest.{an_op}
use Rattle.ir_model.specs.Nesting.{In}
use Rattle.ir_core_context.specs.State.{forest_of}
use Rattle.ir_model.specs.declared.ids.ArenaIndex.{ArenaIndex}
use Rattle.ir_rewrite.specs.Driving.{no_step}
use Rattle.ir_rewrite.proofs.Steps.{failing, lacking, none_applies, on_no, on_yes, stepped}
use Rattle.ir_rewrite.proofs.driver.rewrite.Goals as goal

pub loop-steps-init : goal.loop-steps-init
loop-steps-init g c = record { live = c.requires; steps = no_step; within = omega arith; all = λ _. c.in_ok-todo.ensures.all }

pub returns-then-not-is_live-clause-steps : goal.returns-then-not-is_live-clause-steps
returns-then-not-is_live-clause-steps g c =
    stepped forest_of c.args.root.index c.args.patterns.now g.P.Pattern.changes c.args.ctx.now c.loop-steps.ctx c.ask_each.new.ctx c.loop-steps.steps c.loop-steps.invariant.steps
    (on_yes _ c.if-changed.true c.in_ok-changed.ensures.changed)

pub loop-steps-preserved-in-Continue-branch-3 : goal.loop-steps-preserved-in-Continue-branch-3
loop-steps-preserved-in-Continue-branch-3 g c = record {
  live = c.is_live.ensures.0 c.if-not-is_live.false;
  steps = stepped forest_of c.args.root.index c.args.patterns.now g.P.Pattern.changes c.args.ctx.now c.loop-steps.ctx c.ask_each.new.ctx c.loop-steps.steps c.loop-steps.invariant.steps
      (on_yes _ c.if-changed.true c.in_ok-changed.ensures.changed);
  within = omega (arith, c.loop-steps-test.true);
  all = λ e. absurd cc;
}

pub returns-then-unchanged-clause-done : goal.returns-then-unchanged-clause-done
returns-then-unchanged-clause-done g c = λ _.
    none_applies forest_of c.args.root.index c.args.patterns.now (λ p. p.index) g.P.Pattern.declines c.loop-steps.ctx c.ask_each.new.ctx c.loop-steps.todo.items
    (on_no _ c.if-changed.false c.in_ok-changed.ensures.unchanged)
    (c.loop-steps.invariant.all c.if-unchanged.true)
    (on_no _ c.if-changed.false c.in_ok-changed.ensures.declined)

pub returns-in_err-todo-clause-err : goal.returns-in_err-todo-clause-err
returns-in_err-todo-clause-err g c =
    lacking forest_of c.args.root.index c.args.patterns.now g.P.Pattern.changes g.P.Pattern.fails c.args.ctx.now c.args.ctx.now c.args.limit _ (Core c.in_err-todo.field-0.0) (search rules)
    c.args.ctx.now zero no_step (omega arith) (ap (λ x. Core x) c.in_err-todo.ensures.memory) refl

pub returns-in_err-changed-clause-err : goal.returns-in_err-changed-clause-err
returns-in_err-changed-clause-err g c =
    failing forest_of c.args.root.index c.args.patterns.now g.P.Pattern.changes g.P.Pattern.fails c.args.ctx.now c.ask_each.new.ctx c.args.limit _ c.in_err-changed.field-0.0 (search rules)
    c.loop-steps.ctx c.loop-steps.steps c.loop-steps.invariant.steps c.loop-steps.invariant.within c.in_err-changed.ensures.failed

pub returns-in_err-push_changed-clause-err : goal.returns-in_err-push_changed-clause-err
returns-in_err-push_changed-clause-err g c =
    lacking forest_of c.args.root.index c.args.patterns.now g.P.Pattern.changes g.P.Pattern.fails c.args.ctx.now c.ask_each.new.ctx c.args.limit _ (Core c.in_err-push_changed.field-0.0) (search rules)
    c.ask_each.new.ctx (c.loop-steps.steps + 1)
    (stepped forest_of c.args.root.index c.args.patterns.now g.P.Pattern.changes c.args.ctx.now c.loop-steps.ctx c.ask_each.new.ctx c.loop-steps.steps c.loop-steps.invariant.steps
    (on_yes _ c.if-changed.true c.in_ok-changed.ensures.changed))
    (omega (arith, c.loop-steps-test.true)) (ap (λ x. Core x) c.in_err-push_changed.ensures) refl
