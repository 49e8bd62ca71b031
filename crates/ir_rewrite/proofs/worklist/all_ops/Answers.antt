use Rattle.std.proofs.Common.{sym, subst, ◌∙◌, inl, inr, map}
use Rattle.ir_model.specs.Forest.{an_op}
use Rattle.ir_model.specs.Nesting.{In}
use Rattle.ir_rewrite.proofs.Lists.{in_turned}
use Rattle.ir_rewrite.proofs.worklist.all_ops.Goals as goal

pub loop-entity-init : goal.loop-entity-init
loop-entity-init g c = (
  tt,
  tt,
  λ o i. inr (subst (In (an_op o)) (sym c.into_iter-entity-iterator.ensures.into_iter_gives) ((c.inside-entity-items.ensures.each.exact (an_op o)).1 i)),
)

pub loop-entity-preserved : goal.loop-entity-preserved
loop-entity-preserved g c = (
  tt,
  tt,
  λ o i. elim (c.loop-entity.invariant.2 o i) [
    | inl k ↦ inl (c.in_ok-push_op.ensures.noted o (inl k))
    | inr k ↦ elim (subst (In (an_op o)) c.in-Some.ensures.steps k) [
      | inl e ↦ inl (c.in_ok-push_op.ensures.noted o (inr (sym e)))
      | inr m ↦ inr m
    ]
  ],
)

pub returns-clause-all : goal.returns-clause-all
returns-clause-all g c = λ o i.
    subst (λ xs. In o (map (λ p. p.index) xs)) (sym c.reverse.ensures.items)
    (in_turned (λ p. p.index) o c.loop-entity.ops.items
    (elim (c.loop-entity.invariant.2 o i) [
      | inl k ↦ k
      | inr k ↦ elim (subst (In (an_op o)) c.in-None.ensures.steps.0 k) [ ]
    ]))
