use Rattle.std.proofs.Common.{subst, sym}
use Rattle.std.specs.List.{All}
use Rattle.ir_model.specs.Forest.{an_op}
use Rattle.generic_text.specs.Left.{IsNew}
use Rattle.generic_text.proofs.taking_back.take_back.Goals as goal

pub uses-preserved : goal.uses-preserved
uses-preserved c = λ first builds.
    let all : All (λ p. IsNew first (an_op p.0.index)) c.deref-op-items.result.now = subst (λ ps. All (λ p. IsNew first (an_op p.0.index)) ps) (sym c.deref-op-items.ensures.value) builds.ops in
    c.drop_uses.ensures first (c.uses.invariant first builds) (all c.uses.op-index _ c.uses-test.true)

pub ops-preserved : goal.ops-preserved
ops-preserved c = λ first builds.
    let all : All (λ p. IsNew first (an_op p.0.index)) c.deref-op-items-2.result.now = subst (λ ps. All (λ p. IsNew first (an_op p.0.index)) ps) (sym c.deref-op-items-2.ensures.value) builds.ops in
    c.erase.ensures first (c.ops.invariant first builds) (all c.ops.op-index _ c.ops-test.true)
