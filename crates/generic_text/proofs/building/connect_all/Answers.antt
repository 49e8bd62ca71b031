use Rattle.std.proofs.Common.{subst, sym}
use Rattle.std.specs.List.{All}
use Rattle.ir_model.specs.Forest.{an_op}
use Rattle.generic_text.specs.Left.{IsNew}
use Rattle.generic_text.proofs.building.connect_all.Goals as goal

pub returns-in_err-connect : goal.returns-in_err-connect
returns-in_err-connect c = λ first builds.
    let now = c.loop-op.invariant first builds in
    let all : All (λ p. IsNew first (an_op p.0.index)) c.deref-op-items.result.now = subst (λ ps. All (λ p. IsNew first (an_op p.0.index)) ps) (sym c.deref-op-items.ensures.value) now.late in
    c.connect.ensures first now (all c.loop-op.op-index _ c.loop-op-test.true)

pub loop-op-preserved : goal.loop-op-preserved
loop-op-preserved c = λ first builds.
    let now = c.loop-op.invariant first builds in
    let all : All (λ p. IsNew first (an_op p.0.index)) c.deref-op-items.result.now = subst (λ ps. All (λ p. IsNew first (an_op p.0.index)) ps) (sym c.deref-op-items.ensures.value) now.late in
    c.connect.ensures first now (all c.loop-op.op-index _ c.loop-op-test.true)
