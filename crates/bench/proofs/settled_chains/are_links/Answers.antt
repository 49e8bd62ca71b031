use Rattle.std.proofs.Common.{◌≡◌, ◌∙◌, inl, inr, subst, sym}
use Rattle.ir_base.specs.Model.Nesting.{In}
use Rattle.ir_core.specs.Context.State.{forest_of}
use Rattle.bench.specs.Settled.{IsLink}
use Rattle.bench.proofs.settled_chains.are_links.Goals as goal

pub loop-op-init : goal.loop-op-init
loop-op-init g c = (tt, tt, λ o at. inr (subst (In o) (sym (c.into_iter-op-iterator.ensures.into_iter_gives ∙ c.iter-op-items.ensures.items)) at))
