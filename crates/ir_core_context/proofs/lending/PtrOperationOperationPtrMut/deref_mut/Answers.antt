use Rattle.std.proofs.Common.{refl, sym}
use Rattle.ir_core_context.specs.State.{ContextState}
use Rattle.ir_core_context.proofs.WrittenOps.{op-lent, op-lent-attributes, op-lent-loc, op-lent-sound, writes-op}
use Rattle.ir_core_context.proofs.lending.PtrOperationOperationPtrMut.deref_mut.Goals as goal

pub invariant_of-ctx-lent : goal.invariant_of-ctx-lent
invariant_of-ctx-lent g c =
    let i = c.ctx.inside in
    let s : ContextState _ _ _ _ _ _ _ = record { records = i.records; types = i.types; next_value = i.next_value; next_use = i.next_use; side = i.side; limits = i.limits } in
    op-lent-sound s c.args.ptr.index c.at_mut.result.now c.at_mut.ensures.value c.ctx.invariant

pub returns : goal.returns
returns g c =
    let i = c.ctx.inside in
    let s : ContextState _ _ _ _ _ _ _ = record { records = i.records; types = i.types; next_value = i.next_value; next_use = i.next_use; side = i.side; limits = i.limits } in (
      (refl, λ rest. rw (sym c.ctx.view_is) (op-lent s c.args.ptr.index c.at_mut.result.now c.at_mut.ensures.value rest)),
      record {
        writes_back = tt;
        attributes = rw (sym c.ctx.view_is) (op-lent-attributes s c.args.ptr.index c.at_mut.result.now c.at_mut.ensures.value);
        loc = rw (sym c.ctx.view_is) (op-lent-loc s c.args.ptr.index c.at_mut.result.now c.at_mut.ensures.value);
        written = writes-op c.args.ctx.now c.args.ptr.index;
      },
    )
