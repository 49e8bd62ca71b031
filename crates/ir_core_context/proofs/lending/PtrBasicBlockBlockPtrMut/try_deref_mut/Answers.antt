use Rattle.std.proofs.Common.{refl, sym, ap, inr}
use Rattle.ir_core_context.specs.State.{ContextState}
use Rattle.ir_core_context.proofs.Rewritten.{lent-same}
use Rattle.ir_core_context.proofs.WrittenBlocks.{block-lent-attributes, block-lent-label, block-lent-live, block-lent-loc, block-lent-now, block-lent-sound, block-missing, writes-block}
use Rattle.ir_core_context.proofs.lending.PtrBasicBlockBlockPtrMut.try_deref_mut.Goals as goal

pub invariant_of-ctx-lent : goal.invariant_of-ctx-lent
invariant_of-ctx-lent g c =
    let i = c.ctx.inside in
    let s : ContextState _ _ _ _ _ _ _ = record { records = i.records; types = i.types; next_value = i.next_value; next_use = i.next_use; side = i.side; limits = i.limits } in
    block-lent-sound s c.args.ptr.index c.in-Some.block.now (sym c.in-Some.ensures.value) c.ctx.invariant

pub returns-in-Some : goal.returns-in-Some
returns-in-Some g c =
    let i = c.ctx.inside in
    let s : ContextState _ _ _ _ _ _ _ = record { records = i.records; types = i.types; next_value = i.next_value; next_use = i.next_use; side = i.side; limits = i.limits } in (
      lent-same _ (λ rest. block-lent-now s c.args.ptr.index c.in-Some.block.now (sym c.in-Some.ensures.value) c.args.ctx.now c.ctx.view_is rest),
      record {
        writes_back = tt;
        attributes = rw (sym c.ctx.view_is) (block-lent-attributes s c.args.ptr.index c.in-Some.block.now (sym c.in-Some.ensures.value));
        label = rw (sym c.ctx.view_is) (block-lent-label s c.args.ptr.index c.in-Some.block.now (sym c.in-Some.ensures.value));
        loc = rw (sym c.ctx.view_is) (block-lent-loc s c.args.ptr.index c.in-Some.block.now (sym c.in-Some.ensures.value));
        written = writes-block c.args.ctx.now c.args.ptr.index;
        dangling = (
          λ e. absurd (cc),
          λ dead. absurd (dead (rw (sym c.ctx.view_is) (block-lent-live s c.args.ptr.index c.in-Some.block.now (sym c.in-Some.ensures.value)))),
        );
      },
    )

pub returns-in-None : goal.returns-in-None
returns-in-None g c =
    let i = c.ctx.inside in
    let s : ContextState _ _ _ _ _ _ _ = record { records = i.records; types = i.types; next_value = i.next_value; next_use = i.next_use; side = i.side; limits = i.limits } in (
      ap inr c.ctx.view_is,
      record {
        writes_back = tt;
        attributes = tt;
        label = tt;
        loc = tt;
        written = writes-block c.args.ctx.now c.args.ptr.index;
        dangling = (λ e. rw (sym c.ctx.view_is) (block-missing s c.args.ptr.index (sym c.in-None.ensures.value)), λ dead. refl);
      },
    )
