use Rattle.std.proofs.Common.{◌≡◌, ◌∙◌, Bool, false, true, None, length, refl, sym, ap, rules}
use Rattle.std.specs.Prelude.{not}
use Rattle.ir_model.specs.BlockGraph.{implements, no_terminator_interface}
use Rattle.ir_model.specs.Forest.{a_block, a_region}
use Rattle.ir_view_parts.specs.State.{forest_of, types_of}
use Rattle.ir_core_records.specs.Meaning.{op_record}
use Rattle.ir_verify.proofs.Blocks.{implements-read, in-op, in-region, lacks-by, lacks-linked, not-true, true-not}
use Rattle.ir_verify.proofs.block_faults.lacks_terminator.Goals as goal
use Rattle.ir_core_records.specs.DialectAnswers.{behaviour_of}

pub returns-in_default : goal.returns-in_default
returns-in_default g c =
    let B = behaviour_of g.D.Dialects g.D.TypeKey.PartialEq.eq in
    let f = forest_of c.args.ctx.now in
    let none = rw c.in_default.is at c.get_parent_region.ensures.parent in
    (λ e. absurd cc, λ l. (let h = lacks-linked f (length (types_of c.args.ctx.now)) c.recall_well_formed.ensures B (types_of c.args.ctx.now) c.args.block.index l in absurd (none h.0 h.1)))

pub returns-in-None : goal.returns-in-None
returns-in-None g c =
    let B = behaviour_of g.D.Dialects g.D.TypeKey.PartialEq.eq in
    let f = forest_of c.args.ctx.now in
    let s = types_of c.args.ctx.now in
    let b = c.args.block.index in
    let p = c.get_parent_op-parent.result.index in
    let i = in-region f b c.in-Some.region.index c.in-Some.ensures.parent in
    let j = in-op f c.in-Some.region.index p c.get_parent_op-parent.ensures.parent in
    let read : implements B f no_terminator_interface p ≡ c.op_impls.result = implements-read B f (length s) c.recall_well_formed.ensures s no_terminator_interface p (op_record c.deref.result.now) c.deref.ensures.found.found ∙ ap (λ k. g.D.Dialects.op_impls_of k no_terminator_interface) (sym c.kind.ensures) ∙ sym c.op_impls.ensures in (
      λ e. (p, (c.in-Some.region.index, i, j), read ∙ not-true c.op_impls.result e, sym c.in-None.ensures.found),
      λ l. true-not c.op_impls.result (sym read ∙ (lacks-by f (length s) c.recall_well_formed.ensures B s b c.in-Some.region.index p i j l).0),
    )
