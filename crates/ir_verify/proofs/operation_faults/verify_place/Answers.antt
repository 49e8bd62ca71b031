use Rattle.std.proofs.Common.{◌≡◌, ◌∙◌, Err, true, length, refl, sym, ap, subst, rules}
use Rattle.ir_model.specs.BlockGraph.{implements, is_terminator_interface}
use Rattle.ir_model.specs.Faults.{TerminatorNotLast}
use Rattle.ir_model.specs.Forest.{a_block, an_op}
use Rattle.ir_model.specs.Nesting.{ops_of}
use Rattle.ir_model.proofs.Nests.{In-map}
use Rattle.ir_core_records.specs.Meaning.{op_record}
use Rattle.ir_view_parts.specs.State.{forest_of, types_of}
use Rattle.ir_verify.specs.declared.error.VerifyErr.TheVariants.{OutOfMemory}
use Rattle.ir_verify.proofs.Blocks.{has-name, implements-read, in-block}
use Rattle.ir_verify.proofs.Ends.{no-op_fault}
use Rattle.ir_verify.proofs.operation_faults.verify_place.Goals as goal
use Rattle.ir_core_records.specs.DialectAnswers.{behaviour_of}

pub returns-in_default : goal.returns-in_default
returns-in_default g c =
    let B = behaviour_of g.D.Dialects g.D.TypeKey.PartialEq.eq in
    let f = forest_of c.args.ctx.now in
    let none = rw c.in_default.is at c.get_parent_block.ensures.parent in
    no-op_fault B f (types_of c.args.ctx.now) c.args.op.index (λ name h. none (a_block h.1.0) (In-map an_op c.args.op.index (ops_of f h.1.0) h.1.1))

pub returns-in-None : goal.returns-in-None
returns-in-None g c =
    let B = behaviour_of g.D.Dialects g.D.TypeKey.PartialEq.eq in
    no-op_fault B (forest_of c.args.ctx.now) (types_of c.args.ctx.now) c.args.op.index (λ name h. c.in-None.ensures.next h.0.1.0 h.0.1.1)

pub returns-in_err-name-in-Some-get_next : goal.returns-in_err-name-in-Some-get_next
returns-in_err-name-in-Some-get_next g c =
    let is : c.from_residual.result ≡ Err c.in_err-name-in-Some-get_next.field-0.0 = search rules in
    let B = behaviour_of g.D.Dialects g.D.TypeKey.PartialEq.eq in
    let f = forest_of c.args.ctx.now in
    let s = types_of c.args.ctx.now in
    let o = c.args.op.index in
    let b = c.in-Some.block.index in
    let i = in-block f o b c.in-Some.ensures.parent in
    let kind = op_record c.deref.result.now in
    let ends : implements B f is_terminator_interface o ≡ true = implements-read B f (length s) c.recall_well_formed.ensures s is_terminator_interface o kind c.deref.ensures.found.found ∙ ap (λ k. g.D.Dialects.op_impls_of k is_terminator_interface) (sym c.kind.ensures) ∙ sym c.op_impls.ensures ∙ c.if-not-op_impls.false in
    let n = has-name f b c.in-Some.ensures.live in
    rw (is ∙ ap Err c.in_err-name-in-Some-get_next.ensures.memory) (TerminatorNotLast n.0, tt, ((ends, (an_op c.in-Some-get_next.field-0.index, c.in-Some-get_next.ensures.next)), (b, i, n.1)))

pub returns-in_ok-name-in-Some-get_next : goal.returns-in_ok-name-in-Some-get_next
returns-in_ok-name-in-Some-get_next g c =
    let B = behaviour_of g.D.Dialects g.D.TypeKey.PartialEq.eq in
    let f = forest_of c.args.ctx.now in
    let s = types_of c.args.ctx.now in
    let o = c.args.op.index in
    let b = c.in-Some.block.index in
    let i = in-block f o b c.in-Some.ensures.parent in
    let kind = op_record c.deref.result.now in
    let ends : implements B f is_terminator_interface o ≡ true = implements-read B f (length s) c.recall_well_formed.ensures s is_terminator_interface o kind c.deref.ensures.found.found ∙ ap (λ k. g.D.Dialects.op_impls_of k is_terminator_interface) (sym c.kind.ensures) ∙ sym c.op_impls.ensures ∙ c.if-not-op_impls.false in
    ((ends, (an_op c.in-Some-get_next.field-0.index, c.in-Some-get_next.ensures.next)), (b, i, c.in_ok-name-in-Some-get_next.ensures.name))
