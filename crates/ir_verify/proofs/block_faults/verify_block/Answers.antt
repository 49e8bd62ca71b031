use Rattle.std.proofs.Common.{◌≡◌, ◌∙◌, Err, ap, refl, rules, sym}
use Rattle.std.proofs.lemmas.Bool.{false≢true}
use Rattle.ir_model.specs.Faults.{NoParent, MissingTerminator, EntryHasPred}
use Rattle.ir_view_parts.specs.State.{forest_of, types_of}
use Rattle.ir_verify.proofs.Blocks.{has-name}
use Rattle.ir_verify.proofs.Ends.{no-block_fault}
use Rattle.ir_verify.proofs.block_faults.verify_block.Goals as goal
use Rattle.ir_core_records.specs.DialectAnswers.{behaviour_of}

pub returns-in_err-name : goal.returns-in_err-name
returns-in_err-name g c =
    let is : c.from_residual.result ≡ Err c.in_err-name.field-0.0 = search rules in
    let n = has-name (forest_of c.args.ctx.now) c.args.block.index c.requires in
    rw (is ∙ ap Err c.in_err-name.ensures.memory) (NoParent n.0, tt, (n.1, λ l. absurd (false≢true (sym c.if-not-is_linked.true ∙ c.is_linked.ensures.1 l))))

pub returns-in_err-name-2 : goal.returns-in_err-name-2
returns-in_err-name-2 g c =
    let is : c.from_residual-in_err-name-2.result ≡ Err c.in_err-name-2.field-0.0 = search rules in
    let n = has-name (forest_of c.args.ctx.now) c.args.block.index c.requires in
    rw (is ∙ ap Err c.in_err-name-2.ensures.memory) (MissingTerminator n.0, tt, (n.1, c.lacks_terminator.ensures.0 c.if-lacks_terminator.true))

pub returns-in_err-name-3 : goal.returns-in_err-name-3
returns-in_err-name-3 g c =
    let is : c.from_residual-in_err-name-3.result ≡ Err c.in_err-name-3.field-0.0 = search rules in
    let n = has-name (forest_of c.args.ctx.now) c.args.block.index c.requires in
    let h = c.is_entered.ensures.0 c.if-is_entered.true in
    rw (is ∙ ap Err c.in_err-name-3.ensures.memory) (EntryHasPred n.0, tt, (n.1, h.0, h.1))

pub returns : goal.returns
returns g c =
    let B = behaviour_of g.D.Dialects g.D.TypeKey.PartialEq.eq in
    no-block_fault B (forest_of c.args.ctx.now) (types_of c.args.ctx.now) c.args.block.index
    (c.is_linked.ensures.0 c.if-not-is_linked.false)
    (λ l. absurd (false≢true (sym c.if-lacks_terminator.false ∙ c.lacks_terminator.ensures.1 l)))
    (λ e n. absurd (false≢true (sym c.if-is_entered.false ∙ c.is_entered.ensures.1 (e, n))))
    (λ a. absurd (false≢true (sym c.if-is_named_aside.false ∙ c.is_named_aside.ensures.1 a)))
