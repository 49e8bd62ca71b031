use Rattle.std.proofs.Common.{sym, ap, ◌∙◌, refl, length, arith, Some}
use Rattle.std.proofs.lemmas.Bool.{false≢true}
use Rattle.std.specs.Prelude.{slice_get}
use Rattle.std.specs.Option.{option_map}
use Rattle.ir_model.specs.Nesting.{list_of}
use Rattle.ir_core_queries.specs.State.{forest_of}
use Rattle.ir_core_records.specs.Meaning.{op_record, value_of}
use Rattle.ir_run_passes.specs.Ordering.{IsFromAbove}
use Rattle.ir_run_passes.proofs.NamedOperands.{named_here, not_named_here, none_named}
use Rattle.ir_run_passes.proofs.ordering.names_above.Goals as goal

pub loop-index-init : goal.loop-index-init
loop-index-init g c = λ k p lt at u. absurd (omega (arith, lt))

pub returns-then-is_from_above : goal.returns-then-is_from_above
returns-then-is_from_above g c =
    let f = forest_of c.args.ctx.now in
    let named = ap (λ m. option_map (λ p. p.value) (slice_get (list_of (λ r. r.operands) m) c.loop-index.index)) c.deref-operation.ensures.found.found ∙ c.get_operand.ensures in
    (λ t. named_here f (IsFromAbove f c.args.block.index c.args.user.index.slot) c.args.user.index c.loop-index.index (value_of c.get_operand.result.index) named (c.is_from_above.ensures.0 c.if-is_from_above.true), λ n. refl)

pub loop-index-preserved : goal.loop-index-preserved
loop-index-preserved g c =
    let f = forest_of c.args.ctx.now in
    let named = ap (λ m. option_map (λ p. p.value) (slice_get (list_of (λ r. r.operands) m) c.loop-index.index)) c.deref-operation.ensures.found.found ∙ c.get_operand.ensures in
    not_named_here f (IsFromAbove f c.args.block.index c.args.user.index.slot) c.args.user.index c.loop-index.index (value_of c.get_operand.result.index) named
    (λ u. false≢true (sym c.if-is_from_above.false ∙ c.is_from_above.ensures.1 u)) c.loop-index.invariant

pub returns : goal.returns
returns g c =
    let f = forest_of c.args.ctx.now in
    let count = ap (λ m. length (list_of (λ r. r.operands) m)) c.deref-operation.ensures.found.found in
    let told = c.get_num_operands-index-end.ensures in
    let over = c.loop-index-test.false in (
      λ t. absurd (false≢true t),
      λ n. absurd (none_named f (IsFromAbove f c.args.block.index c.args.user.index.slot) c.args.user.index _ refl (λ k p lt. c.loop-index.invariant k p (omega (arith, lt, count, told, over))) n.0 n.1 n.2),
    )
