use Rattle.std.proofs.Common.{sym, ap, ◌∙◌}
use Rattle.ir_base_dialects.specs.Attributes.{same_pairs}
use Rattle.ir_core_queries.specs.State.{forest_of}
use Rattle.ir_core_records.specs.DialectAnswers.{behaviour_of}
use Rattle.ir_core_records.specs.Meaning.{op_record}
use Rattle.ir_run_passes.proofs.AlikeParts.{plain_of, other_kinds, other_operands, other_types, by_attributes}
use Rattle.ir_run_passes.proofs.alike.are_alike.Goals as goal

pub returns-then-kind : goal.returns-then-kind
returns-then-kind g c =
    let r = op_record c.deref-one.result.now in
    let q = op_record c.deref-other.result.now in
    other_kinds (forest_of c.args.ctx.now) (behaviour_of g.D.Dialects g.D.TypeKey.PartialEq.eq) (same_pairs g.D.Attr.PartialEq.eq) c.args.one.index c.args.other.index r q c.deref-one.ensures.found.found c.deref-other.ensures.found.found
    (λ e. c.if-kind.true (c.kind.ensures ∙ e ∙ sym c.kind-2.ensures))

pub returns-then-not-same_operands : goal.returns-then-not-same_operands
returns-then-not-same_operands g c =
    let r = op_record c.deref-one.result.now in
    let q = op_record c.deref-other.result.now in
    other_operands (forest_of c.args.ctx.now) (behaviour_of g.D.Dialects g.D.TypeKey.PartialEq.eq) (same_pairs g.D.Attr.PartialEq.eq) c.args.one.index c.args.other.index r q c.deref-one.ensures.found.found c.deref-other.ensures.found.found
    c.same_operands.result c.same_operands.ensures c.if-not-same_operands.true

pub returns-then-not-same_types : goal.returns-then-not-same_types
returns-then-not-same_types g c =
    let r = op_record c.deref-one.result.now in
    let q = op_record c.deref-other.result.now in
    other_types (forest_of c.args.ctx.now) (behaviour_of g.D.Dialects g.D.TypeKey.PartialEq.eq) (same_pairs g.D.Attr.PartialEq.eq) c.args.one.index c.args.other.index r q c.deref-one.ensures.found.found c.deref-other.ensures.found.found
    c.same_types.result c.same_types.ensures c.if-not-same_types.true

pub returns : goal.returns
returns g c =
    let f = forest_of c.args.ctx.now in
    let B = behaviour_of g.D.Dialects g.D.TypeKey.PartialEq.eq in
    let same = same_pairs g.D.Attr.PartialEq.eq in
    let r = op_record c.deref-one.result.now in
    let q = op_record c.deref-other.result.now in
    let one = c.deref-one.ensures.found.found in
    let other = c.deref-other.ensures.found.found in
    by_attributes f B same c.args.one.index c.args.other.index r q one other
    (plain_of f B c.args.one.index r one c.requires.one) (plain_of f B c.args.other.index q other c.requires.other)
    (sym c.kind.ensures ∙ c.if-kind.false ∙ c.kind-2.ensures) (c.same_operands.ensures.0 c.if-not-same_operands.false) (c.same_types.ensures.0 c.if-not-same_types.false)
    c.eq.result (c.eq.ensures ∙ ap (λ d. same d c.attributes-2.result.now) c.attributes.ensures ∙ ap (same r.attributes) c.attributes-2.ensures)
