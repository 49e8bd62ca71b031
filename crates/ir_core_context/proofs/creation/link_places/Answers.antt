use Rattle.std.proofs.Common.{◌≡◌, ◌+◌, List, [], length, map, true, false, not, is_ok, sym, ap, subst, ◌∙◌, arith}
use Rattle.std.proofs.lemmas.List.{length-map}
use Rattle.ir_model.specs.Changes.{on_op, on_operands, on_successors}
use Rattle.ir_model.specs.Nesting.{successors_of}
use Rattle.ir_core_records.specs.declared.record.ValueIndex.{ValueIndex}
use Rattle.ir_core_records.specs.Meaning.{forest_in, operands_from, successors_from}
use Rattle.ir_core_context.specs.Creation.{AreFresh}
use Rattle.ir_core_context.proofs.Answers.{at_err, at_ok}
use Rattle.ir_core_context.proofs.Linking.{emptied, fresh-after, fresh-operands, fresh-successors, live-values, no_operands, no_successors, successors-stay}
use Rattle.ir_core_context.proofs.creation.link_places.Goals as goal

pub link_operands-requires-clause-bare : goal.link_operands-requires-clause-bare
link_operands-requires-clause-bare g c = no_operands c.args.records.now c.args.op c.requires.no_operands

pub link_operands-requires-clause-named : goal.link_operands-requires-clause-named
link_operands-requires-clause-named g c = live-values c.args.records.now (λ v. v.index) c.args.parts.now.operands.now c.requires.operands

pub link_operands-requires-clause-fresh : goal.link_operands-requires-clause-fresh
link_operands-requires-clause-fresh g c = fresh-operands c.args.records.now c.args.first_use c.requires.fresh

pub link_successors-requires-clause-bare : goal.link_successors-requires-clause-bare
link_successors-requires-clause-bare g c =
    let vs : List ValueIndex = map (λ v. v.index) c.args.parts.now.operands.now in
    let forest : forest_in c.link_operands.new.records ≡ on_op (forest_in c.args.records.now) c.args.op (on_operands (λ _. operands_from c.args.first_use vs)) = c.in_ok-link_operands.ensures.forest in
    no_successors c.link_operands.new.records c.args.op (ap (λ f. successors_of f c.args.op) forest ∙ successors-stay (forest_in c.args.records.now) c.args.op c.args.first_use vs c.args.op ∙ c.requires.no_successors)

pub link_successors-requires-clause-fresh : goal.link_successors-requires-clause-fresh
link_successors-requires-clause-fresh g c =
    let vs : List ValueIndex = map (λ v. v.index) c.args.parts.now.operands.now in
    let forest : forest_in c.link_operands.new.records ≡ on_op (forest_in c.args.records.now) c.args.op (on_operands (λ _. operands_from c.args.first_use vs)) = c.in_ok-link_operands.ensures.forest in
    let many : length vs ≡ length c.args.parts.now.operands.now = length-map c.args.parts.now.operands.now (λ v. v.index) in
    let fresh : AreFresh (forest_in c.link_operands.new.records) (c.args.first_use + length c.args.parts.now.operands.now) =
    subst (λ n. AreFresh (forest_in c.link_operands.new.records) (c.args.first_use + n)) many
    (subst (λ f. AreFresh f (c.args.first_use + length vs)) (sym forest) (fresh-after (forest_in c.args.records.now) c.args.op c.args.first_use vs c.requires.fresh)) in
    fresh-successors c.link_operands.new.records (c.args.first_use + length c.args.parts.now.operands.now) fresh

pub returns-then-is_err-clause-same : goal.returns-then-is_err-clause-same
returns-then-is_err-clause-same g c =
    let vs : List ValueIndex = map (λ v. v.index) c.args.parts.now.operands.now in
    let denied : is_ok c.link_successors.result ≡ false = c.is_err.ensures.negation ∙ ap not c.if-is_err.true in
    let forest : forest_in c.link_operands.new.records ≡ on_op (forest_in c.args.records.now) c.args.op (on_operands (λ _. operands_from c.args.first_use vs)) = c.in_ok-link_operands.ensures.forest in
    let same : forest_in c.link_successors.new.records ≡ forest_in c.link_operands.new.records = at_err c.link_successors.result _ denied c.link_successors.ensures.same in
    c.unlink_operands.ensures.forest ∙ ap (λ f. on_op f c.args.op (on_operands (λ _. []))) (same ∙ forest) ∙ emptied (forest_in c.args.records.now) c.args.op c.args.first_use vs c.requires.no_operands

pub returns-clause-linked : goal.returns-clause-linked
returns-clause-linked g c =
    let vs : List ValueIndex = map (λ v. v.index) c.args.parts.now.operands.now in
    let done : is_ok c.link_successors.result ≡ true = c.is_err.ensures.negation ∙ ap not c.if-is_err.false in
    let forest : forest_in c.link_operands.new.records ≡ on_op (forest_in c.args.records.now) c.args.op (on_operands (λ _. operands_from c.args.first_use vs)) = c.in_ok-link_operands.ensures.forest in
    let linked = at_ok c.link_successors.result _ done c.link_successors.ensures.forest in
    linked ∙ ap (λ f. on_op f c.args.op (on_successors (λ _. successors_from (c.args.first_use + length c.args.parts.now.operands.now) (map (λ b. record { index = b.index }) c.args.parts.now.successors.now)))) forest
