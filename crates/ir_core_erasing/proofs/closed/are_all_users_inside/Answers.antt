use Rattle.std.proofs.Common.{All, slice_index_or, below_more, sym, ap, ◌∙◌, subst}
use Rattle.std.proofs.lemmas.Bool.{false≢true}
use Rattle.ir_model.specs.Forest.{an_op}
use Rattle.ir_model.specs.Nesting.{Inside}
use Rattle.ir_core_records.specs.declared.record.Definition.{Definition}
use Rattle.ir_core_records.specs.declared.record.UseIndex.{UseIndex}
use Rattle.ir_core_records.specs.Meaning.{entity_of, forest_in}
use Rattle.ir_core_erasing.proofs.Users.{or-same}
use Rattle.ir_core_erasing.proofs.closed.are_all_users_inside.Goals as goal

pub returns-then-not-are_users_inside : goal.returns-then-not-are_users_inside
returns-then-not-are_users_inside g c =
    let t = c.args.records.now in
    let root = entity_of c.args.root in
    let index = c.loop-definition.definition-index in
    let item = c.definition-item.result in (
      λ e. absurd (false≢true e),
      λ all. absurd (
          let at : All (λ (u : UseIndex). Inside (forest_in t) root (an_op u.user)) (slice_index_or c.args.definitions.now index item).uses = all index item c.loop-definition-test.true in
          let here : All (λ (u : UseIndex). Inside (forest_in t) root (an_op u.user)) c.as_slice.result.now = subst (λ us. All (λ (u : UseIndex). Inside (forest_in t) root (an_op u.user)) us) (sym (c.as_slice.ensures ∙ ap (λ (r : Definition). r.uses) c.definition-item.is)) at in
          false≢true (sym c.if-not-are_users_inside.true ∙ c.are_users_inside.ensures.1 here)),
    )

pub loop-definition-preserved : goal.loop-definition-preserved
loop-definition-preserved g c =
    let t = c.args.records.now in
    let root = entity_of c.args.root in
    let definitions = c.args.definitions.now in
    let index = c.loop-definition.definition-index in
    let item = c.definition-item.result in
    below_more (λ k. (d : Definition) → All (λ (u : UseIndex). Inside (forest_in t) root (an_op u.user)) (slice_index_or definitions k d).uses) index c.loop-definition.invariant
    (λ d. subst (λ (r : Definition). All (λ (u : UseIndex). Inside (forest_in t) root (an_op u.user)) r.uses) (c.definition-item.is ∙ or-same definitions index item d c.loop-definition-test.true)
    (subst (λ us. All (λ (u : UseIndex). Inside (forest_in t) root (an_op u.user)) us) c.as_slice.ensures (c.are_users_inside.ensures.0 c.if-not-are_users_inside.false)))
