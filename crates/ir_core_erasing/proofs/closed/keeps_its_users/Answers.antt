use Rattle.std.proofs.Common.{◌↔◌, IsTrue, sym, ap, ◌∙◌, subst}
use Rattle.std.proofs.lemmas.Bool.{false≢true}
use Rattle.ir_base_arenas.specs.Arena.{get}
use Rattle.ir_core_records.specs.declared.record.Definer.{Definer}
use Rattle.ir_core_records.specs.declared.record.EntityIndex.{EntityIndex}
use Rattle.ir_core_records.specs.declared.record.EntityIndex.TheVariants.{Block as BlockEntity}
use Rattle.ir_model.specs.Nesting.{Inside}
use Rattle.ir_core_records.specs.Meaning.{definer_of, entity_of, forest_in}
use Rattle.ir_core_erasing.specs.Closed.{EntityClosed}
use Rattle.ir_core_erasing.proofs.Users.{arguments-asked, block-uses-asked, op-asked}
use Rattle.ir_core_erasing.proofs.closed.keeps_its_users.Goals as goal

pub returns-then-not-are_users_inside : goal.returns-then-not-are_users_inside
returns-then-not-are_users_inside g c =
    let t = c.args.records.now in
    let root = entity_of c.args.root in
    let once = λ (d : Definer). c.requires.formed.1.numbers_once (definer_of d) in
    let found = ap (get t.blocks) (sym c.from_index-in-Block.ensures) ∙ c.at-block.ensures in
    let asked = block-uses-asked t c.requires.linked root once c.in-Block.block c.at-block.result.now found c.as_slice.result.now c.as_slice.ensures in (
      λ e. absurd (false≢true e),
      λ closed. absurd (
          let here : EntityClosed (forest_in t) root (entity_of (BlockEntity c.in-Block.block)) = subst (λ (e : EntityIndex). EntityClosed (forest_in t) root (entity_of e)) c.in-Block.is closed in
          false≢true (sym c.if-not-are_users_inside.true ∙ c.are_users_inside.ensures.1 (asked.1 here.0))),
    )

pub returns-in-Op : goal.returns-in-Op
returns-in-Op g c =
    let t = c.args.records.now in
    let root = entity_of c.args.root in
    let once = λ (d : Definer). c.requires.formed.1.numbers_once (definer_of d) in
    let found = ap (get t.ops) (sym c.from_index.ensures) ∙ c.at.ensures in
    let asked = op-asked t c.requires.linked root once c.in-Op.op c.at.result.now found c.as_slice-results.result.now c.as_slice-results.ensures in
    subst (λ (e : EntityIndex). IsTrue c.are_all_users_inside.result ↔ EntityClosed (forest_in t) root (entity_of e)) (sym c.in-Op.is)
    (λ k. asked.0 (c.are_all_users_inside.ensures.0 k), λ k. c.are_all_users_inside.ensures.1 (asked.1 k))

pub returns-else-not-are_users_inside : goal.returns-else-not-are_users_inside
returns-else-not-are_users_inside g c =
    let t = c.args.records.now in
    let root = entity_of c.args.root in
    let once = λ (d : Definer). c.requires.formed.1.numbers_once (definer_of d) in
    let found = ap (get t.blocks) (sym c.from_index-in-Block.ensures) ∙ c.at-block.ensures in
    let named = block-uses-asked t c.requires.linked root once c.in-Block.block c.at-block.result.now found c.as_slice.result.now c.as_slice.ensures in
    let asked = arguments-asked t c.requires.linked root once c.in-Block.block c.at-block.result.now found c.as_slice-in-Block.result.now c.as_slice-in-Block.ensures in
    subst (λ (e : EntityIndex). IsTrue c.are_all_users_inside-in-Block.result ↔ EntityClosed (forest_in t) root (entity_of e)) (sym c.in-Block.is)
    (λ k. (named.0 (c.are_users_inside.ensures.0 c.if-not-are_users_inside.false), asked.0 (c.are_all_users_inside-in-Block.ensures.0 k)), λ k. c.are_all_users_inside-in-Block.ensures.1 (asked.1 k.1))

pub are_all_users_inside-requires-clause-here : goal.are_all_users_inside-requires-clause-here
are_all_users_inside-requires-clause-here g c =
    subst (λ (e : EntityIndex). Inside (forest_in c.args.records.now) (entity_of c.args.root) (entity_of e)) c.in-Op.is c.requires.inside

pub are_users_inside-requires-clause-here : goal.are_users_inside-requires-clause-here
are_users_inside-requires-clause-here g c =
    subst (λ (e : EntityIndex). Inside (forest_in c.args.records.now) (entity_of c.args.root) (entity_of e)) c.in-Block.is c.requires.inside

pub are_all_users_inside-requires-in-Block-clause-here : goal.are_all_users_inside-requires-in-Block-clause-here
are_all_users_inside-requires-in-Block-clause-here g c =
    subst (λ (e : EntityIndex). Inside (forest_in c.args.records.now) (entity_of c.args.root) (entity_of e)) c.in-Block.is c.requires.inside
