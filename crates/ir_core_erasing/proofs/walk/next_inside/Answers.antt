use Rattle.std.proofs.Common.{◌≡◌, ◌∙◌, Some, None, sym}
use Rattle.std.specs.Option.{option_map}
use Rattle.ir_model.specs.ContextIds.{context_ids}
use Rattle.ir_model.proofs.KeepsErase.{same_tells}
use Rattle.ir_model.proofs.Relinks.{first_in}
use Rattle.ir_model.proofs.TwoRuns.{lawful}
use Rattle.ir_core_records.specs.Meaning.{entity_of}
use Rattle.ir_core_records.specs.Tree.{tree_of, ops_in, blocks_in}
use Rattle.ir_core_erasing.specs.Walks.{kept_previous, subtree}
use Rattle.ir_core_erasing.proofs.Walking.{after-root, after-sibling, after-first}
use Rattle.ir_core_erasing.proofs.Steps.{differ}
use Rattle.ir_core_erasing.proofs.walk.next_inside.Goals as goal

pub returns-then-are_one : goal.returns-then-are_one
returns-then-are_one g c = λ before behind splits.
    let t = c.args.records.now in
    sym (after-root c.recall_depths_follow.ensures.below c.recall_depths_follow.ensures.fits t c.requires.nested c.requires.formed
    (c.links_are_neighbours.ensures.links t.ops t.blocks (ops_in (tree_of t)) c.requires.nested.op_lists)
    (c.links_are_neighbours-2.ensures.links t.blocks t.regions (blocks_in (tree_of t)) c.requires.nested.block_lists)
    (entity_of c.args.root) (entity_of c.args.here) before behind splits
    (same_tells context_ids lawful (entity_of c.args.here) (entity_of c.args.root) (sym c.are_one.ensures ∙ c.if-are_one.true)))

pub returns-in-Some : goal.returns-in-Some
returns-in-Some g c = λ before behind splits.
    let t = c.args.records.now in
    let is : kept_previous (tree_of t) (entity_of c.args.here) ≡ Some (entity_of c.in-Some.sibling) = sym c.in-Some.ensures in
    sym (after-sibling c.recall_depths_follow.ensures.below c.recall_depths_follow.ensures.fits t c.requires.nested c.requires.formed
    (c.links_are_neighbours.ensures.links t.ops t.blocks (ops_in (tree_of t)) c.requires.nested.op_lists)
    (c.links_are_neighbours-2.ensures.links t.blocks t.regions (blocks_in (tree_of t)) c.requires.nested.block_lists)
    (entity_of c.args.root) (entity_of c.args.here) before behind splits
    (differ (entity_of c.args.here) (entity_of c.args.root) (sym c.are_one.ensures ∙ c.if-are_one.false))
    (entity_of c.in-Some.sibling) (entity_of c.deepest.result) is (first_in (entity_of c.deepest.result) (subtree t (entity_of c.in-Some.sibling)) c.deepest.ensures.first))

pub returns-in-None : goal.returns-in-None
returns-in-None g c = λ before behind splits.
    let t = c.args.records.now in
    let is : kept_previous (tree_of t) (entity_of c.args.here) ≡ None = sym c.in-None.ensures in
    after-first c.recall_depths_follow.ensures.below c.recall_depths_follow.ensures.fits t c.requires.nested c.requires.formed
    (c.links_are_neighbours.ensures.links t.ops t.blocks (ops_in (tree_of t)) c.requires.nested.op_lists)
    (c.links_are_neighbours-2.ensures.links t.blocks t.regions (blocks_in (tree_of t)) c.requires.nested.block_lists)
    (entity_of c.args.root) (entity_of c.args.here) before behind splits
    (differ (entity_of c.args.here) (entity_of c.args.root) (sym c.are_one.ensures ∙ c.if-are_one.false))
    (option_map entity_of c.parent_of.result) is c.parent_of.ensures
