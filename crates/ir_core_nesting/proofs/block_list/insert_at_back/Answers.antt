use Rattle.std.proofs.Common.{◌∷◌, ◌++◌, [], ◌∙◌, subst}
use Rattle.ir_model.specs.declared.ids.ArenaIndex.{ArenaIndex}
use Rattle.ir_model.specs.Forest.{a_block}
use Rattle.ir_model.specs.Nesting.{IsLinked}
use Rattle.ir_model.specs.Changes.{on_region}
use Rattle.ir_core_records.specs.Meaning.{forest_in}
use Rattle.ir_core_records.specs.Tree.{tree_of, blocks_in}
use Rattle.ir_core_nesting.proofs.Listed.{listed-block}
use Rattle.ir_core_nesting.proofs.ListEdits.{blocks-one}
use Rattle.ir_core_nesting.proofs.block_list.insert_at_back.Goals as goal

pub insert_at_back-requires-clause-node_unlinked : goal.insert_at_back-requires-clause-node_unlinked
insert_at_back-requires-clause-node_unlinked g c =
    let old = c.args.records.now in
    let n = c.from_index.result.index in
    λ k. let place = (c.lists_hold_nodes.ensures.linked old.blocks old.regions (blocks_in (tree_of old)) c.requires.nested.block_lists n).0 k in
    c.requires.unlinked (subst (λ (u : ArenaIndex). IsLinked (forest_in old) (a_block u)) c.from_index.ensures (listed-block old c.requires.nested n place.0 place.1))

pub returns-clause-forest : goal.returns-clause-forest
returns-clause-forest g c =
    let old = c.args.records.now in
    let n = c.from_index.result.index in
    let told = blocks-one c.recall_block_lists.ensures old c.requires.nested c.insert_at_back.new.nodes c.insert_at_back.new.containers c.insert_at_back.ensures.nodes_rest c.insert_at_back.ensures.containers_rest (λ bs. bs ++ n ∷ []) c.from_index-2.result.index (c.insert_at_back.ensures.lists (blocks_in (tree_of old)) c.requires.nested.block_lists) in
    told.forest ∙ (λ i. on_region (forest_in old) (c.from_index-2.ensures i) (λ bs. bs ++ c.from_index.ensures i ∷ []))

pub returns-clause-nested : goal.returns-clause-nested
returns-clause-nested g c =
    let old = c.args.records.now in
    let n = c.from_index.result.index in
    let told = blocks-one c.recall_block_lists.ensures old c.requires.nested c.insert_at_back.new.nodes c.insert_at_back.new.containers c.insert_at_back.ensures.nodes_rest c.insert_at_back.ensures.containers_rest (λ bs. bs ++ n ∷ []) c.from_index-2.result.index (c.insert_at_back.ensures.lists (blocks_in (tree_of old)) c.requires.nested.block_lists) in
    told.nested

pub returns-clause-keeps : goal.returns-clause-keeps
returns-clause-keeps g c =
    let old = c.args.records.now in
    let n = c.from_index.result.index in
    let told = blocks-one c.recall_block_lists.ensures old c.requires.nested c.insert_at_back.new.nodes c.insert_at_back.new.containers c.insert_at_back.ensures.nodes_rest c.insert_at_back.ensures.containers_rest (λ bs. bs ++ n ∷ []) c.from_index-2.result.index (c.insert_at_back.ensures.lists (blocks_in (tree_of old)) c.requires.nested.block_lists) in
    told.keeps
