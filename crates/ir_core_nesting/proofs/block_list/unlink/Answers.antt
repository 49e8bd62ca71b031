use Rattle.std.proofs.Common.{sym, ◌∙◌, subst}
use Rattle.ir_model.specs.declared.ids.ArenaIndex.{ArenaIndex}
use Rattle.ir_model.specs.ContextIds.{same_id}
use Rattle.ir_model.specs.Forest.{a_block}
use Rattle.ir_model.specs.Nesting.{IsLinked}
use Rattle.ir_model.specs.Changes.{in_regions, without}
use Rattle.ir_base_arenas.specs.Lists.{seen, container_of}
use Rattle.ir_core_records.specs.Meaning.{forest_in}
use Rattle.ir_core_records.specs.Tree.{tree_of, blocks_in, block_links}
use Rattle.ir_core_nesting.proofs.Listed.{list-of_block}
use Rattle.ir_core_nesting.proofs.ListWords.{In-split}
use Rattle.ir_core_nesting.proofs.ListEdits.{without-each, blocks-each}
use Rattle.ir_core_nesting.proofs.block_list.unlink.Goals as goal

pub unlink-requires-clause-node_linked : goal.unlink-requires-clause-node_linked
unlink-requires-clause-node_linked g c =
    let old = c.args.records.now in
    let m = c.from_index.result.index in
    let place = list-of_block old c.requires.nested m (subst (λ (u : ArenaIndex). IsLinked (forest_in old) (a_block u)) (sym c.from_index.ensures) c.requires.linked) in
    (c.lists_hold_nodes.ensures.linked old.blocks old.regions (blocks_in (tree_of old)) c.requires.nested.block_lists m).1 place

pub returns-clause-forest : goal.returns-clause-forest
returns-clause-forest g c =
    let old = c.args.records.now in
    let n = c.from_index.result.index in
    let place = list-of_block old c.requires.nested n (subst (λ (u : ArenaIndex). IsLinked (forest_in old) (a_block u)) (sym c.from_index.ensures) c.requires.linked) in
    let split = In-split n (blocks_in (tree_of old) place.0) place.1 in
    let told = blocks-each c.recall_block_lists.ensures old c.requires.nested c.unlink.new.nodes c.unlink.new.containers c.unlink.ensures.nodes_rest c.unlink.ensures.containers_rest (without same_id n) _ (c.unlink.ensures.lists (blocks_in (tree_of old)) place.0 split.0 split.1 c.requires.nested.block_lists split.2)
    (without-each (blocks_in (tree_of old)) (container_of (seen block_links old.blocks)) (c.lists_hold_nodes.ensures.container old.blocks old.regions (blocks_in (tree_of old)) c.requires.nested.block_lists) (c.lists_hold_nodes.ensures.apart old.blocks old.regions (blocks_in (tree_of old)) c.requires.nested.block_lists) n place.0 split.0 split.1 split.2) in
    told.forest ∙ (λ i. in_regions (forest_in old) (without same_id (c.from_index.ensures i)))

pub returns-clause-nested : goal.returns-clause-nested
returns-clause-nested g c =
    let old = c.args.records.now in
    let n = c.from_index.result.index in
    let place = list-of_block old c.requires.nested n (subst (λ (u : ArenaIndex). IsLinked (forest_in old) (a_block u)) (sym c.from_index.ensures) c.requires.linked) in
    let split = In-split n (blocks_in (tree_of old) place.0) place.1 in
    let told = blocks-each c.recall_block_lists.ensures old c.requires.nested c.unlink.new.nodes c.unlink.new.containers c.unlink.ensures.nodes_rest c.unlink.ensures.containers_rest (without same_id n) _ (c.unlink.ensures.lists (blocks_in (tree_of old)) place.0 split.0 split.1 c.requires.nested.block_lists split.2)
    (without-each (blocks_in (tree_of old)) (container_of (seen block_links old.blocks)) (c.lists_hold_nodes.ensures.container old.blocks old.regions (blocks_in (tree_of old)) c.requires.nested.block_lists) (c.lists_hold_nodes.ensures.apart old.blocks old.regions (blocks_in (tree_of old)) c.requires.nested.block_lists) n place.0 split.0 split.1 split.2) in
    told.nested

pub returns-clause-keeps : goal.returns-clause-keeps
returns-clause-keeps g c =
    let old = c.args.records.now in
    let n = c.from_index.result.index in
    let place = list-of_block old c.requires.nested n (subst (λ (u : ArenaIndex). IsLinked (forest_in old) (a_block u)) (sym c.from_index.ensures) c.requires.linked) in
    let split = In-split n (blocks_in (tree_of old) place.0) place.1 in
    let told = blocks-each c.recall_block_lists.ensures old c.requires.nested c.unlink.new.nodes c.unlink.new.containers c.unlink.ensures.nodes_rest c.unlink.ensures.containers_rest (without same_id n) _ (c.unlink.ensures.lists (blocks_in (tree_of old)) place.0 split.0 split.1 c.requires.nested.block_lists split.2)
    (without-each (blocks_in (tree_of old)) (container_of (seen block_links old.blocks)) (c.lists_hold_nodes.ensures.container old.blocks old.regions (blocks_in (tree_of old)) c.requires.nested.block_lists) (c.lists_hold_nodes.ensures.apart old.blocks old.regions (blocks_in (tree_of old)) c.requires.nested.block_lists) n place.0 split.0 split.1 split.2) in
    told.keeps
