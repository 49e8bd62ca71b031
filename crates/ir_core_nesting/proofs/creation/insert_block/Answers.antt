use Rattle.std.proofs.Common.{◌≡◌, ◌∷◌, [], map, refl, sym, ap, subst, ◌∙◌, rules}
use Rattle.ir_model.specs.declared.ids.ArenaIndex.{ArenaIndex}
use Rattle.ir_model.specs.Changes.{new_block}
use Rattle.ir_base_arenas.specs.Arena.{Arena, fill}
use Rattle.ir_core_records.specs.Growth.{Grows}
use Rattle.ir_core_records.specs.Chains.{AreLinked, chains_of}
use Rattle.ir_core_records.specs.Meaning.{forest_in, definition_of}
use Rattle.ir_core_records.specs.Table.{KnowOwn}
use Rattle.ir_core_records.specs.Tree.{tree_of, ops_in, blocks_in}
use Rattle.ir_core_nesting.specs.Bare.{bare_block}
use Rattle.ir_core_nesting.proofs.Growths.{Grows-one}
use Rattle.ir_core_nesting.proofs.NewBlock.{new-basic_block}
use Rattle.ir_core_nesting.proofs.creation.insert_block.Goals as goal

pub returns-in-Ok-clause-grows : goal.returns-in-Ok-clause-grows
returns-in-Ok-clause-grows g c =
    let old = c.args.records.now in
    let h = c.in-Ok.ensures.inserted in
    subst (λ (u : ArenaIndex). Grows old.blocks c.insert_with-inserted.new.self (u ∷ [])) (sym c.index.ensures)
    (subst (λ a. Grows old.blocks a (c.in-Ok.block.index ∷ [])) (sym h.filled) (Grows-one old.blocks c.in-Ok.block.index h.value h.new_id))

pub returns-in-Ok-clause-forest : goal.returns-in-Ok-clause-forest
returns-in-Ok-clause-forest g c =
    let old = c.args.records.now in
    let h = c.in-Ok.ensures.inserted in
    let id = c.in-Ok.block.index in
    let is : h.value ≡ bare_block g.D.Dialects.unknown id c.args.label c.args.arguments = search rules in
    let made = new-basic_block old c.insert_with-inserted.new.self id _ h.new_id (h.filled ∙ ap (fill old.blocks id) is) c.lists_are_one-2.ensures c.lists_are_one.ensures c.requires.nested
    (c.container_changes_keep_lists.ensures.inserted old.ops old.blocks (ops_in (tree_of old)) c.requires.nested.op_lists id _ h.new_id refl)
    (c.node_changes_keep_lists.ensures.inserted old.blocks old.regions (blocks_in (tree_of old)) c.requires.nested.block_lists id _ h.new_id refl)
    refl refl c.requires.unused in
    made.forest ∙ ap (λ (u : ArenaIndex). new_block (forest_in old) u g.D.Dialects.unknown c.args.label (map definition_of c.args.arguments)) (sym c.index.ensures)

pub returns-in-Ok-clause-nested : goal.returns-in-Ok-clause-nested
returns-in-Ok-clause-nested g c =
    let old = c.args.records.now in
    let h = c.in-Ok.ensures.inserted in
    let id = c.in-Ok.block.index in
    let is : h.value ≡ bare_block g.D.Dialects.unknown id c.args.label c.args.arguments = search rules in
    let made = new-basic_block old c.insert_with-inserted.new.self id _ h.new_id (h.filled ∙ ap (fill old.blocks id) is) c.lists_are_one-2.ensures c.lists_are_one.ensures c.requires.nested
    (c.container_changes_keep_lists.ensures.inserted old.ops old.blocks (ops_in (tree_of old)) c.requires.nested.op_lists id _ h.new_id refl)
    (c.node_changes_keep_lists.ensures.inserted old.blocks old.regions (blocks_in (tree_of old)) c.requires.nested.block_lists id _ h.new_id refl)
    refl refl c.requires.unused in
    made.nested

pub returns-in-Ok-clause-chains : goal.returns-in-Ok-clause-chains
returns-in-Ok-clause-chains g c =
    let old = c.args.records.now in
    let h = c.in-Ok.ensures.inserted in
    let id = c.in-Ok.block.index in
    let is : h.value ≡ bare_block g.D.Dialects.unknown id c.args.label c.args.arguments = search rules in
    let made = new-basic_block old c.insert_with-inserted.new.self id _ h.new_id (h.filled ∙ ap (fill old.blocks id) is) c.lists_are_one-2.ensures c.lists_are_one.ensures c.requires.nested
    (c.container_changes_keep_lists.ensures.inserted old.ops old.blocks (ops_in (tree_of old)) c.requires.nested.op_lists id _ h.new_id refl)
    (c.node_changes_keep_lists.ensures.inserted old.blocks old.regions (blocks_in (tree_of old)) c.requires.nested.block_lists id _ h.new_id refl)
    refl refl c.requires.unused in
    made.chains

pub returns-in-Ok-clause-linked : goal.returns-in-Ok-clause-linked
returns-in-Ok-clause-linked g c = subst AreLinked (sym (returns-in-Ok-clause-chains g c))

pub returns-in-Ok-clause-own : goal.returns-in-Ok-clause-own
returns-in-Ok-clause-own g c =
    let old = c.args.records.now in
    let h = c.in-Ok.ensures.inserted in
    let id = c.in-Ok.block.index in
    let is : h.value ≡ bare_block g.D.Dialects.unknown id c.args.label c.args.arguments = search rules in
    let made = new-basic_block old c.insert_with-inserted.new.self id _ h.new_id (h.filled ∙ ap (fill old.blocks id) is) c.lists_are_one-2.ensures c.lists_are_one.ensures c.requires.nested
    (c.container_changes_keep_lists.ensures.inserted old.ops old.blocks (ops_in (tree_of old)) c.requires.nested.op_lists id _ h.new_id refl)
    (c.node_changes_keep_lists.ensures.inserted old.blocks old.regions (blocks_in (tree_of old)) c.requires.nested.block_lists id _ h.new_id refl)
    refl refl c.requires.unused in
    made.own

pub returns-in-Err-clause-linked : goal.returns-in-Err-clause-linked
returns-in-Err-clause-linked g c = subst (λ (blocks : Arena _). AreLinked (chains_of c.args.records.now) → AreLinked (chains_of (record c.args.records.now { blocks = blocks }))) (sym c.in-Err.ensures.err) (λ h. h)

pub returns-in-Err-clause-own : goal.returns-in-Err-clause-own
returns-in-Err-clause-own g c own = subst (λ a. KnowOwn (record (c.args.records.now) { blocks = a })) (sym c.in-Err.ensures.err) own
