use Rattle.std.proofs.Common.{◌≡◌, ◌∷◌, [], map, refl, sym, ap, subst, ◌∙◌, rules}
use Rattle.ir_model.specs.declared.ids.ArenaIndex.{ArenaIndex}
use Rattle.ir_model.specs.Changes.{new_op}
use Rattle.ir_base_arenas.specs.Arena.{Arena, fill}
use Rattle.ir_core_records.specs.Growth.{Grows}
use Rattle.ir_core_records.specs.Chains.{AreLinked, chains_of}
use Rattle.ir_core_records.specs.Meaning.{forest_in, definition_of}
use Rattle.ir_core_records.specs.Table.{KnowOwn}
use Rattle.ir_core_records.specs.Tree.{tree_of, ops_in}
use Rattle.ir_core_nesting.specs.Bare.{bare_op}
use Rattle.ir_core_nesting.proofs.Growths.{Grows-one}
use Rattle.ir_core_nesting.proofs.NewOperation.{new-operation}
use Rattle.ir_core_nesting.proofs.creation.insert_operation.Goals as goal

pub returns-in-Ok-clause-grows : goal.returns-in-Ok-clause-grows
returns-in-Ok-clause-grows g c =
    let old = c.args.records.now in
    let h = c.in-Ok.ensures.inserted in
    subst (λ (u : ArenaIndex). Grows old.ops c.insert_with-inserted.new.self (u ∷ [])) (sym c.index.ensures)
    (subst (λ a. Grows old.ops a (c.in-Ok.op.index ∷ [])) (sym h.filled) (Grows-one old.ops c.in-Ok.op.index h.value h.new_id))

pub returns-in-Ok-clause-forest : goal.returns-in-Ok-clause-forest
returns-in-Ok-clause-forest g c =
    let old = c.args.records.now in
    let h = c.in-Ok.ensures.inserted in
    let id = c.in-Ok.op.index in
    let is : h.value ≡ bare_op g.D.Dialects.unknown id c.args.kind c.args.results = search rules in
    let made = new-operation old c.insert_with-inserted.new.self id _ h.new_id (h.filled ∙ ap (fill old.ops id) is) c.lists_are_one.ensures c.requires.nested (c.node_changes_keep_lists.ensures.inserted old.ops old.blocks (ops_in (tree_of old)) c.requires.nested.op_lists id _ h.new_id refl) refl refl refl refl c.requires.unused in
    made.forest ∙ ap (λ (u : ArenaIndex). new_op (forest_in old) u g.D.Dialects.unknown c.args.kind (map definition_of c.args.results) [] [] []) (sym c.index.ensures)

pub returns-in-Ok-clause-nested : goal.returns-in-Ok-clause-nested
returns-in-Ok-clause-nested g c =
    let old = c.args.records.now in
    let h = c.in-Ok.ensures.inserted in
    let id = c.in-Ok.op.index in
    let is : h.value ≡ bare_op g.D.Dialects.unknown id c.args.kind c.args.results = search rules in
    let made = new-operation old c.insert_with-inserted.new.self id _ h.new_id (h.filled ∙ ap (fill old.ops id) is) c.lists_are_one.ensures c.requires.nested (c.node_changes_keep_lists.ensures.inserted old.ops old.blocks (ops_in (tree_of old)) c.requires.nested.op_lists id _ h.new_id refl) refl refl refl refl c.requires.unused in
    made.nested

pub returns-in-Ok-clause-chains : goal.returns-in-Ok-clause-chains
returns-in-Ok-clause-chains g c =
    let old = c.args.records.now in
    let h = c.in-Ok.ensures.inserted in
    let id = c.in-Ok.op.index in
    let is : h.value ≡ bare_op g.D.Dialects.unknown id c.args.kind c.args.results = search rules in
    let made = new-operation old c.insert_with-inserted.new.self id _ h.new_id (h.filled ∙ ap (fill old.ops id) is) c.lists_are_one.ensures c.requires.nested (c.node_changes_keep_lists.ensures.inserted old.ops old.blocks (ops_in (tree_of old)) c.requires.nested.op_lists id _ h.new_id refl) refl refl refl refl c.requires.unused in
    made.chains

pub returns-in-Ok-clause-linked : goal.returns-in-Ok-clause-linked
returns-in-Ok-clause-linked g c = subst AreLinked (sym (returns-in-Ok-clause-chains g c))

pub returns-in-Ok-clause-own : goal.returns-in-Ok-clause-own
returns-in-Ok-clause-own g c =
    let old = c.args.records.now in
    let h = c.in-Ok.ensures.inserted in
    let id = c.in-Ok.op.index in
    let is : h.value ≡ bare_op g.D.Dialects.unknown id c.args.kind c.args.results = search rules in
    let made = new-operation old c.insert_with-inserted.new.self id _ h.new_id (h.filled ∙ ap (fill old.ops id) is) c.lists_are_one.ensures c.requires.nested (c.node_changes_keep_lists.ensures.inserted old.ops old.blocks (ops_in (tree_of old)) c.requires.nested.op_lists id _ h.new_id refl) refl refl refl refl c.requires.unused in
    made.own

pub returns-in-Err-clause-linked : goal.returns-in-Err-clause-linked
returns-in-Err-clause-linked g c = subst (λ (ops : Arena _). AreLinked (chains_of c.args.records.now) → AreLinked (chains_of (record c.args.records.now { ops = ops }))) (sym c.in-Err.ensures.err) (λ h. h)

pub returns-in-Err-clause-own : goal.returns-in-Err-clause-own
returns-in-Err-clause-own g c own = subst (λ a. KnowOwn (record (c.args.records.now) { ops = a })) (sym c.in-Err.ensures.err) own
