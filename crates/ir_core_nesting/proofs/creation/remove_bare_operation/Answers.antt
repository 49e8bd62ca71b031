use Rattle.std.proofs.Common.{◌≡◌, ◌∷◌, [], OnSome, sym, ap, subst, ◌∙◌}
use Rattle.ir_model.specs.declared.ids.ArenaIndex.{ArenaIndex}
use Rattle.ir_base_arenas.specs.Arena.{get, cut}
use Rattle.ir_core_records.specs.Growth.{Clears}
use Rattle.ir_core_records.specs.Chains.{AreLinked}
use Rattle.ir_core_records.specs.Lists.{in_record, uses_with}
use Rattle.ir_core_records.specs.Meaning.{operand_of, successor_of}
use Rattle.ir_core_records.specs.Tree.{tree_of, ops_in}
use Rattle.ir_core_nesting.proofs.Readings.{found-at}
use Rattle.ir_core_nesting.proofs.Listed.{listed-op}
use Rattle.ir_core_nesting.proofs.Growths.{Clears-cut, removed}
use Rattle.ir_core_nesting.proofs.Removal.{map-nil, bare-of, operation-left}
use Rattle.ir_core_nesting.proofs.creation.remove_bare_operation.Goals as goal

pub returns-clause-forest : goal.returns-clause-forest
returns-clause-forest g c =
    let old = c.args.records.now in
    let op = c.args.op in
    let at = found-at old.ops op c.requires.live in
    let is : c.remove.new.self ≡ cut old.ops op = removed old.ops c.remove.new.self op c.remove.result c.requires.live (c.remove.ensures.value ∙ ap (get old.ops) c.from_index.ensures) (subst (λ (u : ArenaIndex). OnSome c.remove.result (c.remove.new.self ≡ cut old.ops u)) c.from_index.ensures c.remove.ensures.cut) in
    let out = c.node_changes_keep_lists.ensures.removed old.ops old.blocks (ops_in (tree_of old)) c.requires.nested.op_lists op c.requires.live
    (λ k. let place = (c.lists_hold_nodes.ensures.linked old.ops old.blocks (ops_in (tree_of old)) c.requires.nested.op_lists op).0 k in c.requires.unlinked (listed-op old c.requires.nested op place.0 place.1)) in
    let left = operation-left old c.remove.new.self op at.0 at.1 is c.lists_are_one.ensures c.requires.nested out
    (map-nil operand_of at.0.operands (bare-of at.0 (λ r. r.operands) (get old.ops op) at.1 c.requires.operands))
    (map-nil successor_of at.0.successors (bare-of at.0 (λ r. r.successors) (get old.ops op) at.1 c.requires.successors))
    (λ n. ap (λ m. uses_with (in_record (λ x. x.results) [] m) n) (sym at.1) ∙ c.requires.unused n) in
    left.forest

pub returns-clause-cleared : goal.returns-clause-cleared
returns-clause-cleared g c =
    let old = c.args.records.now in
    let op = c.args.op in
    let is : c.remove.new.self ≡ cut old.ops op = removed old.ops c.remove.new.self op c.remove.result c.requires.live (c.remove.ensures.value ∙ ap (get old.ops) c.from_index.ensures) (subst (λ (u : ArenaIndex). OnSome c.remove.result (c.remove.new.self ≡ cut old.ops u)) c.from_index.ensures c.remove.ensures.cut) in
    subst (λ a. Clears old.ops a (op ∷ [])) (sym is) (Clears-cut old.ops op c.requires.live)

pub returns-clause-ops : goal.returns-clause-ops
returns-clause-ops g c =
    let old = c.args.records.now in
    let op = c.args.op in
    removed old.ops c.remove.new.self op c.remove.result c.requires.live (c.remove.ensures.value ∙ ap (get old.ops) c.from_index.ensures) (subst (λ (u : ArenaIndex). OnSome c.remove.result (c.remove.new.self ≡ cut old.ops u)) c.from_index.ensures c.remove.ensures.cut)

pub returns-clause-nested : goal.returns-clause-nested
returns-clause-nested g c =
    let old = c.args.records.now in
    let op = c.args.op in
    let at = found-at old.ops op c.requires.live in
    let is : c.remove.new.self ≡ cut old.ops op = removed old.ops c.remove.new.self op c.remove.result c.requires.live (c.remove.ensures.value ∙ ap (get old.ops) c.from_index.ensures) (subst (λ (u : ArenaIndex). OnSome c.remove.result (c.remove.new.self ≡ cut old.ops u)) c.from_index.ensures c.remove.ensures.cut) in
    let out = c.node_changes_keep_lists.ensures.removed old.ops old.blocks (ops_in (tree_of old)) c.requires.nested.op_lists op c.requires.live
    (λ k. let place = (c.lists_hold_nodes.ensures.linked old.ops old.blocks (ops_in (tree_of old)) c.requires.nested.op_lists op).0 k in c.requires.unlinked (listed-op old c.requires.nested op place.0 place.1)) in
    let left = operation-left old c.remove.new.self op at.0 at.1 is c.lists_are_one.ensures c.requires.nested out
    (map-nil operand_of at.0.operands (bare-of at.0 (λ r. r.operands) (get old.ops op) at.1 c.requires.operands))
    (map-nil successor_of at.0.successors (bare-of at.0 (λ r. r.successors) (get old.ops op) at.1 c.requires.successors))
    (λ n. ap (λ m. uses_with (in_record (λ x. x.results) [] m) n) (sym at.1) ∙ c.requires.unused n) in
    left.nested

pub returns-clause-chains : goal.returns-clause-chains
returns-clause-chains g c =
    let old = c.args.records.now in
    let op = c.args.op in
    let at = found-at old.ops op c.requires.live in
    let is : c.remove.new.self ≡ cut old.ops op = removed old.ops c.remove.new.self op c.remove.result c.requires.live (c.remove.ensures.value ∙ ap (get old.ops) c.from_index.ensures) (subst (λ (u : ArenaIndex). OnSome c.remove.result (c.remove.new.self ≡ cut old.ops u)) c.from_index.ensures c.remove.ensures.cut) in
    let out = c.node_changes_keep_lists.ensures.removed old.ops old.blocks (ops_in (tree_of old)) c.requires.nested.op_lists op c.requires.live
    (λ k. let place = (c.lists_hold_nodes.ensures.linked old.ops old.blocks (ops_in (tree_of old)) c.requires.nested.op_lists op).0 k in c.requires.unlinked (listed-op old c.requires.nested op place.0 place.1)) in
    let left = operation-left old c.remove.new.self op at.0 at.1 is c.lists_are_one.ensures c.requires.nested out
    (map-nil operand_of at.0.operands (bare-of at.0 (λ r. r.operands) (get old.ops op) at.1 c.requires.operands))
    (map-nil successor_of at.0.successors (bare-of at.0 (λ r. r.successors) (get old.ops op) at.1 c.requires.successors))
    (λ n. ap (λ m. uses_with (in_record (λ x. x.results) [] m) n) (sym at.1) ∙ c.requires.unused n) in
    left.chains

pub returns-clause-linked : goal.returns-clause-linked
returns-clause-linked g c = subst AreLinked (sym (returns-clause-chains g c))

pub returns-clause-own : goal.returns-clause-own
returns-clause-own g c =
    let old = c.args.records.now in
    let op = c.args.op in
    let at = found-at old.ops op c.requires.live in
    let is : c.remove.new.self ≡ cut old.ops op = removed old.ops c.remove.new.self op c.remove.result c.requires.live (c.remove.ensures.value ∙ ap (get old.ops) c.from_index.ensures) (subst (λ (u : ArenaIndex). OnSome c.remove.result (c.remove.new.self ≡ cut old.ops u)) c.from_index.ensures c.remove.ensures.cut) in
    let out = c.node_changes_keep_lists.ensures.removed old.ops old.blocks (ops_in (tree_of old)) c.requires.nested.op_lists op c.requires.live
    (λ k. let place = (c.lists_hold_nodes.ensures.linked old.ops old.blocks (ops_in (tree_of old)) c.requires.nested.op_lists op).0 k in c.requires.unlinked (listed-op old c.requires.nested op place.0 place.1)) in
    let left = operation-left old c.remove.new.self op at.0 at.1 is c.lists_are_one.ensures c.requires.nested out
    (map-nil operand_of at.0.operands (bare-of at.0 (λ r. r.operands) (get old.ops op) at.1 c.requires.operands))
    (map-nil successor_of at.0.successors (bare-of at.0 (λ r. r.successors) (get old.ops op) at.1 c.requires.successors))
    (λ n. ap (λ m. uses_with (in_record (λ x. x.results) [] m) n) (sym at.1) ∙ c.requires.unused n) in
    left.own
