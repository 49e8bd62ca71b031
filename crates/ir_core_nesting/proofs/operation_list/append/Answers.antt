use Rattle.std.proofs.Common.{sym, ap, ◌∙◌}
use Rattle.ir_model.specs.Nesting.{ops_of}
use Rattle.ir_model.specs.Changes.{append_ops}
use Rattle.ir_core_records.specs.Meaning.{forest_in}
use Rattle.ir_core_records.specs.Tree.{tree_of, ops_in}
use Rattle.ir_core_nesting.proofs.Listed.{ops_of-is}
use Rattle.ir_core_nesting.proofs.ListEdits.{ops-append}
use Rattle.ir_core_nesting.proofs.operation_list.append.Goals as goal

pub returns-clause-forest : goal.returns-clause-forest
returns-clause-forest g c =
    let old = c.args.records.now in
    let donee = c.from_index.result.index in
    let donor = c.from_index-2.result.index in
    let told = ops-append c.recall_operation_lists.ensures old c.requires.nested c.append_linked_list.new.nodes c.append_linked_list.new.containers c.append_linked_list.ensures.nodes_rest c.append_linked_list.ensures.containers_rest donee donor (c.append_linked_list.ensures.lists (ops_in (tree_of old)) c.requires.nested.op_lists) in
    told.forest ∙ ap (append_ops (forest_in old) donee donor) (sym (ops_of-is old c.requires.nested donor)) ∙ (λ i. append_ops (forest_in old) (c.from_index.ensures i) (c.from_index-2.ensures i) (ops_of (forest_in old) (c.from_index-2.ensures i)))

pub returns-clause-nested : goal.returns-clause-nested
returns-clause-nested g c =
    let old = c.args.records.now in
    let donee = c.from_index.result.index in
    let donor = c.from_index-2.result.index in
    let told = ops-append c.recall_operation_lists.ensures old c.requires.nested c.append_linked_list.new.nodes c.append_linked_list.new.containers c.append_linked_list.ensures.nodes_rest c.append_linked_list.ensures.containers_rest donee donor (c.append_linked_list.ensures.lists (ops_in (tree_of old)) c.requires.nested.op_lists) in
    told.nested

pub returns-clause-keeps : goal.returns-clause-keeps
returns-clause-keeps g c =
    let old = c.args.records.now in
    let donee = c.from_index.result.index in
    let donor = c.from_index-2.result.index in
    let told = ops-append c.recall_operation_lists.ensures old c.requires.nested c.append_linked_list.new.nodes c.append_linked_list.new.containers c.append_linked_list.ensures.nodes_rest c.append_linked_list.ensures.containers_rest donee donor (c.append_linked_list.ensures.lists (ops_in (tree_of old)) c.requires.nested.op_lists) in
    told.keeps
