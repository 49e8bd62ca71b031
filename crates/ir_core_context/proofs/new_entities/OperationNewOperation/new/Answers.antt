use Rattle.std.proofs.Common.{◌≡◌, ◌+◌, length, map, sym, ap, subst}
use Rattle.std.proofs.lemmas.List.{length-map}
use Rattle.ir_model.specs.Ids.{Counts}
use Rattle.ir_model.specs.Forest.{an_op}
use Rattle.ir_model.specs.Nesting.{IsLive}
use Rattle.ir_base_dialects.specs.declared.type_handle.TypeHandle.{TypeHandle}
use Rattle.ir_core_records.specs.Meaning.{value_of}
use Rattle.ir_core_context.specs.Calls.{HasCounts, op_needs}
use Rattle.ir_core_context.specs.State.{bare, forest_of}
use Rattle.ir_core_context.proofs.Answers.{err_holds}
use Rattle.ir_core_context.proofs.CreatedOperations.{created-counts, created-live}
use Rattle.ir_core_context.proofs.Handed.{skips-nothing}
use Rattle.ir_core_context.proofs.Told.{TellsLacks, tells-done, tells-memory, tells-of, tells-refused}
use Rattle.ir_core_context.proofs.new_entities.OperationNewOperation.new.Goals as goal

pub returns-in_err-covers-clause-slots : goal.returns-in_err-covers-clause-slots
returns-in_err-covers-clause-slots g c =
    let s = bare c.args.ctx.now in
    let n = op_needs (length c.args.result_types.now) (length c.args.operands.now + length c.args.successors.now) c.args.num_regions in
    let told : TellsLacks s n c.covers.result = tells-of s c.covers.result (ap (λ (k : Counts). record n { blocks = k.blocks }) c.none.ensures) c.covers.ensures.counter c.covers.ensures.slots in
    (tells-refused s n c.covers.result c.from_residual.result c.in_err-covers.field-0.0 told c.in_err-covers.was c.from_residual.ensures.1).slots

pub returns-in_err-covers-clause-refused : goal.returns-in_err-covers-clause-refused
returns-in_err-covers-clause-refused g c = err_holds c.from_residual.result (skips-nothing (bare c.args.ctx.now) (op_needs (length c.args.result_types.now) (length c.args.operands.now + length c.args.successors.now) c.args.num_regions))

pub returns-in_err-create_operation-clause-slots : goal.returns-in_err-create_operation-clause-slots
returns-in_err-create_operation-clause-slots g c =
    let s = bare c.args.ctx.now in
    let n = op_needs (length c.args.result_types.now) (length c.args.operands.now + length c.args.successors.now) c.args.num_regions in
    let told : TellsLacks s n c.covers.result = tells-of s c.covers.result (ap (λ (k : Counts). record n { blocks = k.blocks }) c.none.ensures) c.covers.ensures.counter c.covers.ensures.slots in
    (tells-memory s n c.covers.result c.from_residual-in_err-create_operation.result c.in_ok-covers.field-0 told c.in_ok-covers.was c.from_residual-in_err-create_operation.ensures.1).slots

pub returns-clause-slots : goal.returns-clause-slots
returns-clause-slots g c =
    let s = bare c.args.ctx.now in
    let n = op_needs (length c.args.result_types.now) (length c.args.operands.now + length c.args.successors.now) c.args.num_regions in
    let told : TellsLacks s n c.covers.result = tells-of s c.covers.result (ap (λ (k : Counts). record n { blocks = k.blocks }) c.none.ensures) c.covers.ensures.counter c.covers.ensures.slots in
    (tells-done s n c.covers.result c.in_ok-covers.field-0 c.from_index.result told c.in_ok-covers.was).slots

pub returns-clause-live : goal.returns-clause-live
returns-clause-live g c = subst (λ i. IsLive (forest_of c.create_operation.new.ctx) (an_op i)) (sym c.from_index.ensures) (created-live c.in_ok-create_operation.ensures.made)

pub returns-clause-counts : goal.returns-clause-counts
returns-clause-counts g c =
    let f = forest_of c.create_operation.new.ctx in
    let types : length (map (λ (t : TypeHandle). t.place) c.args.result_types.now) ≡ length c.args.result_types.now = length-map c.args.result_types.now (λ (t : TypeHandle). t.place) in
    let operands = length-map c.args.operands.now (λ v. value_of v.index) in
    let successors = length-map c.args.successors.now (λ b. b.index) in
    subst (λ i. HasCounts f i (length c.args.result_types.now) (length c.args.operands.now) (length c.args.successors.now) c.args.num_regions) (sym c.from_index.ensures)
    (rw (types, operands, successors) at (created-counts c.in_ok-create_operation.ensures.made))
