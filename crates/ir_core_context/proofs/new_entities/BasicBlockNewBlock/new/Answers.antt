use Rattle.std.proofs.Common.{length, sym, ap, subst}
use Rattle.std.proofs.lemmas.List.{length-map}
use Rattle.ir_model.specs.Forest.{a_block}
use Rattle.ir_model.specs.Ids.{Counts}
use Rattle.ir_model.specs.Nesting.{IsLive}
use Rattle.ir_base_dialects.specs.declared.type_handle.TypeHandle.{TypeHandle}
use Rattle.ir_core_context.specs.Calls.{HasArguments, block_needs}
use Rattle.ir_core_context.specs.State.{bare, forest_of}
use Rattle.ir_core_context.proofs.MadeBlocks.{made-block-arguments, made-block-live}
use Rattle.ir_core_context.proofs.Told.{TellsLacks, tells-done, tells-memory, tells-of, tells-refused}
use Rattle.ir_core_context.proofs.new_entities.BasicBlockNewBlock.new.Goals as goal

pub returns-in_err-covers-clause-counter : goal.returns-in_err-covers-clause-counter
returns-in_err-covers-clause-counter g c =
    let s = bare c.args.ctx.now in
    let n = block_needs (length c.args.arg_types.now) in
    let told : TellsLacks s n c.covers.result = tells-of s c.covers.result (ap (λ (k : Counts). record k { blocks = 1; numbers = length c.args.arg_types.now }) c.none.ensures) c.covers.ensures.counter c.covers.ensures.slots in
    (tells-refused s n c.covers.result c.from_residual.result c.in_err-covers.field-0.0 told c.in_err-covers.was c.from_residual.ensures.1).counter

pub returns-in_err-covers-clause-slots : goal.returns-in_err-covers-clause-slots
returns-in_err-covers-clause-slots g c =
    let s = bare c.args.ctx.now in
    let n = block_needs (length c.args.arg_types.now) in
    let told : TellsLacks s n c.covers.result = tells-of s c.covers.result (ap (λ (k : Counts). record k { blocks = 1; numbers = length c.args.arg_types.now }) c.none.ensures) c.covers.ensures.counter c.covers.ensures.slots in
    (tells-refused s n c.covers.result c.from_residual.result c.in_err-covers.field-0.0 told c.in_err-covers.was c.from_residual.ensures.1).slots

pub returns-in_err-create_block-clause-counter : goal.returns-in_err-create_block-clause-counter
returns-in_err-create_block-clause-counter g c =
    let s = bare c.args.ctx.now in
    let n = block_needs (length c.args.arg_types.now) in
    let told : TellsLacks s n c.covers.result = tells-of s c.covers.result (ap (λ (k : Counts). record k { blocks = 1; numbers = length c.args.arg_types.now }) c.none.ensures) c.covers.ensures.counter c.covers.ensures.slots in
    (tells-memory s n c.covers.result c.from_residual-in_err-create_block.result c.in_ok-covers.field-0 told c.in_ok-covers.was c.from_residual-in_err-create_block.ensures.1).counter

pub returns-in_err-create_block-clause-slots : goal.returns-in_err-create_block-clause-slots
returns-in_err-create_block-clause-slots g c =
    let s = bare c.args.ctx.now in
    let n = block_needs (length c.args.arg_types.now) in
    let told : TellsLacks s n c.covers.result = tells-of s c.covers.result (ap (λ (k : Counts). record k { blocks = 1; numbers = length c.args.arg_types.now }) c.none.ensures) c.covers.ensures.counter c.covers.ensures.slots in
    (tells-memory s n c.covers.result c.from_residual-in_err-create_block.result c.in_ok-covers.field-0 told c.in_ok-covers.was c.from_residual-in_err-create_block.ensures.1).slots

pub returns-clause-live : goal.returns-clause-live
returns-clause-live g c = subst (λ i. IsLive (forest_of c.create_block.new.ctx) (a_block i)) (sym c.from_index.ensures) (made-block-live c.in_ok-create_block.ensures.made)

pub returns-clause-counts : goal.returns-clause-counts
returns-clause-counts g c =
    subst (λ i. HasArguments (forest_of c.create_block.new.ctx) i (length c.args.arg_types.now)) (sym c.from_index.ensures)
    (subst (λ n. HasArguments (forest_of c.create_block.new.ctx) c.in_ok-create_block.field-0 n) (length-map c.args.arg_types.now (λ (t : TypeHandle). t.place))
    (made-block-arguments c.in_ok-create_block.ensures.made))

pub returns-clause-counter : goal.returns-clause-counter
returns-clause-counter g c =
    let s = bare c.args.ctx.now in
    let n = block_needs (length c.args.arg_types.now) in
    let told : TellsLacks s n c.covers.result = tells-of s c.covers.result (ap (λ (k : Counts). record k { blocks = 1; numbers = length c.args.arg_types.now }) c.none.ensures) c.covers.ensures.counter c.covers.ensures.slots in
    (tells-done s n c.covers.result c.in_ok-covers.field-0 c.from_index.result told c.in_ok-covers.was).counter

pub returns-clause-slots : goal.returns-clause-slots
returns-clause-slots g c =
    let s = bare c.args.ctx.now in
    let n = block_needs (length c.args.arg_types.now) in
    let told : TellsLacks s n c.covers.result = tells-of s c.covers.result (ap (λ (k : Counts). record k { blocks = 1; numbers = length c.args.arg_types.now }) c.none.ensures) c.covers.ensures.counter c.covers.ensures.slots in
    (tells-done s n c.covers.result c.in_ok-covers.field-0 c.from_index.result told c.in_ok-covers.was).slots
