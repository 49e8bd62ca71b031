-- The operation is made and entered, or what was refused is told.
use Rattle.std.proofs.Common.{◌∙◌, ◌+◌, ◌<◌, refl, sym, ap, length, arith}
use Rattle.std.proofs.lemmas.List.{length-map}
use Rattle.std.proofs.lemmas.Result.{err_from_is_err_and}
use Rattle.ir_model.specs.declared.error.CoreError.TheVariants.{OutOfMemory}
use Rattle.ir_model.specs.Forest.{a_block, a_value}
use Rattle.ir_model.specs.Nesting.{IsLive, IsLiveNamed}
use Rattle.ir_model.specs.Edits.{NewOp, these}
use Rattle.ir_core_records.specs.Meaning.{op_record, value_of}
use Rattle.ir_core_queries.specs.Calls.{op_needs}
use Rattle.ir_core_queries.specs.State.{bare, forest_of, types_of}
use Rattle.ir_run_sessions.specs.SessionTables.{entries_of, with_op}
use Rattle.ir_run_sessions.proofs.Conditions.{op_still}
use Rattle.ir_run_sessions.proofs.NewEntities.{count_is, op_asks, op_made}
use Rattle.ir_run_sessions.specs.SessionLists.{below, picked-count, picked-known, picked-live, picked-mean}
use Rattle.ir_run_sessions.proofs.SessionSteps.{op_asked, refusal_tells, refused, room_found, skips_none, tells_memory}
use Rattle.ir_run_sessions.proofs.steps.make_op.Goals as goal

pub returns-in_err-make_room : goal.returns-in_err-make_room
returns-in_err-make_room g c =
    let p = err_from_is_err_and c.from_residual.result c.from_residual.ensures.1 in
    let e = c.in_err-make_room.field-0.0 in
    let parts = c.args.parts.now in
    rw (p.1, p.2)
    (refused _ c.args.ctx.now (entries_of c.args.tables.now) (NewOp parts.kind parts.types.now parts.operands.now parts.successors.now parts.regions) c.requires.condition
    _ (op_asked _ c.none.ensures (length parts.types.now) (length parts.operands.now + length parts.successors.now) parts.regions) e tt
    (refusal_tells c.args.ctx.now (entries_of c.args.tables.now) (Unit {0}) _ c.requires.sound e c.in_err-make_room.ensures.counter c.in_err-make_room.ensures.slots)
    c.args.ctx.now _ c.make_room.ensures.same (skips_none _ _))

pub find_parts-requires-clause-types : goal.find_parts-requires-clause-types
find_parts-requires-clause-types g c =
    let parts = c.args.parts.now in
    (op_still c.args.ctx.now c.args.tables.now c.make_room.new.tables c.make_room.ensures.same parts.kind parts.types.now parts.operands.now parts.successors.now parts.regions c.requires.condition).0

pub find_parts-requires-clause-operands : goal.find_parts-requires-clause-operands
find_parts-requires-clause-operands g c =
    let parts = c.args.parts.now in
    below c.make_room.new.tables.values.items (λ v. IsLiveNamed (forest_of c.args.ctx.now) (a_value (value_of v.index))) parts.operands.now
    (op_still c.args.ctx.now c.args.tables.now c.make_room.new.tables c.make_room.ensures.same parts.kind parts.types.now parts.operands.now parts.successors.now parts.regions c.requires.condition).1

pub find_parts-requires-clause-successors : goal.find_parts-requires-clause-successors
find_parts-requires-clause-successors g c =
    let parts = c.args.parts.now in
    below c.make_room.new.tables.blocks.items (λ p. IsLive (forest_of c.args.ctx.now) (a_block p.index)) parts.successors.now
    (op_still c.args.ctx.now c.args.tables.now c.make_room.new.tables c.make_room.ensures.same parts.kind parts.types.now parts.operands.now parts.successors.now parts.regions c.requires.condition).2

pub returns-in_err-found : goal.returns-in_err-found
returns-in_err-found g c =
    let p = err_from_is_err_and c.from_residual-in_err-found.result c.from_residual-in_err-found.ensures.1 in
    let parts = c.args.parts.now in
    let room = room_found c.args.ctx.now (entries_of c.args.tables.now) (Unit {0}) _ c.requires.sound c.in_ok-make_room.field-0 c.in_ok-make_room.ensures.counter c.in_ok-make_room.ensures.slots in
    rw (p.1, p.2)
    (refused _ c.args.ctx.now (entries_of c.args.tables.now) (NewOp parts.kind parts.types.now parts.operands.now parts.successors.now parts.regions) c.requires.condition
    _ (op_asked _ c.none.ensures (length parts.types.now) (length parts.operands.now + length parts.successors.now) parts.regions) OutOfMemory tt
    (tells_memory (bare c.args.ctx.now) _ room)
    c.args.ctx.now _ c.make_room.ensures.same (skips_none _ _))

pub new-requires-clause-types : goal.new-requires-clause-types
new-requires-clause-types g c =
    let table = c.make_room.new.tables.types.items in
    picked-known table table c.in_ok-found.found.types.items c.deref.result.now c.args.parts.now.types.now refl c.in_ok-found.ensures.types c.deref.ensures.value
    (λ t. t.place) (λ k. k < length (types_of c.args.ctx.now)) (λ k i. c.requires.sound.stored k (rw (sym (ap (λ e. e.types) c.make_room.ensures.same)) i))

pub new-requires-clause-operands : goal.new-requires-clause-operands
new-requires-clause-operands g c =
    let parts = c.args.parts.now in
    let table = c.make_room.new.tables.values.items in
    picked-live table table c.in_ok-found.found.operands.items c.deref-2.result.now parts.operands.now refl c.in_ok-found.ensures.operands c.deref-2.ensures.value
    (λ v. IsLiveNamed (forest_of c.args.ctx.now) (a_value (value_of v.index)))
    (op_still c.args.ctx.now c.args.tables.now c.make_room.new.tables c.make_room.ensures.same parts.kind parts.types.now parts.operands.now parts.successors.now parts.regions c.requires.condition).1

pub new-requires-clause-successors : goal.new-requires-clause-successors
new-requires-clause-successors g c =
    let parts = c.args.parts.now in
    let table = c.make_room.new.tables.blocks.items in
    picked-live table table c.in_ok-found.found.successors.items c.deref-3.result.now parts.successors.now refl c.in_ok-found.ensures.successors c.deref-3.ensures.value
    (λ p. IsLive (forest_of c.args.ctx.now) (a_block p.index))
    (op_still c.args.ctx.now c.args.tables.now c.make_room.new.tables c.make_room.ensures.same parts.kind parts.types.now parts.operands.now parts.successors.now parts.regions c.requires.condition).2

pub returns-in_err-op : goal.returns-in_err-op
returns-in_err-op g c =
    let p = err_from_is_err_and c.from_residual-in_err-op.result c.from_residual-in_err-op.ensures.1 in
    let e = c.in_err-op.field-0.0 in
    let parts = c.args.parts.now in
    let tables = c.make_room.new.tables in
    let found = c.in_ok-found.found in
    let still = op_still c.args.ctx.now c.args.tables.now tables c.make_room.ensures.same parts.kind parts.types.now parts.operands.now parts.successors.now parts.regions c.requires.condition in
    let types = picked-count tables.types.items tables.types.items found.types.items c.deref.result.now parts.types.now refl c.in_ok-found.ensures.types c.deref.ensures.value still.0 in
    let operands =
    picked-count tables.values.items tables.values.items found.operands.items c.deref-2.result.now parts.operands.now refl c.in_ok-found.ensures.operands c.deref-2.ensures.value
    (below tables.values.items (λ v. IsLiveNamed (forest_of c.args.ctx.now) (a_value (value_of v.index))) parts.operands.now still.1) in
    let successors =
    picked-count tables.blocks.items tables.blocks.items found.successors.items c.deref-3.result.now parts.successors.now refl c.in_ok-found.ensures.successors c.deref-3.ensures.value
    (below tables.blocks.items (λ p. IsLive (forest_of c.args.ctx.now) (a_block p.index)) parts.successors.now still.2) in
    let needed = op_needs (length c.deref.result.now) (length c.deref-2.result.now + length c.deref-3.result.now) parts.regions in
    rw (p.1, p.2)
    (refused _ c.args.ctx.now (entries_of c.args.tables.now) (NewOp parts.kind parts.types.now parts.operands.now parts.successors.now parts.regions) c.requires.condition
    needed (op_asks _ _ _ _ _ _ parts.regions types operands successors) e tt
    (refusal_tells c.args.ctx.now (entries_of c.args.tables.now) _ needed c.requires.sound e c.in_err-op.ensures.counter c.in_err-op.ensures.slots)
    c.new.new.ctx _ c.make_room.ensures.same c.in_err-op.ensures.refused)

pub enter_op-requires-clause-values : goal.enter_op-requires-clause-values
enter_op-requires-clause-values g c =
    let parts = c.args.parts.now in
    let tables = c.make_room.new.tables in
    let still = op_still c.args.ctx.now c.args.tables.now tables c.make_room.ensures.same parts.kind parts.types.now parts.operands.now parts.successors.now parts.regions c.requires.condition in
    let types = picked-count tables.types.items tables.types.items c.in_ok-found.found.types.items c.deref.result.now parts.types.now refl c.in_ok-found.ensures.types c.deref.ensures.value still.0 in
    let op = c.deref-4.result.now in
    let results = count_is (λ r. length r.results) ((forest_of c.new.new.ctx).ops c.in_ok-op.op.index) (op_record op) (length c.deref.result.now) c.in_ok-op.ensures.counts.result_count c.deref-4.ensures.found.found in
    omega (arith, c.in_ok-make_room.ensures.place.values, types, results)

pub returns : goal.returns
returns g c =
    let parts = c.args.parts.now in
    let tables = c.make_room.new.tables in
    let same = c.make_room.ensures.same in
    let found = c.in_ok-found.found in
    let room = room_found c.args.ctx.now (entries_of c.args.tables.now) (Unit {0}) _ c.requires.sound c.in_ok-make_room.field-0 c.in_ok-make_room.ensures.counter c.in_ok-make_room.ensures.slots in
    let typed = picked-mean tables.types.items tables.types.items found.types.items c.deref.result.now parts.types.now refl c.in_ok-found.ensures.types c.deref.ensures.value (λ t. t.place) in
    let valued = picked-mean tables.values.items tables.values.items found.operands.items c.deref-2.result.now parts.operands.now refl c.in_ok-found.ensures.operands c.deref-2.ensures.value (λ v. value_of v.index) in
    let blocked = picked-mean tables.blocks.items tables.blocks.items found.successors.items c.deref-3.result.now parts.successors.now refl c.in_ok-found.ensures.successors c.deref-3.ensures.value (λ p. p.index) in
    op_made _ c.args.ctx.now (entries_of c.args.tables.now) parts.kind parts.types.now parts.operands.now parts.successors.now parts.regions c.requires.condition _ _ _
    (typed ∙ ap (λ e. these e.types parts.types.now) same) (valued ∙ ap (λ e. these e.values parts.operands.now) same) (blocked ∙ ap (λ e. these e.blocks parts.successors.now) same)
    c.new.new.ctx c.in_ok-op.op.index c.in_ok-op.ensures.made _ (op_asked _ c.none.ensures (length parts.types.now) (length parts.operands.now + length parts.successors.now) parts.regions) room c.deref-4.result.now c.deref-4.ensures.found
    _ (c.enter_op.ensures ∙ ap (λ e. with_op e c.deref-4.result.now) same)
    _ (omega (arith, c.len-number.ensures, tables.ops.ok, length-map tables.ops.items (λ p. p.index), ap (λ e. length e.ops) same))
