use Rattle.std.proofs.Common.{refl, ap, arith}
use Rattle.std.proofs.lemmas.Result.{err_from_is_err_and}
use Rattle.ir_model.specs.Edits.{InsertResult}
use Rattle.ir_model.specs.Forest.{an_op, of_op}
use Rattle.ir_model.specs.Ids.{Counts}
use Rattle.ir_core_queries.specs.Definitions.{definition_inserted}
use Rattle.ir_core_queries.specs.State.{forest_of}
use Rattle.ir_run_sessions.specs.SessionTables.{entries_of}
use Rattle.ir_run_sessions.proofs.DefinitionSteps.{inserted_there, may_insert_result, no_room, not_made, place_within, value_made}
use Rattle.ir_run_sessions.proofs.SessionSteps.{room_found}
use Rattle.ir_run_sessions.proofs.definition_steps.make_result.Goals as goal

pub returns-in_err-make_room : goal.returns-in_err-make_room
returns-in_err-make_room g c n m found typed =
    let p = err_from_is_err_and c.from_residual.result c.from_residual.ensures.1 in
    let tables = entries_of c.args.tables.now in
    rw (p.1, p.2)
    (no_room _ c.args.ctx.now tables (InsertResult n c.args.at m) (may_insert_result c.args.ctx.now tables n m c.args.op.index c.args.ty.place typed c.args.at (record { found = found; live = c.requires.live }) c.requires.in_range) refl
    _ c.make_room.ensures.same tt c.in_err-make_room.field-0.0 c.requires.sound _ c.one_value.ensures c.in_err-make_room.ensures.counter c.in_err-make_room.ensures.slots)

pub returns-in_err-insert_result : goal.returns-in_err-insert_result
returns-in_err-insert_result g c n m found typed =
    let p = err_from_is_err_and c.from_residual-in_err-insert_result.result c.from_residual-in_err-insert_result.ensures.1 in
    let tables = entries_of c.args.tables.now in
    let room = room_found c.args.ctx.now tables (Unit {0}) _ c.requires.sound c.in_ok-make_room.field-0 c.in_ok-make_room.ensures.counter c.in_ok-make_room.ensures.slots in
    rw (p.1, p.2)
    (not_made _ c.args.ctx.now tables (InsertResult n c.args.at m) (may_insert_result c.args.ctx.now tables n m c.args.op.index c.args.ty.place typed c.args.at (record { found = found; live = c.requires.live }) c.requires.in_range) refl
    _ c.make_room.ensures.same tt c.in_err-insert_result.field-0.0 (Unit {0}) _ c.one_value.ensures room c.in_err-insert_result.ensures.counter c.in_err-insert_result.ensures.slots c.insert_result.new.ctx c.in_err-insert_result.ensures.err)

pub enter_result-requires-clause-live : goal.enter_result-requires-clause-live
enter_result-requires-clause-live g c = c.in_ok-insert_result.ensures.keeps.entities_stay_live (an_op c.args.op.index) c.requires.live

pub enter_result-requires-clause-there : goal.enter_result-requires-clause-there
enter_result-requires-clause-there g c =
    let f = forest_of c.args.ctx.now in
    let makes = c.in_ok-insert_result.ensures.made in
    place_within (definition_inserted f (of_op c.args.op.index) c.args.at c.args.ty.place makes.number) (forest_of c.insert_result.new.ctx) (of_op c.args.op.index) c.args.at makes.number makes.forest (inserted_there f (of_op c.args.op.index) c.requires.live c.args.ty.place c.args.at c.requires.in_range makes.number)

pub enter_result-requires-clause-place : goal.enter_result-requires-clause-place
enter_result-requires-clause-place g c = omega (arith, c.in_ok-make_room.ensures.place.values, ap (λ (n : Counts). n.numbers) c.one_value.ensures)

pub returns : goal.returns
returns g c n m found typed =
    let f = forest_of c.args.ctx.now in
    let tables = entries_of c.args.tables.now in
    let room = room_found c.args.ctx.now tables (Unit {0}) _ c.requires.sound c.in_ok-make_room.field-0 c.in_ok-make_room.ensures.counter c.in_ok-make_room.ensures.slots in
    value_made _ c.args.ctx.now tables (InsertResult n c.args.at m) (may_insert_result c.args.ctx.now tables n m c.args.op.index c.args.ty.place typed c.args.at (record { found = found; live = c.requires.live }) c.requires.in_range) refl
    _ c.one_value.ensures room c.insert_result.new.ctx (of_op c.args.op.index) (definition_inserted f (of_op c.args.op.index) c.args.at c.args.ty.place) c.in_ok-insert_result.ensures.made c.args.at (inserted_there f (of_op c.args.op.index) c.requires.live c.args.ty.place c.args.at c.requires.in_range)
    (entries_of c.make_room.new.tables) _ c.make_room.ensures.same c.enter_result.ensures.entered
    (λ k e. record { value = c.args.op.index; found = found; holds = record { value = c.args.ty.place; found = typed; holds = record { value = k; found = refl; holds = e } } })
    c.enter_result.result c.enter_result.ensures.number refl
