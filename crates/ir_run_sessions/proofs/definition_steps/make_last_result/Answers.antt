use Rattle.std.proofs.Common.{ℕ, refl, ap, arith}
use Rattle.std.proofs.lemmas.Result.{err_from_is_err_and}
use Rattle.ir_model.specs.Edits.{PushResult}
use Rattle.ir_model.specs.Forest.{an_op, of_op}
use Rattle.ir_model.specs.Ids.{Counts}
use Rattle.ir_core_queries.specs.Definitions.{definition_pushed}
use Rattle.ir_core_queries.specs.State.{forest_of}
use Rattle.ir_run_sessions.specs.SessionTables.{entries_of}
use Rattle.ir_run_sessions.proofs.DefinitionSteps.{may_push_result, no_room, not_made, place_within, pushed_there, value_made}
use Rattle.ir_run_sessions.proofs.SessionSteps.{room_found}
use Rattle.ir_run_sessions.proofs.definition_steps.make_last_result.Goals as goal

pub returns-in_err-make_room : goal.returns-in_err-make_room
returns-in_err-make_room g c n m found typed =
    let p = err_from_is_err_and c.from_residual.result c.from_residual.ensures.1 in
    let tables = entries_of c.args.tables.now in
    rw (p.1, p.2)
    (no_room _ c.args.ctx.now tables (PushResult n m) (may_push_result c.args.ctx.now tables n m c.args.op.index c.args.ty.place typed (record { found = found; live = c.requires.live })) refl
    _ c.make_room.ensures.same tt c.in_err-make_room.field-0.0 c.requires.sound _ c.one_value.ensures c.in_err-make_room.ensures.counter c.in_err-make_room.ensures.slots)

pub returns-in_err-at : goal.returns-in_err-at
returns-in_err-at g c n m found typed =
    let p = err_from_is_err_and c.from_residual-in_err-at.result c.from_residual-in_err-at.ensures.1 in
    let tables = entries_of c.args.tables.now in
    let room = room_found c.args.ctx.now tables (Unit {0}) _ c.requires.sound c.in_ok-make_room.field-0 c.in_ok-make_room.ensures.counter c.in_ok-make_room.ensures.slots in
    rw (p.1, p.2)
    (not_made _ c.args.ctx.now tables (PushResult n m) (may_push_result c.args.ctx.now tables n m c.args.op.index c.args.ty.place typed (record { found = found; live = c.requires.live })) refl
    _ c.make_room.ensures.same tt c.in_err-at.field-0.0 ℕ _ c.one_value.ensures room c.in_err-at.ensures.counter c.in_err-at.ensures.slots c.push_result.new.ctx c.in_err-at.ensures.err)

pub enter_result-requires-clause-live : goal.enter_result-requires-clause-live
enter_result-requires-clause-live g c = c.in_ok-at.ensures.keeps.entities_stay_live (an_op c.args.op.index) c.requires.live

pub enter_result-requires-clause-there : goal.enter_result-requires-clause-there
enter_result-requires-clause-there g c =
    let f = forest_of c.args.ctx.now in
    let makes = c.in_ok-at.ensures.made in
    place_within (definition_pushed f (of_op c.args.op.index) c.args.ty.place makes.number) (forest_of c.push_result.new.ctx) (of_op c.args.op.index) c.in_ok-at.at makes.number makes.forest (pushed_there f (of_op c.args.op.index) c.requires.live c.args.ty.place c.in_ok-at.at c.in_ok-at.ensures.index makes.number)

pub enter_result-requires-clause-place : goal.enter_result-requires-clause-place
enter_result-requires-clause-place g c = omega (arith, c.in_ok-make_room.ensures.place.values, ap (λ (n : Counts). n.numbers) c.one_value.ensures)

pub returns : goal.returns
returns g c n m found typed =
    let f = forest_of c.args.ctx.now in
    let tables = entries_of c.args.tables.now in
    let room = room_found c.args.ctx.now tables (Unit {0}) _ c.requires.sound c.in_ok-make_room.field-0 c.in_ok-make_room.ensures.counter c.in_ok-make_room.ensures.slots in
    value_made _ c.args.ctx.now tables (PushResult n m) (may_push_result c.args.ctx.now tables n m c.args.op.index c.args.ty.place typed (record { found = found; live = c.requires.live })) refl
    _ c.one_value.ensures room c.push_result.new.ctx (of_op c.args.op.index) (definition_pushed f (of_op c.args.op.index) c.args.ty.place) c.in_ok-at.ensures.made c.in_ok-at.at (pushed_there f (of_op c.args.op.index) c.requires.live c.args.ty.place c.in_ok-at.at c.in_ok-at.ensures.index)
    (entries_of c.make_room.new.tables) _ c.make_room.ensures.same c.enter_result.ensures.entered
    (λ k e. record { value = c.args.op.index; found = found; holds = record { value = c.args.ty.place; found = typed; holds = record { value = k; found = refl; holds = e } } })
    c.enter_result.result c.enter_result.ensures.number refl
