use Rattle.std.proofs.Common.{refl, ap, arith}
use Rattle.std.proofs.lemmas.Result.{err_from_is_err_and}
use Rattle.ir_model.specs.Edits.{InsertArgument}
use Rattle.ir_model.specs.Forest.{a_block, of_block}
use Rattle.ir_model.specs.Ids.{Counts}
use Rattle.ir_core_queries.specs.Definitions.{definition_inserted}
use Rattle.ir_core_queries.specs.State.{forest_of}
use Rattle.ir_run_sessions.specs.SessionTables.{entries_of}
use Rattle.ir_run_sessions.proofs.DefinitionSteps.{inserted_there, may_insert_argument, no_room, not_made, place_within, value_made}
use Rattle.ir_run_sessions.proofs.SessionSteps.{room_found}
use Rattle.ir_run_sessions.proofs.definition_steps.make_argument.Goals as goal

pub returns-in_err-make_room : goal.returns-in_err-make_room
returns-in_err-make_room g c n m found typed =
    let p = err_from_is_err_and c.from_residual.result c.from_residual.ensures.1 in
    let tables = entries_of c.args.tables.now in
    rw (p.1, p.2)
    (no_room _ c.args.ctx.now tables (InsertArgument n c.args.at m) (may_insert_argument c.args.ctx.now tables n m c.args.block.index c.args.ty.place typed c.args.at (record { found = found; live = c.requires.live }) c.requires.in_range) refl
    _ c.make_room.ensures.same tt c.in_err-make_room.field-0.0 c.requires.sound _ c.one_value.ensures c.in_err-make_room.ensures.counter c.in_err-make_room.ensures.slots)

pub returns-in_err-insert_argument : goal.returns-in_err-insert_argument
returns-in_err-insert_argument g c n m found typed =
    let p = err_from_is_err_and c.from_residual-in_err-insert_argument.result c.from_residual-in_err-insert_argument.ensures.1 in
    let tables = entries_of c.args.tables.now in
    let room = room_found c.args.ctx.now tables (Unit {0}) _ c.requires.sound c.in_ok-make_room.field-0 c.in_ok-make_room.ensures.counter c.in_ok-make_room.ensures.slots in
    rw (p.1, p.2)
    (not_made _ c.args.ctx.now tables (InsertArgument n c.args.at m) (may_insert_argument c.args.ctx.now tables n m c.args.block.index c.args.ty.place typed c.args.at (record { found = found; live = c.requires.live }) c.requires.in_range) refl
    _ c.make_room.ensures.same tt c.in_err-insert_argument.field-0.0 (Unit {0}) _ c.one_value.ensures room c.in_err-insert_argument.ensures.counter c.in_err-insert_argument.ensures.slots c.insert_argument.new.ctx c.in_err-insert_argument.ensures.err)

pub enter_argument-requires-clause-live : goal.enter_argument-requires-clause-live
enter_argument-requires-clause-live g c = c.in_ok-insert_argument.ensures.keeps.entities_stay_live (a_block c.args.block.index) c.requires.live

pub enter_argument-requires-clause-there : goal.enter_argument-requires-clause-there
enter_argument-requires-clause-there g c =
    let f = forest_of c.args.ctx.now in
    let makes = c.in_ok-insert_argument.ensures.made in
    place_within (definition_inserted f (of_block c.args.block.index) c.args.at c.args.ty.place makes.number) (forest_of c.insert_argument.new.ctx) (of_block c.args.block.index) c.args.at makes.number makes.forest (inserted_there f (of_block c.args.block.index) c.requires.live c.args.ty.place c.args.at c.requires.in_range makes.number)

pub enter_argument-requires-clause-place : goal.enter_argument-requires-clause-place
enter_argument-requires-clause-place g c = omega (arith, c.in_ok-make_room.ensures.place.values, ap (λ (n : Counts). n.numbers) c.one_value.ensures)

pub returns : goal.returns
returns g c n m found typed =
    let f = forest_of c.args.ctx.now in
    let tables = entries_of c.args.tables.now in
    let room = room_found c.args.ctx.now tables (Unit {0}) _ c.requires.sound c.in_ok-make_room.field-0 c.in_ok-make_room.ensures.counter c.in_ok-make_room.ensures.slots in
    value_made _ c.args.ctx.now tables (InsertArgument n c.args.at m) (may_insert_argument c.args.ctx.now tables n m c.args.block.index c.args.ty.place typed c.args.at (record { found = found; live = c.requires.live }) c.requires.in_range) refl
    _ c.one_value.ensures room c.insert_argument.new.ctx (of_block c.args.block.index) (definition_inserted f (of_block c.args.block.index) c.args.at c.args.ty.place) c.in_ok-insert_argument.ensures.made c.args.at (inserted_there f (of_block c.args.block.index) c.requires.live c.args.ty.place c.args.at c.requires.in_range)
    (entries_of c.make_room.new.tables) _ c.make_room.ensures.same c.enter_argument.ensures.entered
    (λ k e. record { value = c.args.block.index; found = found; holds = record { value = c.args.ty.place; found = typed; holds = record { value = k; found = refl; holds = e } } })
    c.enter_argument.result c.enter_argument.ensures.number refl
