use Rattle.std.proofs.Common.{ℕ, refl, ap, arith}
use Rattle.std.proofs.lemmas.Result.{err_from_is_err_and}
use Rattle.ir_model.specs.Edits.{PushArgument}
use Rattle.ir_model.specs.Forest.{a_block, of_block}
use Rattle.ir_model.specs.Ids.{Counts}
use Rattle.ir_core_queries.specs.Definitions.{definition_pushed}
use Rattle.ir_core_queries.specs.State.{forest_of}
use Rattle.ir_run_sessions.specs.SessionTables.{entries_of}
use Rattle.ir_run_sessions.proofs.DefinitionSteps.{may_push_argument, no_room, not_made, place_within, pushed_there, value_made}
use Rattle.ir_run_sessions.proofs.SessionSteps.{room_found}
use Rattle.ir_run_sessions.proofs.definition_steps.make_last_argument.Goals as goal

pub returns-in_err-make_room : goal.returns-in_err-make_room
returns-in_err-make_room g c n m found typed =
    let p = err_from_is_err_and c.from_residual.result c.from_residual.ensures.1 in
    let tables = entries_of c.args.tables.now in
    rw (p.1, p.2)
    (no_room _ c.args.ctx.now tables (PushArgument n m) (may_push_argument c.args.ctx.now tables n m c.args.block.index c.args.ty.place typed (record { found = found; live = c.requires.live })) refl
    _ c.make_room.ensures.same tt c.in_err-make_room.field-0.0 c.requires.sound _ c.one_value.ensures c.in_err-make_room.ensures.counter c.in_err-make_room.ensures.slots)

pub returns-in_err-at : goal.returns-in_err-at
returns-in_err-at g c n m found typed =
    let p = err_from_is_err_and c.from_residual-in_err-at.result c.from_residual-in_err-at.ensures.1 in
    let tables = entries_of c.args.tables.now in
    let room = room_found c.args.ctx.now tables (Unit {0}) _ c.requires.sound c.in_ok-make_room.field-0 c.in_ok-make_room.ensures.counter c.in_ok-make_room.ensures.slots in
    rw (p.1, p.2)
    (not_made _ c.args.ctx.now tables (PushArgument n m) (may_push_argument c.args.ctx.now tables n m c.args.block.index c.args.ty.place typed (record { found = found; live = c.requires.live })) refl
    _ c.make_room.ensures.same tt c.in_err-at.field-0.0 ℕ _ c.one_value.ensures room c.in_err-at.ensures.counter c.in_err-at.ensures.slots c.push_argument.new.ctx c.in_err-at.ensures.err)

pub enter_argument-requires-clause-live : goal.enter_argument-requires-clause-live
enter_argument-requires-clause-live g c = c.in_ok-at.ensures.keeps.entities_stay_live (a_block c.args.block.index) c.requires.live

pub enter_argument-requires-clause-there : goal.enter_argument-requires-clause-there
enter_argument-requires-clause-there g c =
    let f = forest_of c.args.ctx.now in
    let makes = c.in_ok-at.ensures.made in
    place_within (definition_pushed f (of_block c.args.block.index) c.args.ty.place makes.number) (forest_of c.push_argument.new.ctx) (of_block c.args.block.index) c.in_ok-at.at makes.number makes.forest (pushed_there f (of_block c.args.block.index) c.requires.live c.args.ty.place c.in_ok-at.at c.in_ok-at.ensures.index makes.number)

pub enter_argument-requires-clause-place : goal.enter_argument-requires-clause-place
enter_argument-requires-clause-place g c = omega (arith, c.in_ok-make_room.ensures.place.values, ap (λ (n : Counts). n.numbers) c.one_value.ensures)

pub returns : goal.returns
returns g c n m found typed =
    let f = forest_of c.args.ctx.now in
    let tables = entries_of c.args.tables.now in
    let room = room_found c.args.ctx.now tables (Unit {0}) _ c.requires.sound c.in_ok-make_room.field-0 c.in_ok-make_room.ensures.counter c.in_ok-make_room.ensures.slots in
    value_made _ c.args.ctx.now tables (PushArgument n m) (may_push_argument c.args.ctx.now tables n m c.args.block.index c.args.ty.place typed (record { found = found; live = c.requires.live })) refl
    _ c.one_value.ensures room c.push_argument.new.ctx (of_block c.args.block.index) (definition_pushed f (of_block c.args.block.index) c.args.ty.place) c.in_ok-at.ensures.made c.in_ok-at.at (pushed_there f (of_block c.args.block.index) c.requires.live c.args.ty.place c.in_ok-at.at c.in_ok-at.ensures.index)
    (entries_of c.make_room.new.tables) _ c.make_room.ensures.same c.enter_argument.ensures.entered
    (λ k e. record { value = c.args.block.index; found = found; holds = record { value = c.args.ty.place; found = typed; holds = record { value = k; found = refl; holds = e } } })
    c.enter_argument.result c.enter_argument.ensures.number refl
