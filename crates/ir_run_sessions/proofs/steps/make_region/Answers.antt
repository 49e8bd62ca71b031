-- The region is made and entered, or what was refused is told.
use Rattle.std.proofs.Common.{◌∙◌, refl, ap, subst, length, Err, arith}
use Rattle.std.proofs.lemmas.List.{length-map}
use Rattle.std.proofs.lemmas.Result.{err_from_is_err_and}
use Rattle.ir_model.specs.Edits.{AddRegion}
use Rattle.ir_model.specs.Ids.{Counts}
use Rattle.ir_core_queries.specs.Calls.{region_needs}
use Rattle.ir_core_queries.specs.State.{bare, forest_of}
use Rattle.ir_run_sessions.specs.SessionTables.{entries_of, with_region}
use Rattle.ir_run_sessions.proofs.Conditions.{there}
use Rattle.ir_run_sessions.proofs.NewEntities.{region_made}
use Rattle.ir_run_sessions.proofs.SessionSteps.{HasRoom, refusal_tells, refused, region_asked, room_found, skips_none}
use Rattle.ir_run_sessions.proofs.steps.make_region.Goals as goal

pub returns-in_err-make_room : goal.returns-in_err-make_room
returns-in_err-make_room g c n at =
    let p = err_from_is_err_and c.from_residual.result c.from_residual.ensures.1 in
    let e = c.in_err-make_room.field-0.0 in
    let op = c.args.op.index in
    rw (p.1, p.2)
    (refused _ c.args.ctx.now (entries_of c.args.tables.now) (AddRegion n) (record { value = op; found = at; holds = (there ((forest_of c.args.ctx.now).ops op)).0 c.requires.live }) _ (region_asked _ c.none.ensures) e tt
    (refusal_tells c.args.ctx.now (entries_of c.args.tables.now) (Unit {0}) _ c.requires.sound e c.in_err-make_room.ensures.counter c.in_err-make_room.ensures.slots)
    c.args.ctx.now _ c.make_room.ensures.same (skips_none _ _))

pub returns-in_err-region : goal.returns-in_err-region
returns-in_err-region g c n at =
    let p = err_from_is_err_and c.from_residual-in_err-region.result c.from_residual-in_err-region.ensures.1 in
    let e = c.in_err-region.field-0.0 in
    let op = c.args.op.index in
    let room = room_found c.args.ctx.now (entries_of c.args.tables.now) (Unit {0}) _ c.requires.sound c.in_ok-make_room.field-0 c.in_ok-make_room.ensures.counter c.in_ok-make_room.ensures.slots in
    let there_is : HasRoom (bare c.args.ctx.now) region_needs = subst (λ (n : Counts). HasRoom (bare c.args.ctx.now) n) (region_asked _ c.none.ensures) room in
    rw (p.1, p.2)
    (refused _ c.args.ctx.now (entries_of c.args.tables.now) (AddRegion n) (record { value = op; found = at; holds = (there ((forest_of c.args.ctx.now).ops op)).0 c.requires.live }) region_needs refl e tt
    (record { memory = λ is. there_is; counter = λ is. absurd (c.in_err-region.ensures.counter (ap Err is)); slots = λ is. (there_is.numbers, c.in_err-region.ensures.slots.0 (ap Err is)) })
    c.add_region.new.ctx _ c.make_room.ensures.same c.in_err-region.ensures.refused)

pub returns : goal.returns
returns g c n at =
    let tables = c.make_room.new.tables in
    let same = c.make_room.ensures.same in
    let op = c.args.op.index in
    let room = room_found c.args.ctx.now (entries_of c.args.tables.now) (Unit {0}) _ c.requires.sound c.in_ok-make_room.field-0 c.in_ok-make_room.ensures.counter c.in_ok-make_room.ensures.slots in
    region_made _ c.args.ctx.now (entries_of c.args.tables.now) n op at (record { value = op; found = at; holds = (there ((forest_of c.args.ctx.now).ops op)).0 c.requires.live }) _ (region_asked _ c.none.ensures) room
    c.add_region.new.ctx c.in_ok-region.region.index c.in_ok-region.ensures.made _ (c.enter_region.ensures ∙ ap (λ e. with_region e c.in_ok-region.region.index) same)
    _ (omega (arith, c.len-number.ensures, tables.regions.ok, length-map tables.regions.items (λ p. p.index), ap (λ e. length e.regions) same))
