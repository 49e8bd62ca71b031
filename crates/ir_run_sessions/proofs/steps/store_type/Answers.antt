use Rattle.std.proofs.Common.{◌∙◌, refl, ap, length, arith}
use Rattle.std.proofs.lemmas.List.{length-map}
use Rattle.std.proofs.lemmas.Result.{err_from_is_err_and}
use Rattle.ir_model.specs.declared.error.CoreError.TheVariants.{OutOfMemory}
use Rattle.ir_model.specs.Edits.{NewType, no_needs}
use Rattle.ir_core_queries.specs.State.{bare}
use Rattle.ir_run_sessions.specs.SessionTables.{entries_of, with_type_entered}
use Rattle.ir_run_sessions.proofs.NewEntities.{type_made}
use Rattle.ir_run_sessions.proofs.SessionSteps.{refused, skips_none, tells_memory}
use Rattle.ir_run_sessions.proofs.steps.store_type.Goals as goal

pub returns-in_err-reserve_type : goal.returns-in_err-reserve_type
returns-in_err-reserve_type g c =
    let p = err_from_is_err_and c.from_residual.result c.from_residual.ensures.1 in
    rw (p.1, p.2)
    (refused _ c.args.ctx.now (entries_of c.args.tables.now) (NewType c.args.key) tt no_needs refl OutOfMemory tt (tells_memory (bare c.args.ctx.now) no_needs (record { numbers = c.requires.numbers; slots = c.requires.slots })) c.args.ctx.now _ c.reserve_type.ensures.same (skips_none _ _))

pub returns-in_err-ty : goal.returns-in_err-ty
returns-in_err-ty g c =
    let p = err_from_is_err_and c.from_residual-in_err-ty.result c.from_residual-in_err-ty.ensures.1 in
    rw (p.1, p.2, c.in_err-ty.ensures.memory, c.in_err-ty.ensures.err)
    (refused _ c.args.ctx.now (entries_of c.args.tables.now) (NewType c.args.key) tt no_needs refl OutOfMemory tt (tells_memory (bare c.args.ctx.now) no_needs (record { numbers = c.requires.numbers; slots = c.requires.slots })) c.args.ctx.now _ c.reserve_type.ensures.same (skips_none _ _))

pub returns : goal.returns
returns g c =
    let tables = c.reserve_type.new.self in
    let same = c.reserve_type.ensures.same in
    type_made _ c.args.ctx.now (entries_of c.args.tables.now) c.args.key (record { numbers = c.requires.numbers; slots = c.requires.slots }) c.instantiate_key.new.self c.in_ok-ty.ensures.rest c.in_ok-ty.ensures.types
    _ (c.enter_type.ensures ∙ ap (λ e. with_type_entered e c.in_ok-ty.ty.place) same ∙ ap (with_type_entered (entries_of c.args.tables.now)) c.in_ok-ty.ensures.place)
    _ (omega (arith, c.len-number.ensures, tables.types.ok, length-map tables.types.items (λ y. y.place), ap (λ e. length e.types) same))
