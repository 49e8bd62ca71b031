-- The block is made and entered, or what was refused is told.
use Rattle.std.proofs.Common.{◌∙◌, ◌<◌, sym, ap, length, arith}
use Rattle.std.proofs.lemmas.List.{length-map}
use Rattle.std.proofs.lemmas.Result.{err_from_is_err_and}
use Rattle.ir_model.specs.declared.error.CoreError.TheVariants.{OutOfMemory}
use Rattle.ir_model.specs.Edits.{NewBlock, these}
use Rattle.ir_model.specs.Nesting.{ops_of}
use Rattle.ir_core_records.specs.Meaning.{block_record}
use Rattle.ir_core_queries.specs.Calls.{block_needs}
use Rattle.ir_core_queries.specs.State.{bare, forest_of, types_of}
use Rattle.ir_run_sessions.specs.SessionTables.{entries_of, with_block}
use Rattle.ir_run_sessions.proofs.Conditions.{types_still}
use Rattle.ir_run_sessions.proofs.NewEntities.{block_made, count_is}
use Rattle.ir_run_sessions.specs.SessionLists.{lent-below, picked-count, picked-known, picked-mean}
use Rattle.ir_run_sessions.proofs.SessionSteps.{block_asked, refusal_tells, refused, room_found, skips_none, tells_memory}
use Rattle.ir_run_sessions.proofs.steps.make_block.Goals as goal

pub returns-in_err-make_room : goal.returns-in_err-make_room
returns-in_err-make_room g c =
    let p = err_from_is_err_and c.from_residual.result c.from_residual.ensures.1 in
    let e = c.in_err-make_room.field-0.0 in
    rw (p.1, p.2)
    (refused _ c.args.ctx.now (entries_of c.args.tables.now) (NewBlock c.args.label c.args.types.now) c.requires.condition _ (block_asked _ c.none.ensures (length c.args.types.now)) e tt
    (refusal_tells c.args.ctx.now (entries_of c.args.tables.now) (Unit {0}) _ c.requires.sound e c.in_err-make_room.ensures.counter c.in_err-make_room.ensures.slots)
    c.args.ctx.now _ c.make_room.ensures.same (skips_none _ _))

pub picked-requires : goal.picked-requires
picked-requires g c =
    lent-below c.make_room.new.tables.types.items c.deref.result.now c.args.types.now c.deref.ensures.value
    (types_still c.args.ctx.now c.args.tables.now c.make_room.new.tables c.make_room.ensures.same c.args.types.now c.requires.condition)

pub returns-in_err-arg_types : goal.returns-in_err-arg_types
returns-in_err-arg_types g c =
    let p = err_from_is_err_and c.from_residual-in_err-arg_types.result c.from_residual-in_err-arg_types.ensures.1 in
    let room = room_found c.args.ctx.now (entries_of c.args.tables.now) (Unit {0}) _ c.requires.sound c.in_ok-make_room.field-0 c.in_ok-make_room.ensures.counter c.in_ok-make_room.ensures.slots in
    rw (p.1, p.2)
    (refused _ c.args.ctx.now (entries_of c.args.tables.now) (NewBlock c.args.label c.args.types.now) c.requires.condition _ (block_asked _ c.none.ensures (length c.args.types.now)) OutOfMemory tt
    (tells_memory (bare c.args.ctx.now) _ room)
    c.args.ctx.now _ c.make_room.ensures.same (skips_none _ _))

pub new-requires : goal.new-requires
new-requires g c =
    record {
      types = picked-known c.make_room.new.tables.types.items c.deref.result.now c.in_ok-arg_types.arg_types.items c.deref-2.result.now c.args.types.now c.deref.ensures.value c.in_ok-arg_types.ensures c.deref-2.ensures.value
          (λ t. t.place) (λ k. k < length (types_of c.args.ctx.now)) (λ k i. c.requires.sound.stored k (rw (sym (ap (λ e. e.types) c.make_room.ensures.same)) i));
    }

pub returns-in_err-block : goal.returns-in_err-block
returns-in_err-block g c =
    let p = err_from_is_err_and c.from_residual-in_err-block.result c.from_residual-in_err-block.ensures.1 in
    let e = c.in_err-block.field-0.0 in
    let known = types_still c.args.ctx.now c.args.tables.now c.make_room.new.tables c.make_room.ensures.same c.args.types.now c.requires.condition in
    let count = picked-count c.make_room.new.tables.types.items c.deref.result.now c.in_ok-arg_types.arg_types.items c.deref-2.result.now c.args.types.now c.deref.ensures.value c.in_ok-arg_types.ensures c.deref-2.ensures.value known in
    rw (p.1, p.2, c.in_err-block.ensures.err)
    (refused _ c.args.ctx.now (entries_of c.args.tables.now) (NewBlock c.args.label c.args.types.now) c.requires.condition (block_needs (length c.deref-2.result.now)) (ap block_needs count) e tt
    (refusal_tells c.args.ctx.now (entries_of c.args.tables.now) _ (block_needs (length c.deref-2.result.now)) c.requires.sound e c.in_err-block.ensures.counter c.in_err-block.ensures.slots)
    c.args.ctx.now _ c.make_room.ensures.same (skips_none _ _))

pub enter_block-requires-clause-values : goal.enter_block-requires-clause-values
enter_block-requires-clause-values g c =
    let known = types_still c.args.ctx.now c.args.tables.now c.make_room.new.tables c.make_room.ensures.same c.args.types.now c.requires.condition in
    let count = picked-count c.make_room.new.tables.types.items c.deref.result.now c.in_ok-arg_types.arg_types.items c.deref-2.result.now c.args.types.now c.deref.ensures.value c.in_ok-arg_types.ensures c.deref-2.ensures.value known in
    let f = forest_of c.new.new.ctx in
    let id = c.in_ok-block.block.index in
    let block = block_record (ops_of f id) c.deref-3.result.now in
    let arguments = count_is (λ r. length r.arguments) (f.blocks id) block (length c.deref-2.result.now) c.in_ok-block.ensures.counts c.deref-3.ensures.found.found in
    omega (arith, c.in_ok-make_room.ensures.place.values, count, arguments)

pub returns : goal.returns
returns g c =
    let tables = c.make_room.new.tables in
    let same = c.make_room.ensures.same in
    let room = room_found c.args.ctx.now (entries_of c.args.tables.now) (Unit {0}) _ c.requires.sound c.in_ok-make_room.field-0 c.in_ok-make_room.ensures.counter c.in_ok-make_room.ensures.slots in
    let typed = picked-mean tables.types.items c.deref.result.now c.in_ok-arg_types.arg_types.items c.deref-2.result.now c.args.types.now c.deref.ensures.value c.in_ok-arg_types.ensures c.deref-2.ensures.value (λ t. t.place) in
    block_made _ c.args.ctx.now (entries_of c.args.tables.now) c.args.label c.args.types.now c.requires.condition _ (typed ∙ ap (λ e. these e.types c.args.types.now) same)
    c.new.new.ctx c.in_ok-block.block.index c.in_ok-block.ensures.made _ (block_asked _ c.none.ensures (length c.args.types.now)) room c.deref-3.result.now c.deref-3.ensures.found
    _ (c.enter_block.ensures ∙ ap (λ e. with_block e c.deref-3.result.now) same)
    _ (omega (arith, c.len-number.ensures, tables.blocks.ok, length-map tables.blocks.items (λ p. p.index), ap (λ e. length e.blocks) same))
