use Rattle.std.proofs.Common.{◌∙◌, Some, ap, refl, sym}
use Rattle.std.proofs.lemmas.Option.{slice_get-get_or}
use Rattle.ir_core_queries.specs.State.{forest_of}
use Rattle.ir_model.specs.Forest.{a_block}
use Rattle.generic_text.specs.Left.{IsNew}
use Rattle.generic_text.proofs.Apart.{apart-op-behind}
use Rattle.generic_text.proofs.BuiltOn.{all_at, on_apart}
use Rattle.generic_text.proofs.operations.place.Goals as goal

pub returns-in_ok-insert_at_back-in-Some-get : goal.returns-in_ok-insert_at_back-in-Some-get
returns-in_ok-insert_at_back-in-Some-get c = λ first builds new.
    let f = forest_of c.args.ctx.now in
    let block = c.in-Some-get.block.now in
    let found = slice_get-get_or c.deref.result.now c.in-Some.number block c.in-Some-get.ensures.lookup.3.0 ∙ ap Some (sym c.in-Some-get.ensures.lookup.1) in
    let at = rw c.deref.ensures.value at found in
    let new_block : IsNew first (a_block block.index) = all_at (λ b. IsNew first (a_block b.index)) _ c.in-Some.number block builds.blocks at in
    on_apart first f c.args.made.now builds _ _ (apart-op-behind first f builds.apart _ block.index c.args.op.index new_block new c.in_ok-insert_at_back-in-Some-get.ensures.forest) refl refl refl
