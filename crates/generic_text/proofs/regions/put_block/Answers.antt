use Rattle.std.proofs.Common.{◌∙◌, Some, ap, refl, sym}
use Rattle.std.proofs.lemmas.Option.{slice_get-get_or}
use Rattle.ir_core_queries.specs.State.{forest_of}
use Rattle.ir_model.specs.Forest.{a_block}
use Rattle.generic_text.specs.Left.{IsNew}
use Rattle.generic_text.proofs.Apart.{apart-block-in-front}
use Rattle.generic_text.proofs.BuiltOn.{all_at, on_apart}
use Rattle.generic_text.proofs.regions.put_block.Goals as goal

pub returns-in-Some-get : goal.returns-in-Some-get
returns-in-Some-get c = λ first builds new.
    let f = forest_of c.args.ctx.now in
    let block = c.in-Some.block.now in
    let found = slice_get-get_or c.deref.result.now c.args.place block c.in-Some.ensures.lookup.3.0 ∙ ap Some (sym c.in-Some.ensures.lookup.1) in
    let at = rw c.deref.ensures.value at found in
    let new_block : IsNew first (a_block block.index) = all_at (λ b. IsNew first (a_block b.index)) _ c.args.place block builds.blocks at in
    on_apart first f c.args.made.now builds _ _ (apart-block-in-front first f builds.apart _ c.args.region.index block.index new new_block c.in_ok-insert_at_front.ensures.forest) refl refl refl

pub returns-in-None : goal.returns-in-None
returns-in-None c = λ first builds new.
    let f = forest_of c.args.ctx.now in
    let block = c.in-Some.block.now in
    let found = slice_get-get_or c.deref.result.now c.args.place block c.in-Some.ensures.lookup.3.0 ∙ ap Some (sym c.in-Some.ensures.lookup.1) in
    let at = rw c.deref.ensures.value at found in
    let new_block : IsNew first (a_block block.index) = all_at (λ b. IsNew first (a_block b.index)) _ c.args.place block builds.blocks at in
    on_apart first f c.args.made.now builds _ _ (apart-block-in-front first f builds.apart _ c.args.region.index block.index new new_block c.in_ok-insert_at_front.ensures.forest) refl refl refl
