use Rattle.std.proofs.Common.{rules, ◌<◌, ◌∙◌, ◌∷◌, [], ap, length, map, take}
use Rattle.std.proofs.lemmas.List.{map-append, take_more}
use Rattle.ir_core_queries.specs.State.{forest_of}
use Rattle.ir_model.specs.Forest.{a_block}
use Rattle.generic_text.proofs.Emptied.{but-block}
use Rattle.generic_text.proofs.NewModules.{filled_more}
use Rattle.generic_text.proofs.enclosing.fill.Goals as goal

pub loop-op-preserved : goal.loop-op-preserved
loop-op-preserved c =
    let f = forest_of c.loop-op.ctx in
    let g = forest_of c.insert_at_back.new.ctx in
    let block = c.args.block.index in
    let (stands, live, left) = c.loop-op.invariant in
    let tops = c.args.tops.now in
    let i = c.loop-op.op-index in
    let within : i < length tops = search rules in
    let forest = c.in_ok-insert_at_back.ensures.forest in (
      λ root around. filled_more f g root block _ _ _ (stands root around) live forest (ap (map (λ p. p.index)) (take_more tops i _ within) ∙ map-append (λ p. p.index) (take i tops) (_ ∷ [])),
      c.in_ok-insert_at_back.ensures.keeps.entities_stay_live (a_block block) live,
      λ first apart new. but-block block first f (left first apart new) new g _ forest,
    )
