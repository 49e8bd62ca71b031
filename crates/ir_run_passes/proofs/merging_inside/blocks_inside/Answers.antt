use Rattle.std.proofs.Common.{◌++◌, ◌∷◌, map, sym, ap, ◌∙◌, subst}
use Rattle.std.proofs.lemmas.List.{append-nil}
use Rattle.ir_model.specs.Forest.{an_op}
use Rattle.ir_core_queries.specs.Entities.{meant}
use Rattle.ir_core_queries.specs.State.{forest_of}
use Rattle.ir_run_passes.specs.BlocksInside.{ListsBlocks}
use Rattle.ir_run_passes.proofs.EachBlock.{blocks_among, blocks_listed, map_push}
use Rattle.ir_run_passes.proofs.merging_inside.blocks_inside.Goals as goal

pub returns-clause-listed : goal.returns-clause-listed
returns-clause-listed g c =
    let f = forest_of c.args.ctx.now in
    let root = an_op c.args.root.index in
    let told = c.loop-entity.invariant.2 in
    let indices = map (λ p. p.index) c.loop-entity.blocks.items in
    let all = sym (append-nil indices) ∙ sym (ap (λ l. indices ++ blocks_among l) c.in-None.ensures.steps.0) ∙ told.2 in
    subst (ListsBlocks f root) (sym all) (blocks_listed f root told.0 told.1)

pub loop-entity-preserved-in-Continue-1 : goal.loop-entity-preserved-in-Continue-1
loop-entity-preserved-in-Continue-1 g c =
    let told = c.loop-entity.invariant.2 in
    let indices = map (λ p. p.index) c.loop-entity.blocks.items in
    let rest = blocks_among c.next.new.self in
    let ahead = ap (λ l. indices ++ blocks_among l) c.in-Some.ensures.steps ∙ ap (λ e. indices ++ blocks_among (meant e ∷ c.next.new.self)) c.in-Block.is in
    let put = ap (λ l. map (λ p. p.index) l ++ rest) c.in_ok-push.ensures.items ∙ map_push (λ p. p.index) c.loop-entity.blocks.items c.in-Block.block rest in
    (tt, tt, (told.0, told.1, put ∙ sym ahead ∙ told.2))
