use Rattle.std.proofs.Common.{sym, subst, ap, ◌∙◌}
use Rattle.ir_model.specs.Changes.{in_blocks, put_before}
use Rattle.ir_model.specs.ContextIds.{same_id}
use Rattle.ir_model.specs.Edits.{MayGoBeside}
use Rattle.ir_model.specs.Forest.{an_op}
use Rattle.ir_core_context.specs.State.{forest_of}
use Rattle.ir_rewrite.proofs.Rest.{keeps_joined, same_joined}
use Rattle.ir_rewrite.proofs.TakenOut.{taken_may_go}
use Rattle.ir_rewrite.proofs.moving.move_before.Goals as goal

pub insert_before-requires-clause-live : goal.insert_before-requires-clause-live
insert_before-requires-clause-live g c = c.unlink.ensures.may_go_back.live

pub insert_before-requires-clause-may_go : goal.insert_before-requires-clause-may_go
insert_before-requires-clause-may_go g c =
    subst (λ z. MayGoBeside z (an_op c.args.op.index) (an_op c.args.mark.index)) (sym c.unlink.ensures.forest)
    (taken_may_go (forest_of c.args.ctx.now) c.args.op.index c.args.mark.index c.requires.1 c.requires.2.0 c.requires.2.1 c.requires.2.2)

pub returns-clause-forest : goal.returns-clause-forest
returns-clause-forest g c = c.insert_before.ensures.forest ∙ ap (λ z. in_blocks z (put_before same_id c.args.op.index c.args.mark.index)) c.unlink.ensures.forest

pub returns-clause-rest : goal.returns-clause-rest
returns-clause-rest g c = same_joined _ _ _ c.unlink.ensures.rest c.insert_before.ensures.rest

pub returns-clause-keeps : goal.returns-clause-keeps
returns-clause-keeps g c = keeps_joined _ _ _ c.unlink.ensures.keeps c.insert_before.ensures.keeps
