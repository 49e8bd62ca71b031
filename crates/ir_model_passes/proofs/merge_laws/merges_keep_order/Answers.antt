use Rattle.ir_model.proofs.TwoRuns.{lawful}
use Rattle.ir_model_passes.proofs.InOrder.{leaves_in_order, seen_still}
use Rattle.ir_model_passes.proofs.merge_laws.merges_keep_order.Goals as goal

pub returns-clause-in_block : goal.returns-clause-in_block
returns-clause-in_block g c = λ behaviour same f h keys b m w order. leaves_in_order lawful behaviour same f keys b h w m order

pub returns-clause-seen : goal.returns-clause-seen
returns-clause-seen g c = λ f h may_see back earlier each. seen_still f h back may_see earlier each
