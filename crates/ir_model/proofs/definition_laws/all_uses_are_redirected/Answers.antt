use Rattle.ir_model.proofs.TwoRuns.{lawful}
use Rattle.ir_model.proofs.ByUses.{values_by_uses, blocks_by_uses}
use Rattle.ir_model.proofs.definition_laws.all_uses_are_redirected.Goals as goal

pub returns : goal.returns
returns g c = λ f keys w. record { values = values_by_uses lawful f keys w; blocks = blocks_by_uses lawful f keys w }
