use Rattle.ir_view_parts.proofs.TypeLemmas.{argument-type-at}
use Rattle.ir_view_parts.proofs.block_parts.ArgumentTypesOfHasPartsUsize.part.Goals as goal

pub returns : goal.returns
returns g c = argument-type-at c.args.self.now.block.now c.args.index c.at.result.now c.at-2.result.place c.at.ensures c.at-2.ensures
