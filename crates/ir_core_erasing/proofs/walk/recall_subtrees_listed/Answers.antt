use Rattle.ir_core_erasing.proofs.Subtrees.{subtree-lists}
use Rattle.ir_core_erasing.proofs.walk.recall_subtrees_listed.Goals as goal

pub returns : goal.returns
returns g c = λ t e nested formed. subtree-lists c.recall_depths_follow.ensures.below c.recall_depths_follow.ensures.fits t nested formed e
