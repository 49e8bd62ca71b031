use Rattle.ir_base.specs.Model.Forest.{an_op}
use Rattle.example.proofs.calc_ops.Less.compare.Goals as goal

-- a name leaves the operation live
pub returns : goal.returns
returns c = c.set_name.ensures.keeps.entities_stay_live (an_op c.in_ok-op.op.index) c.in_ok-op.ensures.live
