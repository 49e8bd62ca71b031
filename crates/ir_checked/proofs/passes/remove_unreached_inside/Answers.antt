use Rattle.std.proofs.Common.{inr}
use Rattle.ir_run_unreached.specs.Inside.{none_inside}
use Rattle.ir_checked.proofs.passes.remove_unreached_inside.Goals as goal

pub remove_unreached_inside-requires-clause-names : goal.remove_unreached_inside-requires-clause-names
remove_unreached_inside-requires-clause-names g c = c.in-Ok.ensures.exact.0 c.if-not-can.false

pub returns-in-Ok-remove_unreached_inside-clause-conditions : goal.returns-in-Ok-remove_unreached_inside-clause-conditions
returns-in-Ok-remove_unreached_inside-clause-conditions g c = inr (c.is_live.ensures.0 c.if-not-is_live.false, inr (inr (c.in-Ok.ensures.exact.0 c.if-not-can.false, tt)))

-- where there was no memory to test the condition, no region was treated
pub returns-in-Err-clause-partly : goal.returns-in-Err-clause-partly
returns-in-Err-clause-partly g c = (0, none_inside)
