use Rattle.std.proofs.Common.{sym, arith}
use Rattle.ir_core_context.proofs.RoomLemmas.{Number-below}
use Rattle.ir_core_context.proofs.context.Context.recall_use_numbers_fit.Goals as goal

pub returns : goal.returns
returns g c = rw (sym c.self.view_is) (c.self.inside.next_use, Number-below c.self.inside.next_use, omega arith)
