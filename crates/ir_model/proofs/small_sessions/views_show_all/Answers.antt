use Rattle.ir_model.proofs.ViewRows.{small_view}
use Rattle.ir_model.proofs.small_sessions.views_show_all.Goals as goal

pub returns : goal.returns
returns c = record { small_view = small_view }
