use Rattle.ir_text_tree.proofs.RowOrder.{rows_ordered}
use Rattle.ir_text_tree.proofs.tree_laws.rows_go_forward.Goals as goal

pub returns : goal.returns
returns c = rows_ordered
