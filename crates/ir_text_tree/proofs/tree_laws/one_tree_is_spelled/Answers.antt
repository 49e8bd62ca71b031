use Rattle.ir_text_tree.proofs.TreeClauses.{one_tree}
use Rattle.ir_text_tree.proofs.tree_laws.one_tree_is_spelled.Goals as goal

pub returns : goal.returns
returns c = one_tree
