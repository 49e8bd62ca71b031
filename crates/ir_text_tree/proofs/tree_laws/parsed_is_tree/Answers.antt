use Rattle.ir_text_tree.proofs.TreesFound.{tree_found}
use Rattle.ir_text_tree.proofs.tree_laws.parsed_is_tree.Goals as goal

pub returns : goal.returns
returns c = tree_found
