use Rattle.ir_text_tree.proofs.TreesRead.{tree_read}
use Rattle.ir_text_tree.proofs.tree_laws.tree_is_parsed.Goals as goal

pub returns : goal.returns
returns c = tree_read
