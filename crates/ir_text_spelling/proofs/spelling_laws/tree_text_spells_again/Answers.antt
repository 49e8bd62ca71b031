use Rattle.ir_text_spelling.proofs.TextsAgain.{spelled_again}
use Rattle.ir_text_spelling.proofs.spelling_laws.tree_text_spells_again.Goals as goal

pub returns : goal.returns
returns c = spelled_again c.parsed_is_tree.ensures c.tree_is_parsed.ensures
