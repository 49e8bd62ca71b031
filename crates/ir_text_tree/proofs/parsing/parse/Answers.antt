use Rattle.ir_text_tree.proofs.RowOrder.{is_in_order}
use Rattle.ir_text_tree.proofs.TreeClauses.{is_found, is_only}
use Rattle.ir_text_tree.proofs.parsing.parse.Goals as goal

pub returns-clause-found : goal.returns-clause-found
returns-clause-found c = is_found c.args.end c.args.pieces.now c.read_all.result c.read_all.ensures

pub returns-clause-only : goal.returns-clause-only
returns-clause-only c = is_only c.args.end c.args.pieces.now c.read_all.result c.read_all.ensures

pub returns-clause-in_order : goal.returns-clause-in_order
returns-clause-in_order c = is_in_order c.args.end c.args.pieces.now c.read_all.result c.read_all.ensures
