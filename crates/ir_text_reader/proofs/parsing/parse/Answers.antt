use Rattle.ir_text_reader.proofs.TextClauses.{is_found, is_only, is_in_order, is_too_long}
use Rattle.ir_text_reader.proofs.parsing.parse.Goals as goal

pub returns-clause-found : goal.returns-clause-found
returns-clause-found c = is_found c.scanning_reads.ensures c.reading_covers.ensures c.parsed_is_tree.ensures c.tree_is_parsed.ensures c.args.text.now c.read_all.result c.read_all.ensures.reads

pub returns-clause-only : goal.returns-clause-only
returns-clause-only c = λ b _. is_only c.scanning_reads.ensures c.covering_is_read.ensures c.tree_is_parsed.ensures c.args.text.now c.read_all.result c.read_all.ensures.reads b

pub returns-clause-in_order : goal.returns-clause-in_order
returns-clause-in_order c = is_in_order c.scanning_reads.ensures c.reading_covers.ensures c.covering_goes_forward.ensures c.rows_go_forward.ensures c.args.text.now c.read_all.result c.read_all.ensures.reads

pub returns-clause-too_long : goal.returns-clause-too_long
returns-clause-too_long c = is_too_long c.args.text.now c.read_all.result c.if-text-gt-LONGEST.false c.read_all.ensures.short
