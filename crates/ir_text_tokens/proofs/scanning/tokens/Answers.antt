use Rattle.ir_text_tokens.proofs.TokenClauses.{is_found, is_within, is_in_order, is_only, is_spelled, is_again, is_too_long}
use Rattle.ir_text_tokens.proofs.scanning.tokens.Goals as goal

pub returns-clause-found : goal.returns-clause-found
returns-clause-found c = is_found c.args.text.now c.scan.result c.scan.ensures.reads

pub returns-clause-within : goal.returns-clause-within
returns-clause-within c = is_within c.args.text.now c.scan.result c.scan.ensures.reads

pub returns-clause-in_order : goal.returns-clause-in_order
returns-clause-in_order c = is_in_order c.args.text.now c.scan.result c.scan.ensures.reads

pub returns-clause-have_spelling : goal.returns-clause-have_spelling
returns-clause-have_spelling c = is_spelled c.args.text.now c.scan.result c.scan.ensures.reads

pub returns-clause-only : goal.returns-clause-only
returns-clause-only c = λ ts _. is_only c.args.text.now c.scan.result c.scan.ensures.reads ts

pub returns-clause-again : goal.returns-clause-again
returns-clause-again c = λ xs _. is_again c.args.text.now c.scan.result c.scan.ensures.reads xs

pub returns-clause-too_long : goal.returns-clause-too_long
returns-clause-too_long c = is_too_long c.args.text.now c.scan.result c.if-text-gt-LONGEST.false c.scan.ensures.short
