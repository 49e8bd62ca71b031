use Rattle.std.proofs.Common.{ap, refl, rules, slice_get, ◌∙◌, List}
use Rattle.ir_text_tree.specs.declared.row.Span.{Span}
use Rattle.ir_text_pieces.proofs.Growing.{AreWritten-more, AreWritten-same, slice_get-append}
use Rattle.ir_text_pieces.proofs.numbered.Numbered.write_next.Goals as goal

pub returns-in_err-span-clause-written : goal.returns-in_err-span-clause-written
returns-in_err-span-clause-written c = λ h. AreWritten-same _ _ c.args.self.now _ c.write_text.ensures.front refl refl h

pub returns-in_err-push-clause-written : goal.returns-in_err-push-clause-written
returns-in_err-push-clause-written c = λ h. AreWritten-same _ _ c.args.self.now _ c.write_text.ensures.front c.in_err-push.ensures.items refl h

pub returns-clause-pieces : goal.returns-clause-pieces
returns-clause-pieces c = λ k s e. ap (λ (xs : List Span). slice_get xs k) c.in_ok-push.ensures.items ∙ slice_get-append _ _ k s e

pub returns-clause-written : goal.returns-clause-written
returns-clause-written c = λ h. AreWritten-more _ _ c.args.self.now _ c.write_text.ensures.front c.in_ok-span.ensures.text (search rules) refl h
