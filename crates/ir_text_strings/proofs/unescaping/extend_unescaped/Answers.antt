use Rattle.std.proofs.Common.{rules, ◌≡◌, ℕ, ◌+◌, ◌++◌, ◌∷◌, [], List, refl, sym, ap, subst, ◌∙◌, append-nil}
use Rattle.std.specs.Io.{StartsWith}
use Rattle.std.proofs.Transfers.{starts_with_of_eq, starts_with_of_append, starts_with_trans}
use Rattle.ir_text_strings.specs.Escapes.{unescaped}
use Rattle.ir_text_strings.proofs.FirstBytes.{next_byte, passed_over, unescaped_end, appended, on_err}
use Rattle.ir_text_strings.proofs.unescaping.extend_unescaped.Goals as goal
use Rattle.ir_text_strings.proofs.unescaping.extend_unescaped.Goals.{then-more-gt0, else-more-gt0+in_ok-push}

pub loop-at-init : goal.loop-at-init
loop-at-init c = record { all = refl; front = starts_with_of_eq c.args.out.now.items c.args.out.now.items refl }

pub loop-at-preserved : goal.loop-at-preserved
loop-at-preserved c =
    let l = c.loop-at in
    let text = c.args.text.now in
    elim c.if-more-gt0.branch [
      | then-more-gt0 w ↦ rw (w.out-is, w.more-is) (record { all = ap (λ (t : List ℕ). l.out.items ++ t) (sym (passed_over text l.at l.more w.if-more-gt0.true)) ∙ l.invariant.all; front = l.invariant.front })
      | else-more-gt0+in_ok-push w ↦ rw (w.out-is, w.more-is) (record {
        all =
            appended l.out.items w.push.new.self.items (c.args.out.now.items ++ unescaped text) text (l.at + l.more) w.first_spelled-first.result.byte (l.at + 1 + w.first_spelled-first.result.more) w.in_ok-push.ensures.items
            (next_byte text l.at l.more w.first_spelled-first.result.byte w.first_spelled-first.result.more w.byte_at.result w.byte_at-else-more-gt0.result c.loop-at-test.true w.if-more-gt0.false w.byte_at.ensures w.byte_at-else-more-gt0.ensures w.first_spelled-first.ensures.byte w.first_spelled-first.ensures.more)
            l.invariant.all;
        front = starts_with_trans w.push.new.self.items l.out.items c.args.out.now.items (starts_with_of_append w.push.new.self.items l.out.items (w.first_spelled-first.result.byte ∷ []) w.in_ok-push.ensures.items) l.invariant.front;
      })
    ]

pub returns-in_err-push-clause-front : goal.returns-in_err-push-clause-front
returns-in_err-push-clause-front c =
    let same : c.push.new.self.items ≡ c.loop-at.out.items = search rules in
    on_err c.from_residual.result (StartsWith c.push.new.self.items c.args.out.now.items) (subst (λ (t : List ℕ). StartsWith t c.args.out.now.items) (sym same) c.loop-at.invariant.front)

pub returns-clause-text : goal.returns-clause-text
returns-clause-text c = let l = c.loop-at in sym (append-nil l.out.items) ∙ ap (λ (t : List ℕ). l.out.items ++ t) (sym (unescaped_end c.args.text.now l.at l.more c.loop-at-test.false)) ∙ l.invariant.all
