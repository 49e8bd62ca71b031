use Rattle.std.proofs.Common.{rules, ◌≡◌, Err}
use Rattle.ir_text_tokens.specs.Readings.{read_of}
use Rattle.ir_text_tokens.proofs.NextTokens.{is_none, next_some, next_none, within_some, reads_on, reads_all, reads_fault}
use Rattle.ir_text_tokens.proofs.scanning.scan.Goals as goal

pub returns-in_err-token-clause-reads : goal.returns-in_err-token-clause-reads
returns-in_err-token-clause-reads c =
    let l = c.loop-brackets in
    let is : c.from_residual.result ≡ Err c.in_err-token.field-0.0 = search rules in
    rw is (reads_fault l.tokens.items l.at l.behind c.args.text.now c.in_err-token.field-0.0 (read_of c.args.text.now) c.in_err-token.ensures.reads l.invariant.reads)

pub loop-brackets-preserved : goal.loop-brackets-preserved
loop-brackets-preserved c =
    let text = c.args.text.now in
    let l = c.loop-brackets in
    let t = c.in-Some.token in
    let next = next_some l.at l.behind text c.in_ok-token.field-0 t c.in-Some.is c.in_ok-token.ensures.reads in
    let within = within_some text c.in_ok-token.field-0 t c.in-Some.is c.in_ok-token.ensures.within in
    record {
      reads = rw c.in_ok-push.ensures.items (reads_on l.tokens.items l.at l.behind text t (read_of text) next l.invariant.reads);
      within = within.within;
    }

pub returns-clause-reads : goal.returns-clause-reads
returns-clause-reads c =
    let text = c.args.text.now in
    let l = c.loop-brackets in
    let nothing = is_none c.in_ok-token.field-0 c.in_default.not-Some in
    reads_all l.tokens.items l.at l.behind text (read_of text) (next_none l.at l.behind text c.in_ok-token.field-0 nothing c.in_ok-token.ensures.reads) l.invariant.reads
