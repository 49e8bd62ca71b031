use Rattle.std.proofs.Common.{rules, ◌≡◌, Err, true, reverse, arith}
use Rattle.ir_text_tokens.specs.Readings.{scan_from}
use Rattle.ir_text_reader.specs.Faults.{of_tokens, of_tree}
use Rattle.ir_text_reader.specs.Texts.{text_read}
use Rattle.ir_text_reader.proofs.TextSteps.{loop_goes_on, loop_stops, loop_breaks, next_some, within_some, behind_some}
use Rattle.ir_text_reader.proofs.parsing.read_all.Goals as goal

pub returns-in_err-token-clause-reads : goal.returns-in_err-token-clause-reads
returns-in_err-token-clause-reads c =
    let text = c.args.text.now in
    let l = c.loop-brackets in
    let f = c.in_err-token.field-0.0 in
    let is : c.from_residual.result ≡ Err (of_tokens f) = search rules in
    rw is (loop_breaks text l.rows.items (reverse l.brackets.items) l.state l.at l.behind (text_read text) f c.in_err-token.ensures.reads l.invariant.reads)

pub returns-in_err-state-clause-reads : goal.returns-in_err-state-clause-reads
returns-in_err-state-clause-reads c =
    let text = c.args.text.now in
    let l = c.loop-brackets in
    let t = c.in-Some.token in
    let f = c.in_err-state.field-0.0 in
    let is : c.from_residual-in_err-state.result ≡ Err (of_tree f) = search rules in
    let next = next_some l.at l.behind text c.in_ok-token.field-0 t c.in-Some.is c.in_ok-token.ensures.reads in
    rw is (loop_stops text l.rows.items c.read_piece.new.rows.items (reverse l.brackets.items) (reverse c.read_piece.new.brackets.items) l.state t (scan_from l.at l.behind text) (scan_from t.end true text) (text_read text) c.piece_of-piece.result f next c.piece_of-piece.ensures c.in_err-state.ensures.reads l.invariant.reads)

pub loop-brackets-preserved : goal.loop-brackets-preserved
loop-brackets-preserved c =
    let text = c.args.text.now in
    let l = c.loop-brackets in
    let t = c.in-Some.token in
    let next = next_some l.at l.behind text c.in_ok-token.field-0 t c.in-Some.is c.in_ok-token.ensures.reads in
    let within = within_some text c.in_ok-token.field-0 t c.in-Some.is c.in_ok-token.ensures.within in
    let behind = behind_some l.at c.in_ok-token.field-0 t c.in-Some.is c.in_ok-token.ensures.behind in
    record {
      reads = loop_goes_on text l.rows.items c.read_piece.new.rows.items (reverse l.brackets.items) (reverse c.read_piece.new.brackets.items) l.state c.in_ok-state.state t (scan_from l.at l.behind text) (scan_from t.end true text) (text_read text) c.piece_of-piece.result next c.piece_of-piece.ensures c.in_ok-state.ensures.reads l.invariant.reads;
      within = within.within;
      shallow = omega (arith, c.in_ok-state.ensures.deepens, l.invariant.shallow, within.forward, behind);
    }
