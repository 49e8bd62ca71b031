use Rattle.std.proofs.Common.{rules, ◌≡◌, ℕ, List, [], ◌+◌, ◌∷◌, get_or, drop, length, refl, sym, ap, subst, arith, ◌∙◌}
use Rattle.std.proofs.lemmas.List.{drop_more, drop_all}
use Rattle.ir_text_tokens.specs.declared.reader_step.Mode.TheVariants as mode
use Rattle.ir_text_tokens.specs.declared.reader_step.Step.TheVariants.{Go, Emit, Bad}
use Rattle.ir_text_tokens.specs.declared.token.Bracket.{Bracket}
use Rattle.ir_text_tokens.specs.ByteClasses.{class_of_byte, class_ahead}
use Rattle.ir_text_tokens.specs.ReaderSteps.{glued_behind}
use Rattle.ir_text_tokens.specs.Readings.{innermost, renested, scan_from, scanning}
use Rattle.ir_text_tokens.proofs.ReadingSteps.{step_is}
use Rattle.ir_text_tokens.proofs.NextTokens.{next_goes, next_emits, next_stops, next_ends, next_breaks_off, begins, gap_passed, passed, start_is}
use Rattle.ir_text_tokens.proofs.scanning.next_token.Goals as goal

pub loop-index-init : goal.loop-index-init
loop-index-init c =
    let text = c.args.text.now in
    let to = c.run_end-index.result in
    let empty : c.clear.new.self.items ≡ [] = search rules in
    record {
      reads = ap (λ (s : List Bracket). scanning to to c.is_glued-glued.result mode.Between s (drop to text)) empty ∙ gap_passed text c.args.at to c.args.behind c.is_glued-glued.result c.run_end-index.ensures.forward c.is_glued-glued.ensures c.run_end-index.ensures.passes;
      within = c.run_end-index.ensures.within;
      begun = omega (arith, c.run_end-index.ensures.forward);
      started = omega arith;
    }

pub returns-in-Emit-clause-reads : goal.returns-in-Emit-clause-reads
returns-in-Emit-clause-reads c =
    let text = c.args.text.now in
    let l = c.loop-index in
    let b = get_or text l.index 0 in
    let rest = drop (l.index + 1) text in
    let cut : drop l.index text ≡ b ∷ rest = drop_more text l.index 0 c.loop-index-test.true in
    let d = step_is l.mode (innermost l.brackets.items) l.brackets.items b (class_of_byte b) (class_ahead rest) rest c.reader_step.result (Emit c.in-Emit.kind) c.reader_step.ensures refl refl refl c.in-Emit.is in
    next_emits l.index l.start l.glued l.mode l.brackets.items b (drop l.index text) rest c.in-Emit.kind (scan_from c.args.at c.args.behind text) cut d l.invariant.reads

pub returns-in-Bad-clause-reads : goal.returns-in-Bad-clause-reads
returns-in-Bad-clause-reads c =
    let text = c.args.text.now in
    let l = c.loop-index in
    let b = get_or text l.index 0 in
    let rest = drop (l.index + 1) text in
    let cut : drop l.index text ≡ b ∷ rest = drop_more text l.index 0 c.loop-index-test.true in
    let d = step_is l.mode (innermost l.brackets.items) l.brackets.items b (class_of_byte b) (class_ahead rest) rest c.reader_step.result (Bad c.in-Bad.problem) c.reader_step.ensures refl refl refl c.in-Bad.is in
    rw c.fault_of.ensures.value (next_stops c.args.at c.args.behind text l.index l.start l.glued l.mode l.brackets.items b (drop l.index text) rest c.in-Bad.problem cut d l.invariant.reads)

pub loop-index-preserved : goal.loop-index-preserved
loop-index-preserved c =
    let text = c.args.text.now in
    let l = c.loop-index in
    let b = get_or text l.index 0 in
    let rest = drop (l.index + 1) text in
    let cut : drop l.index text ≡ b ∷ rest = drop_more text l.index 0 c.loop-index-test.true in
    let w = c.in-Go in
    let d = step_is l.mode (innermost l.brackets.items) l.brackets.items b (class_of_byte b) (class_ahead rest) rest c.reader_step.result (Go w.to w.nesting) c.reader_step.ensures refl refl refl w.is in
    let end = c.run_end-index-in-Go.result in
    let forward = c.run_end-index-in-Go.ensures.forward in
    let begun = begins w.to l.start l.index end l.invariant.started (omega (arith, forward)) in
    let gone = next_goes l.index l.start l.glued l.mode l.brackets.items b (drop l.index text) rest w.to w.nesting (scan_from c.args.at c.args.behind text) cut d l.invariant.reads in
    let here = subst (λ (x : ℕ). scanning (l.index + 1) x (glued_behind w.to l.glued) w.to (renested w.nesting l.brackets.items) rest ≡ scan_from c.args.at c.args.behind text) (start_is w.to l.start l.index) gone in
    record {
      reads = rw (c.start_at-start.ensures, c.glued_behind-glued.ensures, c.in_ok-renest-in-Go.ensures) (sym (passed text w.to (l.index + 1) end l.start l.glued (renested w.nesting l.brackets.items) forward c.run_end-index-in-Go.ensures.passes) ∙ here);
      within = c.run_end-index-in-Go.ensures.within;
      begun = omega (arith, c.start_at-start.ensures, begun.0, l.invariant.begun);
      started = omega (arith, c.start_at-start.ensures, begun.1);
    }

pub returns-in-None-clause-reads : goal.returns-in-None-clause-reads
returns-in-None-clause-reads c =
    let text = c.args.text.now in
    let l = c.loop-index in
    next_ends l.index l.start l.glued l.mode l.brackets.items (drop l.index text) (scan_from c.args.at c.args.behind text) (drop_all l.index text c.loop-index-test.false) (sym c.missing_at_end.ensures ∙ c.in-None.is) l.invariant.reads

pub returns-in-Some-clause-reads : goal.returns-in-Some-clause-reads
returns-in-Some-clause-reads c =
    let text = c.args.text.now in
    let l = c.loop-index in
    let here : length text ≡ l.index = omega arith in
    rw (c.fault_of-in-Some.ensures.value, here) (next_breaks_off c.args.at c.args.behind text l.index l.start l.glued l.mode l.brackets.items c.in-Some.problem (drop l.index text) (drop_all l.index text c.loop-index-test.false) (sym c.missing_at_end.ensures ∙ c.in-Some.is) l.invariant.reads)
