use Rattle.std.proofs.Common.{rules, ◌≡◌, ◌≢◌, ◌≤◌, ◌<◌, ◌+◌, ◌&&◌, ◌^◌, inl, inr, ℕ, List, length, true, false, None, Some, is_err, refl, sym, ap, subst, codes, arith}
use Rattle.std.specs.Io.KnownBytes.{Appends}
use Rattle.std.proofs.KnownBytes.{Keeps-refl}
use Rattle.ir_text_spelling.specs.Writings.{AppendsFront}
use Rattle.ir_text_run.specs.declared.ending.Ending.{Ending}
use Rattle.ir_text_run.specs.Endings.{well}
use Rattle.ir_text_run.specs.Parts.{IsDivided, IsOnePart, lines_of}
use Rattle.ir_text_run.specs.Runs.{held, IsDone, ComesTo, nothing}
use Rattle.ir_text_run.proofs.PartSteps.{of_its_value}
use Rattle.ir_text_run.proofs.RunSteps.{part_done, not_here, still_low, divided_room, one_more, wrote, broke, done_kept, last_part_is, told_both}
use Rattle.ir_text_run.proofs.running.spell_parts.Goals as goal

pub loop-so_far-init : goal.loop-so_far-init
loop-so_far-init g c =
    let text = c.args.text.now in
    let start = held (g.W.Write.contents c.args.output.now) (g.F.Write.contents c.args.fault.now) in
    let is : c.well-so_far.result ≡ well = c.well-so_far.ensures in
    record {
      status = inl (ap (λ (e : Ending). e.status) is);
      room = omega arith;
      comes = subst (λ (e : Ending). ComesTo c.args.name.now text start text 0 e start) (sym is) nothing;
    }

pub returns-in-Err-clause-stops : goal.returns-in-Err-clause-stops
returns-in-Err-clause-stops g c =
    let text = c.args.text.now in
    let name = c.args.name.now in
    let rest = c.loop-so_far.rest.now in
    let p = c.first_part-front.result.part.now in
    let lines = c.loop-so_far.lines in
    let before = c.loop-so_far.so_far in
    let here = c.told.result in
    let reached = held (g.W.Write.contents c.loop-so_far.output) (g.F.Write.contents c.loop-so_far.fault) in
    let done = held (g.W.Write.contents c.respell-outcome.new.output) (g.F.Write.contents c.told.new.fault) in
    let not : c.and-so_far.result.status ≢ 3 = search rules in
    let is_done : IsDone name p lines here reached done =
    part_done g.W.Write.contents name p lines c.loop-so_far.output c.respell-outcome.new.output reached.told done.told c.respell-outcome.result here c.told.ensures.status (not_here before here c.and-so_far.result c.and-so_far.ensures c.loop-so_far.invariant.status not) c.respell-outcome.ensures.spelled c.respell-outcome.ensures.nothing_written c.respell-outcome.ensures.fault c.told.ensures.nothing_told c.told.ensures.told in
    let none : c.first_part-front.result.rest ≡ None = search rules in
    let last : (p ≡ rest) × IsOnePart rest = last_part_is c.first_part-front.result.rest ((p ≡ rest) × IsOnePart rest) (λ r. IsDivided rest p r.now) none c.first_part-front.ensures.divided in
    let whole : IsDone name rest lines here reached done = subst (λ (t : List ℕ). IsDone name t lines here reached done) last.0 is_done in
    let ended = done_kept name rest lines here reached done (g.W.Write.contents c.flush.new.output) whole c.flush.ensures.kept in
    let told : c.unwritable.result.is_told ≡ before.is_told && here.is_told = told_both before here c.and-so_far.result c.unwritable.result c.and-so_far.ensures c.unwritable.ensures in
    λ _. record { rest = rest; lines = lines; before = before; here = here.is_told; reached = reached; comes = c.loop-so_far.invariant.comes; fails = inr (inr (here, last.1, ended, refl)); is = told }

pub returns-then-is_err-clause-stops : goal.returns-then-is_err-clause-stops
returns-then-is_err-clause-stops g c =
    let text = c.args.text.now in
    let name = c.args.name.now in
    let rest = c.loop-so_far.rest.now in
    let p = c.first_part-front.result.part.now in
    let lines = c.loop-so_far.lines in
    let before = c.loop-so_far.so_far in
    let here = c.told.result in
    let reached = held (g.W.Write.contents c.loop-so_far.output) (g.F.Write.contents c.loop-so_far.fault) in
    let done = held (g.W.Write.contents c.respell-outcome.new.output) (g.F.Write.contents c.told.new.fault) in
    let not : c.and-so_far.result.status ≢ 3 = search rules in
    let is_done : IsDone name p lines here reached done =
    part_done g.W.Write.contents name p lines c.loop-so_far.output c.respell-outcome.new.output reached.told done.told c.respell-outcome.result here c.told.ensures.status (not_here before here c.and-so_far.result c.and-so_far.ensures c.loop-so_far.invariant.status not) c.respell-outcome.ensures.spelled c.respell-outcome.ensures.nothing_written c.respell-outcome.ensures.fault c.told.ensures.nothing_told c.told.ensures.told in
    let behind = c.in-Some.behind in
    let there : c.first_part-front.result.rest ≡ Some behind = search rules in
    let divided : IsDivided rest p behind.now = of_its_value c.first_part-front.result.rest behind _ (λ r. IsDivided rest p r.now) there c.first_part-front.ensures.divided in
    let bad : is_err c.write_bytes.result ≡ true = search rules in
    let front : AppendsFront done.written (g.W.Write.contents c.write_bytes.new.output) (codes "// -----\n") = broke done.written (g.W.Write.contents c.write_bytes.new.output) (codes "// -----\n") c.write_bytes.result bad c.write_bytes.ensures in
    let told : c.unwritable-then-is_err.result.is_told ≡ before.is_told && here.is_told = told_both before here c.and-so_far.result c.unwritable-then-is_err.result c.and-so_far.ensures c.unwritable-then-is_err.ensures in
    λ _.
    record {
      rest = rest;
      lines = lines;
      before = before;
      here = here.is_told;
      reached = reached;
      comes = c.loop-so_far.invariant.comes;
      fails = inr (inl (p, behind.now, here, done, divided, is_done, front, Keeps-refl done.told, refl));
      is = told;
    }

pub overflow_add-lines : goal.overflow_add-lines
overflow_add-lines g c =
    let rest = c.loop-so_far.rest.now in
    let p = c.first_part-front.result.part.now in
    let behind = c.in-Some.behind in
    let there : c.first_part-front.result.rest ≡ Some behind = search rules in
    let divided : IsDivided rest p behind.now = of_its_value c.first_part-front.result.rest behind _ (λ r. IsDivided rest p r.now) there c.first_part-front.ensures.divided in
    let count : c.first_part-front.result.lines ≡ length (lines_of p) + 1 = of_its_value c.first_part-front.result.rest behind _ (λ _. c.first_part-front.result.lines ≡ length (lines_of p) + 1) there c.first_part-front.ensures.lines in
    let room : length (lines_of p) + 1 + length behind.now ≤ length rest = divided_room rest p behind.now divided in
    let all : c.loop-so_far.lines + length rest ≤ length c.args.text.now = c.loop-so_far.invariant.room in
    let short : length c.args.text.now < 2 ^ 64 = search (rules, arith) in
    omega (arith, count, room, all, short)

pub loop-so_far-preserved : goal.loop-so_far-preserved
loop-so_far-preserved g c =
    let text = c.args.text.now in
    let name = c.args.name.now in
    let rest = c.loop-so_far.rest.now in
    let p = c.first_part-front.result.part.now in
    let lines = c.loop-so_far.lines in
    let before = c.loop-so_far.so_far in
    let here = c.told.result in
    let reached = held (g.W.Write.contents c.loop-so_far.output) (g.F.Write.contents c.loop-so_far.fault) in
    let done = held (g.W.Write.contents c.respell-outcome.new.output) (g.F.Write.contents c.told.new.fault) in
    let not : c.and-so_far.result.status ≢ 3 = search rules in
    let is_done : IsDone name p lines here reached done =
    part_done g.W.Write.contents name p lines c.loop-so_far.output c.respell-outcome.new.output reached.told done.told c.respell-outcome.result here c.told.ensures.status (not_here before here c.and-so_far.result c.and-so_far.ensures c.loop-so_far.invariant.status not) c.respell-outcome.ensures.spelled c.respell-outcome.ensures.nothing_written c.respell-outcome.ensures.fault c.told.ensures.nothing_told c.told.ensures.told in
    let behind = c.in-Some.behind in
    let there : c.first_part-front.result.rest ≡ Some behind = search rules in
    let divided : IsDivided rest p behind.now = of_its_value c.first_part-front.result.rest behind _ (λ r. IsDivided rest p r.now) there c.first_part-front.ensures.divided in
    let count : c.first_part-front.result.lines ≡ length (lines_of p) + 1 = of_its_value c.first_part-front.result.rest behind _ (λ _. c.first_part-front.result.lines ≡ length (lines_of p) + 1) there c.first_part-front.ensures.lines in
    let room : length (lines_of p) + 1 + length behind.now ≤ length rest = divided_room rest p behind.now divided in
    let all : lines + length rest ≤ length text = c.loop-so_far.invariant.room in
    let good : is_err c.write_bytes.result ≡ false = search rules in
    let now = held (g.W.Write.contents c.write_bytes.new.output) (g.F.Write.contents c.told.new.fault) in
    let line : Appends done.written now.written (codes "// -----\n") = wrote done.written now.written (codes "// -----\n") c.write_bytes.result good c.write_bytes.ensures in
    let start = held (g.W.Write.contents c.args.output.now) (g.F.Write.contents c.args.fault.now) in
    record {
      status = still_low before here c.and-so_far.result c.respell-outcome.result c.and-so_far.ensures c.told.ensures.status c.loop-so_far.invariant.status not;
      room = omega (arith, count, room, all);
      comes = one_more name text rest p behind.now start reached now done lines c.first_part-front.result.lines before here c.and-so_far.result c.loop-so_far.invariant.comes divided is_done line (Keeps-refl done.told) count c.and-so_far.ensures;
    }
