use Rattle.std.proofs.Common.{◌≡◌, ◌-◌, ◌+◌, ◌++◌, ◌<◌, ◌≤◌, suc, ◌∙◌, ℕ, List, Some, ap, sym, refl, subst, length, decimal, arith, rules}
use Rattle.std.proofs.lemmas.Grind.{common_steps}
use Rattle.std.proofs.lemmas.Option.{slice_get_read, slice_get_within}
use Rattle.ir_text_pieces.specs.Pieces.{IsPiece, mark_of, numbered_piece, numbered_texts, written_count}
use Rattle.ir_text_pieces.proofs.Growing.{numbered_texts-more}
use Rattle.ir_text_pieces.proofs.numbered.Numbered.piece.Goals as goal

more_by : (a b c : ℕ) → b ≡ c + 1 → a ≤ c → b - a ≡ suc (c - a)
more_by a b c e h = omega arith

least_by : (a b c : ℕ) → b ≡ c + 1 → a ≤ c → a ≤ b
least_by a b c e h = omega arith

most_by : (a b c n : ℕ) → b ≡ c + 1 → c ≤ n → b - a ≤ n + 1 - a
most_by a b c n e h = omega arith

up_to : (a c : ℕ) → a ≤ c → c ≡ a + (c - a)
up_to a c h = omega arith

pub loop-self-preserved : goal.loop-self-preserved
loop-self-preserved c = record {
  rows = search rules;
  front = grind (arith, common_steps);
  mark = search rules;
  kept = λ k s e. c.in_ok-write_next.ensures.pieces k s (c.loop-self.invariant.kept k s e);
  written = λ h. c.in_ok-write_next.ensures.written (c.loop-self.invariant.written h);
  text =
      let e : c.write_next.new.to.text.items ≡ (c.args.to.now.text.items ++ numbered_texts (mark_of c.args.self.now) (written_count c.args.self.now) (written_count c.loop-self.self - written_count c.args.self.now)) ++ (mark_of c.args.self.now ++ decimal (written_count c.loop-self.self)) =
      c.in_ok-write_next.ensures.text ∙ ap (λ (t : List ℕ). t ++ (mark_of c.loop-self.self ++ decimal (written_count c.loop-self.self))) c.loop-self.invariant.text
      ∙ ap (λ (w : List ℕ). (c.args.to.now.text.items ++ numbered_texts (mark_of c.args.self.now) (written_count c.args.self.now) (written_count c.loop-self.self - written_count c.args.self.now)) ++ (w ++ decimal (written_count c.loop-self.self))) c.loop-self.invariant.mark in
      e ∙ numbered_texts-more c.args.to.now.text.items (mark_of c.args.self.now) (written_count c.args.self.now) _ (written_count c.loop-self.self) _ (up_to (written_count c.args.self.now) (written_count c.loop-self.self) c.loop-self.invariant.least) (more_by (written_count c.args.self.now) _ (written_count c.loop-self.self) c.in_ok-write_next.ensures.count c.loop-self.invariant.least);
  least = least_by (written_count c.args.self.now) _ (written_count c.loop-self.self) c.in_ok-write_next.ensures.count c.loop-self.invariant.least;
  most =
      let within : length c.loop-self.self.spans.items ≤ c.args.number = omega arith in
      most_by (written_count c.args.self.now) _ (written_count c.loop-self.self) c.args.number c.in_ok-write_next.ensures.count within;
  once = λ s e.
      let within : c.args.number < length c.loop-self.self.spans.items = slice_get_within _ _ s (c.loop-self.invariant.kept c.args.number s e) in
      absurd (omega arith);
}

pub returns-in_err-write_next-clause-once : goal.returns-in_err-write_next-clause-once
returns-in_err-write_next-clause-once c = λ s e.
    let within : c.args.number < length c.loop-self.self.spans.items = slice_get_within _ _ s (c.loop-self.invariant.kept c.args.number s e) in
    absurd (omega arith)

pub returns-clause-span : goal.returns-clause-span
returns-clause-span c = slice_get_read c.loop-self.self.spans.items (length c.loop-self.self.spans.items) c.args.number c.index.result.now refl (omega arith) c.index.ensures

pub returns-clause-piece : goal.returns-clause-piece
returns-clause-piece c = λ h.
    let at : numbered_piece c.loop-self.self c.args.number ≡ Some c.index.result.now = slice_get_read c.loop-self.self.spans.items (length c.loop-self.self.spans.items) c.args.number c.index.result.now refl (omega arith) c.index.ensures in
    subst (λ (w : List ℕ). IsPiece c.loop-self.to.text.items c.index.result.now (w ++ decimal c.args.number)) c.loop-self.invariant.mark ((c.loop-self.invariant.written h).pieces c.args.number c.index.result.now at)

pub returns-clause-once : goal.returns-clause-once
returns-clause-once c = λ s e.
    let at : numbered_piece c.loop-self.self c.args.number ≡ Some c.index.result.now = slice_get_read c.loop-self.self.spans.items (length c.loop-self.self.spans.items) c.args.number c.index.result.now refl (omega arith) c.index.ensures in
    let found : Some c.index.result.now ≡ Some s = sym at ∙ c.loop-self.invariant.kept c.args.number s e in
    (cc, (c.loop-self.invariant.once s e).1)

pub returns-clause-text : goal.returns-clause-text
returns-clause-text c =
    let e : written_count c.loop-self.self - written_count c.args.self.now ≡ c.args.number + 1 - written_count c.args.self.now = omega arith in
    c.loop-self.invariant.text ∙ ap (λ (k : ℕ). c.args.to.now.text.items ++ numbered_texts (mark_of c.args.self.now) (written_count c.args.self.now) k) e
