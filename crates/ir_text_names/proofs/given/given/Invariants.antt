use Rattle.std.proofs.Common.{◌≡◌, drop}
use Rattle.ir_text_names.specs.Firsts.{IsFirst}
use Rattle.ir_text_names.specs.Given.{giver, escaped_names, is_asked, IsAgain, AreGiven}
use Rattle.ir_text_names.specs.Places.{row_at}
use Rattle.ir_text_names.proofs.given.given.Given as goal

abbrev pub invariant-loop-at : goal.invariant-loop-at
invariant-loop-at l = record {
  places : AreGiven (giver l.kind) l.text l.rows l.scopes (is_asked l.kind l.counts) l.at (row_at l.places);
  again : IsFirst (IsAgain (giver l.kind) l.text l.rows l.scopes) l.at l.again;
  behind : l.behind ≡ escaped_names l.kind l.text (drop l.at l.rows);
}
