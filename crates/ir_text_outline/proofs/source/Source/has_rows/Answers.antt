use Rattle.std.proofs.Common.{◌∙◌, MatchOption, sym, subst}
use Rattle.ir_text_outline.specs.Reading.{AreRows, AreTheRows, IsUnread}
use Rattle.ir_text_outline.proofs.source.Source.has_rows.Goals as goal

pub returns-in-Some : goal.returns-in-Some
returns-in-Some c =
    let text = c.args.self.text.now in
    let rows = c.args.self.rows.now in
    let those : AreTheRows text c.in-Some.rows.items = subst (λ o. MatchOption o (IsUnread text) (λ rows. AreTheRows text rows.items)) c.in-Some.is c.in_ok-rows.ensures in
    (λ yes. subst (AreRows text) (sym (c.are_same.ensures.0 yes ∙ c.as_slice.ensures.value)) those.rows_are, λ are. c.are_same.ensures.1 (those.no_others rows are ∙ sym c.as_slice.ensures.value))

pub returns-in-None : goal.returns-in-None
returns-in-None c =
    let text = c.args.self.text.now in
    let unread : IsUnread text = subst (λ o. MatchOption o (IsUnread text) (λ rows. AreTheRows text rows.items)) c.in-None.is c.in_ok-rows.ensures in
    (λ no. absurd cc, λ are. absurd (unread c.args.self.rows.now are))
