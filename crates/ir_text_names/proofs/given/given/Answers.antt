use Rattle.std.proofs.Common.{◌≡◌, ◌↔◌, ◌&&◌, ℕ, ◌+◌, Bool, true, false, cond, nat_eq, bytes_eq, List, ◌++◌, length, get_or, drop, Option, Some, is_some, refl, sym, ap, subst, ◌∙◌, arith}
use Rattle.std.proofs.lemmas.Bool.{false≢true}
use Rattle.ir_text_names.specs.Firsts.{IsFirst}
use Rattle.ir_text_names.specs.Given.{giver, name_of, given_name, escaped_name, escaped_name_of, escaped_names, is_asked, IsAgain, AreGiven}
use Rattle.ir_text_names.specs.Places.{row_at}
use Rattle.ir_text_names.specs.Rows.{row_of, part_of}
use Rattle.ir_text_names.proofs.EscapedNames.{unescaped_other, names_from, front_again, front_dropped}
use Rattle.ir_text_names.proofs.FirstRows.{first_more, first_kept}
use Rattle.ir_text_names.proofs.GivenNames.{GivesHere, given_more, again_is, again_told}
use Rattle.ir_text_names.proofs.given.given.Goals as goal
use Rattle.ir_text_names.proofs.given.given.Goals.{then-gives+in_ok-twice, else-gives}

pub next_name-next-requires : goal.next_name-next-requires
next_name-next-requires c =
    let l = c.loop-at in
    let kind = c.args.kind in
    let rows = c.args.rows.now in
    let front : List ℕ = escaped_name_of kind c.args.text.now (row_of rows l.at) in
    let names = names_from kind c.args.text.now rows l.at l.behind.now c.loop-at-test.true l.invariant.behind in
    subst (λ (t : List ℕ). l.behind.now ≡ escaped_name kind (part_of rows l.at) t ++ drop (length (escaped_name kind (part_of rows l.at) t)) l.behind.now) (sym c.piece.ensures)
    (front_again front (escaped_names kind c.args.text.now (drop (l.at + 1) rows)) l.behind.now names)

pub loop-at-preserved : goal.loop-at-preserved
loop-at-preserved c =
    let l = c.loop-at in
    let kind = c.args.kind in
    let part = giver kind in
    let text = c.args.text.now in
    let rows = c.args.rows.now in
    let scopes = c.args.scopes.now in
    let asked : ℕ → Bool = is_asked kind c.args.counts.now in
    let scope = get_or scopes l.at 0 in
    let name = given_name part text rows l.at in
    let front : List ℕ = escaped_name_of kind text (row_of rows l.at) in
    let behind : List ℕ = escaped_names kind text (drop (l.at + 1) rows) in
    let names = names_from kind text rows l.at l.behind.now c.loop-at-test.true l.invariant.behind in
    elim c.if-gives.branch [
      | then-gives+in_ok-twice w ↦
          let gives = c.gives.ensures.0 w.if-gives.true in
          let here = w.is_asked-asked.result in
          let is : (here ≡ true) ↔ GivesHere part rows scopes asked l.at = (λ t. (gives, sym w.is_asked-asked.ensures ∙ t), λ q. w.is_asked-asked.ensures ∙ q.1) in
          let named : w.next_name-next.result.name.now ≡ name = w.next_name-next.ensures.name gives ∙ ap (name_of part) w.piece.ensures in
          let twice : w.in_ok-twice.twice ≡ (here && is_some (row_at l.places scope name)) = w.in_ok-twice.ensures.again ∙ ap (λ (t : List ℕ). here && is_some (row_at l.places scope t)) named in
          record {
            places = subst (λ p. AreGiven part text rows scopes asked (l.at + 1) (row_at p)) (sym w.places-is)
                (given_more part text rows scopes asked l.at (row_at l.places) (row_at w.put_if.new.places) here is
                (λ s m. w.in_ok-twice.ensures.puts s m ∙ ap (λ (t : List ℕ). cond (here && (nat_eq scope s && bytes_eq t m)) (Some l.at) (row_at l.places s m)) named) l.invariant.places);
            again = subst (λ (o : Option ℕ). IsFirst (IsAgain part text rows scopes) (l.at + 1) o) (sym (w.again-is ∙ w.noted-again.ensures))
                (first_more (IsAgain part text rows scopes) l.at l.again w.in_ok-twice.twice (again_is part text rows scopes asked l.at (row_at l.places) here w.in_ok-twice.twice is twice l.invariant.places)
                (again_told part text rows scopes asked l.at (row_at l.places) here w.in_ok-twice.twice c.loop-at-test.true c.requires.asked is twice l.invariant.places) l.invariant.again);
            behind = ap (λ x. x.now) w.behind-is ∙ w.next_name-next.ensures.escaped ∙ ap (λ (t : List ℕ). drop (length (escaped_name kind (part_of rows l.at) t)) l.behind.now) w.piece.ensures
                ∙ front_dropped front behind l.behind.now names;
          }
      | else-gives w ↦
          let other : part_of rows l.at ≡ part → ⊥ = λ p. false≢true (sym w.if-gives.false ∙ c.gives.ensures.1 p) in
          let is : (false ≡ true) ↔ GivesHere part rows scopes asked l.at = (λ t. absurd (false≢true t), λ q. absurd (other q.0)) in
          record {
            places = subst (λ p. AreGiven part text rows scopes asked (l.at + 1) (row_at p)) (sym w.places-is) (given_more part text rows scopes asked l.at (row_at l.places) (row_at l.places) false is (λ s m. refl) l.invariant.places);
            again = subst (λ (o : Option ℕ). IsFirst (IsAgain part text rows scopes) (l.at + 1) o) (sym w.again-is) (first_kept (IsAgain part text rows scopes) l.at l.again (λ p. other p.0) l.invariant.again);
            behind = ap (λ x. x.now) w.behind-is ∙ names ∙ ap (λ (t : List ℕ). t ++ behind) (unescaped_other kind text (row_of rows l.at) other);
          }
    ]

pub returns-clause-places : goal.returns-clause-places
returns-clause-places c =
    let l = c.loop-at in
    let end : l.at ≡ length c.args.rows.now = omega arith in
    subst (λ (n : ℕ). AreGiven (giver c.args.kind) c.args.text.now c.args.rows.now c.args.scopes.now (is_asked c.args.kind c.args.counts.now) n (row_at l.places)) end l.invariant.places
