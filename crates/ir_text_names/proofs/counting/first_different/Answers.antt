use Rattle.std.proofs.Common.{◌≡◌, ◌≢◌, ◌↔◌, ℕ, ◌+◌, true, get_or, length, Option, sym, subst, ap, ◌∙◌, arith}
use Rattle.ir_text_tree.specs.declared.row.Part.TheVariants as parts
use Rattle.ir_text_names.specs.Firsts.{IsFirst}
use Rattle.ir_text_names.specs.Operations.{number_of, number_on}
use Rattle.ir_text_names.specs.Rows.{part_of}
use Rattle.ir_text_names.proofs.FirstRows.{first_more, first_none}
use Rattle.ir_text_names.proofs.Numbering.{number_more, number_none, number_few, number_at_most}
use Rattle.ir_text_names.proofs.counting.first_different.Goals as goal

pub loop-at-init : goal.loop-at-init
loop-at-init c =
    let rows = c.args.rows.now in
    record {
      number = sym (number_none rows);
      first = first_none (λ i. (part_of rows i ≡ parts.Name) × (get_or c.args.some.now (number_of rows (i + 1)) 0 ≢ get_or c.args.others.now (number_of rows (i + 1)) 0));
    }

pub next_number-number-requires : goal.next_number-number-requires
next_number-number-requires c = let l = c.loop-at in let few = number_few c.args.rows.now l.at in omega (arith, few, l.invariant.number, c.loop-at-test.true, c.requires.few)

pub bounds-some-number : goal.bounds-some-number
bounds-some-number c =
    let l = c.loop-at in
    let rows = c.args.rows.now in
    let number : c.next_number-number.result ≡ number_of rows (l.at + 1) = c.next_number-number.ensures ∙ ap (number_on (part_of rows l.at)) l.invariant.number ∙ number_more rows l.at in
    let most = number_at_most rows (l.at + 1) (length rows) (omega (arith, c.loop-at-test.true)) in
    omega (arith, number, most, c.requires.some)

pub bounds-others-number : goal.bounds-others-number
bounds-others-number c =
    let l = c.loop-at in
    let rows = c.args.rows.now in
    let number : c.next_number-number.result ≡ number_of rows (l.at + 1) = c.next_number-number.ensures ∙ ap (number_on (part_of rows l.at)) l.invariant.number ∙ number_more rows l.at in
    let most = number_at_most rows (l.at + 1) (length rows) (omega (arith, c.loop-at-test.true)) in
    omega (arith, number, most, c.requires.others)

pub offset_bounds-some-number : goal.offset_bounds-some-number
offset_bounds-some-number c =
    let l = c.loop-at in
    let rows = c.args.rows.now in
    let number : c.next_number-number.result ≡ number_of rows (l.at + 1) = c.next_number-number.ensures ∙ ap (number_on (part_of rows l.at)) l.invariant.number ∙ number_more rows l.at in
    let few = number_few rows (l.at + 1) in
    omega (arith, number, few, c.loop-at-test.true, c.requires.few)

pub offset_bounds-others-number : goal.offset_bounds-others-number
offset_bounds-others-number c =
    let l = c.loop-at in
    let rows = c.args.rows.now in
    let number : c.next_number-number.result ≡ number_of rows (l.at + 1) = c.next_number-number.ensures ∙ ap (number_on (part_of rows l.at)) l.invariant.number ∙ number_more rows l.at in
    let few = number_few rows (l.at + 1) in
    omega (arith, number, few, c.loop-at-test.true, c.requires.few)

pub loop-at-preserved : goal.loop-at-preserved
loop-at-preserved c =
    let l = c.loop-at in
    let rows = c.args.rows.now in
    let number : c.next_number-number.result ≡ number_of rows (l.at + 1) = c.next_number-number.ensures ∙ ap (number_on (part_of rows l.at)) l.invariant.number ∙ number_more rows l.at in
    let P : ℕ → Type 0 = λ i. (part_of rows i ≡ parts.Name) × (get_or c.args.some.now (number_of rows (i + 1)) 0 ≢ get_or c.args.others.now (number_of rows (i + 1)) 0) in
    let is : (c.differs.result ≡ true) ↔ P l.at =
    subst (λ (k : ℕ). (c.differs.result ≡ true) ↔ ((part_of rows l.at ≡ parts.Name) × (get_or c.args.some.now k 0 ≢ get_or c.args.others.now k 0))) number c.differs.ensures in
    record {
      number = number;
      first = subst (λ (o : Option ℕ). IsFirst P (l.at + 1) o) (sym c.noted-first.ensures) (first_more P l.at l.first c.differs.result is.0 is.1 l.invariant.first);
    }
