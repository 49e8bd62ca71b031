use Rattle.std.proofs.Common.{◌≡◌, ◌≢◌, ◌↔◌, ℕ, ◌+◌, true, get_or, length, Some, sym, ap, subst, ◌∙◌, below_more, arith}
use Rattle.std.proofs.lemmas.Bool.{false≢true}
use Rattle.ir_text_tree.specs.declared.row.Part.TheVariants as parts
use Rattle.ir_text_names.specs.Numbers.{amount_of, results_before}
use Rattle.ir_text_names.specs.Operations.{number_of, number_on}
use Rattle.ir_text_names.specs.Rows.{part_of}
use Rattle.ir_text_names.proofs.FirstRows.{first_none}
use Rattle.ir_text_names.proofs.Numbering.{number_more, number_none, number_few, number_at_most}
use Rattle.ir_text_names.proofs.ResultNumbers.{results_none, results_more}
use Rattle.ir_text_names.proofs.result_numbers.first_other_results.Goals as goal

pub loop-at-init : goal.loop-at-init
loop-at-init c =
    let text = c.args.text.now in
    let rows = c.args.rows.now in
    record {
      number = sym (number_none rows);
      first = first_none (λ i. (part_of rows i ≡ parts.Name) × (results_before text rows i ≢ get_or c.args.types.now (number_of rows (i + 1)) 0));
      results = ap (λ (n : ℕ). amount_of (Some n)) (sym (results_none text rows));
    }

pub next_number-number-requires : goal.next_number-number-requires
next_number-number-requires c = let l = c.loop-at in let few = number_few c.args.rows.now l.at in omega (arith, few, l.invariant.number, c.loop-at-test.true, c.requires.few)

pub bounds-types-number : goal.bounds-types-number
bounds-types-number c =
    let l = c.loop-at in
    let rows = c.args.rows.now in
    let number : c.next_number-number.result ≡ number_of rows (l.at + 1) = c.next_number-number.ensures ∙ ap (number_on (part_of rows l.at)) l.invariant.number ∙ number_more rows l.at in
    let most = number_at_most rows (l.at + 1) (length rows) (omega (arith, c.loop-at-test.true)) in
    omega (arith, number, most, c.requires.types)

pub offset_bounds-types-number : goal.offset_bounds-types-number
offset_bounds-types-number c =
    let l = c.loop-at in
    let rows = c.args.rows.now in
    let number : c.next_number-number.result ≡ number_of rows (l.at + 1) = c.next_number-number.ensures ∙ ap (number_on (part_of rows l.at)) l.invariant.number ∙ number_more rows l.at in
    let few = number_few rows (l.at + 1) in
    omega (arith, number, few, c.loop-at-test.true, c.requires.few)

pub loop-at-preserved : goal.loop-at-preserved
loop-at-preserved c =
    let l = c.loop-at in
    let text = c.args.text.now in
    let rows = c.args.rows.now in
    let number : c.next_number-number.result ≡ number_of rows (l.at + 1) = c.next_number-number.ensures ∙ ap (number_on (part_of rows l.at)) l.invariant.number ∙ number_more rows l.at in
    let P : ℕ → Type 0 = λ i. (part_of rows i ≡ parts.Name) × (results_before text rows i ≢ get_or c.args.types.now (number_of rows (i + 1)) 0) in
    let is : (c.is_other.result ≡ true) ↔ P l.at =
    subst (λ (k : ℕ). (c.is_other.result ≡ true) ↔ ((part_of rows l.at ≡ parts.Name) × (results_before text rows l.at ≢ get_or c.args.types.now k 0))) number (c.is_other.ensures (results_before text rows l.at) l.invariant.results) in
    record {
      number = number;
      first = below_more (λ (k : ℕ). P k → ⊥) l.at l.invariant.first (λ p. false≢true (sym c.if-is_other.false ∙ is.1 p));
      results = c.results_behind-results.ensures (results_before text rows l.at) l.invariant.results ∙ ap (λ (n : ℕ). amount_of (Some n)) (results_more text rows l.at);
    }

pub returns-then-is_other : goal.returns-then-is_other
returns-then-is_other c =
    let l = c.loop-at in
    let text = c.args.text.now in
    let rows = c.args.rows.now in
    let number : c.next_number-number.result ≡ number_of rows (l.at + 1) = c.next_number-number.ensures ∙ ap (number_on (part_of rows l.at)) l.invariant.number ∙ number_more rows l.at in
    let is : (c.is_other.result ≡ true) ↔ ((part_of rows l.at ≡ parts.Name) × (results_before text rows l.at ≢ get_or c.args.types.now (number_of rows (l.at + 1)) 0)) =
    subst (λ (k : ℕ). (c.is_other.result ≡ true) ↔ ((part_of rows l.at ≡ parts.Name) × (results_before text rows l.at ≢ get_or c.args.types.now k 0))) number (c.is_other.ensures (results_before text rows l.at) l.invariant.results) in
    (omega (arith, c.loop-at-test.true), is.0 c.if-is_other.true, l.invariant.first)
