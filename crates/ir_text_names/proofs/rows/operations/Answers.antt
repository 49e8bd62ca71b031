use Rattle.std.proofs.Common.{rules, ◌≡◌, ℕ, ◌+◌, ◌++◌, ◌∷◌, [], map, reverse, length, get_or, sym, ap, ◌∙◌, arith}
use Rattle.ir_text_names.specs.Operations.{number_of, number_on}
use Rattle.ir_text_names.specs.Rows.{part_of, top, row_operations, operations_behind}
use Rattle.ir_text_names.proofs.Numbering.{stack_at, stack_none, number_more, number_none, number_few, stack_more, top_number}
use Rattle.ir_text_names.proofs.Tables.{items_more, items_long}
use Rattle.ir_text_names.proofs.rows.operations.Goals as goal

pub loop-at-init : goal.loop-at-init
loop-at-init c =
    let rows = c.args.rows.now in
    let empty : reverse c.new-around.result.items ≡ [] = search rules in
    record {
      count = sym (number_none rows);
      around = empty ∙ sym (ap (map (number_of rows)) (stack_none rows));
      innermost = sym (ap top empty);
      long = search rules;
      numbers = λ i lt. absurd (omega (arith, lt));
    }

pub next_number-count-requires : goal.next_number-count-requires
next_number-count-requires c = let l = c.loop-at in let few = number_few c.args.rows.now l._at in omega (arith, few, l.invariant.count, c.loop-at-test.true, c.requires)

pub overflow_cast-count : goal.overflow_cast-count
overflow_cast-count c =
    let l = c.loop-at in
    let rows = c.args.rows.now in
    let count : c.next_number-count.result ≡ number_of rows (l._at + 1) = c.next_number-count.ensures ∙ ap (number_on (part_of rows l._at)) l.invariant.count ∙ number_more rows l._at in
    let few = number_few rows (l._at + 1) in
    omega (arith, count, few, c.loop-at-test.true, c.requires)

pub loop-at-preserved : goal.loop-at-preserved
loop-at-preserved c =
    let l = c.loop-at in
    let rows = c.args.rows.now in
    let count : c.next_number-count.result ≡ number_of rows (l._at + 1) = c.next_number-count.ensures ∙ ap (number_on (part_of rows l._at)) l.invariant.count ∙ number_more rows l._at in
    let here : l.innermost ≡ number_of rows (get_or (row_operations rows) l._at 0) = l.invariant.innermost ∙ ap top l.invariant.around ∙ top_number rows l._at c.loop-at-test.true in
    let pushed : c.push.new.self.items ≡ l.numbers.items ++ l.innermost ∷ [] = search rules in
    record {
      count = count;
      innermost = c.in_ok-innermost.ensures.innermost;
      around = c.in_ok-innermost.ensures.around ∙ ap (operations_behind (part_of rows l._at) c.next_number-count.result) l.invariant.around
          ∙ ap (λ (k : ℕ). operations_behind (part_of rows l._at) k (map (number_of rows) (stack_at rows l._at))) count ∙ stack_more rows l._at;
      long = items_long ℕ l._at l.innermost l.numbers.items c.push.new.self.items pushed l.invariant.long;
      numbers = items_more ℕ (λ (i o : ℕ). o ≡ number_of rows (get_or (row_operations rows) i 0)) 0 l._at l.innermost l.numbers.items c.push.new.self.items here pushed l.invariant.long l.invariant.numbers;
    }

pub returns : goal.returns
returns c =
    let l = c.loop-at in
    let end : l._at ≡ length c.args.rows.now = omega (arith, c.loop-at-test.false) in
    record {
      few = c.requires;
      count = l.invariant.count ∙ ap (number_of c.args.rows.now) end;
      long = l.invariant.long ∙ end;
      numbers = λ i lt. l.invariant.numbers i (omega (arith, lt, end));
    }
