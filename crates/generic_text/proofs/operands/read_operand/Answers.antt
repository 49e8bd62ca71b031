use Rattle.std.proofs.Common.{IsTrue, ap, rules}
use Rattle.ir_core_records.specs.Meaning.{definer_of, value_of}
use Rattle.std.specs.Option.{option_map}
use Rattle.generic_text.specs.Tables.{defined_of}
use Rattle.generic_text.proofs.Lists.{if_ok}
use Rattle.generic_text.proofs.operands.read_operand.Goals as goal

pub returns-then-means : goal.returns-then-means
returns-then-means c =
    let is : IsTrue c.means.result = search rules in
    let m = c.means.ensures is in
    if_ok c.behind_use.result
    (λ next behind. record {
      part = c.in_ok-expect_part.ensures;
      row = m.2;
      named = m.3;
      defined = defined_of m.0;
      meant = ap (option_map defined_of) m.4;
      index = m.1;
      which = m.5;
      value = value_of c.get_operand-value.result.index;
      is_operand = rw c.deref.ensures.found.found c.get_operand-value.ensures;
      definer = ap definer_of m.6;
      number = m.7;
      behind = behind;
    })
    c.behind_use.ensures
