use Rattle.std.proofs.Common.{IsTrue, ap, rules}
use Rattle.std.specs.Option.{option_map}
use Rattle.generic_text.specs.Checks.{setting_of}
use Rattle.generic_text.specs.Tables.{defined_of}
use Rattle.generic_text.proofs.Steps.{results_more}
use Rattle.generic_text.proofs.results.read_name.Goals as goal

pub returns : goal.returns
returns c = λ before.
    let is : IsTrue c.is_origin.result = search rules in
    results_more (setting_of c.args.check.now) c.args.op c.args.from c.args.named.count c.args.named.at c.in_ok-width_at.field-0 c.in_ok-behind.field-0 c.in_ok-behind_result.field-0 c.requires.part (ap (option_map defined_of) (c.is_origin.ensures is)) c.in_ok-width_at.ensures c.in_ok-behind.ensures c.in_ok-behind_result.ensures before
