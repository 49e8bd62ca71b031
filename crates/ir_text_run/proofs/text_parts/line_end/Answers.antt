use Rattle.std.proofs.Common.{rules, ◌≡◌, ◌==◌, ◌-◌, length, take, drop, position, Some, None}
use Rattle.ir_text_run.proofs.TextLines.{line_to_feed, line_to_end}
use Rattle.ir_text_run.proofs.text_parts.line_end.Goals as goal

pub returns-in-Some-clause-line : goal.returns-in-Some-clause-line
returns-in-Some-clause-line c =
    let is : position (λ b. b == 10) (take (length c.args.text.now - c.args.at) (drop c.args.at c.args.text.now)) ≡ Some c.in-Some.length = search rules in
    line_to_feed c.args.text.now c.args.at c.in-Some.length is

pub returns-in-None-clause-line : goal.returns-in-None-clause-line
returns-in-None-clause-line c =
    let is : position (λ b. b == 10) (take (length c.args.text.now - c.args.at) (drop c.args.at c.args.text.now)) ≡ None = search rules in
    line_to_end c.args.text.now c.args.at c.requires is
