use Rattle.std.proofs.Common.{map}
use Rattle.std.specs.List.{AllZip}
use Rattle.toy_script_text.specs.Fields.{IsNameOf}
use Rattle.toy_script_text.proofs.script_parse.parse_names.Given as goal

-- the numbers so far are those of the names so far
abbrev pub invariant-loop-name : goal.invariant-loop-name
invariant-loop-name l = AllZip (IsNameOf l.letter) (map (λ name. name.now) l.yielded) l.numbers.items
