use Rattle.std.proofs.Common.{take}
use Rattle.std.specs.Option.{option_copied, option_map}
use Rattle.std.specs.Map.Iter.{deref_pair}
use Rattle.ir_base_dialects.specs.Attributes.{IsNextPair}
use Rattle.ir_base_dialects.proofs.attribute_dict.AttributeDict.next_pair.Given as goal

abbrev pub invariant-loop-place : goal.invariant-loop-place
invariant-loop-place g l = IsNextPair (option_copied l.after) (take l.place l.self) (option_map deref_pair l.next)
