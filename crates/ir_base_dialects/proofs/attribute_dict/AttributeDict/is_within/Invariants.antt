use Rattle.std.proofs.Common.{take}
use Rattle.ir_base_dialects.specs.Attributes.{IsWithin}
use Rattle.ir_base_dialects.proofs.attribute_dict.AttributeDict.is_within.Given as goal

abbrev pub invariant-loop-place : goal.invariant-loop-place
invariant-loop-place g l = IsWithin g.D.Attr.PartialEq.eq (take l.place l.self) l.other
