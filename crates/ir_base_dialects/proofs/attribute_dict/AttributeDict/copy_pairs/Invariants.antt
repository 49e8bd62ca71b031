use Rattle.std.proofs.Common.{take}
use Rattle.ir_base_dialects.specs.Attributes.{is_outlined, kept_pairs, AreCopies}
use Rattle.ir_base_dialects.proofs.attribute_dict.AttributeDict.copy_pairs.Given as goal

abbrev pub invariant-loop-place : goal.invariant-loop-place
invariant-loop-place g l =
    AreCopies g.D.Attr.PartialEq.eq
    (kept_pairs (is_outlined g.D.Dialects.attr_kind_of g.D.Dialects.attr_impls_of g.D.Dialects.attr_outline_of) l.all (take l.place l.self))
    l.copy
