use Rattle.std.proofs.Common.{subst, IfOk}
use Rattle.ir_base_dialects.specs.Attributes.{is_outlined, AreCopies}
use Rattle.ir_base_dialects.proofs.CopyLemmas.{kept-all}
use Rattle.ir_base_dialects.proofs.attribute_dict.AttributeDict.clone.Goals as goal

pub returns-clause-copies : goal.returns-clause-copies
returns-clause-copies g c =
    subst (λ pairs. IfOk c.copy_pairs.result (AreCopies g.D.Attr.PartialEq.eq pairs))
    (kept-all (is_outlined g.D.Dialects.attr_kind_of g.D.Dialects.attr_impls_of g.D.Dialects.attr_outline_of) c.args.self.now)
    c.copy_pairs.ensures.copies
