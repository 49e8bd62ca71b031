use Rattle.ir_base_dialects.proofs.EqualLemmas.{not-equal, equal-if}
use Rattle.ir_base_dialects.proofs.attribute_dict.AttributeDictPartialEq.eq.Goals as goal

pub returns-then-is_within : goal.returns-then-is_within
returns-then-is_within g c =
    equal-if g.D.Attr.PartialEq.eq g.met.D.Attr.Eq.laws c.args.self.now c.args.other.now c.is_within-then-is_within.result (c.is_within.ensures.within.0 c.if-is_within.true) c.is_within-then-is_within.ensures.within c.is_within-then-is_within.ensures.distinct

pub returns-else-is_within : goal.returns-else-is_within
returns-else-is_within g c = not-equal g.D.Attr.PartialEq.eq g.met.D.Attr.Eq.laws c.args.self.now c.args.other.now c.is_within.result c.if-is_within.false c.is_within.ensures.within c.is_within.ensures.distinct
