use Rattle.std.proofs.Common.{◌≡◌, take, refl, sym, subst, ◌∙◌, true≢false, arith}
use Rattle.std.proofs.Math.Seq.{take-length}
use Rattle.ir_base_dialects.specs.Attributes.{IsWithin}
use Rattle.ir_base_dialects.proofs.EqualLemmas.{within-more, within-at}
use Rattle.ir_base_dialects.proofs.GroupLemmas.{none_in_range}
use Rattle.ir_base_dialects.proofs.attribute_dict.AttributeDict.is_within.Goals as goal
use Rattle.ir_base_dialects.proofs.attribute_dict.AttributeDict.is_within.Goals.{in-Some+else-not-has_equal, in_default}

pub returns-then-not-has_equal-clause-within : goal.returns-then-not-has_equal-clause-within
returns-then-not-has_equal-clause-within g c = (
  λ no. absurd (true≢false (sym no)),
  λ all. absurd (true≢false (sym (c.has_equal.ensures.1 (within-at g.D.Attr.PartialEq.eq c.args.self.now c.args.other.now c.loop-place.place (c.in-Some.key.now, c.in-Some.attr.now) c.in-Some.ensures.entry all)) ∙ c.if-not-has_equal.true)),
)

pub loop-place-preserved : goal.loop-place-preserved
loop-place-preserved g c =
    elim c.match-get_index.branch [
      | in-Some+else-not-has_equal w ↦
          within-more g.D.Attr.PartialEq.eq c.args.self.now c.args.other.now c.loop-place.place (w.in-Some.key.now, w.in-Some.attr.now) w.in-Some.ensures.entry c.loop-place.invariant
          (w.has_equal.ensures.0 w.if-not-has_equal.false)
      | in_default w ↦ absurd (none_in_range c.args.self.now c.loop-place.place c.len-place-end.result w.in_default.ensures.entry c.loop-place-test.true c.len-place-end.ensures.count)
    ]

pub returns-clause-within : goal.returns-clause-within
returns-clause-within g c =
    let all : take c.loop-place.place c.args.self.now ≡ c.args.self.now = subst (λ n. take n c.args.self.now ≡ c.args.self.now) (omega (arith, c.loop-place-test.false, c.loop-place.auto.place-end, c.len-place-end.ensures.count)) (take-length c.args.self.now) in
    (λ yes. subst (λ ps. IsWithin g.D.Attr.PartialEq.eq ps c.args.other.now) all c.loop-place.invariant, λ within. refl)
