use Rattle.std.proofs.Common.{◌≡◌, ◌+◌, ◌&&◌, take, sym, ap, subst, ◌∙◌, arith}
use Rattle.std.proofs.Math.Seq.{take-length}
use Rattle.std.proofs.lemmas.Bool.{and_right}
use Rattle.std.specs.Option.{option_copied, option_map}
use Rattle.std.specs.Map.Iter.{deref_pair}
use Rattle.ir_base_dialects.specs.Attributes.{IsNextPair, is_below}
use Rattle.ir_base_dialects.proofs.KeyLemmas.{distinct_keys}
use Rattle.ir_base_dialects.proofs.HashLemmas.{next-takes, next-leaves}
use Rattle.ir_base_dialects.proofs.GroupLemmas.{none_in_range}
use Rattle.ir_base_dialects.proofs.attribute_dict.AttributeDict.next_pair.Goals as goal
use Rattle.ir_base_dialects.proofs.attribute_dict.AttributeDict.next_pair.Goals.{in-Some+then-is_after+then-is_before, in-Some+else-is_after, else-is_after-via-then-is_after+else-is_before, else-is_after-via-else-is_after, in_default}

pub loop-place-preserved : goal.loop-place-preserved
loop-place-preserved g c =
    elim c.match-get_index.branch [
      | in-Some+then-is_after+then-is_before w ↦
          subst (λ n. IsNextPair (option_copied c.args.after) (take (c.loop-place.place + 1) c.args.self.now) (option_map deref_pair n)) (sym w.next-is)
          (next-takes c.args.self.now ((distinct_keys c.args.self.now).1 c.len-place-end.ensures.distinct) c.loop-place.place w.in-Some.key.now w.in-Some.attr.now w.in-Some.ensures.entry
          (option_copied c.args.after) (option_map deref_pair c.loop-place.next) c.loop-place.invariant (sym w.is_after.ensures ∙ w.if-is_after.true) (sym w.is_before.ensures ∙ w.if-is_before.true))
      | in-Some+else-is_after w ↦
          subst (λ n. IsNextPair (option_copied c.args.after) (take (c.loop-place.place + 1) c.args.self.now) (option_map deref_pair n)) (sym w.next-is)
          (next-leaves c.args.self.now ((distinct_keys c.args.self.now).1 c.len-place-end.ensures.distinct) c.loop-place.place w.in-Some.key.now w.in-Some.attr.now w.in-Some.ensures.entry
          (option_copied c.args.after) (option_map deref_pair c.loop-place.next) c.loop-place.invariant
          (elim w.else-is_after.branch [
            | else-is_after-via-then-is_after+else-is_before v ↦ and_right _ _ (sym v.is_before.ensures ∙ v.if-is_before.false)
            | else-is_after-via-else-is_after v ↦ ap (λ b. b && is_below w.in-Some.key.now (option_map deref_pair c.loop-place.next)) (sym w.is_after.ensures ∙ v.if-is_after.false)
          ]))
      | in_default w ↦ absurd (none_in_range c.args.self.now c.loop-place.place c.len-place-end.result w.in_default.ensures.entry c.loop-place-test.true c.len-place-end.ensures.count)
    ]

pub returns : goal.returns
returns g c =
    let all : take c.loop-place.place c.args.self.now ≡ c.args.self.now = subst (λ n. take n c.args.self.now ≡ c.args.self.now) (omega (arith, c.loop-place-test.false, c.loop-place.auto.place-end, c.len-place-end.ensures.count)) (take-length c.args.self.now) in
    record { next = subst (λ ps. IsNextPair (option_copied c.args.after) ps (option_map deref_pair c.loop-place.next)) all c.loop-place.invariant }
