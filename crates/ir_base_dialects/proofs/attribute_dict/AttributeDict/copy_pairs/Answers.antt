use Rattle.std.proofs.Common.{◌≡◌, ◌+◌, take, sym, subst, ◌∙◌, arith}
use Rattle.std.proofs.Math.Seq.{take-length}
use Rattle.indexmap.specs.Layout.{hash_map}
use Rattle.ir_base_dialects.specs.Attributes.{is_outlined, kept_pairs, AreCopies}
use Rattle.ir_base_dialects.proofs.CopyLemmas.{copy-kept, copy-dropped, keeps_all, keeps_other, drops}
use Rattle.ir_base_dialects.proofs.AttributeWrites.{insert_entry-is}
use Rattle.ir_base_dialects.proofs.KeyLemmas.{distinct_keys}
use Rattle.ir_base_dialects.proofs.GroupLemmas.{none_in_range}
use Rattle.ir_base_dialects.proofs.attribute_dict.AttributeDict.copy_pairs.Goals as goal
use Rattle.ir_base_dialects.proofs.attribute_dict.AttributeDict.copy_pairs.Goals.{in-Some+then-all+in_ok-clone+in_ok-copy_attr+in_ok-put, then-all-via-then-all, then-all-via-else-all+then-not-attr_should_outline, in-Some+else-all+else-not-attr_should_outline, in_default}

pub loop-place-preserved : goal.loop-place-preserved
loop-place-preserved g c =
    elim c.match-get_index.branch [
      | in-Some+then-all+in_ok-clone+in_ok-copy_attr+in_ok-put w ↦
          copy-kept (is_outlined g.D.Dialects.attr_kind_of g.D.Dialects.attr_impls_of g.D.Dialects.attr_outline_of) c.args.all c.args.self.now ((distinct_keys c.args.self.now).1 c.len-place-end.ensures.distinct)
          c.loop-place.place w.in-Some.key.now w.in-Some.attr.now w.in-Some.ensures.entry g.D.Attr.PartialEq.eq (hash_map c.loop-place.copy (tt {0}) 0) c.loop-place.invariant
          c.match-get_index.copy w.in_ok-clone.field-0 w.in_ok-copy_attr.field-0
          (elim w.then-all.branch [
            | then-all-via-then-all v ↦ keeps_all c.args.all _ v.if-all.true
            | then-all-via-else-all+then-not-attr_should_outline v ↦ keeps_other c.args.all _ v.attr_should_outline.result v.if-all.false v.attr_should_outline.ensures v.if-not-attr_should_outline.true
          ])
          w.in_ok-clone.ensures.cases w.in_ok-copy_attr.ensures.equal
          (w.copy-is ∙ w.in_ok-put.ensures.set ∙ sym (insert_entry-is w.in_ok-clone.field-0 c.loop-place.copy w.in_ok-copy_attr.field-0))
      | in-Some+else-all+else-not-attr_should_outline w ↦
          subst (λ ps. AreCopies g.D.Attr.PartialEq.eq (kept_pairs (is_outlined g.D.Dialects.attr_kind_of g.D.Dialects.attr_impls_of g.D.Dialects.attr_outline_of) c.args.all (take (c.loop-place.place + 1) c.args.self.now)) ps) (sym w.copy-is)
          (copy-dropped (is_outlined g.D.Dialects.attr_kind_of g.D.Dialects.attr_impls_of g.D.Dialects.attr_outline_of) c.args.all c.args.self.now ((distinct_keys c.args.self.now).1 c.len-place-end.ensures.distinct)
          c.loop-place.place w.in-Some.key.now w.in-Some.attr.now w.in-Some.ensures.entry g.D.Attr.PartialEq.eq (hash_map c.loop-place.copy (tt {0}) 0) c.loop-place.invariant
          (drops c.args.all _ w.attr_should_outline.result w.if-all.false w.attr_should_outline.ensures w.if-not-attr_should_outline.false))
      | in_default w ↦ absurd (none_in_range c.args.self.now c.loop-place.place c.len-place-end.result w.in_default.ensures.entry c.loop-place-test.true c.len-place-end.ensures.count)
    ]

pub returns-clause-copies : goal.returns-clause-copies
returns-clause-copies g c =
    let all : take c.loop-place.place c.args.self.now ≡ c.args.self.now = subst (λ n. take n c.args.self.now ≡ c.args.self.now) (omega (arith, c.loop-place-test.false, c.loop-place.auto.place-end, c.len-place-end.ensures.count)) (take-length c.args.self.now) in
    subst (λ ps. AreCopies g.D.Attr.PartialEq.eq (kept_pairs (is_outlined g.D.Dialects.attr_kind_of g.D.Dialects.attr_impls_of g.D.Dialects.attr_outline_of) c.args.all ps) c.loop-place.copy) all c.loop-place.invariant
