use Rattle.std.proofs.Common.{sym, ap, ◌∙◌, inl, refl, subst, is_some}
use Rattle.ir_model.specs.Forest.{an_op}
use Rattle.ir_model.specs.Nesting.{In, IsClosed}
use Rattle.ir_base_dialects.specs.Attributes.{dict_input, same_pairs}
use Rattle.ir_core_queries.specs.State.{forest_of}
use Rattle.ir_core_records.specs.DialectAnswers.{behaviour_of}
use Rattle.ir_core_records.specs.Meaning.{op_record}
use Rattle.ir_run_passes.specs.AlikeHash.{hash_in}
use Rattle.ir_run_passes.specs.KeptOps.{kept_in}
use Rattle.ir_run_passes.proofs.AlikeHashes.{hash_is}
use Rattle.ir_run_passes.proofs.Replacing.{pairs, live_now}
use Rattle.ir_run_passes.proofs.merging.merge_or_keep.Goals as goal

pub find-requires-clause-op : goal.find-requires-clause-op
find-requires-clause-op g c = record { of = op_record c.deref-operation.result.now; found = c.deref-operation.ensures.found.found; plain = c.is_plain.ensures.0 c.if-not-is_plain.false }

pub returns-in_default-clause-steps : goal.returns-in_default-clause-steps
returns-in_default-clause-steps g c =
    let f = forest_of c.args.ctx.now in
    let input = dict_input g.D.Attr.Hash.hash_input in
    let r = op_record c.deref-operation.result.now in
    let found = c.deref-operation.ensures.found.found in (
      refl,
      record { none_alike = c.in_default.ensures.none refl; keeps = inl (c.in_ok-keep.ensures.kept, record { of = r; found = found; plain = c.is_plain.ensures.0 c.if-not-is_plain.false }) },
      c.in_ok-keep.ensures.indexed (hash_in input f) (hash_is input f c.args.op.index r found ∙ sym c.alike_hash-hash.ensures) c.requires.finds.indexed,
    )

pub erase-requires-clause-live : goal.erase-requires-clause-live
erase-requires-clause-live g c =
    let f = forest_of c.args.ctx.now in
    live_now f (forest_of c.replace_results.new.ctx) (pairs f c.in-Some.earlier.index c.args.op.index) c.in_ok-replace_results.ensures.all c.args.op.index c.requires.live

pub erase-requires-clause-closed : goal.erase-requires-clause-closed
erase-requires-clause-closed g c =
    let f = forest_of c.args.ctx.now in
    let e = c.in-Some.earlier.index in
    let o = c.args.op.index in
    subst (λ z. IsClosed z (an_op o)) (sym c.in_ok-replace_results.ensures.all)
    (c.walk_merges.ensures.can_go (behaviour_of g.D.Dialects g.D.TypeKey.PartialEq.eq) (same_pairs g.D.Attr.PartialEq.eq) f _ e o c.recall_well_formed.ensures
    (λ same. c.requires.apart (subst (λ x. In x (kept_in c.args.kept.now)) same c.in-Some.ensures.kept)) c.in-Some.ensures.alike)
