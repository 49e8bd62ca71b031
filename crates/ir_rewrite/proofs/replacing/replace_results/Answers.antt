use Rattle.std.proofs.Common.{◌≡◌, ◌<◌, Some, refl, sym, ap, ◌∙◌, subst, arith, length, take}
use Rattle.std.specs.Prelude.{slice_get}
use Rattle.std.proofs.lemmas.List.{take_all}
use Rattle.ir_model.specs.Changes.{redirect}
use Rattle.ir_model.specs.ContextIds.{context_ids}
use Rattle.ir_model.specs.Forest.{Value, an_op, of_op}
use Rattle.ir_model.specs.Nesting.{definitions_of, list_of}
use Rattle.ir_model_passes.specs.Merging.{redirect_each}
use Rattle.ir_core_context.specs.State.{forest_of}
use Rattle.ir_core_records.specs.declared.record.Definer.TheVariants.{Op}
use Rattle.ir_core_records.specs.Meaning.{definer_of, op_record, value_of}
use Rattle.ir_rewrite.proofs.Replaceable.{given_at, pairs_short, replaced_next, same_results}
use Rattle.ir_rewrite.proofs.Rest.{keeps_itself, keeps_joined, same_itself, same_joined}
use Rattle.ir_rewrite.proofs.replacing.replace_results.Goals as goal

pub deref-requires : goal.deref-requires
deref-requires g c = c.loop-index.invariant.keeps.entities_stay_live (an_op c.args.op.index) c.requires.live

pub get_result-result-requires : goal.get_result-result-requires
get_result-result-requires g c =
    let f = forest_of c.args.ctx.now in
    let o = c.args.op.index in
    let now : definitions_of (forest_of c.loop-index.ctx) (of_op o) ≡ (op_record c.deref.result.now).results = ap (list_of (λ r. r.results)) c.deref.ensures.found.found in
    let was = same_results f o c.args.values.now (forest_of c.loop-index.ctx) c.loop-index.index c.loop-index.invariant.forest in
    omega (arith, ap length now, ap length was, c.requires.as_many)

pub loop-index-preserved : goal.loop-index-preserved
loop-index-preserved g c =
    let f = forest_of c.args.ctx.now in
    let o = c.args.op.index in
    let k = c.loop-index.index in
    let r = op_record c.deref.result.now in
    let n = c.get_result-result.result.index.number in
    let own : Value context_ids = record { definer = of_op o; number = n } in
    let now : definitions_of (forest_of c.loop-index.ctx) (of_op o) ≡ r.results = ap (list_of (λ z. z.results)) c.deref.ensures.found.found in
    let was : definitions_of f (of_op o) ≡ r.results = sym (same_results f o c.args.values.now (forest_of c.loop-index.ctx) k c.loop-index.invariant.forest) ∙ now in
    let is : value_of c.get_result-result.result.index ≡ own = (λ i. record { definer = definer_of ((c.get_result-result.ensures.definer ∙ ap Op c.deref.ensures.found.own) i); number = n }) in
    record {
      forest = replaced_next f o c.args.values.now (forest_of c.loop-index.ctx) (forest_of c.replace_all_uses_with.new.ctx) k n c.item_at-value.result c.loop-index.invariant.forest
          (given_at f o r.results k n was c.get_result-result.ensures.number) c.item_at-value.ensures
          (c.in_ok-replace_all_uses_with.ensures.forest ∙ ap (λ v. redirect (forest_of c.loop-index.ctx) v (value_of c.item_at-value.result.index)) is);
      rest = same_joined _ _ _ c.loop-index.invariant.rest c.replace_all_uses_with.ensures.rest;
      keeps = keeps_joined _ _ _ c.loop-index.invariant.keeps c.replace_all_uses_with.ensures.keeps;
    }

pub returns-clause-forest : goal.returns-clause-forest
returns-clause-forest g c = pairs_short (forest_of c.args.ctx.now) c.args.op.index c.args.values.now (forest_of c.loop-index.ctx) c.loop-index.index c.loop-index-test.false c.loop-index.invariant.forest
