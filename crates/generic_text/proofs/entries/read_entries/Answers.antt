use Rattle.std.proofs.Common.{◌≡◌, ◌∙◌, ℕ, ap, sym, subst}
use Rattle.ir_core_queries.specs.State.{forest_of}
use Rattle.ir_model.specs.Nesting.{list_of}
use Rattle.ir_text_described.specs.Written.{IsEntry, Leads, none, more, attributes_of}
use Rattle.generic_text.specs.Checks.{setting_of}
use Rattle.generic_text.proofs.Lists.{Gone, gone-none, gone-next, gone-more, gone-all}
use Rattle.generic_text.proofs.entries.read_entries.Goals as goal

pub loop-name-init : goal.loop-name-init
loop-name-init c =
    let all = attributes_of (forest_of c.args.check.now.ctx.now) c.args.op.index in
    let here : attributes_of (forest_of c.args.check.now.ctx.now) c.args.op.index ≡ _ = ap (list_of (λ r. r.attributes)) c.deref.ensures.found.found in
    (0, subst (λ ys. Gone all ys 0) (sym (c.into_iter-name-iterator.ensures.into_iter_gives ∙ c.iter-name-items.ensures.rest ∙ c.attributes.ensures ∙ sym here)) (gone-none all), none)

pub loop-name-preserved : goal.loop-name-preserved
loop-name-preserved c = (
  _,
  gone-more c.in-Some.ensures.steps c.loop-name.invariant.1,
  more c.loop-name.invariant.2 (record { attribute = (c.in-Some.name.now, c.in-Some.attr.now); is_attribute = gone-next c.in-Some.ensures.steps c.loop-name.invariant.1; stands = c.in_ok-at.ensures }),
)

pub returns : goal.returns
returns c =
    let s = setting_of c.args.check.now in
    subst (λ (n : ℕ). Leads (IsEntry s c.args.op.index) c.args.from n c.loop-name.at) (gone-all c.in-None.ensures.steps.0 c.loop-name.invariant.1) c.loop-name.invariant.2
