use Rattle.std.proofs.Common.{sym, ap, ◌∙◌}
use Rattle.std.proofs.lemmas.Bool.{false≢true}
use Rattle.ir_model.specs.declared.ids.ArenaIndex.{ArenaIndex}
use Rattle.ir_model.specs.Nesting.{In}
use Rattle.ir_core_queries.specs.State.{forest_of}
use Rattle.ir_core_records.specs.Meaning.{value_of}
use Rattle.ir_run_passes.proofs.Unmet.{given_by_none, given_by_not, given_by_one, gives_none, gives_op, any_in, in_any}
use Rattle.ir_run_passes.proofs.ordering.is_unmet.Goals as goal

pub returns-in_default : goal.returns-in_default
returns-in_default g c =
    given_by_none (forest_of c.args.ctx.now) c.args.block.index (λ (o : ArenaIndex). In o c.args.met.now.keys → ⊥) (value_of c.args.value.index) (gives_none c.args.value.index.definer (sym c.in_default.ensures.op))

pub returns-then-contains : goal.returns-then-contains
returns-then-contains g c =
    given_by_not (forest_of c.args.ctx.now) c.args.block.index (λ (o : ArenaIndex). In o c.args.met.now.keys → ⊥) (value_of c.args.value.index) c.in-Some.definer.index (gives_op c.args.value.index.definer c.in-Some.definer.index (sym c.in-Some.ensures.op))
    (λ apart. apart (any_in c.in-Some.definer.index c.args.met.now.keys (sym c.contains.ensures ∙ c.if-contains.true)))

pub returns : goal.returns
returns g c =
    given_by_one (forest_of c.args.ctx.now) c.args.block.index (λ (o : ArenaIndex). In o c.args.met.now.keys → ⊥) (value_of c.args.value.index) c.in-Some.definer.index (gives_op c.args.value.index.definer c.in-Some.definer.index (sym c.in-Some.ensures.op))
    (λ h. false≢true (sym c.if-contains.false ∙ c.contains.ensures ∙ in_any c.in-Some.definer.index c.args.met.now.keys h)) c.stands_in.result c.stands_in.ensures
