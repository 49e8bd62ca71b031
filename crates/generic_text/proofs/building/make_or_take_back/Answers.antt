use Rattle.std.proofs.Common.{inl, inr, subst}
use Rattle.ir_core_queries.specs.State.{forest_of}
use Rattle.generic_text.specs.declared.taking_back.LiveCount.{LiveCount}
use Rattle.generic_text.specs.Left.{AreWithin, live_count}
use Rattle.generic_text.specs.Refusals.{IsSo}
use Rattle.generic_text.proofs.BuiltOn.{begins}
use Rattle.generic_text.proofs.Counted.{same_count, same_empty}
use Rattle.generic_text.proofs.Left.{leaves-empty}
use Rattle.generic_text.proofs.building.make_or_take_back.Goals as goal

pub returns-in-Ok-clause-left : goal.returns-in-Ok-clause-left
returns-in-Ok-clause-left c =
    let f = forest_of c.args.ctx.now in
    (c.in-Ok.ensures.goes_on f (begins f c.args.made.now c.recall_well_formed.ensures.nested c.requires.ops c.requires.blocks c.requires.late)).apart.left

pub returns-then-was_empty-clause-left : goal.returns-then-was_empty-clause-left
returns-then-was_empty-clause-left c = leaves-empty (forest_of c.args.ctx.now) _ (c.is_ir_empty-was_empty.ensures.0 c.if-was_empty.true)

pub returns-then-was_empty-clause-taken_back : goal.returns-then-was_empty-clause-taken_back
returns-then-was_empty-clause-taken_back c = inr (same_empty (forest_of c.args.ctx.now) (forest_of c.clear.new.self) (c.is_ir_empty-was_empty.ensures.0 c.if-was_empty.true) c.clear.ensures.empty)

pub returns-else-was_empty-clause-left : goal.returns-else-was_empty-clause-left
returns-else-was_empty-clause-left c =
    let f = forest_of c.args.ctx.now in
    c.taken_back.ensures.left f (c.in-Err.ensures.goes_on f (begins f c.args.made.now c.recall_well_formed.ensures.nested c.requires.ops c.requires.blocks c.requires.late))

pub returns-else-was_empty-clause-taken_back : goal.returns-else-was_empty-clause-taken_back
returns-else-was_empty-clause-taken_back c =
    elim c.taken_back.ensures.all [
      | inl left ↦ inl left
      | inr within ↦ let within' : AreWithin (live_count c.taken_back.new.ctx) (live_count c.args.ctx.now) = subst (λ (n : LiveCount). AreWithin (live_count c.taken_back.new.ctx) n) c.of-before.ensures within in inr (same_count c.args.ctx.now.records c.taken_back.new.ctx.records (returns-else-was_empty-clause-left c)
          within'.ops within'.blocks within'.regions)
    ]

pub returns-else-was_empty-clause-why : goal.returns-else-was_empty-clause-why
returns-else-was_empty-clause-why c = subst (λ (n : LiveCount). IsSo c.args.source.text.now c.args.source.rows.now c.args.source.names.now n c.taken_back.new.ctx c.taken_back.result) c.of-before.ensures c.taken_back.ensures.why

pub returns-then-was_empty-clause-why : goal.returns-then-was_empty-clause-why
returns-then-was_empty-clause-why c = c.looked_up.ensures (live_count c.args.ctx.now)
