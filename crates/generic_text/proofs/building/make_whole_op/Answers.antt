use Rattle.std.proofs.Common.{subst, sym}
use Rattle.ir_core_queries.specs.State.{forest_of}
use Rattle.ir_model.specs.Forest.{an_op}
use Rattle.generic_text.specs.declared.made.Made.{Made}
use Rattle.generic_text.specs.Left.{BuildsOn, IsNew}
use Rattle.generic_text.proofs.BuiltOn.{all_more}
use Rattle.generic_text.proofs.Left.{was_not}
use Rattle.generic_text.proofs.building.make_whole_op.Goals as goal
use Rattle.generic_text.proofs.building.make_whole_op.Goals.{then-room+in_ok-push, else-room}

pub returns : goal.returns
returns c = λ first builds.
    let made = c.in_ok-op.ensures.goes_on first builds in
    let new = was_not first (forest_of c.args.ctx.now) builds.apart.left (an_op c.in_ok-op.op.index) c.in_ok-op.ensures.new in
    let noted : BuildsOn first (forest_of c.make_op.new.ctx) c.if-room.made = elim c.if-room.branch [
      | then-room+in_ok-push w ↦ subst (λ (m : Made). BuildsOn first (forest_of c.make_op.new.ctx) m) (sym w.made-is) (record { apart = made.apart; ops = made.ops; blocks = made.blocks; late = all_more (λ p. IsNew first (an_op p.0.index)) _ _ _ w.in_ok-push.ensures.items made.late new })
      | else-room w ↦ subst (λ (m : Made). BuildsOn first (forest_of c.make_op.new.ctx) m) (sym w.made-is) made
    ] in
    c.fill_regions.ensures first noted new
