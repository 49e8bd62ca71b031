use Rattle.std.proofs.Common.{◌≡◌, ap}
use Rattle.ir_core_queries.specs.State.{forest_of}
use Rattle.ir_model.specs.Forest.{an_op}
use Rattle.ir_model.specs.Changes.{DropsUses}
use Rattle.generic_text.proofs.Apart.{apart-drops, apart-same}
use Rattle.generic_text.proofs.BuiltOn.{either_way}
use Rattle.generic_text.proofs.taking_back.drop_uses.Goals as goal

pub returns-then-is_loose : goal.returns-then-is_loose
returns-then-is_loose c = λ first apart new.
    let f = forest_of c.args.ctx.now in
    let g = forest_of c.drop_all_uses.new.ctx in
    let e = an_op c.args.op.index in
    either_way c.drop_all_uses.result c.drop_all_uses.ensures.forest c.drop_all_uses.ensures.err (λ (done : DropsUses f e g). apart-drops first f apart g e new done) (λ (same : c.drop_all_uses.new.ctx ≡ c.args.ctx.now). apart-same first f apart g (ap (λ s. forest_of s) same))
