use Rattle.std.proofs.Common.{◌≡◌, ap}
use Rattle.ir_core_queries.specs.State.{forest_of}
use Rattle.ir_model.specs.Forest.{an_op}
use Rattle.ir_model.specs.Changes.{Removes}
use Rattle.generic_text.proofs.Apart.{apart-removes, apart-same}
use Rattle.generic_text.proofs.BuiltOn.{either_way}
use Rattle.generic_text.proofs.taking_back.erase.Goals as goal

pub returns-then-is_loose : goal.returns-then-is_loose
returns-then-is_loose c = λ first apart new.
    let f = forest_of c.args.ctx.now in
    let g = forest_of c.erase.new.ctx in
    let e = an_op c.args.op.index in
    either_way c.erase.result c.erase.ensures.forest c.erase.ensures.err (λ (done : Removes f e g). apart-removes first f apart g e new done) (λ (same : c.erase.new.ctx ≡ c.args.ctx.now). apart-same first f apart g (ap (λ s. forest_of s) same))
