use Rattle.std.proofs.Common.{◌≡◌, ap}
use Rattle.ir_core_queries.specs.State.{forest_of}
use Rattle.ir_model.specs.Forest.{a_block}
use Rattle.ir_model.specs.Changes.{Removes}
use Rattle.generic_text.proofs.Apart.{apart-removes, apart-same}
use Rattle.generic_text.proofs.BuiltOn.{either_way}
use Rattle.generic_text.proofs.taking_back.erase_block.Goals as goal

pub returns-then-is_loose_block : goal.returns-then-is_loose_block
returns-then-is_loose_block c = λ first apart new.
    let f = forest_of c.args.ctx.now in
    let g = forest_of c.erase.new.ctx in
    let e = a_block c.args.block.index in
    either_way c.erase.result c.erase.ensures.forest c.erase.ensures.err (λ (done : Removes f e g). apart-removes first f apart g e new done) (λ (same : c.erase.new.ctx ≡ c.args.ctx.now). apart-same first f apart g (ap (λ s. forest_of s) same))
