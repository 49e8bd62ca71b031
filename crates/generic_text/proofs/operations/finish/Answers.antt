use Rattle.std.proofs.Common.{ap}
use Rattle.ir_core_queries.specs.State.{forest_of}
use Rattle.generic_text.proofs.BuiltOn.{on_apart}
use Rattle.generic_text.proofs.operations.finish.Goals as goal

pub returns-in_err-define_results : goal.returns-in_err-define_results
returns-in_err-define_results c = λ first builds new.
    let placed = c.place.ensures first builds new in
    on_apart first (forest_of c.place.new.ctx) c.place.new.made placed (forest_of c.place.new.ctx) c.define_results.new.made placed.apart
    (ap (λ v. v.items) c.define_results.ensures.ops) (ap (λ v. v.items) c.define_results.ensures.blocks) (ap (λ v. v.items) c.define_results.ensures.late)

pub returns : goal.returns
returns c = λ first builds new.
    let placed = c.place.ensures first builds new in
    on_apart first (forest_of c.place.new.ctx) c.place.new.made placed (forest_of c.decorate.new.ctx) c.define_results.new.made (c.decorate.ensures first placed.apart new)
    (ap (λ v. v.items) c.define_results.ensures.ops) (ap (λ v. v.items) c.define_results.ensures.blocks) (ap (λ v. v.items) c.define_results.ensures.late)
