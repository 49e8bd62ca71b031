use Rattle.std.proofs.Common.{◌≡◌, map, rules}
use Rattle.ir_model.specs.Forest.{a_region}
use Rattle.ir_model.specs.Nesting.{children}
use Rattle.ir_core_records.specs.Meaning.{entity_of, forest_in}
use Rattle.ir_core_queries.proofs.Shallow.{listed-shallow}
use Rattle.ir_core_queries.proofs.entity.is_shallow.Goals as goal

pub returns-in-Some : goal.returns-in-Some
returns-in-Some g c =
    let f = forest_in c.args.records.now in
    let is : children f (entity_of c.args.entity) ≡ map a_region c.as_slice.result.now = search rules in
    λ t. listed-shallow (children f) (entity_of c.args.entity) a_region c.as_slice.result.now is (c.are_childless.ensures t)
