use Rattle.std.proofs.Common.{◌≡◌, [], rules, tests}
use Rattle.std.proofs.lemmas.Iterator.{cases_from_all, YieldsList-from_slice}
use Rattle.ir_model.specs.declared.ids.ArenaIndex.{ArenaIndex}
use Rattle.ir_model.specs.Forest.{a_region}
use Rattle.ir_model.specs.Nesting.{children}
use Rattle.ir_core_records.specs.Meaning.{forest_in}
use Rattle.ir_core_queries.proofs.Shallow.{all-yes}
use Rattle.ir_core_queries.proofs.entity.are_childless.Goals as goal

pub returns : goal.returns
returns g c =
    let P : ArenaIndex → Type 0 = λ r. children (forest_in c.args.records.now) (a_region r) ≡ [] in
    all-yes P _ c.all.result c.args.regions.now (cases_from_all _ _ c.all.result P (λ _. Unit {0}) c.all.ensures.ran (YieldsList-from_slice c.args.regions.now cc) (λ x q k. search (rules, tests)) (λ x q k. tt))
