use Rattle.std.proofs.Common.{◌∙◌, sym, Some}
use Rattle.ir_core_records.specs.Meaning.{entity_of, forest_in}
use Rattle.ir_core_erasing.proofs.Climbing.{climb-up}
use Rattle.ir_core_erasing.proofs.Steps.{differ}
use Rattle.ir_core_erasing.proofs.closed.up_within.Goals as goal

pub returns-in-Some : goal.returns-in-Some
returns-in-Some g c =
    let f = forest_in c.args.records.now in
    let root = entity_of c.args.root in
    let here = entity_of c.args.here in
    (climb-up f c.requires.formed root here (Some (entity_of c.in-Some.parent)) (differ here root (sym c.are_one.ensures ∙ c.if-are_one.false)) c.in-Some.ensures).0 c.requires.inside
