use Rattle.std.proofs.Common.{◌≡◌, ◌==◌, Some, position, sym, ◌∙◌}
use Rattle.ir_core_records.specs.declared.record.Definition.{Definition}
use Rattle.ir_core_records.specs.Numbered.{uses_with-at, has_number-found}
use Rattle.ir_core_records.proofs.DefinitionLists.{definition-found}
use Rattle.ir_core_records.proofs.definitions.Definitions.with_number.Goals as goal

pub unreachable-requires : goal.unreachable-requires
unreachable-requires c = has_number-found c.args.self.now c.args.number c.requires (sym c.find.ensures ∙ c.in-None.is)

pub returns-clause-is : goal.returns-clause-is
returns-clause-is c =
    let found : position (λ (r : Definition). r.number == c.args.number) c.args.self.now ≡ Some c.in-Some.index = sym c.find.ensures ∙ c.in-Some.is in
    definition-found c.args.self.now c.args.number c.in-Some.index c.at.result.now (rw c.self.view_is at c.at.ensures) found

pub returns-clause-uses : goal.returns-clause-uses
returns-clause-uses c =
    let found : position (λ (r : Definition). r.number == c.args.number) c.args.self.now ≡ Some c.in-Some.index = sym c.find.ensures ∙ c.in-Some.is in
    uses_with-at c.args.self.now c.args.number c.in-Some.index c.at.result.now (rw c.self.view_is at c.at.ensures) found
