use Rattle.std.proofs.Common.{is_ok, cond, ap, ◌∙◌}
use Rattle.std.specs.List.{insert}
use Rattle.ir_core_records.specs.declared.record.Definition.{Definition}
use Rattle.ir_core_records.specs.DefinitionEdits.{unused_definition, distinct-insert}
use Rattle.ir_core_records.proofs.DefinitionLists.{distinct-either}
use Rattle.ir_core_records.proofs.definitions.Definitions.insert.Goals as goal

pub invariant_of-self : goal.invariant_of-self
invariant_of-self c =
    let rs = c.self.inside.items in
    let items = c.insert.ensures ∙ ap (λ (r : Definition). cond (is_ok c.insert.result) (insert rs c.args.index r) rs) c.new_definition.ensures in
    distinct-either (is_ok c.insert.result) c.insert.new.self (insert rs c.args.index (unused_definition c.args.number c.args.ty.place)) rs items
    (distinct-insert rs c.args.index c.args.number c.args.ty.place (rw (← c.self.view_is) at c.requires.new_number) c.self.invariant) c.self.invariant
