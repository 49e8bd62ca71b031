use Rattle.std.proofs.Common.{◌≡◌, ◌==◌, Some, position, sym, refl, ◌∙◌}
use Rattle.ir_core_records.specs.declared.record.Definition.{Definition}
use Rattle.ir_core_records.specs.Numbered.{put_uses-at, uses_with-at, has_number-found}
use Rattle.ir_core_records.proofs.DefinitionLists.{distinct-set}
use Rattle.ir_core_records.proofs.definitions.Definitions.uses_mut.Goals as goal

pub unreachable-requires : goal.unreachable-requires
unreachable-requires c = has_number-found c.self.inside.items c.args.number (rw (← c.self.view_is) at c.requires) (sym c.find.ensures ∙ c.in-None.is)

pub invariant_of-self-lent : goal.invariant_of-self-lent
invariant_of-self-lent c w = distinct-set c.self.inside.items c.in-Some.index c.at_mut.result.now w c.at_mut.ensures.value c.self.invariant

pub returns : goal.returns
returns c =
    let at : position (λ (r : Definition). r.number == c.args.number) c.self.inside.items ≡ Some c.in-Some.index = sym c.find.ensures ∙ c.in-Some.is in (
      (refl, λ w. rw (← c.self.view_is) (put_uses-at c.self.inside.items c.args.number c.in-Some.index c.at_mut.result.now w c.at_mut.ensures.value at)),
      record { writes_back = tt; value = rw (← c.self.view_is) (uses_with-at c.self.inside.items c.args.number c.in-Some.index c.at_mut.result.now c.at_mut.ensures.value at) },
    )
