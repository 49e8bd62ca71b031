use Rattle.std.proofs.Common.{◌≡◌, ◌==◌, List, None, Some, position, refl, sym, ap, subst, map, ◌∙◌}
use Rattle.ir_core_records.specs.declared.record.Definition.{Definition}
use Rattle.ir_core_records.specs.Numbered.{has_number-found}
use Rattle.ir_core_records.specs.DefinitionEdits.{rewritten, rewritten-at, distinct-rewritten, typed_as}
use Rattle.ir_core_records.proofs.DefinitionLists.{definition-found}
use Rattle.ir_core_records.proofs.definitions.Definitions.set_type.Goals as goal

pub unreachable-requires : goal.unreachable-requires
unreachable-requires c = has_number-found c.self.inside.items c.args.number (rw (← c.self.view_is) at c.requires) (subst (λ (rs : List Definition). position (λ (r : Definition). r.number == c.args.number) rs ≡ None) (sym c.self.view_is) (sym c.find.ensures ∙ c.in-None.is))

pub invariant_of-self : goal.invariant_of-self
invariant_of-self c =
    let found : position (λ (r : Definition). r.number == c.args.number) c.self.inside.items ≡ Some c.in-Some.index = subst (λ (rs : List Definition). position (λ (r : Definition). r.number == c.args.number) rs ≡ Some c.in-Some.index) (sym c.self.view_is) (sym c.find.ensures ∙ c.in-Some.is) in
    let is = definition-found c.self.inside.items c.args.number c.in-Some.index c.at_mut.result.now c.at_mut.ensures.value found in
    distinct-rewritten c.args.number (typed_as c.args.ty.place) (λ r. refl) (λ r. refl) c.self.inside.items c.in-Some.index c.at_mut.result.now c.self.invariant c.at_mut.ensures.value is.2

pub returns : goal.returns
returns c =
    let found : position (λ (r : Definition). r.number == c.args.number) c.self.inside.items ≡ Some c.in-Some.index = subst (λ (rs : List Definition). position (λ (r : Definition). r.number == c.args.number) rs ≡ Some c.in-Some.index) (sym c.self.view_is) (sym c.find.ensures ∙ c.in-Some.is) in
    let is = definition-found c.self.inside.items c.args.number c.in-Some.index c.at_mut.result.now c.at_mut.ensures.value found in
    rewritten-at c.args.number (typed_as c.args.ty.place) (λ r. refl) (λ r. refl) c.self.inside.items c.in-Some.index c.at_mut.result.now c.self.invariant c.at_mut.ensures.value is.2
    ∙ ap (map (rewritten c.args.number (typed_as c.args.ty.place))) c.self.view_is
