use Rattle.std.proofs.Common.{map, sym, ap, subst, ◌∙◌}
use Rattle.ir_core_records.specs.Chains.{AreLinked}
use Rattle.ir_core_records.specs.DefinitionEdits.{rewritten, typed_as}
use Rattle.ir_core_chains.proofs.Written.{keeps-written}
use Rattle.ir_core_chains.proofs.Edits.{definer-live, retyped-chains, retyped-forest}
use Rattle.ir_core_chains.proofs.definitions.set_type.Goals as goal

pub definitions_mut-requires : goal.definitions_mut-requires
definitions_mut-requires g c = definer-live c.args.records.now c.args.value.definer c.args.value.number c.requires

pub returns-clause-chains : goal.returns-clause-chains
returns-clause-chains g c =
    let t = c.args.records.now in
    let v = c.args.value in
    let is = c.set_type.ensures ∙ ap (map (rewritten v.number (typed_as c.args.ty.place))) c.definitions_mut.ensures.value in
    retyped-chains t v.definer (definer-live t v.definer v.number c.requires) v.number c.args.ty.place c.set_type.new.self is

pub returns-clause-linked : goal.returns-clause-linked
returns-clause-linked g c linked = subst AreLinked (sym (returns-clause-chains g c)) linked

pub returns-clause-keeps : goal.returns-clause-keeps
returns-clause-keeps g c = keeps-written c.args.records.now c.args.value.definer c.set_type.new.self

pub returns-clause-forest : goal.returns-clause-forest
returns-clause-forest g c =
    let t = c.args.records.now in
    let v = c.args.value in
    let is = c.set_type.ensures ∙ ap (map (rewritten v.number (typed_as c.args.ty.place))) c.definitions_mut.ensures.value in
    retyped-forest t v.definer (definer-live t v.definer v.number c.requires) v.number c.args.ty.place c.set_type.new.self is
