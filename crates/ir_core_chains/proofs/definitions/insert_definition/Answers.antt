use Rattle.std.proofs.Common.{is_ok, cond, List, sym, ap, subst, ◌∙◌}
use Rattle.std.specs.List.{insert}
use Rattle.ir_core_records.specs.declared.record.Definition.{Definition}
use Rattle.ir_core_records.specs.Chains.{AreLinked}
use Rattle.ir_core_records.specs.DefinitionEdits.{unused_definition}
use Rattle.ir_core_chains.proofs.Written.{keeps-written}
use Rattle.ir_core_chains.proofs.Edits.{on_ok, on_err, inserted-chains, inserted-forest, inserted-value, inserted-same}
use Rattle.ir_core_chains.proofs.definitions.insert_definition.Goals as goal

pub returns-clause-chains : goal.returns-clause-chains
returns-clause-chains g c =
    let t = c.args.records.now in
    let d = c.args.definer in
    let ok = is_ok c.insert.result in
    let is = c.insert.ensures ∙ ap (λ (rs : List Definition). cond ok (insert rs c.args.index (unused_definition c.args.number c.args.ty.place)) rs) c.definitions_mut.ensures.value in
    inserted-chains t d c.requires.live ok c.args.index c.args.number c.args.ty.place c.requires.new_number c.insert.new.self is

pub returns-clause-linked : goal.returns-clause-linked
returns-clause-linked g c linked = subst AreLinked (sym (returns-clause-chains g c)) linked

pub returns-clause-keeps : goal.returns-clause-keeps
returns-clause-keeps g c = keeps-written c.args.records.now c.args.definer c.insert.new.self

pub returns-clause-forest : goal.returns-clause-forest
returns-clause-forest g c =
    let t = c.args.records.now in
    let d = c.args.definer in
    let ok = is_ok c.insert.result in
    let is = c.insert.ensures ∙ ap (λ (rs : List Definition). cond ok (insert rs c.args.index (unused_definition c.args.number c.args.ty.place)) rs) c.definitions_mut.ensures.value in
    on_ok c.insert.result (inserted-forest t d c.requires.live ok c.args.index c.args.number c.args.ty.place c.requires.new_number c.insert.new.self is)

pub returns-clause-value : goal.returns-clause-value
returns-clause-value g c =
    let t = c.args.records.now in
    let d = c.args.definer in
    let ok = is_ok c.insert.result in
    let is = c.insert.ensures ∙ ap (λ (rs : List Definition). cond ok (insert rs c.args.index (unused_definition c.args.number c.args.ty.place)) rs) c.definitions_mut.ensures.value in
    on_ok c.insert.result (inserted-value t d c.requires.live ok c.args.index c.args.number c.args.ty.place c.requires.new_number c.insert.new.self is c.requires.within)

pub returns-clause-err : goal.returns-clause-err
returns-clause-err g c =
    let t = c.args.records.now in
    let d = c.args.definer in
    let ok = is_ok c.insert.result in
    let is = c.insert.ensures ∙ ap (λ (rs : List Definition). cond ok (insert rs c.args.index (unused_definition c.args.number c.args.ty.place)) rs) c.definitions_mut.ensures.value in
    on_err c.insert.result (inserted-same t d c.requires.live ok c.args.index c.args.number c.args.ty.place c.requires.new_number c.insert.new.self is)
