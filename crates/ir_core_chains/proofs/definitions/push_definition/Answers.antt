use Rattle.std.proofs.Common.{is_ok, cond, List, length, sym, ap, subst, ◌∙◌, arith}
use Rattle.std.specs.List.{insert}
use Rattle.ir_core_records.specs.declared.record.Definition.{Definition}
use Rattle.ir_core_records.specs.Chains.{AreLinked}
use Rattle.ir_core_records.specs.DefinitionEdits.{unused_definition}
use Rattle.ir_core_chains.proofs.Written.{keeps-written}
use Rattle.ir_core_chains.proofs.Edits.{on_err, inserted-chains, pushed-forest, inserted-value, inserted-same}
use Rattle.ir_core_chains.proofs.definitions.push_definition.Goals as goal

pub returns-in_err-insert-clause-chains : goal.returns-in_err-insert-clause-chains
returns-in_err-insert-clause-chains g c =
    let t = c.args.records.now in
    let d = c.args.definer in
    let ok = is_ok c.insert.result in
    let is = c.insert.ensures ∙ ap (λ (rs : List Definition). cond ok (insert rs c.len-end.result (unused_definition c.args.number c.args.ty.place)) rs) c.definitions_mut-definitions.ensures.value in
    inserted-chains t d c.requires.live ok c.len-end.result c.args.number c.args.ty.place c.requires.new_number c.insert.new.self is

pub returns-in_err-insert-clause-linked : goal.returns-in_err-insert-clause-linked
returns-in_err-insert-clause-linked g c linked = subst AreLinked (sym (returns-in_err-insert-clause-chains g c)) linked

pub returns-in_err-insert-clause-keeps : goal.returns-in_err-insert-clause-keeps
returns-in_err-insert-clause-keeps g c = keeps-written c.args.records.now c.args.definer c.insert.new.self

pub returns-in_err-insert-clause-err : goal.returns-in_err-insert-clause-err
returns-in_err-insert-clause-err g c =
    let t = c.args.records.now in
    let d = c.args.definer in
    let ok = is_ok c.insert.result in
    let is = c.insert.ensures ∙ ap (λ (rs : List Definition). cond ok (insert rs c.len-end.result (unused_definition c.args.number c.args.ty.place)) rs) c.definitions_mut-definitions.ensures.value in
    on_err c.from_residual.result (λ _. inserted-same t d c.requires.live ok c.len-end.result c.args.number c.args.ty.place c.requires.new_number c.insert.new.self is (ap is_ok c.in_err-insert.was))

pub returns-clause-chains : goal.returns-clause-chains
returns-clause-chains g c =
    let t = c.args.records.now in
    let d = c.args.definer in
    let ok = is_ok c.insert.result in
    let is = c.insert.ensures ∙ ap (λ (rs : List Definition). cond ok (insert rs c.len-end.result (unused_definition c.args.number c.args.ty.place)) rs) c.definitions_mut-definitions.ensures.value in
    inserted-chains t d c.requires.live ok c.len-end.result c.args.number c.args.ty.place c.requires.new_number c.insert.new.self is

pub returns-clause-linked : goal.returns-clause-linked
returns-clause-linked g c linked = subst AreLinked (sym (returns-clause-chains g c)) linked

pub returns-clause-keeps : goal.returns-clause-keeps
returns-clause-keeps g c = keeps-written c.args.records.now c.args.definer c.insert.new.self

pub returns-clause-forest : goal.returns-clause-forest
returns-clause-forest g c =
    let t = c.args.records.now in
    let d = c.args.definer in
    let ok = is_ok c.insert.result in
    let is = c.insert.ensures ∙ ap (λ (rs : List Definition). cond ok (insert rs c.len-end.result (unused_definition c.args.number c.args.ty.place)) rs) c.definitions_mut-definitions.ensures.value in
    let end = c.len-end.ensures ∙ ap (λ (rs : List Definition). length rs) c.definitions_mut-definitions.ensures.value in
    pushed-forest t d c.requires.live ok c.len-end.result c.args.number c.args.ty.place c.requires.new_number c.insert.new.self is end (ap is_ok c.in_ok-insert.was)

pub returns-clause-value : goal.returns-clause-value
returns-clause-value g c =
    let t = c.args.records.now in
    let d = c.args.definer in
    let ok = is_ok c.insert.result in
    let is = c.insert.ensures ∙ ap (λ (rs : List Definition). cond ok (insert rs c.len-end.result (unused_definition c.args.number c.args.ty.place)) rs) c.definitions_mut-definitions.ensures.value in
    let end = c.len-end.ensures ∙ ap (λ (rs : List Definition). length rs) c.definitions_mut-definitions.ensures.value in
    inserted-value t d c.requires.live ok c.len-end.result c.args.number c.args.ty.place c.requires.new_number c.insert.new.self is (omega (arith, end)) (ap is_ok c.in_ok-insert.was)
