use Rattle.std.proofs.Common.{◌-◌, List, length, slice_get, sym, ap, subst, ◌∙◌}
use Rattle.std.specs.List.{remove}
use Rattle.ir_core_records.specs.declared.record.Definition.{Definition}
use Rattle.ir_core_records.specs.Chains.{AreLinked}
use Rattle.ir_core_records.specs.Lists.{HaveDistinctNumbers}
use Rattle.ir_core_records.specs.Table.{definitions_at}
use Rattle.ir_core_chains.proofs.Written.{keeps-written}
use Rattle.ir_core_chains.proofs.Edits.{removed-chains, popped-forest}
use Rattle.ir_core_chains.proofs.definitions.pop_definition.Goals as goal

pub returns-clause-chains : goal.returns-clause-chains
returns-clause-chains g c =
    let t = c.args.records.now in
    let d = c.args.definer in
    let here = c.definitions_mut-definitions.ensures.value in
    let is = c.remove.ensures.items ∙ ap (λ (rs : List Definition). remove rs (c.len-last.result - 1)) here in
    let at = ap (λ (rs : List Definition). slice_get rs (c.len-last.result - 1)) (sym here) ∙ c.remove.ensures.value in
    let last = ap (λ n. n - 1) (c.len-last.ensures ∙ ap (λ (rs : List Definition). length rs) here) in
    let at_last = ap (slice_get (definitions_at t d)) (sym last) ∙ at in
    removed-chains t d c.requires.live (c.len-last.result - 1) c.remove.result (subst HaveDistinctNumbers here c.remove.ensures.distinct) at (c.requires.unused c.remove.result at_last) c.remove.new.self is

pub returns-clause-linked : goal.returns-clause-linked
returns-clause-linked g c linked = subst AreLinked (sym (returns-clause-chains g c)) linked

pub returns-clause-keeps : goal.returns-clause-keeps
returns-clause-keeps g c = keeps-written c.args.records.now c.args.definer c.remove.new.self

pub returns-clause-forest : goal.returns-clause-forest
returns-clause-forest g c =
    let t = c.args.records.now in
    let d = c.args.definer in
    let here = c.definitions_mut-definitions.ensures.value in
    let is = c.remove.ensures.items ∙ ap (λ (rs : List Definition). remove rs (c.len-last.result - 1)) here in
    let last = ap (λ n. n - 1) (c.len-last.ensures ∙ ap (λ (rs : List Definition). length rs) here) in
    popped-forest t d c.requires.live (c.len-last.result - 1) c.remove.new.self is last
