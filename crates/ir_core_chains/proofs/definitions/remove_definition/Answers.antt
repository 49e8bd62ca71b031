use Rattle.std.proofs.Common.{List, slice_get, sym, ap, subst, ◌∙◌}
use Rattle.std.specs.List.{remove}
use Rattle.ir_core_records.specs.declared.record.Definition.{Definition}
use Rattle.ir_core_records.specs.Chains.{AreLinked}
use Rattle.ir_core_records.specs.Lists.{HaveDistinctNumbers}
use Rattle.ir_core_chains.proofs.Written.{keeps-written}
use Rattle.ir_core_chains.proofs.Edits.{removed-chains, removed-forest}
use Rattle.ir_core_chains.proofs.definitions.remove_definition.Goals as goal

pub returns-clause-chains : goal.returns-clause-chains
returns-clause-chains g c =
    let t = c.args.records.now in
    let d = c.args.definer in
    let here = c.definitions_mut.ensures.value in
    let is = c.remove.ensures.items ∙ ap (λ (rs : List Definition). remove rs (c.args.index)) here in
    let at = ap (λ (rs : List Definition). slice_get rs (c.args.index)) (sym here) ∙ c.remove.ensures.value in
    removed-chains t d c.requires.live (c.args.index) c.remove.result (subst HaveDistinctNumbers here c.remove.ensures.distinct) at (c.requires.unused c.remove.result at) c.remove.new.self is

pub returns-clause-linked : goal.returns-clause-linked
returns-clause-linked g c linked = subst AreLinked (sym (returns-clause-chains g c)) linked

pub returns-clause-keeps : goal.returns-clause-keeps
returns-clause-keeps g c = keeps-written c.args.records.now c.args.definer c.remove.new.self

pub returns-clause-forest : goal.returns-clause-forest
returns-clause-forest g c =
    let t = c.args.records.now in
    let d = c.args.definer in
    let here = c.definitions_mut.ensures.value in
    let is = c.remove.ensures.items ∙ ap (λ (rs : List Definition). remove rs (c.args.index)) here in
    removed-forest t d c.requires.live (c.args.index) c.remove.new.self is
