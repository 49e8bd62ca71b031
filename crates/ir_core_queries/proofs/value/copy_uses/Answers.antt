use Rattle.std.proofs.Common.{sym, ◌∙◌, ap, map}
use Rattle.std.proofs.lemmas.List.{take_all}
use Rattle.ir_core_records.specs.Meaning.{use_of}
use Rattle.ir_core_records.specs.Meant.{map-map}
use Rattle.ir_core_queries.proofs.value.copy_uses.Goals as goal

pub returns-clause-kept : goal.returns-clause-kept
returns-clause-kept g c =
    sym (map-map (λ u. u.index) use_of c.loop-used.uses.items)
    ∙ ap (map use_of) (c.loop-used.invariant ∙ take_all c.loop-used.used-index c.args.kept.now c.loop-used-test.false)
