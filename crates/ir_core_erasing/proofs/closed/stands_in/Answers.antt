use Rattle.std.proofs.Common.{◌≡◌, Some, sym, subst, ◌∙◌}
use Rattle.ir_model.specs.ContextIds.{context_ids}
use Rattle.ir_model.specs.Parent.{IsParent}
use Rattle.ir_model.proofs.KeepsErase.{same_tells}
use Rattle.ir_model.proofs.TwoRuns.{lawful}
use Rattle.ir_core_records.specs.Meaning.{entity_of, forest_in}
use Rattle.ir_core_erasing.proofs.closed.stands_in.Goals as goal

pub returns-in-Some : goal.returns-in-Some
returns-in-Some g c =
    λ one.
    let f = forest_in c.args.records.now in
    let parent : entity_of c.in-Some.parent ≡ entity_of c.args.outer = same_tells context_ids lawful (entity_of c.in-Some.parent) (entity_of c.args.outer) (sym c.are_one.ensures ∙ one) in
    subst (λ e. IsParent f (entity_of c.args.inner) (Some e)) parent c.in-Some.ensures
