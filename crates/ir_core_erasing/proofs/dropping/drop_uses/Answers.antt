use Rattle.std.proofs.Common.{[], sym, ap, ◌∙◌}
use Rattle.ir_model.specs.Changes.{on_op, on_successors}
use Rattle.ir_core_records.specs.Meaning.{entity_of, forest_in}
use Rattle.ir_core_erasing.specs.Dropping.{without_uses}
use Rattle.ir_core_erasing.proofs.Dropped.{both-cleared}
use Rattle.ir_core_erasing.proofs.dropping.drop_uses.Goals as goal

pub returns-in-Op-clause-forest : goal.returns-in-Op-clause-forest
returns-in-Op-clause-forest g c =
    let f = forest_in c.args.records.now in
    c.unlink_successors.ensures.forest ∙ ap (λ h. on_op h c.in-Op.op (on_successors (λ _. []))) c.unlink_operands.ensures.forest ∙ both-cleared f c.in-Op.op
    ∙ sym (ap (λ e. without_uses f (entity_of e)) c.in-Op.is)
