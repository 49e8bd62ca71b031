use Rattle.std.proofs.Common.{◌∙◌, sym}
use Rattle.ir_model.specs.Forest.{an_op}
use Rattle.ir_model.proofs.TwoRuns.{lawful}
use Rattle.ir_core_records.specs.Meaning.{forest_in}
use Rattle.ir_core_erasing.proofs.LeafForests.{op-unlinked}
use Rattle.ir_core_erasing.proofs.Walking.{no-parent}
use Rattle.ir_core_erasing.proofs.leaves.detach_operation.Goals as goal

pub returns-else-is_some-clause-forest : goal.returns-else-is_some-clause-forest
returns-else-is_some-clause-forest g c =
    let f = forest_in c.args.records.now in
    sym (op-unlinked lawful f c.args.op (no-parent f (an_op c.args.op) c.parent_of.result (sym c.is_some.ensures ∙ c.if-is_some.false) c.parent_of.ensures))
