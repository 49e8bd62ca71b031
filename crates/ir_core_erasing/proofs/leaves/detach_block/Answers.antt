use Rattle.std.proofs.Common.{◌∙◌, sym}
use Rattle.ir_model.specs.Forest.{a_block}
use Rattle.ir_model.proofs.TwoRuns.{lawful}
use Rattle.ir_core_records.specs.Meaning.{forest_in}
use Rattle.ir_core_erasing.proofs.LeafForests.{block-unlinked}
use Rattle.ir_core_erasing.proofs.Walking.{no-parent}
use Rattle.ir_core_erasing.proofs.leaves.detach_block.Goals as goal

pub returns-else-is_some-clause-forest : goal.returns-else-is_some-clause-forest
returns-else-is_some-clause-forest g c =
    let f = forest_in c.args.records.now in
    sym (block-unlinked lawful f c.args.block (no-parent f (a_block c.args.block) c.parent_of.result (sym c.is_some.ensures ∙ c.if-is_some.false) c.parent_of.ensures))
