use Rattle.std.proofs.Common.{subst}
use Rattle.ir_core_records.specs.declared.record.EntityIndex.{EntityIndex}
use Rattle.ir_core_records.specs.Meaning.{entity_of, forest_in}
use Rattle.ir_core_erasing.specs.Dropping.{Bare, Unnamed}
use Rattle.ir_core_erasing.proofs.leaves.remove_leaf.Goals as goal

pub remove_operation-requires-clause-bare : goal.remove_operation-requires-clause-bare
remove_operation-requires-clause-bare g c = subst (λ (e : EntityIndex). Bare (forest_in c.args.records.now) (entity_of e)) c.in-Op.is c.requires.bare

pub remove_operation-requires-clause-unnamed : goal.remove_operation-requires-clause-unnamed
remove_operation-requires-clause-unnamed g c = subst (λ (e : EntityIndex). Unnamed (forest_in c.args.records.now) (entity_of e)) c.in-Op.is c.requires.unnamed

pub remove_block-requires-clause-unnamed : goal.remove_block-requires-clause-unnamed
remove_block-requires-clause-unnamed g c = subst (λ (e : EntityIndex). Unnamed (forest_in c.args.records.now) (entity_of e)) c.in-Block.is c.requires.unnamed
