use Rattle.ir_core_nesting.proofs.Relisted.{block-lists-tell}
use Rattle.ir_core_nesting.proofs.list_edits.recall_block_lists.Goals as goal

pub returns : goal.returns
returns g c = block-lists-tell c.lists_are_one.ensures c.lists_are_one-2.ensures c.edits_keep_fields.ensures c.edits_keep_fields-2.ensures c.edits_keep_ids.ensures c.edits_keep_ids-2.ensures
