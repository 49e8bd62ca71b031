use Rattle.ir_text_names.specs.Firsts.{IsFirst}
use Rattle.ir_text_names.specs.Blocks.{AreBlocksNamed, NamesNoBlock}
use Rattle.ir_text_names.proofs.block_names.named.Given as goal

abbrev pub invariant-loop-at : goal.invariant-loop-at
invariant-loop-at l = record {
  table : AreBlocksNamed l.text l.rows l.at l.table;
  unknown : IsFirst (NamesNoBlock l.text l.rows) l.at l.unknown;
}
