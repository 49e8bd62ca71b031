use Rattle.std.proofs.Common.{is_ok, cond, ◌++◌, List, ap, ◌∙◌}
use Rattle.ir_core_records.specs.declared.record.UseIndex.{UseIndex}
use Rattle.ir_core_records.specs.Table.{block_uses_at, with_block_uses}
use Rattle.ir_core_chains.specs.TableLaws.{chain-blocks}
use Rattle.ir_core_chains.specs.WrittenLists.{written_or_same, block_uses-read, block_uses-written}
use Rattle.ir_core_replacing.proofs.renames.BlockIndexRenames.append_uses.Goals as goal

pub returns : goal.returns
returns g c =
    let b = is_ok c.extend.result in
    written_or_same b (with_block_uses c.args.records.now c.args.named) (block_uses_at c.args.records.now c.args.named) c.extend.new.self (block_uses_at c.args.records.now c.args.named ++ c.args.uses.now) c.args.records.now _
    (block_uses-written c.args.records.now c.args.named c.from_index.result.index c.at_mut-block.result.now c.from_index.ensures c.at_mut-block.ensures.value c.extend.new.self)
    (c.extend.ensures.items ∙ ap (λ (us : List UseIndex). cond b (us ++ c.args.uses.now) us) (block_uses-read c.args.records.now c.args.named c.from_index.result.index c.at_mut-block.result.now c.from_index.ensures c.at_mut-block.ensures.value))
    (chain-blocks.use_lists.self c.args.records.now c.args.named)
