use Rattle.std.proofs.Common.{is_ok, cond, ◌++◌, List, ap, ◌∙◌}
use Rattle.ir_core_records.specs.declared.record.UseIndex.{UseIndex}
use Rattle.ir_core_records.specs.Table.{uses_at, with_uses}
use Rattle.ir_core_chains.specs.TableLaws.{chain-values}
use Rattle.ir_core_chains.specs.WrittenLists.{written_or_same, result_uses-read, result_uses-written, argument_uses-read, argument_uses-written}
use Rattle.ir_core_replacing.proofs.renames.ValueIndexRenames.append_uses.Goals as goal

pub returns-in-Op : goal.returns-in-Op
returns-in-Op g c =
    let b = is_ok c.extend.result in
    written_or_same b (with_uses c.args.records.now c.args.named) (uses_at c.args.records.now c.args.named) c.extend.new.self (uses_at c.args.records.now c.args.named ++ c.args.uses.now) c.args.records.now _
    (result_uses-written c.args.records.now c.in-Op.op c.from_index.result.index c.at_mut-operation.result.now c.from_index.ensures c.at_mut-operation.ensures.value c.args.named c.extend.new.self c.in-Op.is)
    (c.extend.ensures.items ∙ ap (λ (us : List UseIndex). cond b (us ++ c.args.uses.now) us) (c.uses_mut.ensures.value ∙ result_uses-read c.args.records.now c.in-Op.op c.from_index.result.index c.at_mut-operation.result.now c.from_index.ensures c.at_mut-operation.ensures.value c.args.named c.in-Op.is))
    (chain-values.use_lists.self c.args.records.now c.args.named)

pub returns-in-Block : goal.returns-in-Block
returns-in-Block g c =
    let b = is_ok c.extend-in-Block.result in
    written_or_same b (with_uses c.args.records.now c.args.named) (uses_at c.args.records.now c.args.named) c.extend-in-Block.new.self (uses_at c.args.records.now c.args.named ++ c.args.uses.now) c.args.records.now _
    (argument_uses-written c.args.records.now c.in-Block.block c.from_index-in-Block.result.index c.at_mut-block.result.now c.from_index-in-Block.ensures c.at_mut-block.ensures.value c.args.named c.extend-in-Block.new.self c.in-Block.is)
    (c.extend-in-Block.ensures.items ∙ ap (λ (us : List UseIndex). cond b (us ++ c.args.uses.now) us) (c.uses_mut-in-Block.ensures.value ∙ argument_uses-read c.args.records.now c.in-Block.block c.from_index-in-Block.result.index c.at_mut-block.result.now c.from_index-in-Block.ensures c.at_mut-block.ensures.value c.args.named c.in-Block.is))
    (chain-values.use_lists.self c.args.records.now c.args.named)
