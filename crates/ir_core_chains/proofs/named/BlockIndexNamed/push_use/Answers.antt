use Rattle.std.proofs.Common.{is_ok, cond, ◌++◌, ◌∷◌, [], List, ap, ◌∙◌}
use Rattle.ir_core_records.specs.declared.record.UseIndex.{UseIndex}
use Rattle.ir_core_records.specs.Table.{block_uses_at, with_block_uses}
use Rattle.ir_core_chains.specs.TableLaws.{chain-blocks}
use Rattle.ir_core_chains.specs.WrittenLists.{pushed_or_same, block_uses-read, block_uses-written}
use Rattle.ir_core_chains.proofs.named.BlockIndexNamed.push_use.Goals as goal

pub returns-clause-records : goal.returns-clause-records
returns-clause-records g c =
    let b = is_ok c.push_use.result in
    pushed_or_same b (with_block_uses c.args.records.now c.args.named) (block_uses_at c.args.records.now c.args.named) c.push_use.new.uses c.args.new c.args.records.now _
    (block_uses-written c.args.records.now c.args.named c.from_index.result.index c.at_mut.result.now c.from_index.ensures c.at_mut.ensures.value c.push_use.new.uses)
    (c.push_use.ensures.uses ∙ ap (λ (us : List UseIndex). cond b (us ++ c.args.new ∷ []) us) (block_uses-read c.args.records.now c.args.named c.from_index.result.index c.at_mut.result.now c.from_index.ensures c.at_mut.ensures.value))
    (chain-blocks.use_lists.self c.args.records.now c.args.named)
