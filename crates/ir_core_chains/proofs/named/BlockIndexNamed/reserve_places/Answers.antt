use Rattle.std.proofs.Common.{ap, ◌∙◌}
use Rattle.ir_core_records.specs.Table.{with_successors}
use Rattle.ir_core_chains.specs.TableLaws.{chain-blocks}
use Rattle.ir_core_chains.specs.WrittenLists.{successors-read, successors-written}
use Rattle.ir_core_chains.proofs.named.BlockIndexNamed.reserve_places.Goals as goal

pub returns : goal.returns
returns g c =
    successors-written c.args.records.now c.args.user c.from_index.result.index c.at_mut.result.now c.from_index.ensures c.at_mut.ensures.value c.reserve.new.self
    ∙ ap (with_successors c.args.records.now c.args.user) (c.reserve.ensures ∙ successors-read c.args.records.now c.args.user c.from_index.result.index c.at_mut.result.now c.from_index.ensures c.at_mut.ensures.value)
    ∙ chain-blocks.place_lists.self c.args.records.now c.args.user
