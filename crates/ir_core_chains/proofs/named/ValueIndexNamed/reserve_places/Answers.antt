use Rattle.std.proofs.Common.{ap, ◌∙◌}
use Rattle.ir_core_records.specs.Table.{with_operands}
use Rattle.ir_core_chains.specs.TableLaws.{chain-values}
use Rattle.ir_core_chains.specs.WrittenLists.{operands-read, operands-written}
use Rattle.ir_core_chains.proofs.named.ValueIndexNamed.reserve_places.Goals as goal

pub returns : goal.returns
returns g c =
    operands-written c.args.records.now c.args.user c.from_index.result.index c.at_mut.result.now c.from_index.ensures c.at_mut.ensures.value c.reserve.new.self
    ∙ ap (with_operands c.args.records.now c.args.user) (c.reserve.ensures.items ∙ operands-read c.args.records.now c.args.user c.from_index.result.index c.at_mut.result.now c.from_index.ensures c.at_mut.ensures.value)
    ∙ chain-values.place_lists.self c.args.records.now c.args.user
