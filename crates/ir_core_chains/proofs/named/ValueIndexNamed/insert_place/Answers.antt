use Rattle.std.proofs.Common.{is_ok, cond, List, ap, ◌∙◌}
use Rattle.std.specs.List.{insert}
use Rattle.ir_core_records.specs.declared.record.ValueIndex.{ValueIndex}
use Rattle.ir_core_records.specs.declared.record.UsePlace.{UsePlace}
use Rattle.ir_core_records.specs.Table.{operands_at, with_operands}
use Rattle.ir_core_chains.specs.TableLaws.{chain-values}
use Rattle.ir_core_chains.specs.WrittenLists.{written_or_same, operands-read, operands-written}
use Rattle.ir_core_chains.proofs.named.ValueIndexNamed.insert_place.Goals as goal

pub returns : goal.returns
returns g c =
    let a : UsePlace ValueIndex = record { number = c.args.number; names = c.args.names; place = c.args.place } in
    let b = is_ok c.insert.result in
    let items = rw c.new.ensures at c.insert.ensures.items in
    let xs = operands_at c.args.records.now c.args.user in
    written_or_same b (with_operands c.args.records.now c.args.user) xs c.insert.new.self (insert xs c.args.index a) c.args.records.now _
    (operands-written c.args.records.now c.args.user c.from_index.result.index c.at_mut-operation.result.now c.from_index.ensures c.at_mut-operation.ensures.value c.insert.new.self)
    (items ∙ ap (λ (ys : List (UsePlace ValueIndex)). cond b (insert ys c.args.index a) ys) (operands-read c.args.records.now c.args.user c.from_index.result.index c.at_mut-operation.result.now c.from_index.ensures c.at_mut-operation.ensures.value))
    (chain-values.place_lists.self c.args.records.now c.args.user)
