use Rattle.std.proofs.Common.{is_ok, cond, ◌++◌, ◌∷◌, [], List, ap, ◌∙◌}
use Rattle.ir_core_records.specs.declared.record.ValueIndex.{ValueIndex}
use Rattle.ir_core_records.specs.declared.record.UsePlace.{UsePlace}
use Rattle.ir_core_records.specs.Table.{operands_at, with_operands}
use Rattle.ir_core_chains.specs.TableLaws.{chain-values}
use Rattle.ir_core_chains.specs.WrittenLists.{pushed_or_same, operands-read, operands-written}
use Rattle.ir_core_chains.proofs.named.ValueIndexNamed.push_place.Goals as goal

pub returns : goal.returns
returns g c =
    let a : UsePlace ValueIndex = record { number = c.args.number; names = c.args.names; place = c.args.place } in
    let b = is_ok c.push.result in
    let items = rw c.new.ensures at c.push.ensures.items in
    pushed_or_same b (with_operands c.args.records.now c.args.user) (operands_at c.args.records.now c.args.user) c.push.new.self a c.args.records.now _
    (operands-written c.args.records.now c.args.user c.from_index.result.index c.at_mut-operation.result.now c.from_index.ensures c.at_mut-operation.ensures.value c.push.new.self)
    (items ∙ ap (λ (xs : List (UsePlace ValueIndex)). cond b (xs ++ a ∷ []) xs) (operands-read c.args.records.now c.args.user c.from_index.result.index c.at_mut-operation.result.now c.from_index.ensures c.at_mut-operation.ensures.value))
    (chain-values.place_lists.self c.args.records.now c.args.user)
