use Rattle.std.proofs.Common.{is_ok, cond, ◌++◌, ◌∷◌, [], List, ap, ◌∙◌}
use Rattle.ir_core_records.specs.declared.record.BlockIndex.{BlockIndex}
use Rattle.ir_core_records.specs.declared.record.UsePlace.{UsePlace}
use Rattle.ir_core_records.specs.Table.{successors_at, with_successors}
use Rattle.ir_core_chains.specs.TableLaws.{chain-blocks}
use Rattle.ir_core_chains.specs.WrittenLists.{pushed_or_same, successors-read, successors-written}
use Rattle.ir_core_chains.proofs.named.BlockIndexNamed.push_place.Goals as goal

pub returns : goal.returns
returns g c =
    let a : UsePlace BlockIndex = record { number = c.args.number; names = c.args.names; place = c.args.place } in
    let b = is_ok c.push.result in
    pushed_or_same b (with_successors c.args.records.now c.args.user) (successors_at c.args.records.now c.args.user) c.push.new.self a c.args.records.now _
    (successors-written c.args.records.now c.args.user c.from_index.result.index c.at_mut-operation.result.now c.from_index.ensures c.at_mut-operation.ensures.value c.push.new.self)
    (c.push.ensures ∙ ap (λ (xs : List (UsePlace BlockIndex)). cond b (xs ++ a ∷ []) xs) (successors-read c.args.records.now c.args.user c.from_index.result.index c.at_mut-operation.result.now c.from_index.ensures c.at_mut-operation.ensures.value))
    (chain-blocks.place_lists.self c.args.records.now c.args.user)
