use Rattle.std.proofs.Common.{slice_get, List, position, ◌==◌, sym, ap, ◌∙◌}
use Rattle.ir_core_records.specs.declared.record.BlockIndex.{BlockIndex}
use Rattle.ir_core_records.specs.declared.record.UsePlace.{UsePlace}
use Rattle.ir_core_records.specs.Lists.{put_place}
use Rattle.ir_core_records.specs.Table.{with_successors}
use Rattle.ir_core_records.specs.Numbered.{put_place-at, has_place-found}
use Rattle.ir_core_chains.specs.WrittenLists.{successors-read, successors-written}
use Rattle.ir_core_chains.proofs.named.BlockIndexNamed.set_place.Goals as goal

pub unreachable-requires : goal.unreachable-requires
unreachable-requires g c =
    let r = c.requires.has in
    let at = ap (λ (xs : List (UsePlace BlockIndex)). slice_get xs r.0) (successors-read c.args.records.now c.args.moved.user c.from_index.result.index c.at_mut.result.now c.from_index.ensures c.at_mut.ensures.value) ∙ r.2 in
    has_place-found c.at_mut.result.now.successors c.args.moved.number r.0 r.1 at r.3 (sym (c.find_successor_near.ensures ∙ ap (λ (xs : List (UsePlace BlockIndex)). position (λ a. a.number == c.args.moved.number) xs) c.as_slice.ensures) ∙ c.in-None.is)

pub returns : goal.returns
returns g c =
    successors-written c.args.records.now c.args.moved.user c.from_index.result.index c.at_mut.result.now c.from_index.ensures c.at_mut.ensures.value _
    ∙ ap (with_successors c.args.records.now c.args.moved.user)
    (put_place-at c.at_mut.result.now.successors c.args.moved.number c.args.index c.in-Some.found c.at_mut-in-Some.result.now c.at_mut-in-Some.ensures.value (sym (c.find_successor_near.ensures ∙ ap (λ (xs : List (UsePlace BlockIndex)). position (λ a. a.number == c.args.moved.number) xs) c.as_slice.ensures) ∙ c.in-Some.is)
    ∙ ap (λ (xs : List (UsePlace BlockIndex)). put_place xs c.args.moved.number c.args.index) (successors-read c.args.records.now c.args.moved.user c.from_index.result.index c.at_mut.result.now c.from_index.ensures c.at_mut.ensures.value))
