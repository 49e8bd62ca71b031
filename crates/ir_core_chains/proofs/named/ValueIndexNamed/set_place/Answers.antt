use Rattle.std.proofs.Common.{slice_get, List, set, position, ◌==◌, sym, ap, ◌∙◌}
use Rattle.ir_core_records.specs.declared.record.ValueIndex.{ValueIndex}
use Rattle.ir_core_records.specs.declared.record.UsePlace.{UsePlace}
use Rattle.ir_core_records.specs.Lists.{put_place}
use Rattle.ir_core_records.specs.Table.{with_operands}
use Rattle.ir_core_records.specs.Numbered.{put_place-at, has_place-found}
use Rattle.ir_core_chains.specs.WrittenLists.{operands-read, operands-written}
use Rattle.ir_core_chains.proofs.named.ValueIndexNamed.set_place.Goals as goal

pub unreachable-requires : goal.unreachable-requires
unreachable-requires g c =
    let r = c.requires.has in
    let at = ap (λ (xs : List (UsePlace ValueIndex)). slice_get xs r.0) (operands-read c.args.records.now c.args.moved.user c.from_index.result.index c.at_mut.result.now c.from_index.ensures c.at_mut.ensures.value) ∙ r.2 in
    has_place-found c.at_mut.result.now.operands c.args.moved.number r.0 r.1 at r.3 (sym (c.find_operand_near.ensures ∙ ap (λ (xs : List (UsePlace ValueIndex)). position (λ a. a.number == c.args.moved.number) xs) c.as_slice.ensures) ∙ c.in-None.is)

pub returns : goal.returns
returns g c =
    operands-written c.args.records.now c.args.moved.user c.from_index.result.index c.at_mut.result.now c.from_index.ensures c.at_mut.ensures.value _
    ∙ ap (with_operands c.args.records.now c.args.moved.user)
    (ap (λ (x : UsePlace ValueIndex). set c.at_mut.result.now.operands c.in-Some.found x) c.set_rank.ensures
    ∙ put_place-at c.at_mut.result.now.operands c.args.moved.number c.args.index c.in-Some.found c.at_mut-in-Some.result.now c.at_mut-in-Some.ensures.value (sym (c.find_operand_near.ensures ∙ ap (λ (xs : List (UsePlace ValueIndex)). position (λ a. a.number == c.args.moved.number) xs) c.as_slice.ensures) ∙ c.in-Some.is)
    ∙ ap (λ (xs : List (UsePlace ValueIndex)). put_place xs c.args.moved.number c.args.index) (operands-read c.args.records.now c.args.moved.user c.from_index.result.index c.at_mut.result.now c.from_index.ensures c.at_mut.ensures.value))
