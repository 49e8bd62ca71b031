use Rattle.std.proofs.Common.{slice_get, List, position, ◌==◌, sym, ap, ◌∙◌}
use Rattle.ir_core_records.specs.declared.record.BlockIndex.{BlockIndex}
use Rattle.ir_core_records.specs.declared.record.UsePlace.{UsePlace}
use Rattle.ir_core_records.specs.Numbered.{has_place-found}
use Rattle.ir_core_chains.specs.WrittenLists.{successors-read}
use Rattle.ir_core_replacing.proofs.PlaceLemmas.{found_place}
use Rattle.ir_core_replacing.proofs.renames.BlockIndexRenames.place_of.Goals as goal

pub unreachable-requires : goal.unreachable-requires
unreachable-requires g c =
    let r = c.requires.has in
    let at = ap (λ (xs : List (UsePlace BlockIndex)). slice_get xs r.0) (successors-read c.args.records.now c.args.used.user c.from_index.result.index c.at.result.now c.from_index.ensures c.at.ensures) ∙ r.2 in
    has_place-found c.at.result.now.successors c.args.used.number r.0 r.1 at r.3 (sym (c.find_successor.ensures ∙ ap (λ (xs : List (UsePlace BlockIndex)). position (λ a. a.number == c.args.used.number) xs) c.as_slice.ensures) ∙ c.in-None.is)

pub returns : goal.returns
returns g c =
    found_place c.at.result.now.successors _ (successors-read c.args.records.now c.args.used.user c.from_index.result.index c.at.result.now c.from_index.ensures c.at.ensures) c.args.used.number c.in-Some.found c.at-in-Some.result.now
    (sym (c.find_successor.ensures ∙ ap (λ (xs : List (UsePlace BlockIndex)). position (λ a. a.number == c.args.used.number) xs) c.as_slice.ensures) ∙ c.in-Some.is) c.at-in-Some.ensures
