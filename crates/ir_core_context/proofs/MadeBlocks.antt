-- A block that was made is live, with as many arguments as were asked for.
use Rattle.std.proofs.Common.{◌≡◌, ℕ, List, [], length, map, Option, Some, is_some, refl, sym, ap, subst, ◌∙◌, inl, inr, arith}
use Rattle.std.specs.List.{zip}
use Rattle.std.specs.Option.{option_map}
use Rattle.std.proofs.lemmas.List.{length-map}
use Rattle.std.proofs.lemmas.Slice.Zip.{length-zip}
use Rattle.ir_model.specs.declared.ids.ArenaIndex.{ArenaIndex}
use Rattle.ir_model.specs.ContextIds.{context_ids, same_id}
use Rattle.ir_model.specs.Ids.{Counts}
use Rattle.ir_model.specs.Forest.{Dialect, BlockRecord, Forest, Text, a_block}
use Rattle.ir_model.specs.Changes.{definition}
use Rattle.ir_model.specs.Nesting.{IsLive}
use Rattle.ir_model.specs.Sessions.{Session}
use Rattle.ir_model.proofs.KeepsNew.{put_at}
use Rattle.ir_model.proofs.TwoRuns.{id_tells}
use Rattle.ir_core_context.specs.Calls.{HasArguments, MakesBlock}

module _ {W : Dialect} {unknown : W.Loc} {old new : Session W} {id : ArenaIndex} {label : Option Text} {types : List ℕ} (m : MakesBlock unknown old new id label types) where
  abbrev the_record : BlockRecord context_ids W
  the_record = record { label = label; arguments = map definition (zip m.fresh.numbers types); ops = []; attributes = []; loc = unknown }

  found : new.state.forest.blocks id ≡ Some the_record
  found = subst (λ (f : Forest context_ids W). f.blocks id ≡ Some the_record) (sym m.forest) (elim (put_at same_id id_tells id the_record old.state.forest.blocks id) [ inl e ↦ e.1 | inr e ↦ absurd (e.0 refl) ])

  pub made-block-live : IsLive new.state.forest (a_block id)
  made-block-live = ap is_some found

  pub made-block-arguments : HasArguments new.state.forest id (length types)
  made-block-arguments =
      let enough : length m.fresh.numbers ≡ length types = ap (λ (c : Counts). c.numbers) m.handed.enough in
      let zipped = length-zip m.fresh.numbers types in
      let mapped = length-map (zip m.fresh.numbers types) (definition {N = context_ids} {W = W}) in
      let count : length the_record.arguments ≡ length types = omega (arith, enough, zipped, mapped) in
      ap (option_map (λ (r : BlockRecord context_ids W). length r.arguments)) found ∙ ap Some count
