use Rattle.std.proofs.Common.{rules, ◌≡◌, true, false, sym, ap, ◌∙◌, is_some, subst}
use Rattle.std.specs.Map.{keys_of}
use Rattle.std.proofs.lemmas.Result.{on_ok_weaker}
use Rattle.indexmap.specs.IndexMap.{get}
use Rattle.indexmap.specs.Entry.{entry_index, entry_map, map_with_value}
use Rattle.ir_base_dialects.specs.Stores.{Stores}
use Rattle.ir_base_dialects.proofs.StoreLemmas.{has_key-get, index-place_of, keys-Stores, Stores-there, Stores-new}
use Rattle.ir_model.specs.Edits.{place_of}
use Rattle.ir_base_dialects.proofs.type_store.TypeStore.get_or_insert.Goals.{in-Occupied, in-Vacant}
use Rattle.ir_base_dialects.proofs.type_store.TypeStore.get_or_insert.Goals as goal

pub returns-in_err-entry-clause-only_new : goal.returns-in_err-entry-clause-only_new
returns-in_err-entry-clause-only_new g c =
    let absent = has_key-get g.K.PartialEq.eq g.met.K.Eq.laws c.self.inside.pairs c.args.self.now c.args.key c.self.view_is ∙ ap is_some c.in_err-entry.ensures.absent in
    search (rules, absent)

pub returns-clause-place : goal.returns-clause-place
returns-clause-place g c =
    let index = c.in_ok-entry.ensures.index ∙ index-place_of g.K.PartialEq.eq g.met.K.Eq.laws c.self.inside.pairs c.args.self.now c.args.key c.self.view_is in
    elim c.match-branch-2.branch [
      | in-Occupied w ↦
          let place : w.index.result ≡ place_of g.K.PartialEq.eq (keys_of c.args.self.now) c.args.key = w.index.ensures ∙ sym (ap entry_index w.in-Occupied.is) ∙ index in
          search (rules, place, w.result-is)
      | in-Vacant w ↦
          let place : w.index-place.result ≡ place_of g.K.PartialEq.eq (keys_of c.args.self.now) c.args.key = w.index-place.ensures ∙ sym (ap entry_index w.in-Vacant.is) ∙ index in
          search (rules, place, w.result-is)
    ]

pub returns-clause-stored : goal.returns-clause-stored
returns-clause-stored g c =
    elim c.match-branch-2.branch [
      | in-Occupied w ↦
          let rests : c.match-branch-2.self-inside.pairs ≡ w.in-Occupied.entry.map.now = search (rules, c.in_ok-entry.ensures.same_map, w.in-Occupied.is) in
          let there : true ≡ is_some (get g.K.PartialEq.eq c.self.inside.pairs c.args.key) = search (rules, c.in_ok-entry.ensures.found, w.in-Occupied.is) in
          let same : c.match-branch-2.self-inside.pairs.entries ≡ c.args.self.now = ap (λ m. m.entries) (rests ∙ sym (ap entry_map w.in-Occupied.is)) ∙ c.in_ok-entry.ensures.unchanged ∙ c.self.view_is in
          let stored = subst (Stores g.K.PartialEq.eq g.B.Default.is_default c.args.self.now c.args.key) (sym same) (Stores-there g.K.PartialEq.eq g.met.K.Eq.laws c.self.inside.pairs c.args.self.now c.args.key c.self.view_is there g.B.Default.is_default) in
          search (rules, stored, w.result-is)
      | in-Vacant w ↦
          let written : c.match-branch-2.self-inside.pairs ≡ map_with_value c.in_ok-entry.field-0 w.insert.result.now = search (rules, c.in_ok-entry.ensures.same_map, w.in-Vacant.is) in
          let absent : false ≡ is_some (get g.K.PartialEq.eq c.self.inside.pairs c.args.key) = search (rules, c.in_ok-entry.ensures.found, w.in-Vacant.is) in
          let inserted = ap (λ m. m.entries) written ∙ c.in_ok-entry.ensures.update.1 w.insert.result.now in
          let first = subst g.B.Default.is_default (sym w.insert.ensures.value) w.default.ensures in
          let stored = Stores-new g.K.PartialEq.eq g.met.K.Eq.laws c.self.inside.pairs c.args.self.now c.args.key c.self.view_is absent w.insert.result.now c.match-branch-2.self-inside.pairs.entries inserted g.B.Default.is_default first in
          search (rules, stored, w.result-is)
    ]

pub returns-clause-keys : goal.returns-clause-keys
returns-clause-keys g c =
    on_ok_weaker c.match-branch-2.result (keys-Stores g.K.PartialEq.eq g.B.Default.is_default c.args.self.now c.args.key c.match-branch-2.self-inside.pairs.entries) (returns-clause-stored g c)
