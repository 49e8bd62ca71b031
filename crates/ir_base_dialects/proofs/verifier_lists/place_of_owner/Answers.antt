use Rattle.std.proofs.Common.{rules, ◌≡◌, nat_eq, true, false, refl, sym, ap, ◌∙◌, is_some}
use Rattle.std.proofs.lemmas.Cmp.{nat_eq_equiv}
use Rattle.indexmap.specs.IndexMap.{get}
use Rattle.indexmap.specs.Entry.{entry_index, entry_map, map_with_value}
use Rattle.ir_base_dialects.specs.VerifierGroups.{with_owner}
use Rattle.ir_base_dialects.proofs.StoreLemmas.{index-place_of}
use Rattle.ir_base_dialects.proofs.GroupLemmas.{owner-there, owner-new, owner_within_at}
use Rattle.ir_base_dialects.proofs.verifier_lists.place_of_owner.Goals as goal

pub returns-in-Occupied-clause-groups : goal.returns-in-Occupied-clause-groups
returns-in-Occupied-clause-groups c =
    let there : true ≡ is_some (get nat_eq c.args.groups.now c.args.owner) = search (rules, c.in_ok-entry.ensures.found, c.in-Occupied.is) in
    let same : c.in-Occupied.entry.map.now.entries ≡ with_owner c.args.groups.now.entries c.args.owner
    = ap (λ m. m.entries) (sym (ap entry_map c.in-Occupied.is)) ∙ c.in_ok-entry.ensures.unchanged ∙ owner-there c.args.groups.now c.args.owner there in
    search (rules, c.in_ok-entry.ensures.same_map, c.in-Occupied.is, same)

pub returns-in-Vacant-clause-place : goal.returns-in-Vacant-clause-place
returns-in-Vacant-clause-place c =
    c.index-place.ensures ∙ sym (ap entry_index c.in-Vacant.is) ∙ c.in_ok-entry.ensures.index
    ∙ index-place_of nat_eq nat_eq_equiv c.args.groups.now c.args.groups.now.entries c.args.owner refl

pub returns-in-Vacant-clause-groups : goal.returns-in-Vacant-clause-groups
returns-in-Vacant-clause-groups c =
    let absent : false ≡ is_some (get nat_eq c.args.groups.now c.args.owner) = search (rules, c.in_ok-entry.ensures.found, c.in-Vacant.is) in
    let added : (map_with_value c.in_ok-entry.field-0 c.insert.result.now).entries ≡ with_owner c.args.groups.now.entries c.args.owner
    = owner-new c.args.groups.now c.args.owner absent c.insert.result.now (c.insert.ensures.value ∙ c.new.ensures) (map_with_value c.in_ok-entry.field-0 c.insert.result.now).entries
    (c.in_ok-entry.ensures.update.1 c.insert.result.now) in
    search (rules, c.in_ok-entry.ensures.same_map, c.in-Vacant.is, added)

pub returns-in-Vacant-clause-within : goal.returns-in-Vacant-clause-within
returns-in-Vacant-clause-within c =
    owner_within_at c.args.groups.now.entries c.args.owner (returns-in-Vacant-clause-groups c) (returns-in-Vacant-clause-place c)
