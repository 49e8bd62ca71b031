-- What the record of a definition says of its given name.
use Rattle.std.proofs.Common.{refl, sym, subst}
use Rattle.std.specs.Option.{option_map}
use Rattle.ir_model.specs.Names.{IsGivenName}
use Rattle.ir_model.specs.Nesting.{In}
use Rattle.ir_model.proofs.Back.{slice_get-in}
use Rattle.ir_model.proofs.Nests.{In-map}
use Rattle.ir_core_records.specs.declared.record.Definition.{Definition}
use Rattle.ir_core_records.specs.declared.record.ValueIndex.{ValueIndex}
use Rattle.ir_core_records.specs.declared.records.Records.{Records}
use Rattle.ir_core_records.specs.Lists.{IsDefinition}
use Rattle.ir_core_records.specs.Meaning.{definition_of, forest_in, value_of}
use Rattle.ir_core_records.specs.Meant.{definitions-meant}
use Rattle.ir_core_records.specs.Table.{definitions_at}

-- a value was given the name that its definition keeps
pub given-name : {D A K B S X L : Type 0} (t : Records D A K B S X L) (v : ValueIndex) (r : Definition) → IsDefinition (definitions_at t v.definer) v.number r → IsGivenName (forest_in t) (value_of v) (option_map (λ b. b.value) r.name)
given-name {A = A} {K = K} {B = B} {S = S} {X = X} {L = L} t v r is =
    let plain = definition_of {A = A} {K = K} {B = B} {S = S} {X = X} {L = L} in
    (plain r, subst (In (plain r)) (sym (definitions-meant t v.definer)) (In-map plain r (definitions_at t v.definer) (slice_get-in (definitions_at t v.definer) is.0 r is.1)), is.2, refl)
