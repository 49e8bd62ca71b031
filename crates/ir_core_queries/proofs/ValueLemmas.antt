-- What the records know of a value and of its uses, in the words of the forest.
use Rattle.std.proofs.Common.{◌≡◌, refl, sym, ap, subst, ◌∙◌, ℕ, ◌<◌, ◌==◌, ◌↔◌, inl, Bool, true, List, [], ◌∷◌, map, length, Some, None, slice_get, not, ◌≢◌, IsTrue, position, arith}
use Rattle.std.specs.Option.{option_map}
use Rattle.std.proofs.lemmas.Bool.{eq-eqb, ne_eqb}
use Rattle.std.proofs.lemmas.Option.{slice_get-map, same_Some}
use Rattle.ir_model.specs.ContextIds.{context_ids}
use Rattle.ir_model.specs.Forest.{Dialect, Forest, Value, Operand, Successor, Definition as PlainDefinition, Named, a_value, the_block}
use Rattle.ir_model.specs.Nesting.{In, WellFormed, definitions_of, operands_of, successors_of, definition_types_of}
use Rattle.ir_model.specs.Uses.{AreUses, IsOperandAt, IsSuccessorAt, IsUse, Use}
use Rattle.ir_model.proofs.Nests.{In-map, In-map_back}
use Rattle.ir_model.proofs.Back.{slice_get-in}
use Rattle.ir_core_records.specs.declared.record.ValueIndex.{ValueIndex}
use Rattle.ir_core_records.specs.declared.record.BlockIndex.{BlockIndex}
use Rattle.ir_core_records.specs.declared.record.UseIndex.{UseIndex}
use Rattle.ir_core_records.specs.declared.record.UsePlace.{UsePlace}
use Rattle.ir_core_records.specs.declared.record.Definition.{Definition}
use Rattle.ir_core_records.specs.declared.records.Records.{Records}
use Rattle.ir_core_records.specs.Meaning.{definition_of, forest_in, use_of, value_of}
use Rattle.ir_core_records.specs.Table.{definitions_at, operands_at, successors_at}
use Rattle.ir_core_records.specs.Values.{IsLiveBlockUse, IsLiveUse}
use Rattle.ir_core_records.specs.Found.{number-found, number-missing}
use Rattle.ir_core_records.specs.Meant.{definitions-meant, operands-meant, successors-meant}
use Rattle.ir_core_context.specs.Named.{operand_like, successor_like}
use Rattle.ir_core_queries.specs.Values.{IsOfType}

-- a place is found by its number where one has it, and what names it is what stands there
module _ {N P : Type 0} (meant : ℕ → N → P) (number_of : P → ℕ) (is_number : (n : ℕ) (v : N) → number_of (meant n v) ≡ n) (plain : List P) (places : List (UsePlace N)) (is : plain ≡ map (λ (a : UsePlace N). meant a.number a.names) places) where
  place-at : (i : ℕ) (a : UsePlace N) → slice_get places i ≡ Some a → slice_get plain i ≡ Some (meant a.number a.names)
  place-at i a e = ap (λ ps. slice_get ps i) is ∙ slice_get-map (λ (x : UsePlace N). meant x.number x.names) places i ∙ ap (option_map (λ (x : UsePlace N). meant x.number x.names)) e

  place-found : (n i : ℕ) → position (λ (a : UsePlace N). a.number == n) places ≡ Some i → (v : N) × (slice_get plain i ≡ Some (meant n v))
  place-found n i e =
      let p = number-found (λ (a : UsePlace N). a.number) places n i e in
      (p.0.names, place-at i p.0 p.1 ∙ ap (λ m. Some (meant m p.0.names)) p.2)

  place-missing : (n : ℕ) → position (λ (a : UsePlace N). a.number == n) places ≡ None → (p : P) → number_of p ≡ n → In p plain → ⊥
  place-missing n none p e h =
      let at = In-map_back (λ (x : UsePlace N). meant x.number x.names) p places (subst (In p) is h) in
      number-missing (λ (a : UsePlace N). a.number) places n none at.0 at.1 (sym (is_number at.0.number at.0.names) ∙ sym (ap number_of at.2) ∙ e)

  -- what stands at the place of a number has it
  place-named : (n i : ℕ) (p : P) (a : UsePlace N) → slice_get plain i ≡ Some p → number_of p ≡ n → slice_get places i ≡ Some a → In (meant n a.names) plain
  place-named n i p a h e at =
      let there = place-at i a at in
      let same : n ≡ a.number = sym e ∙ ap number_of (same_Some _ _ (sym h ∙ there)) ∙ is_number a.number a.names in
      subst (λ m. In (meant m a.names) plain) (sym same) (slice_get-in plain i (meant a.number a.names) there)

module _ {D A K B S X L : Type 0} (t : Records D A K B S X L) where
  -- the type of a value is that of its definition
  pub value-type : (v : ValueIndex) (r : Definition) (i : ℕ) → slice_get (definitions_at t v.definer) i ≡ Some r → r.number ≡ v.number → IsOfType (forest_in t) (value_of v) r.ty
  value-type v r i at n = record {
    definition = definition_of r;
    defined = subst (In (definition_of {A = A} {K = K} {B = B} {S = S} {X = X} {L = L} r)) (sym (definitions-meant t v.definer)) (In-map (definition_of {A = A} {K = K} {B = B} {S = S} {X = X} {L = L}) r (definitions_at t v.definer) (slice_get-in (definitions_at t v.definer) i r at));
    number = n;
    is = refl;
  }

  -- the operand with the number stands where it was found
  pub operand-found : (u : UseIndex) (i : ℕ) → position (λ (a : UsePlace ValueIndex). a.number == u.number) (operands_at t u.user) ≡ Some i → IsOperandAt (forest_in t) (use_of u) i
  operand-found u i e =
      let p = place-found operand_like (λ (q : Operand context_ids). q.use_number) (λ n v. refl) (operands_of (forest_in t) u.user) (operands_at t u.user) (operands-meant t u.user) u.number i e in
      (value_of p.0, p.1)

  pub operand-missing : (u : UseIndex) → position (λ (a : UsePlace ValueIndex). a.number == u.number) (operands_at t u.user) ≡ None → IsLiveUse (forest_in t) (use_of u) → ⊥
  operand-missing u none h =
      place-missing operand_like (λ (q : Operand context_ids). q.use_number) (λ n v. refl) (operands_of (forest_in t) u.user) (operands_at t u.user) (operands-meant t u.user) u.number none (record { use_number = u.number; value = h.0 }) refl h.1

  -- the operand at the place of a use names what the use is of
  pub operand-use : (u : UseIndex) (i : ℕ) (a : UsePlace ValueIndex) → IsOperandAt (forest_in t) (use_of u) i → slice_get (operands_at t u.user) i ≡ Some a → IsUse (forest_in t) (a_value (value_of a.names)) (use_of u)
  operand-use u i a h e =
      place-named operand_like (λ (q : Operand context_ids). q.use_number) (λ n v. refl) (operands_of (forest_in t) u.user) (operands_at t u.user) (operands-meant t u.user) u.number i (record { use_number = u.number; value = h.0 }) a h.1 refl e

  -- the same of successors
  pub successor-found : (u : UseIndex) (i : ℕ) → position (λ (a : UsePlace BlockIndex). a.number == u.number) (successors_at t u.user) ≡ Some i → IsSuccessorAt (forest_in t) (use_of u) i
  successor-found u i e =
      let p = place-found successor_like (λ (q : Successor context_ids). q.use_number) (λ n b. refl) (successors_of (forest_in t) u.user) (successors_at t u.user) (successors-meant t u.user) u.number i e in
      (p.0.index, p.1)

  pub successor-missing : (u : UseIndex) → position (λ (a : UsePlace BlockIndex). a.number == u.number) (successors_at t u.user) ≡ None → IsLiveBlockUse (forest_in t) (use_of u) → ⊥
  successor-missing u none h =
      place-missing successor_like (λ (q : Successor context_ids). q.use_number) (λ n b. refl) (successors_of (forest_in t) u.user) (successors_at t u.user) (successors-meant t u.user) u.number none (record { use_number = u.number; block = h.0 }) refl h.1

  pub successor-use : (u : UseIndex) (i : ℕ) (a : UsePlace BlockIndex) → IsSuccessorAt (forest_in t) (use_of u) i → slice_get (successors_at t u.user) i ≡ Some a → IsUse (forest_in t) (the_block a.names.index) (use_of u)
  successor-use u i a h e =
      place-named successor_like (λ (q : Successor context_ids). q.use_number) (λ n b. refl) (successors_of (forest_in t) u.user) (successors_at t u.user) (successors-meant t u.user) u.number i (record { use_number = u.number; block = h.0 }) a h.1 refl e

-- the type of a value is known
pub type-known : {W : Dialect} (f : Forest context_ids W) (keys : ℕ) (v : Value context_ids) (ty : ℕ) → WellFormed f keys → IsOfType f v ty → ty < keys
type-known {W} f keys v ty w h = w.known v.definer ty (subst (λ t. In t (definition_types_of f v.definer)) h.is (In-map (λ (x : PlainDefinition context_ids W). x.ty) h.definition (definitions_of f v.definer) h.defined))

-- a definition has a use exactly where the kept list has one
pub used-iff : {W : Dialect} (f : Forest context_ids W) (d : Named context_ids) (us : List UseIndex) (b : Bool) → AreUses f d (map use_of us) → b ≡ (length us == 0) → IsTrue (not b) ↔ ((u : Use context_ids) × IsUse f d u)
used-iff f d [] b are e = (λ h. absurd (let k : not true ≡ true = subst (λ x. not x ≡ true) (e ∙ eq-eqb 0 0 refl) h in cc), λ p. absurd (let k : In p.0 [] = (are.exact p.0).1 p.1 in k))
used-iff f d (u ∷ us) b are e =
    let n : length (u ∷ us) ≢ 0 = omega arith in
    (λ h. (use_of u, (are.exact (use_of u)).0 (inl refl)), λ p. subst (λ x. not x ≡ true) (sym (e ∙ ne_eqb (length (u ∷ us)) 0 n)) refl)
