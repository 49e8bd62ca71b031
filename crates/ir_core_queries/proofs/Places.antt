-- The place of a region among those of its operation.
use Rattle.std.proofs.Common.{◌≡◌, ℕ, suc, List, [], ◌∷◌, map, slice_get, position, Option, Some, None, true, false, inl, inr, refl, sym, ap, ◌∙◌, subst}
use Rattle.std.specs.Option.{option_map}
use Rattle.std.proofs.lemmas.List.Quantifiers.{position-Some}
use Rattle.std.proofs.lemmas.Option.{slice_get-get_or, slice_get-map}
use Rattle.ir_model.specs.declared.ids.ArenaIndex.{ArenaIndex}
use Rattle.ir_model.specs.ContextIds.{context_ids, same_id}
use Rattle.ir_model.specs.Forest.{Dialect, Entity, Forest, OpRecord, a_region, an_op}
use Rattle.ir_model.specs.Nesting.{In, Nested, children, list_of, regions_of}
use Rattle.ir_model.specs.Parent.{IsIn, IsIndex}
use Rattle.ir_model.proofs.Back.{slice_get-in}
use Rattle.ir_model.proofs.IdCases.{id_same}
use Rattle.ir_model.proofs.Nests.{In-map_back}
use Rattle.ir_model.proofs.TwoRuns.{lawful}
use Rattle.ir_base_arenas.specs.Arena.{get}
use Rattle.ir_core_records.specs.declared.record.Operation.{Operation}
use Rattle.ir_core_records.specs.declared.records.Records.{Records}
use Rattle.ir_core_records.specs.Meaning.{closed, forest_in, op_record}
use Rattle.ir_core_records.specs.Numbered.{position-None}

pub place-of : {A : Type 0} (x : A) (xs : List A) → In x xs → (k : ℕ) × (slice_get xs k ≡ Some x)
place-of x [] h = absurd h
place-of x (y ∷ ys) (inl e) = (0, ap Some (sym e))
place-of x (y ∷ ys) (inr h) = let p = place-of x ys h in (suc p.0, p.1)

-- what was found is the item
pub found-item : (xs : List ArenaIndex) (item : ArenaIndex) (k : ℕ) → position (λ x. same_id x item) xs ≡ Some k → slice_get xs k ≡ Some item
found-item xs item k e =
    let p = position-Some (λ x. same_id x item) xs k item e in
    slice_get-get_or xs k item p.0 ∙ ap Some ((lawful.ops _ item).0 p.1)

-- an item of the list is found
pub missed-item : (xs : List ArenaIndex) (item : ArenaIndex) → position (λ x. same_id x item) xs ≡ None → In item xs → ⊥
missed-item xs item none h =
    let p = place-of item xs h in
    let out : same_id item item ≡ false = position-None (λ x. same_id x item) xs p.0 item none p.1 in
    let here : same_id item item ≡ true = id_same item in
    cc

-- the regions that the record of an operation has
pub regions-read : {D A K B S X L : Type 0} (t : Records D A K B S X L) (o : ArenaIndex) (op : Operation D A K B S X L) → get t.ops o ≡ Some op → regions_of (forest_in t) o ≡ op.regions
regions-read {D = D} {A = A} {K = K} {B = B} {S = S} {X = X} {L = L} t o op e =
    ap (λ (m : Option (Operation D A K B S X L)). list_of (λ (r : OpRecord context_ids (closed A K B S X L)). r.regions) (option_map op_record m)) e

module _ {W : Dialect} (f : Forest context_ids W) where
  region-at : (xs : List ArenaIndex) (k : ℕ) (g : ArenaIndex) → slice_get (map {B = Entity context_ids} a_region xs) k ≡ Some (a_region g) → slice_get xs k ≡ Some g
  region-at xs k g e = by (slice_get xs k) (sym (slice_get-map a_region xs k) ∙ e)
    where
      by : (o : Option ArenaIndex) → option_map {U = Entity context_ids} a_region o ≡ Some (a_region g) → o ≡ Some g
      by None h = absurd cc
      by (Some x) h = cc

  -- a region that stands in an operation is one of its regions
  pub region-in : (o g : ArenaIndex) → IsIn f (a_region g) (an_op o) → In g (regions_of f o)
  region-in o g h =
      let m = In-map_back a_region (a_region g) (regions_of f o) h in
      let same : g ≡ m.0 = (let e = m.2 in cc) in
      subst (λ z. In z (regions_of f o)) (sym same) m.1

  -- the index of a region is its place among the regions of its operation
  pub index-in : Nested f → (o g : ArenaIndex) (k : ℕ) → IsIn f (a_region g) (an_op o) → IsIndex f (a_region g) k → slice_get (regions_of f o) k ≡ Some g
  index-in nested o g k h at =
      let same : at.0 ≡ an_op o = nested.one_list (a_region g) at.0 (an_op o) (slice_get-in (children f at.0) k (a_region g) at.1) h in
      region-at (regions_of f o) k g (subst (λ y. slice_get (children f y) k ≡ Some (a_region g)) same at.1)

  pub index-of : (o g : ArenaIndex) (k : ℕ) → slice_get (regions_of f o) k ≡ Some g → IsIndex f (a_region g) k
  index-of o g k e = (an_op o, slice_get-map a_region (regions_of f o) k ∙ ap (option_map a_region) e)
