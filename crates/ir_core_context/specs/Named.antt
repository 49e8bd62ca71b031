-- What a live value is in the records, that what operands and successors name is live, and that what has no use is unnamed.
use Rattle.std.proofs.Common.{◌≡◌, sym, subst, ℕ, map, inl, inr}
use Rattle.ir_model.specs.declared.ids.ArenaIndex.{ArenaIndex}
use Rattle.ir_model.specs.ContextIds.{context_ids}
use Rattle.ir_model.specs.Edits.{Unused}
use Rattle.ir_model.specs.Forest.{Dialect, Forest, Named, Value, Operand, Successor, a_value, the_block}
use Rattle.ir_model.specs.Nesting.{In, IsLiveNamed, WellFormed, names_of, operands_of, successors_of}
use Rattle.ir_model.specs.Uses.{IsUse, Use}
use Rattle.ir_model.proofs.Nests.{In-append, In-left, In-right, In-map, In-map_back}
use Rattle.ir_core_records.specs.declared.record.ValueIndex.{ValueIndex}
use Rattle.ir_core_records.specs.declared.record.BlockIndex.{BlockIndex}
use Rattle.ir_core_records.specs.declared.record.Definition.{Definition}
use Rattle.ir_core_records.specs.declared.records.Records.{Records}
use Rattle.ir_core_records.specs.Found.{place-In}
use Rattle.ir_core_records.specs.Meaning.{forest_in, value_of}
use Rattle.ir_core_records.specs.Meant.{numbers-meant}
use Rattle.ir_core_records.specs.Table.{IsValue, definitions_at}

-- the operand that names this value, and the successor that names this block
abbrev pub operand_like : ℕ → ValueIndex → Operand context_ids
operand_like n v = record { use_number = n; value = value_of v }

abbrev pub successor_like : ℕ → BlockIndex → Successor context_ids
successor_like n b = record { use_number = n; block = b.index }

-- a live value is a result or an argument of what defines it
pub live-value : {D A K B S X L : Type 0} (t : Records D A K B S X L) (v : ValueIndex) → IsLiveNamed (forest_in t) (a_value (value_of v)) → IsValue t v
live-value t v h =
    let at = In-map_back (λ (r : Definition). r.number) v.number (definitions_at t v.definer) (subst (In v.number) (numbers-meant t v.definer) h) in
    let p = place-In (definitions_at t v.definer) at.0 at.1 in
    (p.0, at.0, p.1, sym at.2)

-- the user of a use names the value
pub use-names : {W : Dialect} (f : Forest context_ids W) (v : Value context_ids) (u : Use context_ids) → IsUse f (a_value v) u → In (a_value v) (names_of f u.user)
use-names f v u h = In-left (a_value v) (map (λ (p : Operand context_ids). a_value p.value) (operands_of f u.user)) _ (In-map (λ (p : Operand context_ids). a_value p.value) (record { use_number = u.number; value = v }) (operands_of f u.user) h)

-- nothing names a value that has no use
pub unused-value : {W : Dialect} (f : Forest context_ids W) (v : Value context_ids) → ((u : Use context_ids) × IsUse f (a_value v) u → ⊥) → Unused f (a_value v)
unused-value f v none o h = elim (In-append (a_value v) (map (λ (p : Operand context_ids). a_value p.value) (operands_of f o)) (map (λ (p : Successor context_ids). the_block p.block) (successors_of f o)) h) [
  | inl k ↦
      let at = In-map_back (λ (p : Operand context_ids). a_value p.value) (a_value v) (operands_of f o) k in
      let e : ◌≡◌ {A = Named context_ids} (a_value v) (a_value at.0.value) = at.2 in
      let same : v ≡ at.0.value = cc in
      none (record { user = o; number = at.0.use_number }, subst (λ z. In z (operands_of f o)) (λ i. record { use_number = at.0.use_number; value = sym same i }) at.1)
  | inr k ↦
      let at = In-map_back (λ (p : Successor context_ids). the_block p.block) (a_value v) (successors_of f o) k in
      let e : ◌≡◌ {A = Named context_ids} (a_value v) (the_block at.0.block) = at.2 in
      absurd cc
]

-- what a use names is live
pub use-live : {W : Dialect} (f : Forest context_ids W) (keys : ℕ) (v : Value context_ids) (u : Use context_ids) → WellFormed f keys → IsUse f (a_value v) u → IsLiveNamed f (a_value v)
use-live f keys v u w h = w.named u.user (a_value v) (use-names f v u h)

pub block-use-names : {W : Dialect} (f : Forest context_ids W) (b : ArenaIndex) (u : Use context_ids) → IsUse f (the_block b) u → In (the_block b) (names_of f u.user)
block-use-names f b u h = In-right (the_block b) (map (λ (p : Operand context_ids). a_value p.value) (operands_of f u.user)) _ (In-map (λ (p : Successor context_ids). the_block p.block) (record { use_number = u.number; block = b }) (successors_of f u.user) h)

pub block-use-live : {W : Dialect} (f : Forest context_ids W) (keys : ℕ) (b : ArenaIndex) (u : Use context_ids) → WellFormed f keys → IsUse f (the_block b) u → IsLiveNamed f (the_block b)
block-use-live f keys b u w h = w.named u.user (the_block b) (block-use-names f b u h)
