-- What the calls beside the edits and verification ask of a dialect, and what is refused by the kind of a type.
use Rattle.std.specs.Prelude.{◌≡◌, ◌≢◌, ℕ, Bool, true, false, List, Some, slice_get, if◌then◌else◌}
use Rattle.ir_model.specs.Ids.{Ids}
use Rattle.ir_model.specs.Forest.{Dialect, Behaviour, Forest}
use Rattle.ir_model.specs.Nesting.{regions_of}
use Rattle.ir_model.specs.Edits.{StoredType, The}

-- the kinds of attributes, type keys and saved data, and what is asked of kinds
pub record Kinds (W : Dialect) : Type 0 where
  pub attr_kind : W.Attr → ℕ
  pub type_kind : W.Key → ℕ
  -- the kind of type implements the interface
  pub type_impls : ℕ → ℕ → Bool
  pub saved_kind : W.Saved → ℕ
  pub same_saved : W.Saved → W.Saved → Bool
  -- the region at this index of an operation of this kind has SSA dominance
  pub dominates : ℕ → ℕ → Bool

-- operations of such a kind say which of their regions have SSA dominance
abbrev pub region_kind_interface : ℕ
region_kind_interface = 3

module _ {W : Dialect} where
  -- the answer for a region at an index of an operation of this kind: the dialect's where the kind says that it has one, and else yes
  abbrev pub dominance : Behaviour W → Kinds W → ℕ → ℕ → Bool
  dominance B K kind index = if B.op_impls kind region_kind_interface then K.dominates kind index else true

module _ {N : Ids} {W : Dialect} where
  -- the answer is that for the kind of the region's operation and the region's index there
  abbrev pub IsDominance : Behaviour W → Kinds W → Forest N W → N.Region → Bool → Type 0
  IsDominance B K f g answer = (o : N.Op) × ((index : ℕ) × (slice_get (regions_of f o) index ≡ Some g) × The (f.ops o) λ r. answer ≡ dominance B K r.kind index)

module _ {W : Dialect} (K : Kinds W) where
  -- the type under the handle is there and has this kind
  abbrev pub HasKind : List (StoredType W) → ℕ → ℕ → Type 0
  HasKind store t kind = The (slice_get store t) λ s. K.type_kind s.key ≡ kind

  -- a handle for the expected kind is refused: the type has another one, which is provided
  abbrev pub IsOtherKind : List (StoredType W) → ℕ → ℕ → ℕ → Type 0
  IsOtherKind store t expected provided = HasKind store t provided × (provided ≢ expected)

  -- the kind of the type under the handle implements the interface
  abbrev pub Implements : List (StoredType W) → ℕ → ℕ → Type 0
  Implements store t interface = (kind : ℕ) × HasKind store t kind × (K.type_impls kind interface ≡ true)

  -- a handle for the interface is refused: the type's kind, which is provided, does not implement it
  abbrev pub LacksInterface : List (StoredType W) → ℕ → ℕ → ℕ → Type 0
  LacksInterface store t interface provided = HasKind store t provided × (K.type_impls provided interface ≡ false)
