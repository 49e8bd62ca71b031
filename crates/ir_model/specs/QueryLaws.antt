-- Laws of what is asked of blocks, values, regions and handles.
use Rattle.std.specs.Prelude.{◌≡◌, ◌↔◌, ℕ, ◌<◌, Bool, true, false, List, length, Option, Some, None, IsSome, slice_get}
use Rattle.std.specs.Option.{option_map}
use Rattle.ir_model.specs.declared.ids.ArenaIndex.{ArenaIndex}
use Rattle.ir_model.specs.ContextIds.{context_ids}
use Rattle.ir_model.specs.Forest.{Text, Dialect, Behaviour, Forest, Value, of_op, of_block, an_op, a_block, a_region, a_value, the_block}
use Rattle.ir_model.specs.Nesting.{In, IsLiveNamed, WellFormed, regions_of}
use Rattle.ir_model.specs.Edits.{StoredType, type_place, with_type, UsersLinked}
use Rattle.ir_model.specs.Uses.{Use, AreUses}
use Rattle.ir_model.specs.Parent.{IsParent}
use Rattle.ir_model.specs.BlockGraph.{HasPredecessor, IsPredecessor, ArePredecessors}
use Rattle.ir_model.specs.Calls.{HasType, HasName}
use Rattle.ir_model.specs.Names.{IsGivenName}
use Rattle.ir_model.specs.Predecessors.{ArePredecessorsBy, IsPredecessorAt}
use Rattle.ir_model.specs.ValueParents.{IsParentBlock, IsParentRegion}
use Rattle.ir_model.specs.Kinds.{Kinds, region_kind_interface, IsDominance, HasKind, IsOtherKind, Implements, LacksInterface}
use Rattle.ir_model.specs.Saved.{set_body}

module _ {W : Dialect} (f : Forest context_ids W) where
  -- by one list of the uses of b there is one list of predecessors, which has the block of each user at the place of its use
  pub record PredecessorsInOrder (b : ArenaIndex) (uses : List (Use context_ids)) : Type 0 where
    pub some_order : (blocks : List ArenaIndex) → ArePredecessorsBy f b uses blocks → ArePredecessors f b blocks
    pub one : (blocks others : List ArenaIndex) → ArePredecessorsBy f b uses blocks → ArePredecessorsBy f b uses others → blocks ≡ others
    pub as_many : (blocks : List ArenaIndex) → ArePredecessorsBy f b uses blocks → length blocks ≡ length uses
    pub at : (blocks : List ArenaIndex) (index : ℕ) (a : ArenaIndex) → ArePredecessorsBy f b uses blocks → (slice_get blocks index ≡ Some a) ↔ IsPredecessorAt f uses index a
    pub there : UsersLinked f b → AreUses f (the_block b) uses → (blocks : List ArenaIndex) × ArePredecessorsBy f b uses blocks

  -- in whatever order, the listed predecessors are those blocks that some operation in them names b, and there is one where b has a use
  pub record PredecessorsAgree (b : ArenaIndex) (blocks : List ArenaIndex) : Type 0 where
    pub each : (a : ArenaIndex) → In a blocks ↔ IsPredecessor f b a
    pub some : HasPredecessor f b ↔ ((a : ArenaIndex) × In a blocks)

  -- an argument's block is its block, a result's is its operation's parent, and the region is the block's parent
  pub record ValuesHaveParents (v : Value context_ids) : Type 0 where
    pub argument : (b : ArenaIndex) (answer : Option ArenaIndex) → v.definer ≡ of_block b → IsParentBlock f v answer ↔ (answer ≡ Some b)
    pub of_result : (o : ArenaIndex) (answer : Option ArenaIndex) → v.definer ≡ of_op o → IsParentBlock f v answer ↔ IsParent f (an_op o) (option_map a_block answer)
    pub region : (b : ArenaIndex) (answer : Option ArenaIndex) → IsParentBlock f v (Some b) → IsParentRegion f v answer ↔ IsParent f (a_block b) (option_map a_region answer)
    pub no_region : (answer : Option ArenaIndex) → IsParentBlock f v None → IsParentRegion f v answer ↔ (answer ≡ None)

  -- each live region has one answer, and it is yes where the kind of its operation does not ask the dialect
  pub record DominanceIsOne (B : Behaviour W) (K : Kinds W) (g : ArenaIndex) : Type 0 where
    pub there : IsSome (f.regions g) → (answer : Bool) × IsDominance B K f g answer
    pub one : (answer other : Bool) → IsDominance B K f g answer → IsDominance B K f g other → answer ≡ other
    pub plain : (o : ArenaIndex) (answer : Bool) → In g (regions_of f o) → option_map (λ r. B.op_impls r.kind region_kind_interface) (f.ops o) ≡ Some false → IsDominance B K f g answer → answer ≡ true

  -- a live value has one type, which is known, and was given one name or none
  pub record ValueIsTold (keys : ℕ) (v : Value context_ids) : Type 0 where
    pub there : IsLiveNamed f (a_value v) → ((ty : ℕ) × HasType f v ty) × ((name : Option Text) × HasName f v name)
    pub one_type : (ty other : ℕ) → HasType f v ty → HasType f v other → ty ≡ other
    pub known : (ty : ℕ) → HasType f v ty → ty < keys
    pub one_name : (name other : Option Text) → HasName f v name → HasName f v other → name ≡ other
    -- it is what the unique name is made of
    pub given : (name : Option Text) → HasName f v name ↔ IsGivenName f v name

-- the handle that a key is given is of the key's kind, and what was known keeps its kind
pub record MadeHaveTheirKind {W : Dialect} (B : Behaviour W) (K : Kinds W) (store : List (StoredType W)) (key : W.Key) : Type 0 where
  pub made : HasKind K (with_type B store key) (type_place B store key) (K.type_kind key)
  pub stay : (t kind : ℕ) → HasKind K store t kind → HasKind K (with_type B store key) t kind

module _ {W : Dialect} (K : Kinds W) (store : List (StoredType W)) (t : ℕ) where
  -- a known type has one kind, and a handle for a kind or an interface is refused exactly where it could not be given; bodies play no part
  pub record HandlesAreTold : Type 0 where
    pub one : (kind other : ℕ) → HasKind K store t kind → HasKind K store t other → kind ≡ other
    pub typed : (kind : ℕ) → (HasKind K store t kind → ⊥) ↔ ((provided : ℕ) × IsOtherKind K store t kind provided)
    pub implementing : (interface : ℕ) → (Implements K store t interface → ⊥) ↔ ((provided : ℕ) × LacksInterface K store t interface provided)
    pub bodies : (place kind : ℕ) (body : W.Body) → HasKind K (set_body store place body) t kind ↔ HasKind K store t kind

module _ (W : Dialect) where
  -- in every well-formed forest predecessors have the order of the uses
  pub record PredecessorsFollowUses : Type 0 where
    pub in_order : (f : Forest context_ids W) (keys : ℕ) (b : ArenaIndex) (uses : List (Use context_ids)) → WellFormed f keys → PredecessorsInOrder f b uses
    pub agree : (f : Forest context_ids W) (keys : ℕ) (b : ArenaIndex) (blocks : List ArenaIndex) → WellFormed f keys → ArePredecessors f b blocks → PredecessorsAgree f b blocks

  -- in every forest a value stands where its definer does
  abbrev pub ParentsOfValues : Type 0
  ParentsOfValues = (f : Forest context_ids W) (keys : ℕ) (v : Value context_ids) → WellFormed f keys → ValuesHaveParents f v

  -- in every well-formed forest a value has one type and one name
  abbrev pub ValuesAreTold : Type 0
  ValuesAreTold = (f : Forest context_ids W) (keys : ℕ) (v : Value context_ids) → WellFormed f keys → ValueIsTold f keys v

  -- every key that equals itself is given a handle of its kind, where equal keys have one kind
  abbrev pub KeysKeepTheirKind : Type 0
  KeysKeepTheirKind =
      (B : Behaviour W) (K : Kinds W) (store : List (StoredType W)) (key : W.Key) → B.same_key key key ≡ true
      → ((a b : W.Key) → B.same_key a b ≡ true → K.type_kind a ≡ K.type_kind b) → MadeHaveTheirKind B K store key

  -- in every well-formed forest dominance is told one way
  abbrev pub DominanceIsTold : Type 0
  DominanceIsTold = (f : Forest context_ids W) (keys : ℕ) (B : Behaviour W) (K : Kinds W) (g : ArenaIndex) → WellFormed f keys → DominanceIsOne f B K g

  -- handles of known types are given or refused by the type's kind
  abbrev pub HandlesAreRefused : Type 0
  HandlesAreRefused = (K : Kinds W) (store : List (StoredType W)) (t : ℕ) → t < length store → HandlesAreTold K store t
