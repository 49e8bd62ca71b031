-- Who stands in whom, and when a forest is well formed.
use Rattle.std.specs.Prelude.{◌≡◌, ℕ, ◌<◌, ◌⊎◌, List, [], ◌∷◌, ◌++◌, map, Option, Some, None, IsSome}
use Rattle.ir_model.specs.Ids.{Ids, Distinct}
use Rattle.ir_model.specs.Forest.{Dialect, Definer, of_op, of_block, Entity, an_op, a_block, a_region, Definition, Forest, Operand, Successor, Named, a_value, the_block, owner}

-- x is in the list
abbrev pub In : {A : Type 0} → A → List A → Type 0
In x [] = ⊥
In x (y ∷ ys) = (x ≡ y) ⊎ In x ys

-- a is e, or is in the list of something inside e
pub data Within {E : Type 0} (lists : E → List E) (e : E) : E → Type 0 where
  itself : Within lists e e
  below : {a c : E} → In a (lists c) → Within lists e c → Within lists e a

-- the list of a record, where there is one
abbrev pub list_of : {B X : Type 0} → (B → List X) → Option B → List X
list_of of None = []
list_of of (Some r) = of r

module _ {N : Ids} {W : Dialect} where
  -- the regions of the operation, in order; none where it is not live
  abbrev pub regions_of : Forest N W → N.Op → List N.Region
  regions_of f o = list_of (λ r. r.regions) (f.ops o)

  -- the operations of the block, in order; none where it is not live
  abbrev pub ops_of : Forest N W → N.Block → List N.Op
  ops_of f b = list_of (λ r. r.ops) (f.blocks b)

  -- the blocks of the region, in order; none where it is not live
  abbrev pub blocks_of : Forest N W → N.Region → List N.Block
  blocks_of f g = list_of (λ bs. bs) (f.regions g)

  -- the operands of the operation, in order; none where it is not live
  abbrev pub operands_of : Forest N W → N.Op → List (Operand N)
  operands_of f o = list_of (λ r. r.operands) (f.ops o)

  -- the successors of the operation, in order; none where it is not live
  abbrev pub successors_of : Forest N W → N.Op → List (Successor N)
  successors_of f o = list_of (λ r. r.successors) (f.ops o)

  -- the results of an operation, or the arguments of a block, in order; none where it is not live
  abbrev pub definitions_of : Forest N W → Definer N → List (Definition N W)
  definitions_of f (of_op o) = list_of (λ r. r.results) (f.ops o)
  definitions_of f (of_block b) = list_of (λ r. r.arguments) (f.blocks b)

  -- the list of what stands in the entity: the regions of an operation, the operations of a block, the blocks of a region
  abbrev pub children : Forest N W → Entity N → List (Entity N)
  children f (an_op o) = map a_region (regions_of f o)
  children f (a_block b) = map an_op (ops_of f b)
  children f (a_region g) = map a_block (blocks_of f g)

  -- a is e, or a child of something inside e
  abbrev pub Inside : Forest N W → Entity N → Entity N → Type 0
  Inside f e a = Within (children f) e a

  -- x stands in the list of some entity
  abbrev pub IsLinked : Forest N W → Entity N → Type 0
  IsLinked f x = (y : Entity N) × In x (children f y)

  -- x has a record
  abbrev pub IsLive : Forest N W → Entity N → Type 0
  IsLive f (an_op o) = IsSome (f.ops o)
  IsLive f (a_block b) = IsSome (f.blocks b)
  IsLive f (a_region g) = IsSome (f.regions g)

  -- the value numbers of the results or arguments, in order
  abbrev pub numbers_of : Forest N W → Definer N → List N.ValueNumber
  numbers_of f d = map (λ x. x.number) (definitions_of f d)

  -- the types of the results or arguments, in order
  abbrev pub definition_types_of : Forest N W → Definer N → List ℕ
  definition_types_of f d = map (λ x. x.ty) (definitions_of f d)

  -- the use numbers of the operation: those of its operands, then those of its successors
  abbrev pub use_numbers_of : Forest N W → N.Op → List N.UseNumber
  use_numbers_of f o = map (λ p. p.use_number) (operands_of f o) ++ map (λ p. p.use_number) (successors_of f o)

  -- what the operation names
  abbrev pub names_of : Forest N W → N.Op → List (Named N)
  names_of f o = map (λ p. a_value p.value) (operands_of f o) ++ map (λ p. the_block p.block) (successors_of f o)

  -- the definition is live: the value stands among the results or arguments of what defines it, or the block has a record
  abbrev pub IsLiveNamed : Forest N W → Named N → Type 0
  IsLiveNamed f (a_value v) = In v.number (numbers_of f v.definer)
  IsLiveNamed f (the_block b) = IsSome (f.blocks b)

  -- each operation that names a definition of e's subtree is in the subtree
  abbrev pub IsClosed : Forest N W → Entity N → Type 0
  IsClosed f e = (o : N.Op) (d : Named N) → In d (names_of f o) → Inside f e (owner N d) → Inside f e (an_op o)

  -- each entity stands in one list at most, once, and regions in exactly one
  pub record Nested (f : Forest N W) : Type 0 where
    pub one_list : (x y z : Entity N) → In x (children f y) → In x (children f z) → y ≡ z
    pub once : (y : Entity N) → Distinct (children f y)
    pub live : (x y : Entity N) → In x (children f y) → IsLive f x
    pub no_cycle : (x y : Entity N) → In x (children f y) → Inside f x y → ⊥
    pub regions_linked : (g : N.Region) → IsSome (f.regions g) → (o : N.Op) × In g (regions_of f o)

  -- nested, with numbers that stand once, live names and known types; the known types are those below the number of keys
  pub record WellFormed (f : Forest N W) (keys : ℕ) : Type 0 where
    pub nested : Nested f
    pub numbers : (d e : Definer N) (n : N.ValueNumber) → In n (numbers_of f d) → In n (numbers_of f e) → d ≡ e
    pub numbers_once : (d : Definer N) → Distinct (numbers_of f d)
    pub uses : (o p : N.Op) (u : N.UseNumber) → In u (use_numbers_of f o) → In u (use_numbers_of f p) → o ≡ p
    pub uses_once : (o : N.Op) → Distinct (use_numbers_of f o)
    pub named : (o : N.Op) (d : Named N) → In d (names_of f o) → IsLiveNamed f d
    pub known : (d : Definer N) (t : ℕ) → In t (definition_types_of f d) → t < keys
