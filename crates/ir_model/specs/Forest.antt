-- The forest: what is in the records, by finite maps from ids.
use Rattle.std.specs.Prelude.{Bool, ◌&&◌, false, ℕ, List, Option}
use Rattle.ir_model.specs.Ids.{Ids}

-- a name's text, as its bytes
abbrev pub Text : Type 0
Text = List ℕ

-- the closed types of one compiler
pub record Dialect : Type 1 where
  -- the uniqued part of a type, and the part outside equality
  pub Key : Type 0
  pub Body : Type 0
  pub Attr : Type 0
  pub Saved : Type 0
  pub Aux : Type 0
  pub Loc : Type 0

-- what the definitions ask of a dialect
pub record Behaviour (W : Dialect) : Type 0 where
  pub same_key : W.Key → W.Key → Bool
  -- the body of a type that is stored anew
  pub first_body : W.Body
  -- the location of an operation or block that is made
  pub unknown : W.Loc
  -- the kind implements the interface
  pub op_impls : ℕ → ℕ → Bool

module _ (N : Ids) where
  -- what defines a value
  pub data Definer : Type 0 where
    of_op : N.Op → Definer
    of_block : N.Block → Definer

  -- a value: what defines it, and a number
  pub record Value : Type 0 where
    pub definer : Definer
    pub number : N.ValueNumber

  -- an operand: the number of its use, and the value that it names
  pub record Operand : Type 0 where
    pub use_number : N.UseNumber
    pub value : Value

  -- a successor: the number of its use, and the block that it names
  pub record Successor : Type 0 where
    pub use_number : N.UseNumber
    pub block : N.Block

  -- an entity: an operation, a block or a region
  pub data Entity : Type 0 where
    an_op : N.Op → Entity
    a_block : N.Block → Entity
    a_region : N.Region → Entity

  -- whether the definers are one
  abbrev pub same_definer : Definer → Definer → Bool
  same_definer (of_op o) (of_op p) = N.same_op o p
  same_definer (of_block b) (of_block c) = N.same_block b c
  same_definer (of_op o) (of_block c) = false
  same_definer (of_block b) (of_op p) = false

  -- whether the values are one: one definer and one number
  abbrev pub same_value : Value → Value → Bool
  same_value v w = same_definer v.definer w.definer && N.same_number v.number w.number

  -- whether the entities are one
  abbrev pub same_entity : Entity → Entity → Bool
  same_entity (an_op o) (an_op p) = N.same_op o p
  same_entity (a_block b) (a_block c) = N.same_block b c
  same_entity (a_region r) (a_region q) = N.same_region r q
  same_entity _ _ = false

  -- what an operand or a successor names
  pub data Named : Type 0 where
    a_value : Value → Named
    the_block : N.Block → Named

  -- the definer as an entity
  abbrev pub definer_entity : Definer → Entity
  definer_entity (of_op o) = an_op o
  definer_entity (of_block b) = a_block b

  -- what defines it
  abbrev pub owner : Named → Entity
  owner (a_value v) = definer_entity v.definer
  owner (the_block b) = a_block b

  module _ (W : Dialect) where
    -- a result or an argument; its type is the place of a key among the keys
    pub record Definition : Type 0 where
      pub number : N.ValueNumber
      pub ty : ℕ
      pub name : Option Text

    -- what an operation has
    pub record OpRecord : Type 0 where
      pub kind : ℕ
      pub results : List Definition
      pub operands : List Operand
      pub successors : List Successor
      pub regions : List N.Region
      pub attributes : List (Text × W.Attr)
      pub loc : W.Loc

    -- what a block has
    pub record BlockRecord : Type 0 where
      pub label : Option Text
      pub arguments : List Definition
      pub ops : List N.Op
      pub attributes : List (Text × W.Attr)
      pub loc : W.Loc

    -- the forest: a live operation or block id leads to its record, and a live region id to the list of its blocks
    pub record Forest : Type 0 where
      pub ops : N.Op → Option OpRecord
      pub blocks : N.Block → Option BlockRecord
      pub regions : N.Region → Option (List N.Block)
