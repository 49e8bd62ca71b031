-- How operations, blocks and regions of a forest are written as rows, one part behind another.
use Rattle.std.specs.Prelude.{◌≡◌, ℕ, ◌+◌, Bool, true, false, List, [], ◌∷◌, ◌++◌, map, length, Option, Some, None, slice_get, if◌then◌else◌}
use Rattle.std.specs.Option.{option_map, option_and_then}
use Rattle.ir_model.specs.declared.ids.ArenaIndex.{ArenaIndex}
use Rattle.ir_model.specs.ContextIds.{context_ids}
use Rattle.ir_model.specs.Forest.{Dialect, Text, Definer, of_op, of_block, Definition, Value, Forest}
use Rattle.ir_model.specs.Nesting.{In, list_of, regions_of, ops_of, blocks_of, operands_of, successors_of, definitions_of}
use Rattle.ir_text_tree.specs.declared.row.Part.{Part}
use Rattle.ir_text_tree.specs.declared.row.Part.TheVariants as parts
use Rattle.ir_text_described.specs.declared.item.Item.{Item}
use Rattle.ir_text_described.specs.declared.item.Item.TheVariants as items
use Rattle.ir_text_described.specs.Words.{Words}
use Rattle.ir_text_described.specs.Trees.{NamedTree, part_at, text_at, bytes_at, which_at, width_at, behind_use, behind_result, Defined, Meanings}

-- ---- what is written, and where

-- a forest and how its parts are written; a tree, and whether it has locations; and what its rows define
pub record Setting (W : Dialect) : Type 0 where
  pub forest : Forest context_ids W
  pub words : Words W
  pub located : Bool
  pub tree : NamedTree
  pub meanings : Meanings

-- So many steps, of which that with number k leads from a row to another, lead from the first of these rows to the last.
pub data Leads (Step : ℕ → ℕ → ℕ → Type 0) (from : ℕ) : ℕ → ℕ → Type 0 where
  none : Leads Step from 0 from
  more : {k at next : ℕ} → Leads Step from k at → Step k at next → Leads Step from (k + 1) next

-- the part is the type of a result, in parentheses or not
abbrev pub is_result_type : Part → Bool
is_result_type parts.ResultType = true
is_result_type parts.OnlyResultType = true
is_result_type _ = false

-- the part begins an operation
abbrev pub begins_operation : Part → Bool
begins_operation parts.Result = true
begins_operation parts.Name = true
begins_operation _ = false

module _ {W : Dialect} where
  -- a row of that part with this text stands there, if there is a text; else nothing does, and the row stays
  abbrev pub MayStand : Setting W → Part → Option (List ℕ) → ℕ → ℕ → Type 0
  MayStand s part None at next = next ≡ at
  MayStand s part (Some text) at next = (part_at s.tree at ≡ part) × (text_at s.tree at ≡ text) × (next ≡ at + 1)

  -- the text, where the tree has locations
  abbrev pub if_located : Setting W → Option (List ℕ) → Option (List ℕ)
  if_located s text = if s.located then text else None

  -- ---- the parts of an operation

  -- the attributes of the operation, in order; none where it is not live
  abbrev pub attributes_of : Forest context_ids W → ArenaIndex → List (Text × W.Attr)
  attributes_of f o = list_of (λ r. r.attributes) (f.ops o)

  -- the name of a live operation
  abbrev pub name_of : Setting W → ArenaIndex → Option (List ℕ)
  name_of s o = option_map (λ r. s.words.operation_name r.kind) (s.forest.ops o)

  -- the properties of a live operation, if it has any
  abbrev pub properties_of : Setting W → ArenaIndex → Option (List ℕ)
  properties_of s o = option_and_then (λ r. s.words.properties r.attributes) (s.forest.ops o)

  -- the location of a live operation, if it is known and is to be told
  abbrev pub location_of : Setting W → ArenaIndex → Option (List ℕ)
  location_of s o = if_located s (option_and_then (λ r. s.words.location r.loc) (s.forest.ops o))

  -- the location of the argument at that place of a live block, if it is known and is to be told
  abbrev pub argument_location_of : Setting W → ArenaIndex → ℕ → Option (List ℕ)
  argument_location_of s b k = if_located s (option_and_then (λ r. s.words.argument_location r.loc k) (s.forest.blocks b))

  -- the value at that place of the operation's operands
  abbrev pub operand_of : Setting W → ArenaIndex → ℕ → Option (Value context_ids)
  operand_of s o k = option_map (λ a. a.value) (slice_get (operands_of s.forest o) k)

  -- the block at that place of the operation's successors
  abbrev pub successor_of : Setting W → ArenaIndex → ℕ → Option ArenaIndex
  successor_of s o k = option_map (λ a. a.block) (slice_get (successors_of s.forest o) k)

  -- the text of the type of a result or an argument, by its place
  abbrev pub type_of : Setting W → Definer context_ids → ℕ → Option (List ℕ)
  type_of s d k = option_map (λ x. s.words.type_text x.ty) (slice_get (definitions_of s.forest d) k)

  -- the number of a result or an argument, by its place
  abbrev pub number_of : Setting W → Definer context_ids → ℕ → Option ℕ
  number_of s d k = option_map (λ x. x.number) (slice_get (definitions_of s.forest d) k)

  -- Names of results, from a row on: so many of the operation's results, in order, stand under the names up to another row, each name for as many as the number behind it says.
  pub data AreResults (s : Setting W) (o : ArenaIndex) (from : ℕ) : ℕ → ℕ → Type 0 where
    no_results : AreResults s o from 0 from
    more_results : {k at : ℕ} → AreResults s o from k at → part_at s.tree at ≡ parts.Result → s.meanings.values at ≡ Some (record { definer = of_op o; first = k }) → AreResults s o from (k + width_at s.tree at) (behind_result s.tree at)

  -- The row is an operand, and the value at that place of the operation's operands is the one that it names.
  pub record IsOperand (s : Setting W) (o : ArenaIndex) (k at next : ℕ) : Type 0 where
    pub part : part_at s.tree at ≡ parts.Operand
    pub row : ℕ
    pub named : s.tree.value_named at ≡ Some row
    pub defined : Defined
    pub meant : s.meanings.values row ≡ Some defined
    pub index : ℕ
    pub which : which_at s.tree at ≡ Some index
    pub value : Value context_ids
    pub is_operand : operand_of s o k ≡ Some value
    pub definer : value.definer ≡ defined.definer
    pub number : number_of s defined.definer (defined.first + index) ≡ Some value.number
    pub behind : next ≡ behind_use s.tree at

  -- The row is a successor, and the block at that place of the operation's successors is the one that it names.
  pub record IsSuccessor (s : Setting W) (o : ArenaIndex) (k at next : ℕ) : Type 0 where
    pub part : part_at s.tree at ≡ parts.Successor
    pub row : ℕ
    pub named : s.tree.block_named at ≡ Some row
    pub block : ArenaIndex
    pub is_successor : successor_of s o k ≡ Some block
    pub meant : s.meanings.blocks row ≡ Some block
    pub behind : next ≡ at + 1

  -- An operation up to its regions: the names of its results, its name, its operands, its successors and its properties.
  pub record IsHead (s : Setting W) (o : ArenaIndex) (at next : ℕ) : Type 0 where
    pub name : ℕ
    pub operands_end : ℕ
    pub successors_end : ℕ
    pub results : AreResults s o at (length (definitions_of s.forest (of_op o))) name
    pub part : part_at s.tree name ≡ parts.Name
    pub named : name_of s o ≡ Some (bytes_at s.tree name)
    pub operands : Leads (IsOperand s o) (name + 1) (length (operands_of s.forest o)) operands_end
    pub successors : Leads (IsSuccessor s o) operands_end (length (successors_of s.forest o)) successors_end
    pub properties : MayStand s parts.Properties (properties_of s o) successors_end next

  -- an entry with that key, and with that value if there is one; no row where there is no entry
  abbrev pub StandsAs : Setting W → Option (List ℕ × Option (List ℕ)) → ℕ → ℕ → Type 0
  StandsAs s None at next = next ≡ at
  StandsAs s (Some entry) at next = (part_at s.tree at ≡ parts.Key) × (bytes_at s.tree at ≡ entry.0) × MayStand s parts.Value entry.1 (at + 1) next

  -- The rows are the attribute at that place of the operation's.
  pub record IsEntry (s : Setting W) (o : ArenaIndex) (k at next : ℕ) : Type 0 where
    pub attribute : Text × W.Attr
    pub is_attribute : slice_get (attributes_of s.forest o) k ≡ Some attribute
    pub stands : StandsAs s (s.words.entry attribute.0 attribute.1) at next

  -- The row is the type of the value at that place of the operation's operands.
  pub record IsOperandType (s : Setting W) (o : ArenaIndex) (k at next : ℕ) : Type 0 where
    pub part : part_at s.tree at ≡ parts.OperandType
    pub value : Value context_ids
    pub is_operand : operand_of s o k ≡ Some value
    pub definition : Definition context_ids W
    pub defined : In definition (definitions_of s.forest value.definer)
    pub number : definition.number ≡ value.number
    pub text : text_at s.tree at ≡ s.words.type_text definition.ty
    pub behind : next ≡ at + 1

  -- The row is the type at that place of the operation's results.
  pub record IsResultType (s : Setting W) (o : ArenaIndex) (k at next : ℕ) : Type 0 where
    pub part : is_result_type (part_at s.tree at) ≡ true
    pub text : type_of s (of_op o) k ≡ Some (text_at s.tree at)
    pub behind : next ≡ at + 1

  -- An operation from behind its regions on: its attributes, the types of its operands, those of its results, and its location.
  pub record IsTail (s : Setting W) (o : ArenaIndex) (at next : ℕ) : Type 0 where
    pub entries_end : ℕ
    pub operand_types_end : ℕ
    pub result_types_end : ℕ
    pub entries : Leads (IsEntry s o) at (length (attributes_of s.forest o)) entries_end
    pub operand_types : Leads (IsOperandType s o) entries_end (length (operands_of s.forest o)) operand_types_end
    pub result_types : Leads (IsResultType s o) operand_types_end (length (definitions_of s.forest (of_op o))) result_types_end
    pub location : MayStand s parts.Location (location_of s o) result_types_end next

  -- ---- the parts of a block's head

  -- The rows are the name, the type and the location of the block's argument at that place.
  pub record IsArgument (s : Setting W) (b : ArenaIndex) (k at next : ℕ) : Type 0 where
    pub part : part_at s.tree at ≡ parts.Argument
    pub meant : s.meanings.values at ≡ Some (record { definer = of_block b; first = k })
    pub type_part : part_at s.tree (at + 1) ≡ parts.ArgumentType
    pub text : type_of s (of_block b) k ≡ Some (text_at s.tree (at + 1))
    pub location : MayStand s parts.ArgumentLocation (argument_location_of s b k) (at + 2) next

  -- A block's head: its name, and its arguments.
  pub record IsLabel (s : Setting W) (b : ArenaIndex) (at next : ℕ) : Type 0 where
    pub part : part_at s.tree at ≡ parts.Label
    pub meant : s.meanings.blocks at ≡ Some b
    pub arguments : Leads (IsArgument s b) (at + 1) (length (definitions_of s.forest (of_block b))) next

  -- A block without a head: it has no arguments, and an operation begins at the row.
  pub record IsPlain (s : Setting W) (b : ArenaIndex) (at : ℕ) : Type 0 where
    pub arguments : length (definitions_of s.forest (of_block b)) ≡ 0
    pub begins : begins_operation (part_at s.tree at) ≡ true

  -- ---- all that stands in one another

  -- The items, one behind another, are written as the rows from this one on up to the last.
  --
  -- An operation is its head, its regions in their order and its tail. A region is its blocks in their order, between the rows that open and close it. A block is its head, which the first of a region may lack, and its operations in their order.
  pub data AreWritten (s : Setting W) : List Item → ℕ → Type 0 where
    nothing : {at : ℕ} → at ≡ length s.tree.rows → AreWritten s [] at
    operation : {o : ArenaIndex} {rest : List Item} {at next : ℕ} → IsHead s o at next → AreWritten s (map items.Region (regions_of s.forest o) ++ items.Tail o ∷ rest) next → AreWritten s (items.Op o ∷ rest) at
    tail : {o : ArenaIndex} {rest : List Item} {at next : ℕ} → IsTail s o at next → AreWritten s rest next → AreWritten s (items.Tail o ∷ rest) at
    region : {g : ArenaIndex} {rest : List Item} {at : ℕ} → part_at s.tree at ≡ parts.Open → AreWritten s (map items.Block (blocks_of s.forest g) ++ items.Close ∷ rest) (at + 1) → AreWritten s (items.Region g ∷ rest) at
    plain : {g b : ArenaIndex} {bs : List ArenaIndex} {rest : List Item} {at : ℕ} → part_at s.tree at ≡ parts.Open → blocks_of s.forest g ≡ b ∷ bs → IsPlain s b (at + 1) → AreWritten s (map items.Op (ops_of s.forest b) ++ (map items.Block bs ++ items.Close ∷ rest)) (at + 1) → AreWritten s (items.Region g ∷ rest) at
    close : {rest : List Item} {at : ℕ} → part_at s.tree at ≡ parts.Close → AreWritten s rest (at + 1) → AreWritten s (items.Close ∷ rest) at
    block : {b : ArenaIndex} {rest : List Item} {at next : ℕ} → IsLabel s b at next → AreWritten s (map items.Op (ops_of s.forest b) ++ rest) next → AreWritten s (items.Block b ∷ rest) at
