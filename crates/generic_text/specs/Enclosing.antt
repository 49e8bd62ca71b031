-- The operation around all that a text has outside all regions.
use Rattle.std.specs.Prelude.{◌≡◌, List, [], ◌∷◌, length, None, Some, codes}
use Rattle.std.specs.Option.{option_and_then}
use Rattle.ir_model.specs.declared.ids.ArenaIndex.{ArenaIndex}
use Rattle.ir_model.specs.ContextIds.{context_ids}
use Rattle.ir_model.specs.Forest.{Dialect, Forest, OpRecord, of_block}
use Rattle.ir_model.specs.Nesting.{blocks_of, definitions_of, ops_of}
use Rattle.generic_dialect.specs.declared.generic.GenericLoc.TheVariants as locations
use Rattle.generic_dialect.specs.Kinds.{kind_of, listed_name}
use Rattle.ir_text_described.specs.Words.{Words}
use Rattle.generic_text.specs.Left.{GenericForest, generic}

module _ {W : Dialect} where
  -- a module with one region, which neither names nor gives anything, without attributes and without a location
  pub record IsBareModule (words : Words W) (r : OpRecord context_ids W) : Type 0 where
    pub named : words.operation_name r.kind ≡ codes "builtin.module"
    pub operands : r.operands ≡ []
    pub results : r.results ≡ []
    pub successors : r.successors ≡ []
    pub regions : length r.regions ≡ 1
    pub attributes : r.attributes ≡ []
    pub location : words.location r.loc ≡ None

  -- The root is the only one of these operations; or it is a bare module around them: they are the list of the only block of its region, which has no arguments.
  pub data Encloses (f : Forest context_ids W) (words : Words W) (root : ArenaIndex) : List ArenaIndex → Type 0 where
    alone : Encloses f words root (root ∷ [])
    around : {operations : List ArenaIndex} (r : OpRecord context_ids W) (region block : ArenaIndex) → f.ops root ≡ Some r → IsBareModule words r
        → r.regions ≡ region ∷ [] → blocks_of f region ≡ block ∷ [] → definitions_of f (of_block block) ≡ [] → operations ≡ ops_of f block → Encloses f words root operations

  -- the operation is live, and by its kind a module
  abbrev pub IsModule : Forest context_ids W → ArenaIndex → Type 0
  IsModule f o = option_and_then (λ r. listed_name (kind_of r.kind)) (f.ops o) ≡ Some (codes "builtin.module")

-- a module that neither names nor gives anything, without attributes and without a location
pub record IsPlainModule (r : OpRecord context_ids generic) : Type 0 where
  pub named : listed_name (kind_of r.kind) ≡ Some (codes "builtin.module")
  pub operands : r.operands ≡ []
  pub results : r.results ≡ []
  pub successors : r.successors ≡ []
  pub attributes : r.attributes ≡ []
  pub location : r.loc ≡ locations.Unknown

-- The operation is such a module, with one region, in which no block stands.
pub record IsNewModule (f : GenericForest) (root : ArenaIndex) : Type 0 where
  pub own : OpRecord context_ids generic
  pub is_operation : f.ops root ≡ Some own
  pub plain : IsPlainModule own
  pub region : ArenaIndex
  pub regions : own.regions ≡ region ∷ []
  pub empty : blocks_of f region ≡ []

-- The operation is such a module, with one region, whose only block has no arguments and these operations.
pub record StandsAround (f : GenericForest) (root block : ArenaIndex) (operations : List ArenaIndex) : Type 0 where
  pub own : OpRecord context_ids generic
  pub is_operation : f.ops root ≡ Some own
  pub plain : IsPlainModule own
  pub region : ArenaIndex
  pub regions : own.regions ≡ region ∷ []
  pub blocks : blocks_of f region ≡ block ∷ []
  pub arguments : definitions_of f (of_block block) ≡ []
  pub inside : ops_of f block ≡ operations
