-- What queries about values and uses answer.
use Rattle.std.specs.Prelude.{◌≡◌, ◌↔◌, ℕ, List}
use Rattle.std.specs.List.{flat_map}
use Rattle.ir_model.specs.declared.ids.ArenaIndex.{ArenaIndex}
use Rattle.ir_model.specs.ContextIds.{context_ids}
use Rattle.ir_model.specs.Ids.{Distinct}
use Rattle.ir_model.specs.Forest.{Dialect, Forest, Value, Definition, an_op, a_block, a_value, of_op, of_block}
use Rattle.ir_model.specs.Nesting.{In, IsLive, definitions_of, numbers_of}
use Rattle.ir_model.specs.Uses.{IsUse, Use}
use Rattle.ir_core_records.specs.declared.record.Definer.{Definer}
use Rattle.ir_core_records.specs.declared.record.Definer.TheVariants.{Op, Block}
use Rattle.ir_core_context.specs.State.{ContextState, forest_of, uses_of}
use Rattle.ir_core_queries.specs.declared.error.ValueError.{ValueError}
use Rattle.ir_core_queries.specs.declared.error.ValueError.TheVariants.{NotInOpResult, NotInBlockArgument}

-- why a value isn't found at what defined it, which is live
abbrev pub missing_from : Definer → ValueError
missing_from (Op o) = NotInOpResult
missing_from (Block b) = NotInBlockArgument

module _ {W : Dialect} where
  -- a live operation defines the value no longer, or never did
  pub record LacksResult (f : Forest context_ids W) (v : Value context_ids) : Type 0 where
    pub op : ArenaIndex
    pub definer : v.definer ≡ of_op op
    pub live : IsLive f (an_op op)
    pub missing : In v.number (numbers_of f v.definer) → ⊥

  -- a live block defines the value no longer, or never did
  pub record LacksArgument (f : Forest context_ids W) (v : Value context_ids) : Type 0 where
    pub block : ArenaIndex
    pub definer : v.definer ≡ of_block block
    pub live : IsLive f (a_block block)
    pub missing : In v.number (numbers_of f v.definer) → ⊥

  -- the value has the type at this place
  pub record IsOfType (f : Forest context_ids W) (v : Value context_ids) (ty : ℕ) : Type 0 where
    pub definition : Definition context_ids W
    pub defined : In definition (definitions_of f v.definer)
    pub number : definition.number ≡ v.number
    pub is : definition.ty ≡ ty

  -- some result of the operation has the use
  pub record IsUseOfResult (f : Forest context_ids W) (o : ArenaIndex) (u : Use context_ids) : Type 0 where
    pub number : ℕ
    pub result : In number (numbers_of f (of_op o))
    pub has : IsUse f (a_value (record { definer = of_op o; number = number })) u

  -- the list has exactly the uses of the operation's results, each once
  pub record AreUsesOfResults (f : Forest context_ids W) (o : ArenaIndex) (uses : List (Use context_ids)) : Type 0 where
    pub once : Distinct uses
    pub exact : (u : Use context_ids) → In u uses ↔ IsUseOfResult f o u

module _ {D A K B S X L : Type 0} where
  -- the kept lists of the uses of an operation's results, joined in the order of the results
  abbrev pub uses_of_results : ContextState D A K B S X L → ArenaIndex → List (Use context_ids)
  uses_of_results s o = flat_map (λ n. uses_of s (record { definer = Op o; number = n })) (numbers_of (forest_of s) (of_op o))
