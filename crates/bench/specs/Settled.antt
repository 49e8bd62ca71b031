-- What the loops keep that ask nothing.
use Rattle.std.specs.Prelude.{◌≡◌, ◌⊎◌, ℕ, [], length}
use Rattle.ir_base.specs.Model.declared.ids.ArenaIndex.{ArenaIndex}
use Rattle.ir_base.specs.Model.ContextIds.{context_ids}
use Rattle.ir_base.specs.Model.Forest.{Dialect, Entity, Forest, a_block, an_op, of_op}
use Rattle.ir_base.specs.Model.Nesting.{In, Inside, IsLinked, IsLive, definitions_of, operands_of, ops_of, regions_of}

module _ {W : Dialect} where
  -- the operation stands in a block that stands in nothing
  pub record StandsFree (f : Forest context_ids W) (o : ArenaIndex) : Type 0 where
    pub block : ArenaIndex
    pub stands : In o (ops_of f block)
    pub free : IsLinked f (a_block block) → ⊥

  -- the operation has two operands, one result and no region
  pub record IsLink (f : Forest context_ids W) (o : ArenaIndex) : Type 0 where
    pub operands : length (operands_of f o) ≡ 2
    pub results : length (definitions_of f (of_op o)) ≡ 1
    pub regions : regions_of f o ≡ []

  -- each operation of the block has two operands, one result and no region
  abbrev pub AreLinks : Forest context_ids W → ArenaIndex → Type 0
  AreLinks f b = (o : ArenaIndex) → In o (ops_of f b) → IsLink f o

  -- each operation that is live is inside the root
  abbrev pub AllInside : Forest context_ids W → ArenaIndex → Type 0
  AllInside f root = (o : ArenaIndex) → IsLive f (an_op o) → Inside f (an_op root) (an_op o)

  -- what was inside anything is inside it still, and each operation that came is inside y
  pub record GrowsIn (f g : Forest context_ids W) (y : Entity context_ids) : Type 0 where
    pub inside : (e x : Entity context_ids) → Inside f e x → Inside g e x
    pub ops : (o : ArenaIndex) → IsLive g (an_op o) → IsLive f (an_op o) ⊎ Inside g y (an_op o)
