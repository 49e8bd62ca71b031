-- What lies inside an entity: all of it, its definitions, and how many entities it has.
use Rattle.std.specs.Prelude.{◌≡◌, ◌↔◌, ℕ, List, length}
use Rattle.ir_model.specs.Ids.{Ids, Distinct}
use Rattle.ir_model.specs.Forest.{Dialect, Entity, Forest, Named, owner}
use Rattle.ir_model.specs.Nesting.{In, Inside, IsLiveNamed}

module _ {N : Ids} {W : Dialect} where
  -- d is a result of an operation inside e, an argument of a block inside e, or a block inside e
  abbrev pub DefinedInside : Forest N W → Entity N → Named N → Type 0
  DefinedInside f e d = IsLiveNamed f d × Inside f e (owner N d)

  -- the list has exactly the entities inside e, each once
  pub record ListsSubtree (f : Forest N W) (e : Entity N) (entities : List (Entity N)) : Type 0 where
    pub once : Distinct entities
    pub exact : (x : Entity N) → In x entities ↔ Inside f e x

  -- so many entities lie inside e
  abbrev pub IsSubtreeSize : Forest N W → Entity N → ℕ → Type 0
  IsSubtreeSize f e n = (entities : List (Entity N)) × ListsSubtree f e entities × (length entities ≡ n)
