-- Which entities can be erased, asked of each definition inside.
use Rattle.ir_model.specs.Ids.{Ids}
use Rattle.ir_model.specs.Forest.{Dialect, of_op, of_block, Entity, an_op, a_block, a_region, Forest, Named, a_value, the_block}
use Rattle.ir_model.specs.Nesting.{In, Inside, numbers_of}
use Rattle.ir_model.specs.Uses.{Use, IsUse}

module _ {N : Ids} {W : Dialect} where
  -- every user of the definition is inside e
  abbrev pub UsersInside : Forest N W → Entity N → Named N → Type 0
  UsersInside f e d = (u : Use N) → IsUse f d u → Inside f e (an_op u.user)

  -- every user of what x itself defines is inside e: its results or arguments, and x where it is a block
  abbrev pub EntityClosed : Forest N W → Entity N → Entity N → Type 0
  EntityClosed f e (an_op o) = (n : N.ValueNumber) → In n (numbers_of f (of_op o)) → UsersInside f e (a_value (record { definer = of_op o; number = n }))
  EntityClosed f e (a_block b) = UsersInside f e (the_block b) × ((n : N.ValueNumber) → In n (numbers_of f (of_block b)) → UsersInside f e (a_value (record { definer = of_block b; number = n })))
  EntityClosed f e (a_region r) = Unit {0}
