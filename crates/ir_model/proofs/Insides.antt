-- What is inside an entity, by a list of it.
use Rattle.std.proofs.Common.{List}
use Rattle.ir_model.specs.Ids.{Ids}
use Rattle.ir_model.specs.Forest.{Dialect, Forest, Entity}
use Rattle.ir_model.specs.Nesting.{In, Inside, itself, below, children}

-- what is inside stands in a list that has the root and all children of what it has
pub inside_list : {N : Ids} {W : Dialect} (f : Forest N W) (root : Entity N) (xs : List (Entity N)) → In root xs → ((c x : Entity N) → In c xs → In x (children f c) → In x xs) → (x : Entity N) → Inside f root x → In x xs
inside_list f root xs at down x itself = at
inside_list f root xs at down x (below {c = c} h w) = down c x (inside_list f root xs at down c w) h
