-- What has something in its list is live.
use Rattle.std.proofs.Common.{List, map, Option, Some, None, IsSome, refl}
use Rattle.ir_model.specs.Ids.{Ids}
use Rattle.ir_model.specs.Forest.{Dialect, Entity, an_op, a_block, a_region, Forest}
use Rattle.ir_model.specs.Nesting.{In, IsLive, children, list_of}

there : {B X E : Type 0} (c : X → E) (of : B → List X) (m : Option B) (x : E) → In x (map c (list_of of m)) → IsSome m
there c of None x h = absurd h
there c of (Some r) x h = refl

module _ {N : Ids} {W : Dialect} (f : Forest N W) where
  -- what has something in its list is live
  pub owner-live : (x y : Entity N) → In x (children f y) → IsLive f y
  owner-live x (an_op o) h = there a_region (λ r. r.regions) (f.ops o) x h
  owner-live x (a_block b) h = there an_op (λ r. r.ops) (f.blocks b) x h
  owner-live x (a_region g) h = there a_block (λ bs. bs) (f.regions g) x h
