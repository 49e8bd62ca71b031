-- Where an operation is put in, and where it may move.
use Rattle.std.specs.Prelude.{◌≡◌, ◌≢◌, List, [], ◌∷◌, ◌++◌}
use Rattle.ir_model.specs.declared.ids.ArenaIndex.{ArenaIndex}
use Rattle.ir_model.specs.ContextIds.{context_ids, same_id}
use Rattle.ir_model.specs.Forest.{Dialect, Entity, Forest, a_block, an_op}
use Rattle.ir_model.specs.Nesting.{In, Inside, IsLinked, IsLive, children}
use Rattle.ir_model.specs.Changes.{in_blocks, on_block, on_ops, put_after, put_before}
use Rattle.ir_model.specs.Edits.{MayGoBeside, MayGoInto}
use Rattle.ir_base_arenas.specs.declared.ptr.Ptr.{Ptr}
use Rattle.ir_core_records.specs.declared.record.Operation.{Operation}
use Rattle.ir_rewrite.specs.declared.point.InsertionPoint.{InsertionPoint}
use Rattle.ir_rewrite.specs.declared.point.InsertionPoint.TheVariants.{AfterOperation, AtBlockEnd, AtBlockStart, BeforeOperation}

module _ {W : Dialect} where
  -- the mark stands in a block that isn't inside the operation
  abbrev pub StandsOutside : Forest context_ids W → ArenaIndex → ArenaIndex → Type 0
  StandsOutside f mark o = (y : Entity context_ids) × In (an_op mark) (children f y) × (Inside f (an_op o) y → ⊥)

  -- the operation stands in a block, and may move from there beside the mark: they are two, and the mark stands in a block that isn't inside the operation
  abbrev pub MayMoveBeside : Forest context_ids W → ArenaIndex → ArenaIndex → Type 0
  MayMoveBeside f o mark = IsLinked f (an_op o) × (o ≢ mark) × StandsOutside f mark o

module _ {W : Dialect} {D A K B S X L : Type 0} where
  -- the forest with the operation put in at the point
  abbrev pub put_at : Forest context_ids W → InsertionPoint D A K B S X L → ArenaIndex → Forest context_ids W
  put_at f (AtBlockStart b) o = on_block f b.index (on_ops (λ os. o ∷ os))
  put_at f (AtBlockEnd b) o = on_block f b.index (on_ops (λ os. os ++ o ∷ []))
  put_at f (BeforeOperation m) o = in_blocks f (put_before same_id o m.index)
  put_at f (AfterOperation m) o = in_blocks f (put_after same_id o m.index)

  -- the operation is live, stands in no list, and may be put in at the point
  abbrev pub MayGoAt : Forest context_ids W → InsertionPoint D A K B S X L → ArenaIndex → Type 0
  MayGoAt f (AtBlockStart b) o = IsLive f (an_op o) × IsLive f (a_block b.index) × MayGoInto f (an_op o) (a_block b.index)
  MayGoAt f (AtBlockEnd b) o = IsLive f (an_op o) × IsLive f (a_block b.index) × MayGoInto f (an_op o) (a_block b.index)
  MayGoAt f (BeforeOperation m) o = IsLive f (an_op o) × MayGoBeside f (an_op o) (an_op m.index)
  MayGoAt f (AfterOperation m) o = IsLive f (an_op o) × MayGoBeside f (an_op o) (an_op m.index)

module _ {D A K B S X L : Type 0} where
  -- where the next operation is put in, so that it comes behind this one
  abbrev pub next_point : InsertionPoint D A K B S X L → Ptr (Operation D A K B S X L) → InsertionPoint D A K B S X L
  next_point (AtBlockStart b) p = AfterOperation p
  next_point (AtBlockEnd b) p = AtBlockEnd b
  next_point (BeforeOperation m) p = BeforeOperation m
  next_point (AfterOperation m) p = AfterOperation p
