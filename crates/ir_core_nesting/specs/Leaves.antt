-- The forest without one record; no list is changed.
use Rattle.std.specs.Prelude.{List, None, if◌then◌else◌}
use Rattle.ir_model.specs.Ids.{Ids}
use Rattle.ir_model.specs.Forest.{Dialect, Forest}
use Rattle.ir_model.specs.Changes.{rewrite_all, on_regions}

module _ {N : Ids} {W : Dialect} where
  abbrev pub without_op : Forest N W → N.Op → Forest N W
  without_op f o = record f { ops = λ p. if N.same_op p o then None else f.ops p }

  abbrev pub without_region : Forest N W → N.Region → Forest N W
  without_region f r = record f { regions = λ p. if N.same_region p r then None else f.regions p }

  abbrev pub without_block : Forest N W → N.Block → Forest N W
  without_block f b = record f { blocks = λ p. if N.same_block p b then None else f.blocks p }

  -- a list edit in every operation
  abbrev pub in_ops : Forest N W → (List N.Region → List N.Region) → Forest N W
  in_ops f g = record f { ops = rewrite_all (on_regions g) f.ops }
