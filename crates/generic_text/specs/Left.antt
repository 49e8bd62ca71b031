-- What building leaves as it was.
use Rattle.std.specs.Prelude.{◌≡◌, ◌≤◌, ◌⊎◌}
use Rattle.std.specs.List.{All}
use Rattle.ir_model.specs.declared.ids.ArenaIndex.{ArenaIndex}
use Rattle.ir_model.specs.Arenas.{arena_len}
use Rattle.ir_model.specs.ContextIds.{context_ids}
use Rattle.ir_model.specs.Forest.{Dialect, Entity, Forest, an_op, a_block, a_region}
use Rattle.ir_model.specs.Nesting.{In, IsLive, Nested, children}
use Rattle.ir_core_records.specs.Meaning.{closed}
use Rattle.ir_core_queries.specs.State.{ContextState}
use Rattle.generic_dialect.specs.declared.generic.GenericLoc.{GenericLoc}
use Rattle.generic_dialect.specs.declared.generic.GenericSaved.{GenericSaved}
use Rattle.generic_dialect.specs.declared.generic.GenericType.{GenericType}
use Rattle.generic_dialect.specs.declared.generic.KeptAttr.{KeptAttr}
use Rattle.generic_text.specs.declared.made.Made.{Made}
use Rattle.generic_text.specs.declared.taking_back.LiveCount.{LiveCount}

-- no more operations, blocks and regions than so many
pub record AreWithin (count most : LiveCount) : Type 0 where
  pub ops : count.ops ≤ most.ops
  pub blocks : count.blocks ≤ most.blocks
  pub regions : count.regions ≤ most.regions

module _ {D A K B S X L : Type 0} where
  -- how many operations, blocks and regions are live
  abbrev pub live_count : ContextState D A K B S X L → LiveCount
  live_count s = record { ops = arena_len s.records.ops; blocks = arena_len s.records.blocks; regions = arena_len s.records.regions }

module _ {W : Dialect} where
  -- Each operation, block and region that was there has its record still.
  pub record LeavesAll (old new : Forest context_ids W) : Type 0 where
    pub ops : (o : ArenaIndex) → IsLive old (an_op o) → new.ops o ≡ old.ops o
    pub blocks : (b : ArenaIndex) → IsLive old (a_block b) → new.blocks b ≡ old.blocks b
    pub regions : (r : ArenaIndex) → IsLive old (a_region r) → new.regions r ≡ old.regions r

  -- the entity wasn't there
  abbrev pub IsNew : Forest context_ids W → Entity context_ids → Type 0
  IsNew old e = IsLive old e → ⊥

  -- All that was there at first is as it was, and stands in nothing that is new.
  pub record StandsApart (first now : Forest context_ids W) : Type 0 where
    pub nested : Nested first
    pub left : LeavesAll first now
    pub apart : (x y : Entity context_ids) → In x (children now y) → IsLive first x → IsLive first y

  -- And so it is, but for what one block has.
  pub record StandsApartBut (block : ArenaIndex) (first now : Forest context_ids W) : Type 0 where
    pub nested : Nested first
    pub left : LeavesAll first now
    pub apart : (x y : Entity context_ids) → In x (children now y) → IsLive first x → IsLive first y ⊎ (y ≡ a_block block)

-- the dialect Generic, and forests of it
abbrev pub generic : Dialect
generic = closed KeptAttr GenericType (Unit {0}) GenericSaved (Unit {0}) GenericLoc

abbrev pub GenericForest : Type 0
GenericForest = Forest context_ids generic

-- All that was there at first is as it was, and stands in nothing that is new; and what is made so far is new.
pub record BuildsOn (first now : GenericForest) (made : Made) : Type 0 where
  pub apart : StandsApart first now
  pub ops : All (λ p. IsNew first (an_op p.0.index)) made.ops.items
  pub blocks : All (λ b. IsNew first (a_block b.index)) made.blocks.items
  pub late : All (λ p. IsNew first (an_op p.0.index)) made.late.items

-- whatever was built on is still built on
abbrev pub GoesOn : GenericForest → Made → GenericForest → Made → Type 0
GoesOn old was new made = (first : GenericForest) → BuildsOn first old was → BuildsOn first new made

-- and on this, where it is new
abbrev pub GoesOnAt : Entity context_ids → GenericForest → Made → GenericForest → Made → Type 0
GoesOnAt e old was new made = (first : GenericForest) → BuildsOn first old was → IsNew first e → BuildsOn first new made

-- what stood apart from all that is new does so still, where this is new
abbrev pub StaysApart : Entity context_ids → GenericForest → GenericForest → Type 0
StaysApart e old new = (first : GenericForest) → StandsApart first old → IsNew first e → StandsApart first new

-- and so it does but for what this block has, where the block is new
abbrev pub StaysApartBut : ArenaIndex → GenericForest → GenericForest → Type 0
StaysApartBut block old new = (first : GenericForest) → StandsApartBut block first old → IsNew first (a_block block) → StandsApartBut block first new
