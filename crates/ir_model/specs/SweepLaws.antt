-- What a sweep of a block leaves.
use Rattle.std.specs.Prelude.{◌≡◌, ℕ, List, IsSome, IsTrue}
use Rattle.ir_model.specs.declared.ids.ArenaIndex.{ArenaIndex}
use Rattle.ir_model.specs.ContextIds.{context_ids}
use Rattle.ir_model.specs.Forest.{Dialect, Behaviour, Forest, an_op}
use Rattle.ir_model.specs.Nesting.{In, IsClosed, WellFormed, ops_of}
use Rattle.ir_model.specs.BlockGraph.{implements, pure_interface}
use Rattle.ir_model.specs.Sessions.{Session}
use Rattle.ir_model.specs.Soundness.{Sound}
use Rattle.ir_model.specs.Dead.{Sweeps}

module _ {W : Dialect} (B : Behaviour W) where
  -- no pure operation of the block is closed
  abbrev pub NoneIsClosed : Forest context_ids W → ArenaIndex → Type 0
  NoneIsClosed g b = (o : ArenaIndex) → In o (ops_of g b) → IsTrue (implements B g pure_interface o) → IsClosed g (an_op o) → ⊥

  module _ (f : Forest context_ids W) (keys : ℕ) (b : ArenaIndex) where
    -- the list has each live operation of the forest
    abbrev pub HasLive : List ArenaIndex → Type 0
    HasLive live = (o : ArenaIndex) → IsSome (f.ops o) → In o live

    -- what a sweep of the block leaves
    pub record SweepTells (g : Forest context_ids W) (count : ℕ) : Type 0 where
      -- nothing else would be it, and no other count
      pub only : (h : Forest context_ids W) (other : ℕ) → Sweeps B f b h other → (h ≡ g) × (other ≡ count)
      pub formed : WellFormed g keys
      -- where the live operations can be listed, no pure one that is left in the block is closed
      pub none_closed : (live : List ArenaIndex) → HasLive live → NoneIsClosed g b

  -- in every well-formed forest a sweep tells what it leaves
  abbrev pub SweepIsOne : Type 0
  SweepIsOne = (f g : Forest context_ids W) (keys count : ℕ) (b : ArenaIndex) → WellFormed f keys → Sweeps B f b g count → SweepTells f keys b g count

  -- after a sweep in a sound session no pure operation that is left in the block is closed
  abbrev pub SessionsAreSwept : Type 0
  SessionsAreSwept = (s : Session W) (b : ArenaIndex) (g : Forest context_ids W) (count : ℕ) → Sound s → Sweeps B s.state.forest b g count → NoneIsClosed g b
