-- The edits that drop uses and erase as steps, from what the calls of the context promise.
use Rattle.std.proofs.Common.{◌≡◌, refl, ℕ, List}
use Rattle.std.specs.Prelude.{slice_get}
use Rattle.ir_model.specs.declared.answer.Answer.TheVariants.{Done}
use Rattle.ir_model.specs.declared.ids.ArenaIndex.{ArenaIndex}
use Rattle.ir_model.specs.ContextIds.{context_ids}
use Rattle.ir_model.specs.Forest.{Behaviour, Forest, OpRecord, a_block, a_region, an_op}
use Rattle.ir_model.specs.Nesting.{IsClosed, regions_of}
use Rattle.ir_model.specs.Changes.{DropsUses, Removes}
use Rattle.ir_model.specs.Edits.{Condition, DropBlockUses, DropOpUses, DropRegionUses, EraseBlock, EraseOp, EraseRegion, Tables, The, no_needs, over}
use Rattle.ir_model.specs.Sessions.{Session, Step}
use Rattle.ir_core_records.specs.Meaning.{closed}
use Rattle.ir_core_queries.specs.Calls.{SameButForest}
use Rattle.ir_core_queries.specs.State.{ContextState, bare, forest_of, session_of}
use Rattle.ir_run_sessions.specs.Named.{NamesLive}
use Rattle.ir_run_sessions.proofs.SessionSteps.{HasRoom}
use Rattle.ir_run_sessions.proofs.EntryKinds.{blocks, listed, not_one, one, ops, regions, unlisted}
use Rattle.ir_run_sessions.proofs.DoneSteps.{done, left}

module _ {D A K B S X L : Type 0} (c : ContextState D A K B S X L) (tb : Tables context_ids) where
  abbrev s : Session (closed A K B S X L)
  s = session_of c tb

  abbrev f : Forest context_ids (closed A K B S X L)
  f = forest_of c

  -- the list has a region at the place that can be erased
  abbrev closed_at : ℕ → ArenaIndex → List ArenaIndex → Type 0
  closed_at at o gs = The (slice_get gs at) (λ g. IsClosed f (a_region g))

  module _ (n : ℕ) where
    -- what is tested of a number is the condition
    pub not_drop_op_uses : ((i : ArenaIndex) → NamesLive f an_op tb.ops n i → ⊥) → Condition s.state (DropOpUses n) → ⊥
    not_drop_op_uses fails = not_one (ops f tb) n (λ i. Unit {0}) (λ i x r. fails i x)

    pub not_drop_block_uses : ((i : ArenaIndex) → NamesLive f a_block tb.blocks n i → ⊥) → Condition s.state (DropBlockUses n) → ⊥
    not_drop_block_uses fails = not_one (blocks f tb) n (λ i. Unit {0}) (λ i x r. fails i x)

    pub not_drop_region_uses : ((i : ArenaIndex) → NamesLive f a_region tb.regions n i → ⊥) → Condition s.state (DropRegionUses n) → ⊥
    not_drop_region_uses fails = not_one (regions f tb) n (λ i. Unit {0}) (λ i x r. fails i x)

    pub not_erase_op : ((i : ArenaIndex) → NamesLive f an_op tb.ops n i → IsClosed f (an_op i) → ⊥) → Condition s.state (EraseOp n) → ⊥
    not_erase_op = not_one (ops f tb) n (λ i. IsClosed f (an_op i))

    pub not_erase_block : ((i : ArenaIndex) → NamesLive f a_block tb.blocks n i → IsClosed f (a_block i) → ⊥) → Condition s.state (EraseBlock n) → ⊥
    not_erase_block = not_one (blocks f tb) n (λ i. IsClosed f (a_block i))

    pub not_erase_region : (at : ℕ) → ((i : ArenaIndex) → NamesLive f an_op tb.ops n i → The (slice_get (regions_of f i) at) (λ g. IsClosed f (a_region g)) → ⊥) → Condition s.state (EraseRegion n at) → ⊥
    not_erase_region at fails t =
        not_one (ops f tb) n (λ i. closed_at at i (regions_of f i)) fails (unlisted tb.ops f.ops (λ (r : OpRecord context_ids (closed A K B S X L)). r.regions) (closed_at at) n t)

  module _ (behave : Behaviour (closed A K B S X L)) (room : HasRoom (bare c) no_needs) (d : ContextState D A K B S X L) (same : SameButForest (bare c) (bare d)) (n : ℕ) (i : ArenaIndex) where
    pub drop_op_uses_done : NamesLive f an_op tb.ops n i → DropsUses f (an_op i) (forest_of d) → Step behave s (DropOpUses n) Done (session_of d tb)
    drop_op_uses_done x drops = done c tb behave room d same (DropOpUses n) (one (ops f tb) n (λ _. Unit {0}) i x tt) refl refl (record { value = i; found = x.found; holds = (drops, left c tb d same _ refl) })

    pub drop_block_uses_done : NamesLive f a_block tb.blocks n i → DropsUses f (a_block i) (forest_of d) → Step behave s (DropBlockUses n) Done (session_of d tb)
    drop_block_uses_done x drops = done c tb behave room d same (DropBlockUses n) (one (blocks f tb) n (λ _. Unit {0}) i x tt) refl refl (record { value = i; found = x.found; holds = (drops, left c tb d same _ refl) })

    pub drop_region_uses_done : NamesLive f a_region tb.regions n i → DropsUses f (a_region i) (forest_of d) → Step behave s (DropRegionUses n) Done (session_of d tb)
    drop_region_uses_done x drops = done c tb behave room d same (DropRegionUses n) (one (regions f tb) n (λ _. Unit {0}) i x tt) refl refl (record { value = i; found = x.found; holds = (drops, left c tb d same _ refl) })

    pub erase_op_done : NamesLive f an_op tb.ops n i → IsClosed f (an_op i) → Removes f (an_op i) (forest_of d) → Step behave s (EraseOp n) Done (session_of d tb)
    erase_op_done x free removes = done c tb behave room d same (EraseOp n) (one (ops f tb) n (λ i. IsClosed f (an_op i)) i x free) refl refl (record { value = i; found = x.found; holds = (removes, left c tb d same _ refl) })

    pub erase_block_done : NamesLive f a_block tb.blocks n i → IsClosed f (a_block i) → Removes f (a_block i) (forest_of d) → Step behave s (EraseBlock n) Done (session_of d tb)
    erase_block_done x free removes = done c tb behave room d same (EraseBlock n) (one (blocks f tb) n (λ i. IsClosed f (a_block i)) i x free) refl refl (record { value = i; found = x.found; holds = (removes, left c tb d same _ refl) })

    module _ (at : ℕ) (x : NamesLive f an_op tb.ops n i) where
      -- the list has a region at the place, which was erased
      abbrev erased_at : ArenaIndex → List ArenaIndex → Type 0
      erased_at o gs = The (slice_get gs at) (λ g. Removes f (a_region g) (forest_of d) × ((session_of d tb).state ≡ over s.state (forest_of d)))

      pub erase_region_done : The (slice_get (regions_of f i) at) (λ g. IsClosed f (a_region g)) → The (slice_get (regions_of f i) at) (λ g. Removes f (a_region g) (forest_of d)) → Step behave s (EraseRegion n at) Done (session_of d tb)
      erase_region_done free removes =
          done c tb behave room d same (EraseRegion n at)
          (listed tb.ops f.ops (λ (r : OpRecord context_ids (closed A K B S X L)). r.regions) (closed_at at) n (one (ops f tb) n (λ i. closed_at at i (regions_of f i)) i x free)) refl refl
          (listed tb.ops f.ops (λ (r : OpRecord context_ids (closed A K B S X L)). r.regions) erased_at n
          (one (ops f tb) n (λ i. erased_at i (regions_of f i)) i x (record { value = removes.value; found = removes.found; holds = (removes.holds, left c tb d same _ refl) })))
