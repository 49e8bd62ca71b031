-- Auxiliary data: which index is new, and what a call that is refused leaves.
use Rattle.std.specs.Prelude.{◌≡◌, ◌↔◌, ◌⊎◌, ◌≤◌, List, length, Option, IsSome, IsTrue}
use Rattle.ir_model.specs.declared.ids.ArenaIndex.{ArenaIndex}
use Rattle.ir_model.specs.declared.ids.Limits.{Limits}
use Rattle.ir_model.specs.ContextIds.{same_id}
use Rattle.ir_model.specs.Forest.{Text, Dialect}
use Rattle.ir_model.specs.Nesting.{In}
use Rattle.ir_model.specs.Changes.{rewrite}
use Rattle.ir_model.specs.Sessions.{Beside, IsNewId, HasRoom, LacksRoom, TakesSlot}
use Rattle.ir_model.specs.Stores.{with_aux}

module _ {W : Dialect} where
  -- there is data under the index
  abbrev pub live_aux : Beside W → ArenaIndex → Type 0
  live_aux b i = IsSome (b.aux i)

  -- an index that may be handed out: its slot was never used, or its last index is empty and may have a successor
  abbrev pub IsNewAux : Limits → Beside W → ArenaIndex → Type 0
  IsNewAux limits b i = IsNewId limits b.aux_passed (live_aux b) i

  -- the data is put under a new index, which is passed from then on; all else is as before
  pub record InsertsAux (limits : Limits) (b : Beside W) (data_ : W.Aux) (i : ArenaIndex) (c : Beside W) : Type 0 where
    pub is_new : IsNewAux limits b i
    pub after : c ≡ with_aux b i data_

  -- there is a slot for one more
  abbrev pub HasAuxSlot : Limits → Beside W → Type 0
  HasAuxSlot limits b = HasRoom limits.slots (TakesSlot limits b.aux_passed (live_aux b)) 1

  -- there is no slot for one more
  abbrev pub LacksAuxSlot : Limits → Beside W → Type 0
  LacksAuxSlot limits b = LacksRoom limits.slots (TakesSlot limits b.aux_passed (live_aux b)) 1

  -- all is as before, but that at most one new index was skipped
  pub record SkipsAux (limits : Limits) (b c : Beside W) : Type 0 where
    pub saved : c.saved ≡ b.saved
    pub aux : c.aux ≡ b.aux
    pub names : c.aux_names ≡ b.aux_names
    pub skipped : List ArenaIndex
    pub few : length skipped ≤ 1
    pub were_new : (i : ArenaIndex) → In i skipped → IsNewAux limits b i
    pub passed : (i : ArenaIndex) → IsTrue (c.aux_passed i) ↔ (IsTrue (b.aux_passed i) ⊎ In i skipped)

  -- the data under the index, where there is any, is this; all else is as before
  abbrev pub write_aux : Beside W → ArenaIndex → W.Aux → Beside W
  write_aux b i data_ = record b { aux = rewrite same_id i (λ _. data_) b.aux }

  -- the index that the name leads to, also where its data is gone
  abbrev pub aux_by_name : Beside W → Text → Option ArenaIndex
  aux_by_name b name = b.aux_names name

  -- an index under which there is data was handed out
  pub record AuxIsSound (b : Beside W) : Type 0 where
    pub passed : (i : ArenaIndex) → live_aux b i → IsTrue (b.aux_passed i)
