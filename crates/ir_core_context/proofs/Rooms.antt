-- What is left of a count is enough, or isn't.
use Rattle.std.proofs.Common.{◌≡◌, ◌⊎◌, ℕ, ◌+◌, ◌<◌, ◌≤◌, List, [], ◌∷◌, length, IsTrue, nat_lt, Result, Ok, Err, true≢false, refl, sym, subst, ◌∙◌, inl, inr, arith}
use Rattle.ir_model.specs.declared.ids.ArenaIndex.{ArenaIndex}
use Rattle.ir_model.specs.Ids.{Counts}
use Rattle.ir_model.specs.Forest.{Dialect}
use Rattle.ir_model.specs.Nesting.{In}
use Rattle.ir_model.specs.Sessions.{Session, Number, HasRoom, LacksRoom, HasNumbers, LacksNumbers, LacksSlots, TakesSlot, live_op, live_block, live_region}
use Rattle.ir_base_arenas.specs.declared.room.Room.{Room}
use Rattle.std.specs.Result.{IsErrAnd}
use Rattle.ir_model.specs.declared.error.CoreError.{CoreError}
use Rattle.ir_model.specs.declared.error.CoreError.TheVariants.{OutOfMemory, CounterSpent, SlotsSpent}
use Rattle.ir_model.proofs.Removal.{length-same}
use Rattle.ir_core_context.specs.Calls.{Left, IsRoom}
use Rattle.ir_core_context.proofs.RoomLemmas.{Number-below}

module _ {A : Type 0} where
  -- a number of things is one number
  Number-unique : (P : A → Type 0) (m n : ℕ) → Number P m → Number P n → m ≡ n
  Number-unique P m n p q =
      let same = length-same p.0 q.0 p.1 q.1 (λ z h. (q.2 z).1 ((p.2 z).0 h)) (λ z h. (p.2 z).1 ((q.2 z).0 h)) in
      omega (arith, same, p.3, q.3)

  pub left-lacks : (count : ℕ) (P : A → Type 0) (left n : ℕ) → Left count P left → left < n → LacksRoom count P n
  left-lacks count P left n l few = (l.gone, l.number, omega (arith, l.whole, few))

  pub left-has : (count : ℕ) (P : A → Type 0) (left n : ℕ) → Left count P left → n ≤ left → HasRoom count P n
  left-has count P left n l enough = (l.gone, l.number, omega (arith, l.whole, enough))

  pub lacks-left : (count : ℕ) (P : A → Type 0) (left n : ℕ) → Left count P left → LacksRoom count P n → left < n
  lacks-left count P left n l h = let same = Number-unique P l.gone h.0 l.number h.1 in omega (arith, l.whole, h.2, same)

  has-left : (count : ℕ) (P : A → Type 0) (left n : ℕ) → Left count P left → HasRoom count P n → n ≤ left
  has-left count P left n l h = let same = Number-unique P l.gone h.0 l.number h.1 in omega (arith, l.whole, h.2, same)

module _ {W : Dialect} (s : Session W) (room : Room) (is : IsRoom s room) (n : Counts) where
  pub lacks-numbers : (room.values < n.numbers) ⊎ (room.uses < n.uses) → LacksNumbers s n
  lacks-numbers (inl few) = inl (left-lacks s.limits.values (λ m. IsTrue (s.passed.numbers m)) room.values n.numbers is.values few)
  lacks-numbers (inr few) = inr (left-lacks s.limits.uses (λ m. IsTrue (s.passed.uses m)) room.uses n.uses is.uses few)

  pub has-numbers : n.numbers ≤ room.values → n.uses ≤ room.uses → HasNumbers s n
  has-numbers values uses = record {
    values = left-has s.limits.values (λ m. IsTrue (s.passed.numbers m)) room.values n.numbers is.values values;
    uses = left-has s.limits.uses (λ m. IsTrue (s.passed.uses m)) room.uses n.uses is.uses uses;
  }

  pub not_lacking : n.numbers ≤ room.values → n.uses ≤ room.uses → LacksNumbers s n → ⊥
  not_lacking values uses (inl h) = absurd (omega (arith, lacks-left s.limits.values (λ m. IsTrue (s.passed.numbers m)) room.values n.numbers is.values h))
  not_lacking values uses (inr h) = absurd (omega (arith, lacks-left s.limits.uses (λ m. IsTrue (s.passed.uses m)) room.uses n.uses is.uses h))

  pub not_having : (room.values < n.numbers) ⊎ (room.uses < n.uses) → HasNumbers s n → ⊥
  not_having (inl few) h = absurd (omega (arith, has-left s.limits.values (λ m. IsTrue (s.passed.numbers m)) room.values n.numbers is.values h.values))
  not_having (inr few) h = absurd (omega (arith, has-left s.limits.uses (λ m. IsTrue (s.passed.uses m)) room.uses n.uses is.uses h.uses))

  pub lacks-slots : (room.ops < n.ops) ⊎ ((room.blocks < n.blocks) ⊎ (room.regions < n.regions)) → LacksSlots s n
  lacks-slots (inl few) = inl (left-lacks s.limits.slots (TakesSlot s.limits s.passed.ops (live_op s.state)) room.ops n.ops is.ops few)
  lacks-slots (inr (inl few)) = inr (inl (left-lacks s.limits.slots (TakesSlot s.limits s.passed.blocks (live_block s.state)) room.blocks n.blocks is.blocks few))
  lacks-slots (inr (inr few)) = inr (inr (left-lacks s.limits.slots (TakesSlot s.limits s.passed.regions (live_region s.state)) room.regions n.regions is.regions few))

  pub slots_enough : n.ops ≤ room.ops → n.blocks ≤ room.blocks → n.regions ≤ room.regions → LacksSlots s n → ⊥
  slots_enough ops blocks regions (inl h) = absurd (omega (arith, lacks-left s.limits.slots (TakesSlot s.limits s.passed.ops (live_op s.state)) room.ops n.ops is.ops h))
  slots_enough ops blocks regions (inr (inl h)) = absurd (omega (arith, lacks-left s.limits.slots (TakesSlot s.limits s.passed.blocks (live_block s.state)) room.blocks n.blocks is.blocks h))
  slots_enough ops blocks regions (inr (inr h)) = absurd (omega (arith, lacks-left s.limits.slots (TakesSlot s.limits s.passed.regions (live_region s.state)) room.regions n.regions is.regions h))

-- what is left of the numbers is what is above the next one
pub left-above : (count next left : ℕ) → Left count (λ n. IsTrue (nat_lt n next)) left → next + left ≡ count
left-above count next left l = let same = Number-unique (λ n. IsTrue (nat_lt n next)) l.gone next l.number (Number-below next) in omega (arith, l.whole, same)

same_error : {T : Type 0} (x y : CoreError) → ◌≡◌ {A = Result T CoreError} (Err x) (Err y) → x ≡ y
same_error x y e = cc

-- a refusal for memory is for nothing else
pub no_counter : {T : Type 0} (r : Result T CoreError) → IsErrAnd r (λ e. e ≡ OutOfMemory) → r ≡ Err CounterSpent → ⊥
no_counter (Ok y) h e = h
no_counter {T = T} (Err y) h e = (let k : OutOfMemory ≡ CounterSpent = sym h ∙ same_error {T = T} y CounterSpent e in cc)

pub no_slots : {T : Type 0} (r : Result T CoreError) → IsErrAnd r (λ e. e ≡ OutOfMemory) → r ≡ Err SlotsSpent → ⊥
no_slots (Ok y) h e = h
no_slots {T = T} (Err y) h e = (let k : OutOfMemory ≡ SlotsSpent = sym h ∙ same_error {T = T} y SlotsSpent e in cc)
