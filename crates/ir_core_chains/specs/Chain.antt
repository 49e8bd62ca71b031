-- Two kinds of lists in one state, each read and written by key: the places of operations, and the uses of what they name.
use Rattle.std.specs.Prelude.{◌≡◌, ◌⊎◌, ℕ, List, Some, slice_get}
use Rattle.ir_model.specs.declared.ids.ArenaIndex.{ArenaIndex}
use Rattle.ir_core_records.specs.declared.record.UseIndex.{UseIndex}
use Rattle.ir_core_records.specs.declared.record.UsePlace.{UsePlace}

-- one kind of lists: what each key leads to is read by `at` and written by `put`
pub record AreKept {S K X : Type 0} (Has : S → K → Type 0) (at : S → K → List X) (put : S → K → List X → S) : Type 0 where
  pub here : (s : S) (k : K) (xs : List X) → Has s k → at (put s k xs) k ≡ xs
  pub others : (s : S) (k : K) (xs : List X) → Has s k → (j : K) → ¬ (j ≡ k) → at (put s k xs) j ≡ at s j
  pub self : (s : S) (k : K) → put s k (at s k) ≡ s
  pub twice : (s : S) (k : K) (xs ys : List X) → Has s k → put (put s k xs) k ys ≡ put s k ys
  pub has : (s : S) (k : K) (i : ℕ) (x : X) → slice_get (at s k) i ≡ Some x → Has s k
  pub keeps : (s : S) (k : K) (xs : List X) (j : K) → Has s j → Has (put s k xs) j

-- the lists of places, those of uses, and that a write of one leaves the other
pub record IsUseChain {S N : Type 0} (Live : S → ArenaIndex → Type 0) (places : S → ArenaIndex → List (UsePlace N)) (with_places : S → ArenaIndex → List (UsePlace N) → S) (Has : S → N → Type 0) (uses : S → N → List UseIndex) (with_uses : S → N → List UseIndex → S) : Type 0 where
  pub place_lists : AreKept Live places with_places
  pub use_lists : AreKept Has uses with_uses
  pub uses_stay : (s : S) (o : ArenaIndex) (xs : List (UsePlace N)) → uses (with_places s o xs) ≡ uses s
  pub places_stay : (s : S) (v : N) (us : List UseIndex) → places (with_uses s v us) ≡ places s
  pub has_stays : (s : S) (o : ArenaIndex) (xs : List (UsePlace N)) (v : N) → Has s v → Has (with_places s o xs) v
  pub live_stays : (s : S) (v : N) (us : List UseIndex) (o : ArenaIndex) → Live s o → Live (with_uses s v us) o
  -- what is named is told apart
  pub tell : (v w : N) → (v ≡ w) ⊎ (¬ (v ≡ w))

-- new is old after writes of these lists alone
pub data Rewrites {S N : Type 0} (with_places : S → ArenaIndex → List (UsePlace N) → S) (with_uses : S → N → List UseIndex → S) (old : S) : S → Type 0 where
  unchanged : Rewrites with_places with_uses old old
  by_places : (s new : S) (o : ArenaIndex) (xs : List (UsePlace N)) → Rewrites with_places with_uses old s → new ≡ with_places s o xs → Rewrites with_places with_uses old new
  by_uses : (s new : S) (v : N) (us : List UseIndex) → Rewrites with_places with_uses old s → new ≡ with_uses s v us → Rewrites with_places with_uses old new
