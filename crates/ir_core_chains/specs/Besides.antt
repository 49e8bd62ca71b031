-- Uses and places that name each other but for one use, which no place stands for: the state in mid-change, once a place is gone and before its use is.
use Rattle.std.specs.Prelude.{◌≡◌, ℕ, List, Some, slice_get}
use Rattle.ir_model.specs.declared.ids.ArenaIndex.{ArenaIndex}
use Rattle.ir_core_records.specs.declared.record.UseIndex.{UseIndex}
use Rattle.ir_core_records.specs.declared.record.UsePlace.{UsePlace}

-- places: those of each operation; uses: those kept at each definition; the one use stands at k among those of v
pub record LinkedBesides {N : Type 0} (v : N) (k : ℕ) (places : ArenaIndex → List (UsePlace N)) (uses : N → List UseIndex) : Type 0 where
  -- the use of each place stands at its place among the uses of what it names
  pub forward : (o : ArenaIndex) (i : ℕ) (a : UsePlace N) → slice_get (places o) i ≡ Some a
      → slice_get (uses a.names) a.place ≡ Some (record { user = o; number = a.number })
  -- and it is another one
  pub apart : (o : ArenaIndex) (i : ℕ) (a : UsePlace N) → slice_get (places o) i ≡ Some a → ¬ ((a.names ≡ v) × (a.place ≡ k))
  -- each other use stands for a place that names the definition and has the use's place
  pub backward : (w : N) (j : ℕ) (u : UseIndex) → slice_get (uses w) j ≡ Some u → ¬ ((w ≡ v) × (j ≡ k))
      → (i : ℕ) × (slice_get (places u.user) i ≡ Some (record { number = u.number; names = w; place = j }))
  -- no two places have one number
  pub distinct : (o p : ArenaIndex) (i j : ℕ) (a b : UsePlace N) → slice_get (places o) i ≡ Some a → slice_get (places p) j ≡ Some b
      → a.number ≡ b.number → (o ≡ p) × (i ≡ j)
