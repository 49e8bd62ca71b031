-- Kept uses and the places that name a definition name each other, whatever is named.
use Rattle.std.specs.Prelude.{◌≡◌, ℕ, List, Some, slice_get}
use Rattle.ir_model.specs.declared.ids.ArenaIndex.{ArenaIndex}
use Rattle.ir_core_records.specs.declared.record.UseIndex.{UseIndex}
use Rattle.ir_core_records.specs.declared.record.UsePlace.{UsePlace}

-- places: those of each operation; uses: those kept at each definition; Hole: the places that no use stands for
pub record LinkedBut {N : Type 0} (Hole : ArenaIndex → ℕ → Type 0) (places : ArenaIndex → List (UsePlace N)) (uses : N → List UseIndex) : Type 0 where
  -- the use of each place stands at its place among the uses of what it names
  pub forward : (o : ArenaIndex) (i : ℕ) (a : UsePlace N) → slice_get (places o) i ≡ Some a → ¬ (Hole o i)
      → slice_get (uses a.names) a.place ≡ Some (record { user = o; number = a.number })
  -- each kept use stands for a place that names the definition and has the use's place
  pub backward : (v : N) (k : ℕ) (u : UseIndex) → slice_get (uses v) k ≡ Some u
      → (i : ℕ) × (slice_get (places u.user) i ≡ Some (record { number = u.number; names = v; place = k })) × (¬ (Hole u.user i))
  -- no two places have one number
  pub distinct : (o p : ArenaIndex) (i j : ℕ) (a b : UsePlace N) → slice_get (places o) i ≡ Some a → slice_get (places p) j ≡ Some b
      → a.number ≡ b.number → (o ≡ p) × (i ≡ j)

-- nowhere
abbrev pub NoHole : ArenaIndex → ℕ → Type 0
NoHole o i = ⊥

-- at this place alone
abbrev pub HoleAt : ArenaIndex → ℕ → ArenaIndex → ℕ → Type 0
HoleAt p j o i = (o ≡ p) × (i ≡ j)

-- no place has this number
abbrev pub IsFreshUse : {N : Type 0} → (ArenaIndex → List (UsePlace N)) → ℕ → Type 0
IsFreshUse {N} places n = (o : ArenaIndex) (i : ℕ) (a : UsePlace N) → slice_get (places o) i ≡ Some a → ¬ (a.number ≡ n)

-- the user has a place with this number
abbrev pub IsPlaced : {N : Type 0} → (ArenaIndex → List (UsePlace N)) → UseIndex → Type 0
IsPlaced {N} places u = (i : ℕ) × (a : UsePlace N) × (slice_get (places u.user) i ≡ Some a) × (a.number ≡ u.number)
