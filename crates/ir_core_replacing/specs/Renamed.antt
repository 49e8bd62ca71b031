-- Places that come to name another definition, under their numbers.
use Rattle.std.specs.Prelude.{◌≡◌, ℕ, ◌==◌, List, set, Some, None, slice_get, position, if◌then◌else◌, Bool}
use Rattle.ir_model.specs.declared.ids.ArenaIndex.{ArenaIndex}
use Rattle.ir_model.specs.ContextIds.{context_ids}
use Rattle.ir_model.specs.Uses.{Use}
use Rattle.ir_core_records.specs.declared.record.UseIndex.{UseIndex}
use Rattle.ir_core_records.specs.declared.record.UsePlace.{UsePlace}

module _ {N : Type 0} where
  -- the places, the one with this number naming v, and its use standing at k among those of v
  abbrev pub put_name : List (UsePlace N) → ℕ → N → ℕ → List (UsePlace N)
  put_name xs n v k = elim (position (λ (a : UsePlace N). a.number == n) xs) [ None ↦ xs | Some i ↦ set xs i (record { number = n; names = v; place = k }) ]

  -- the place of a use
  abbrev pub IsPlaceOf : (ArenaIndex → List (UsePlace N)) → UseIndex → UsePlace N → Type 0
  IsPlaceOf places u a = (i : ℕ) × (slice_get (places u.user) i ≡ Some a) × (a.number ≡ u.number)

  -- each place that named `from`, and whose use stood at k among its uses, names the first part of `goes k`, where its use stands at the second; all other places are as they were
  pub record Renamed (from : N) (goes : ℕ → N × ℕ) (old new : ArenaIndex → List (UsePlace N)) : Type 0 where
    pub moved : (o : ArenaIndex) (i : ℕ) (a : UsePlace N) → slice_get (old o) i ≡ Some a → a.names ≡ from → slice_get (new o) i ≡ Some (record { number = a.number; names = (goes a.place).0; place = (goes a.place).1 })
    pub stays : (o : ArenaIndex) (i : ℕ) (a : UsePlace N) → slice_get (old o) i ≡ Some a → ¬ (a.names ≡ from) → slice_get (new o) i ≡ Some a
    pub came : (o : ArenaIndex) (i : ℕ) (b : UsePlace N) → slice_get (new o) i ≡ Some b → (a : UsePlace N) × (slice_get (old o) i ≡ Some a) × (a.number ≡ b.number)

  -- a number and a name, where the uses of the set name v
  abbrev pub renamed : (Use context_ids → Bool) → N → ArenaIndex → ℕ × N → ℕ × N
  renamed among v o n = if among (record { user = o; number = n.0 }) then (n.0, v) else n

  -- a number and a name, where what passes the test names v
  abbrev pub named_by : (N → Bool) → N → ℕ × N → ℕ × N
  named_by passes v n = if passes n.1 then (n.0, v) else n
