-- Lists of verifiers and of dictionary keys.
use Rattle.std.specs.Prelude.{◌≡◌, ◌≢◌, ℕ, ◌<◌, Bool, not, true, List, [], ◌∷◌, ◌++◌, filter, map, length, slice_get, nat_eq, Contains}
use Rattle.std.specs.List.{flat_map}
use Rattle.std.specs.Map.{keys_of}

-- each item at its first place alone
abbrev pub first_places : {X : Type 0} → (X → X → Bool) → List X → List X
first_places same [] = []
first_places same (x ∷ xs) = x ∷ filter (λ y. not (same x y)) (first_places same xs)

-- the lists of an owner, joined in the order in which they were handed in
abbrev pub joined : List (ℕ × List ℕ) → ℕ → List ℕ
joined entries owner = flat_map (λ e. e.1) (filter (λ e. nat_eq e.0 owner) entries)

-- the owners in the order of their first entry, with each of their verifiers at its first place
abbrev pub deduplicated : List (ℕ × List ℕ) → List (ℕ × List ℕ)
deduplicated entries = map (λ owner. (owner, first_places nat_eq (joined entries owner))) (first_places nat_eq (keys_of entries))

-- no two places below n have one item
abbrev pub DifferBelow : {X : Type 0} → List X → ℕ → Type 0
DifferBelow xs n = (first second : ℕ) → first < second → second < n → slice_get xs first ≢ slice_get xs second

-- the second place is the least whose item stands earlier, and the first is where it stands
pub record IsFirstRepeat {X : Type 0} (xs : List X) (first second : ℕ) : Type 0 where
  pub in_order : first < second
  pub within : second < length xs
  pub same : slice_get xs first ≡ slice_get xs second
  pub least : DifferBelow xs second

-- before each item of the list stand all its supers
abbrev pub SupersFirst : (ℕ → ℕ → Bool) → List ℕ → Type 0
SupersFirst is_super xs = (before after : List ℕ) (item super : ℕ) → xs ≡ before ++ item ∷ after → is_super item super ≡ true → Contains before super
