-- Verifier lists on their way: how the groups of owners grow as entries are added.
use Rattle.std.specs.Prelude.{fold, if◌then◌else◌, Vec, ℕ, Bool, List, [], ◌∷◌, ◌++◌, nat_eq}
use Rattle.ir_base_dialects.specs.Stores.{has_key}
use Rattle.ir_model.specs.Edits.{with_key}

-- the list with each of the items that it doesn't have yet put last, in turn
abbrev pub with_each : {X : Type 0} → (X → X → Bool) → List X → List X → List X
with_each same kept items = fold (with_key same) kept items

-- the groups with this owner, put last where it isn't there
abbrev pub with_owner : List (ℕ × List ℕ) → ℕ → List (ℕ × List ℕ)
with_owner groups owner = if has_key nat_eq groups owner then groups else groups ++ (owner, []) ∷ []

-- the groups with the verifiers added to the owner's
abbrev pub with_entry : List (ℕ × List ℕ) → ℕ → List ℕ → List (ℕ × List ℕ)
with_entry [] owner verifiers = (owner, with_each nat_eq [] verifiers) ∷ []
with_entry (g ∷ gs) owner verifiers = if nat_eq g.0 owner then (g.0, with_each nat_eq g.1 verifiers) ∷ gs else g ∷ with_entry gs owner verifiers

-- an entry whose list is a vector, with the list of its items
abbrev pub plain_entry : {Y : Type 0} → ℕ × Vec ℕ Y → ℕ × List ℕ
plain_entry entry = (entry.0, entry.1.items)
