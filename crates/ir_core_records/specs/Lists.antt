-- Lists inside records: one list of the record under an index, and the uses of one definition of a list.
use Rattle.std.specs.Prelude.{◌≡◌, ℕ, ◌+◌, List, [], ◌∷◌, map, Option, Some, None, slice_get, if◌then◌else◌, ◌==◌}
use Rattle.ir_model.specs.declared.ids.ArenaIndex.{ArenaIndex}
use Rattle.ir_model.specs.Ids.{Distinct}
use Rattle.ir_base_dialects.specs.declared.type_handle.TypeHandle.{TypeHandle}
use Rattle.ir_base_arenas.specs.Arena.{Arena, get, fill}
use Rattle.ir_core_records.specs.declared.record.UseIndex.{UseIndex}
use Rattle.ir_core_records.specs.declared.record.UsePlace.{UsePlace}
use Rattle.ir_core_records.specs.declared.record.Definition.{Definition}

-- no two definitions have one number
abbrev pub HaveDistinctNumbers : List Definition → Type 0
HaveDistinctNumbers rs = Distinct (map (λ r. r.number) rs)

-- the uses of the first definition with this number
abbrev pub uses_with : List Definition → ℕ → List UseIndex
uses_with [] n = []
uses_with (r ∷ rs) n = if r.number == n then r.uses else uses_with rs n

-- the definitions, the first with this number having these uses
abbrev pub put_uses : List Definition → ℕ → List UseIndex → List Definition
put_uses [] n us = []
put_uses (r ∷ rs) n us = if r.number == n then record r { uses = us } ∷ rs else r ∷ put_uses rs n us

-- a definition has the number
abbrev pub HasNumber : List Definition → ℕ → Type 0
HasNumber rs n = (i : ℕ) × (r : Definition) × (slice_get rs i ≡ Some r) × (r.number ≡ n)

-- the places, the first with this number standing at k among the uses of what it names
abbrev pub put_place : {N : Type 0} → List (UsePlace N) → ℕ → ℕ → List (UsePlace N)
put_place [] n k = []
put_place (a ∷ xs) n k = if a.number == n then record a { place = k } ∷ xs else a ∷ put_place xs n k

-- what a record has, or a default where there is none
abbrev pub in_record : {T Y : Type 0} → (T → Y) → Y → Option T → Y
in_record read none None = none
in_record read none (Some x) = read x

-- the record under a live index, changed
abbrev pub edited : {T : Type 0} → (T → T) → Arena T → ArenaIndex → Arena T
edited change t o = elim (get t o) [ None ↦ t | Some x ↦ fill t o (change x) ]

-- the definition stands in the list, and has the number
abbrev pub IsDefinition : List Definition → ℕ → Definition → Type 0
IsDefinition rs n r = (i : ℕ) × (slice_get rs i ≡ Some r) × (r.number ≡ n)

-- unused and unnamed definitions of these types, numbered from n on
abbrev pub definitions_from : ℕ → List TypeHandle → List Definition
definitions_from n [] = []
definitions_from n (t ∷ ts) = record { number = n; ty = t.place; name = None; uses = [] } ∷ definitions_from (n + 1) ts

-- no two places have one number
abbrev pub HaveDistinctUses : {N : Type 0} → List (UsePlace N) → Type 0
HaveDistinctUses xs = Distinct (map (λ a. a.number) xs)
