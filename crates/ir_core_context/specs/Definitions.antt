-- What an edit of results or arguments promises.
use Rattle.std.specs.Prelude.{◌≡◌, ◌≢◌, ℕ, [], ◌∷◌, ◌++◌, ◌-◌, Some, length, slice_get}
use Rattle.std.specs.List.{insert, remove}
use Rattle.ir_model.specs.declared.ids.ArenaIndex.{ArenaIndex}
use Rattle.ir_model.specs.ContextIds.{context_ids}
use Rattle.ir_model.specs.Calls.{on_definitions}
use Rattle.ir_model.specs.Changes.{definition}
use Rattle.ir_model.specs.Edits.{The, Unused, one_number}
use Rattle.ir_model.specs.Forest.{Dialect, Definer, Forest, Named, a_region, a_value}
use Rattle.ir_model.specs.Nesting.{IsClosed, IsLiveNamed, definitions_of, numbers_of, regions_of}
use Rattle.ir_model.specs.Sessions.{Session}
use Rattle.ir_core_context.specs.Calls.{HandsOut}

module _ {W : Dialect} where
  -- one new value number was handed out, and the forest is what is made with it
  pub record MakesValue (old new : Session W) (make : ℕ → Forest context_ids W) : Type 0 where
    pub number : ℕ
    pub handed : HandsOut old new one_number (record { ops = []; blocks = []; regions = []; numbers = number ∷ []; uses = [] })
    pub forest : new.state.forest ≡ make number

  -- the operation has a result more, or the block an argument more, the last, of the type
  abbrev pub definition_pushed : Forest context_ids W → Definer context_ids → ℕ → ℕ → Forest context_ids W
  definition_pushed f d ty n = on_definitions f d (λ xs. xs ++ definition (n, ty) ∷ [])

  -- the operation has a result more, or the block an argument more, at this place, of the type
  abbrev pub definition_inserted : Forest context_ids W → Definer context_ids → ℕ → ℕ → ℕ → Forest context_ids W
  definition_inserted f d at ty n = on_definitions f d (λ xs. insert xs at (definition (n, ty)))

  -- the operation has the result at this place no more, or the block the argument
  abbrev pub definition_removed : Forest context_ids W → Definer context_ids → ℕ → Forest context_ids W
  definition_removed f d at = on_definitions f d (λ xs. remove xs at)

  -- the operation has its last result no more, or the block its last argument
  abbrev pub definition_popped : Forest context_ids W → Definer context_ids → Forest context_ids W
  definition_popped f d = on_definitions f d (λ xs. remove xs (length xs - 1))

  -- the place of the last result, or of the last argument
  abbrev pub last_place : Forest context_ids W → Definer context_ids → ℕ
  last_place f d = length (definitions_of f d) - 1

  -- P of the value that is the result, or the argument, at this place
  abbrev pub ValueAt : Forest context_ids W → Definer context_ids → ℕ → (Named context_ids → Type 0) → Type 0
  ValueAt f d at P = The (slice_get (numbers_of f d) at) (λ n. P (a_value (record { definer = d; number = n })))

  -- the value at this place is there, and no operation names it
  abbrev pub UnusedAt : Forest context_ids W → Definer context_ids → ℕ → Type 0
  UnusedAt f d at = ValueAt f d at (Unused f)

  -- the operation has a region at this place, and nothing outside names a definition of its subtree
  abbrev pub ClosedAt : Forest context_ids W → ArenaIndex → ℕ → Type 0
  ClosedAt f o at = The (slice_get (regions_of f o) at) (λ g. IsClosed f (a_region g))

  -- the definition isn't live any more, and each other value and block that was live is live still
  pub record StayLiveBut (old new : Forest context_ids W) (gone : Named context_ids) : Type 0 where
    pub is_gone : IsLiveNamed new gone → ⊥
    pub others : (d : Named context_ids) → d ≢ gone → IsLiveNamed old d → IsLiveNamed new d
