-- Parents, neighbours and places, found by searching all lists.
use Rattle.std.specs.Prelude.{◌≡◌, ℕ, List, ◌∷◌, ◌++◌, length, ◌-◌, slice_get, Option, Some, MatchOption}
use Rattle.ir_model.specs.Ids.{Ids}
use Rattle.ir_model.specs.Forest.{Dialect, Entity, Forest}
use Rattle.ir_model.specs.Nesting.{In, IsLinked, children}

-- x stands in the list, and y right after it
abbrev pub Adjacent : {A : Type 0} → A → A → List A → Type 0
Adjacent {A} x y xs = (before after : List A) × (xs ≡ before ++ x ∷ y ∷ after)

-- the first of the list, where there is one
abbrev pub first_of : {A : Type 0} → List A → Option A
first_of xs = slice_get xs 0

-- the last of the list, where there is one
abbrev pub last_of : {A : Type 0} → List A → Option A
last_of xs = slice_get xs (length xs - 1)

-- the answer has P where it is there, and where it is not, nothing has P
abbrev pub FindsOne : {A : Type 0} → (A → Type 0) → Option A → Type 0
FindsOne {A} P answer = MatchOption answer ((x : A) → P x → ⊥) P

module _ {N : Ids} {W : Dialect} where
  -- x stands in the list of y
  abbrev pub IsIn : Forest N W → Entity N → Entity N → Type 0
  IsIn f x y = In x (children f y)

  -- y comes right after x in a list
  abbrev pub ComesAfter : Forest N W → Entity N → Entity N → Type 0
  ComesAfter f x y = (p : Entity N) × Adjacent x y (children f p)

  -- the answer is the id whose list holds x, or nothing where no list does
  abbrev pub IsParent : Forest N W → Entity N → Option (Entity N) → Type 0
  IsParent f x answer = FindsOne (IsIn f x) answer

  -- the answer is what comes after x, or nothing where nothing does
  abbrev pub IsNext : Forest N W → Entity N → Option (Entity N) → Type 0
  IsNext f x answer = FindsOne (λ y. ComesAfter f x y) answer

  -- the answer is what x comes after, or nothing where x comes after nothing
  abbrev pub IsPrevious : Forest N W → Entity N → Option (Entity N) → Type 0
  IsPrevious f x answer = FindsOne (λ y. ComesAfter f y x) answer

  -- x stands at this place of its list, counted from 0
  abbrev pub IsIndex : Forest N W → Entity N → ℕ → Type 0
  IsIndex f x index = (y : Entity N) × (slice_get (children f y) index ≡ Some x)

  -- x stands in no list
  abbrev pub IsUnlinked : Forest N W → Entity N → Type 0
  IsUnlinked f x = IsLinked f x → ⊥
