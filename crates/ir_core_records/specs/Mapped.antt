-- Lists with one item more or less, mapped and read by index.
use Rattle.std.proofs.Common.{◌≡◌, ℕ, zero, suc, ◌≤◌, List, [], ◌∷◌, length, map, take, drop, Some, slice_get, refl, ◌∙◌, arith}
use Rattle.std.specs.List.{insert, remove}
use Rattle.std.proofs.lemmas.List.{map-append, take-map, drop-map}

module _ {X Y : Type 0} (f : X → Y) where
  pub map-insert : (xs : List X) (i : ℕ) (y : X) → map f (insert xs i y) ≡ insert (map f xs) i (f y)
  map-insert xs i y = map-append f (take i xs) (y ∷ drop i xs) ∙ rw (take-map f i xs, drop-map f i xs) refl

  pub map-remove : (xs : List X) (i : ℕ) → map f (remove xs i) ≡ remove (map f xs) i
  map-remove xs i = map-append f (take i xs) (drop (suc i) xs) ∙ rw (take-map f i xs, drop-map f (suc i) xs) refl

module _ {X : Type 0} where
  -- what is put in at an index stands there
  pub slice_get-insert_at : (xs : List X) (i : ℕ) (y : X) → i ≤ length xs → slice_get (insert xs i y) i ≡ Some y
  slice_get-insert_at xs zero y within = refl
  slice_get-insert_at [] (suc i) y within = absurd (omega arith)
  slice_get-insert_at (x ∷ xs) (suc i) y within = slice_get-insert_at xs i y (omega arith)
