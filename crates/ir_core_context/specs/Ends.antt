-- The ends of a list are the first and the last of its items.
use Rattle.std.proofs.Common.{◌≡◌, ◌-◌, List, [], ◌∷◌, length, slice_get, Some, None, refl, ap, ◌∙◌, arith}
use Rattle.ir_model.specs.declared.ids.ArenaIndex.{ArenaIndex}
use Rattle.ir_model.specs.Parent.{first_of, last_of as last_in}
use Rattle.ir_base_arenas.specs.Lists.{Ends, ends_of, head_or, last_from, last_or}

head-first : (xs : List ArenaIndex) → head_or None xs ≡ first_of xs
head-first [] = refl
head-first (x ∷ xs) = refl

last-got : (x : ArenaIndex) (xs : List ArenaIndex) → Some (last_from x xs) ≡ slice_get (x ∷ xs) (length xs)
last-got x [] = refl
last-got x (y ∷ ys) = last-got y ys

last-last : (xs : List ArenaIndex) → last_or None xs ≡ last_in xs
last-last [] = refl
last-last (x ∷ xs) = last-got x xs ∙ ap (slice_get (x ∷ xs)) (let e : length xs ≡ length (x ∷ xs) - 1 = omega arith in e)

-- the head is the first
pub head-is : (ends : Ends) (xs : List ArenaIndex) → ends ≡ ends_of xs → ends.head ≡ first_of xs
head-is ends xs e = ap (λ (k : Ends). k.head) e ∙ head-first xs

-- the tail is the last
pub tail-is : (ends : Ends) (xs : List ArenaIndex) → ends ≡ ends_of xs → ends.tail ≡ last_in xs
tail-is ends xs e = ap (λ (k : Ends). k.tail) e ∙ last-last xs
