-- What a number in a table names.
use Rattle.std.proofs.Common.{◌≡◌, sym, subst, ◌∙◌, ℕ, List, Some}
use Rattle.std.specs.Prelude.{slice_get}
use Rattle.ir_model.specs.declared.ids.ArenaIndex.{ArenaIndex}
use Rattle.ir_model.specs.ContextIds.{context_ids}
use Rattle.ir_model.specs.Forest.{Dialect, Entity, Forest, Value, a_value}
use Rattle.ir_model.specs.Nesting.{IsLive, IsLiveNamed}

-- the number is that of this entry in the table, and the entry is live
pub record Names {A : Type 0} (Live : A → Type 0) (table : List A) (number : ℕ) (entry : A) : Type 0 where
  pub found : slice_get table number ≡ Some entry
  pub live : Live entry

module _ {W : Dialect} where
  -- the number is that of this id in the table, and the entity under the id is live
  abbrev pub NamesLive : Forest context_ids W → (ArenaIndex → Entity context_ids) → List ArenaIndex → ℕ → ArenaIndex → Type 0
  NamesLive f entity table number id = Names (λ i. IsLive f (entity i)) table number id

  -- the number is that of this value in the table, and the value is live
  abbrev pub NamesLiveValue : Forest context_ids W → List (Value context_ids) → ℕ → Value context_ids → Type 0
  NamesLiveValue f table number value = Names (λ v. IsLiveNamed f (a_value v)) table number value

-- a number names one entry at most
module _ {I : Type 0} {Live : I → Type 0} {table : List I} {n : ℕ} {i : I} (x : Names Live table n i) where
  the_one : (k : I) → Names Live table n k → k ≡ i
  the_one k y = let e : Some k ≡ Some i = sym y.found ∙ x.found in cc

  -- what fails of that one fails of all that the number names
  pub not_this : (R : I → Type 0) → (R i → ⊥) → (k : I) → Names Live table n k → R k → ⊥
  not_this R fails k y r = fails (subst R (the_one k y) r)

-- and so for two numbers
pub not_these : {I J : Type 0} {Live : I → Type 0} {Other : J → Type 0} {table : List I} {others : List J} {n m : ℕ} {i : I} {j : J}
    → Names Live table n i → Names Other others m j → (R : I → J → Type 0) → (R i j → ⊥)
    → (k : I) (l : J) → Names Live table n k → Names Other others m l → R k l → ⊥
not_these {j = j} x y R fails k l v w r = not_this x (λ z. R z j) fails k v (subst (λ z. R k z) (the_one y l w) r)
