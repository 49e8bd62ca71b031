-- What ids and numbers are: types of their own, which the definitions only compare.
use Rattle.std.specs.Prelude.{ℕ, Bool, List, [], ◌∷◌, ◌≢◌, length}

-- the types of ids and numbers, with tests that tell two of a type apart
pub record Ids : Type 1 where
  pub Op : Type 0
  pub Block : Type 0
  pub Region : Type 0
  pub ValueNumber : Type 0
  pub UseNumber : Type 0
  pub same_op : Op → Op → Bool
  pub same_block : Block → Block → Bool
  pub same_region : Region → Region → Bool
  pub same_number : ValueNumber → ValueNumber → Bool

-- ids and numbers in order, as an edit makes them
pub record Fresh (N : Ids) : Type 0 where
  pub ops : List N.Op
  pub blocks : List N.Block
  pub regions : List N.Region
  pub numbers : List N.ValueNumber
  pub uses : List N.UseNumber

module _ {A : Type 0} where
  -- x is none of these
  abbrev pub Absent : A → List A → Type 0
  Absent x [] = Unit {0}
  Absent x (y ∷ ys) = (x ≢ y) × Absent x ys

  -- none of the first list is in the second
  abbrev pub AllAbsent : List A → List A → Type 0
  AllAbsent [] ys = Unit {0}
  AllAbsent (x ∷ xs) ys = Absent x ys × AllAbsent xs ys

  -- no two are equal
  abbrev pub Distinct : List A → Type 0
  Distinct [] = Unit {0}
  Distinct (x ∷ xs) = Absent x xs × Distinct xs

-- none of the first is among the second
pub record FreshApart (N : Ids) (a b : Fresh N) : Type 0 where
  pub ops : AllAbsent a.ops b.ops
  pub blocks : AllAbsent a.blocks b.blocks
  pub regions : AllAbsent a.regions b.regions
  pub numbers : AllAbsent a.numbers b.numbers
  pub uses : AllAbsent a.uses b.uses

-- no two of a kind are equal
pub record FreshDistinct (N : Ids) (a : Fresh N) : Type 0 where
  pub ops : Distinct a.ops
  pub blocks : Distinct a.blocks
  pub regions : Distinct a.regions
  pub numbers : Distinct a.numbers
  pub uses : Distinct a.uses

-- how many of each kind
pub record Counts : Type 0 where
  pub ops : ℕ
  pub blocks : ℕ
  pub regions : ℕ
  pub numbers : ℕ
  pub uses : ℕ

-- how many ids and numbers these are
abbrev pub counts : (N : Ids) → Fresh N → Counts
counts N a = record {
  ops = length a.ops;
  blocks = length a.blocks;
  regions = length a.regions;
  numbers = length a.numbers;
  uses = length a.uses;
}
