-- Operations of a block that go one after the other.
use Rattle.std.specs.Prelude.{ℕ, zero, suc, ◌-◌, ◌≤◌, Bool, List, [], ◌∷◌, length, Option, Some, None, IsTrue, if◌then◌else◌}
use Rattle.ir_model.specs.declared.ids.ArenaIndex.{ArenaIndex}
use Rattle.ir_model.specs.ContextIds.{context_ids, same_id}
use Rattle.ir_model.specs.Forest.{Dialect, Behaviour, Forest, Entity, an_op}
use Rattle.ir_model.specs.Nesting.{In, IsClosed, ops_of}
use Rattle.ir_model.specs.Parent.{ComesAfter, FindsOne}
use Rattle.ir_model.specs.Changes.{Removes}
use Rattle.ir_model.specs.Subtree.{IsSubtreeSize}
use Rattle.ir_model.specs.BlockGraph.{implements, pure_interface}

-- the place of an operation in a list, counted from 1
abbrev pub rank_of : ArenaIndex → List ArenaIndex → ℕ
rank_of o [] = 1
rank_of o (x ∷ xs) = if same_id x o then 1 else suc (rank_of o xs)

-- how many of a list a walk passes from an operation on, this one among them: to the list's end, or to its front
abbrev pub way_of : Bool → ArenaIndex → List ArenaIndex → ℕ
way_of to_end o xs = if to_end then suc (length xs) - rank_of o xs else rank_of o xs

-- the same from the operation on that there is, or 0 without one
abbrev pub rank : Bool → Option ArenaIndex → List ArenaIndex → ℕ
rank to_end None xs = 0
rank to_end (Some o) xs = way_of to_end o xs

-- the answer is what stands beside an operation on the way, or nothing where nothing does: on the way to the end what comes after it, on the way to the front what it comes after
abbrev pub IsBeside : {W : Dialect} → Forest context_ids W → Bool → ArenaIndex → Option (Entity context_ids) → Type 0
IsBeside f to_end o answer = FindsOne (λ y. ComesAfter f (if to_end then an_op o else y) (if to_end then y else an_op o)) answer

module _ {W : Dialect} (B : Behaviour W) where
  -- the kind of the operation is pure, and nothing outside it names what is defined inside it
  pub record CanGo (f : Forest context_ids W) (o : ArenaIndex) : Type 0 where
    pub is_pure : IsTrue (implements B f pure_interface o)
    pub closed : IsClosed f (an_op o)

  -- so many operations of the block's list went, one after the other, each with all inside it, and each could go when it went
  pub data Goes (b : ArenaIndex) (f : Forest context_ids W) : Forest context_ids W → ℕ → Type 0 where
    none_goes : Goes b f f zero
    one_goes : {g h : Forest context_ids W} {n : ℕ} (o : ArenaIndex) (size : ℕ) → Goes b f g n → In o (ops_of g b) → CanGo g o → IsSubtreeSize g (an_op o) size → Removes g (an_op o) h → Goes b f h (suc n)

  -- none of the last so many of the block's list on a way can go
  abbrev pub NoneGoesUpTo : Forest context_ids W → Bool → ArenaIndex → ℕ → Type 0
  NoneGoesUpTo f to_end b n = (o : ArenaIndex) → In o (ops_of f b) → way_of to_end o (ops_of f b) ≤ n → CanGo f o → ⊥
