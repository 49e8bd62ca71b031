-- The lists as functions of the state: walks by the links, which take so many steps at most.
use Rattle.std.specs.Prelude.{◌≡◌, ◌≢◌, ◌≤◌, ℕ, suc, zero, cond, List, [], ◌∷◌, ◌++◌, length, Option, Some, None}
use Rattle.ir_model.specs.declared.ids.ArenaIndex.{ArenaIndex}
use Rattle.ir_base_arenas.specs.Arena.{Arena}
use Rattle.ir_model.specs.Ids.{Distinct}
use Rattle.ir_base_arenas.specs.Lists.{Links, Ends, Heap, seen, is_at, IsChain, head_or, last_or, rehome}

-- the next node that these links name
abbrev pub next_linked : Option Links → Option ArenaIndex
next_linked None = None
next_linked (Some l) = l.next

-- the first node that these ends name
abbrev pub head_in : Option Ends → Option ArenaIndex
head_in None = None
head_in (Some e) = e.head

-- the nodes from `first` on, up to `last`
abbrev pub walk_to : ℕ → Heap Links → Option ArenaIndex → Option ArenaIndex → List ArenaIndex
walk_to zero h first last = []
walk_to (suc n) h None last = []
walk_to (suc n) h (Some x) last = x ∷ cond (is_at last x) [] (walk_to n h (next_linked (h x)) last)

-- the nodes of an arena from `first` on, up to `last`
abbrev pub piece : {T : Type 0} → (T → Links) → Arena T → Option ArenaIndex → Option ArenaIndex → List ArenaIndex
piece links nodes first last = walk_to (length nodes.slots) (seen links nodes) first last

-- the list of a container
abbrev pub list_in : {T C : Type 0} → (T → Links) → (C → Ends) → Arena T → Arena C → ArenaIndex → List ArenaIndex
list_in links ends nodes containers c = piece links nodes (head_in (seen ends containers c)) None

-- a piece of one list stands from `next` to `back`
pub record IsPiece (h : Heap Links) (room : ℕ) (next back : Option ArenaIndex) : Type 0 where
  pub container : ArenaIndex
  pub before : Option ArenaIndex
  pub after : Option ArenaIndex
  pub nodes : List ArenaIndex
  pub chain : IsChain h container before nodes after
  pub apart : Distinct nodes
  pub fits : length nodes ≤ room
  pub begins : next ≡ head_or None nodes
  pub ends : back ≡ last_or None nodes

-- the nodes from `first` on are the rest of a list of another container than c
pub record IsListFrom (h : Heap Links) (first : Option ArenaIndex) (c : ArenaIndex) : Type 0 where
  pub owner : ArenaIndex
  pub before : Option ArenaIndex
  pub nodes : List ArenaIndex
  pub chain : IsChain h owner before nodes None
  pub begins : first ≡ head_or None nodes
  pub other : owner ≢ c

-- a walk that moves the nodes of a list to the container c has come to `current`
pub record Walked (start now : Heap Links) (first current : Option ArenaIndex) (c : ArenaIndex) : Type 0 where
  pub whole : IsListFrom start first c
  pub done : List ArenaIndex
  pub todo : List ArenaIndex
  pub splits : whole.nodes ≡ done ++ todo
  pub stands : current ≡ head_or None todo
  pub moved : now ≡ rehome c done start
