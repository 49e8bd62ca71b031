-- What a contract says of lists inside records: the links of a node, the ends of a container, and the lists that they make.
use Rattle.std.specs.Prelude.{◌≡◌, ◌⊎◌, ◌↔◌, Bool, false, cond, List, [], ◌∷◌, map, Option, Some, None, IsSome}
use Rattle.std.specs.Option.{option_map}
use Rattle.ir_model.specs.declared.ids.ArenaIndex.{ArenaIndex}
use Rattle.ir_model.specs.ContextIds.{same_id}
use Rattle.ir_model.specs.Nesting.{In}
use Rattle.ir_model.specs.Slots.{Slot}
use Rattle.ir_base_arenas.specs.Arena.{Arena, get, IsLiveIn, is_passed, arena_len, room}

-- the neighbours of a node, and the container whose list it is in
pub record Links : Type 0 where
  pub next : Option ArenaIndex
  pub prev : Option ArenaIndex
  pub container : Option ArenaIndex

-- the first and the last node of a container's list
pub record Ends : Type 0 where
  pub head : Option ArenaIndex
  pub tail : Option ArenaIndex

-- the links of a node that is in no list
abbrev pub unlinked : Links
unlinked = record { next = None; prev = None; container = None }

-- the links of a node between these neighbours, in the list of c
abbrev pub linked : Option ArenaIndex → Option ArenaIndex → ArenaIndex → Links
linked p n c = record { next = n; prev = p; container = Some c }

-- the ends of an empty list
abbrev pub no_ends : Ends
no_ends = record { head = None; tail = None }

-- what stands under each id
abbrev pub Heap : Type 0 → Type 0
Heap A = ArenaIndex → Option A

-- what f reads of the record under each id
abbrev pub seen : {T A : Type 0} → (T → A) → Arena T → Heap A
seen f a id = option_map f (get a id)

-- the id is this one
abbrev pub is_at : Option ArenaIndex → ArenaIndex → Bool
is_at None j = false
is_at (Some i) j = same_id i j

-- the heap with what stands under this id, if there is one, changed by f
abbrev pub change : {A : Type 0} → (A → A) → Option ArenaIndex → Heap A → Heap A
change f o h j = cond (is_at o j) (option_map f (h j)) (h j)

-- the links with another next node
abbrev pub with_next : Option ArenaIndex → Links → Links
with_next v l = record l { next = v }

-- the links with another previous node
abbrev pub with_prev : Option ArenaIndex → Links → Links
with_prev v l = record l { prev = v }

-- the links in the list of c
abbrev pub with_container : ArenaIndex → Links → Links
with_container c l = record l { container = Some c }

-- the ends with another first node
abbrev pub with_head : Option ArenaIndex → Ends → Ends
with_head v e = record e { head = v }

-- the ends with another last node
abbrev pub with_tail : Option ArenaIndex → Ends → Ends
with_tail v e = record e { tail = v }

-- the container, where there is no neighbour
abbrev pub unless : Option ArenaIndex → ArenaIndex → Option ArenaIndex
unless None c = Some c
unless (Some _) c = None

-- the heap with these nodes moved to the container c
abbrev pub rehome : ArenaIndex → List ArenaIndex → Heap Links → Heap Links
rehome c [] h = h
rehome c (x ∷ xs) h = rehome c xs (change (with_container c) (Some x) h)

-- the first of the list, or d where it is empty
abbrev pub head_or : Option ArenaIndex → List ArenaIndex → Option ArenaIndex
head_or d [] = d
head_or d (x ∷ xs) = Some x

-- the last of a list that starts with x
abbrev pub last_from : ArenaIndex → List ArenaIndex → ArenaIndex
last_from x [] = x
last_from x (y ∷ ys) = last_from y ys

-- the last of the list, or d where it is empty
abbrev pub last_or : Option ArenaIndex → List ArenaIndex → Option ArenaIndex
last_or d [] = d
last_or d (x ∷ xs) = Some (last_from x xs)

-- the ends of a list
abbrev pub ends_of : List ArenaIndex → Ends
ends_of xs = record { head = head_or None xs; tail = last_or None xs }

-- these nodes are linked one after another in the container c, between p and n
abbrev pub IsChain : Heap Links → ArenaIndex → Option ArenaIndex → List ArenaIndex → Option ArenaIndex → Type 0
IsChain h c p [] n = Unit {0}
IsChain h c p (x ∷ xs) n =
    (h x ≡ Some (linked p (head_or n xs) c)) × IsChain h c (Some x) xs n

-- the lists of the containers: each is linked as it stands, its container has its ends, an id with no container has none, and a node in no list is unlinked
pub record AreLists (nodes : Heap Links) (containers : Heap Ends) (lists : ArenaIndex → List ArenaIndex) : Type 0 where
  pub chains : (c : ArenaIndex) → IsChain nodes c None (lists c) None
  pub ends : (c : ArenaIndex) (e : Ends) → containers c ≡ Some e → e ≡ ends_of (lists c)
  pub absent : (c : ArenaIndex) → containers c ≡ None → lists c ≡ []
  pub covers : (x : ArenaIndex) (l : Links) → nodes x ≡ Some l → (l ≡ unlinked) ⊎ ((c : ArenaIndex) × In x (lists c))

-- the lists of two arenas are well formed
abbrev pub AreWellFormed : Heap Links → Heap Ends → Type 0
AreWellFormed nodes containers = (lists : ArenaIndex → List ArenaIndex) × AreLists nodes containers lists

-- the lists, with xs for that of c
abbrev pub with_list : (ArenaIndex → List ArenaIndex) → ArenaIndex → List ArenaIndex → ArenaIndex → List ArenaIndex
with_list lists c xs k = cond (same_id c k) xs (lists k)

-- the container that these links name
abbrev pub container_in : Option Links → Option ArenaIndex
container_in None = None
container_in (Some l) = l.container

-- the container of the node under this id, if it is in a list
abbrev pub container_of : Heap Links → ArenaIndex → Option ArenaIndex
container_of nodes x = container_in (nodes x)

-- the node under this id is in a list
abbrev pub IsInList : Heap Links → ArenaIndex → Type 0
IsInList nodes x = IsSome (container_of nodes x)

-- the slot with its record changed by f
abbrev pub map_slot : {T : Type 0} → (T → T) → Slot T → Slot T
map_slot f s = record s { item = option_map f s.item }

-- the arena with each record changed by f
abbrev pub map_records : {T : Type 0} → (T → T) → Arena T → Arena T
map_records f a = record a { slots = map (map_slot f) a.slots }

-- the arenas are the same but for what `clear` clears in each record
abbrev pub SameBut : {T : Type 0} → (T → T) → Arena T → Arena T → Type 0
SameBut clear old new = map_records clear new ≡ map_records clear old

-- the arenas have handed out the same ids, of which the same are live, and have the same room
pub record SameIds {T : Type 0} (old new : Arena T) : Type 0 where
  pub live : (id : ArenaIndex) → IsLiveIn new id ↔ IsLiveIn old id
  pub passed : (id : ArenaIndex) → is_passed new id ≡ is_passed old id
  pub room : room new ≡ room old
  pub len : arena_len new ≡ arena_len old
  pub limit : new.limit ≡ old.limit
  pub last_version : new.last_version ≡ old.last_version
  pub removals : new.removals ≡ old.removals
