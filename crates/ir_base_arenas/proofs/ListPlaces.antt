-- Where a linked node stands, and what is live there.
use Rattle.std.proofs.Common.{append_assoc, ◌≡◌, List, [], ◌∷◌, ◌++◌, Option, Some, None, is_some, IsSome, rules, refl, sym, ap, ◌∙◌, subst, inl, inr}
use Rattle.std.specs.Prelude.{IfSome}
use Rattle.std.specs.Option.{option_map}
use Rattle.std.proofs.lemmas.Option.{same_Some}
use Rattle.ir_model.specs.declared.ids.ArenaIndex.{ArenaIndex}
use Rattle.ir_model.proofs.Nests.{In-left, In-right}
use Rattle.ir_base_arenas.specs.Arena.{Arena, get, IsLiveIn}
use Rattle.ir_model.specs.Nesting.{In}
use Rattle.ir_base_arenas.specs.Lists.{seen, Links, Ends, unlinked, linked, Heap, head_or, last_or, IsChain, AreLists, AreWellFormed, container_in, container_of, IsInList}
use Rattle.ir_base_arenas.proofs.ListChains.{chain-split, chain-at, In-split}
use Rattle.ir_base_arenas.proofs.ListEdits.{head-In, last-In}

-- an id is live where something is seen of it
pub live-in : {T A : Type 0} (view : T → A) (o : Option T) (a : A) → option_map view o ≡ Some a → IsSome o
live-in view None a e = cc
live-in view (Some x) a e = search rules

pub live-from_seen : {T A : Type 0} (view : T → A) (s : Arena T) (i : ArenaIndex) (a : A) → seen view s i ≡ Some a → IsLiveIn s i
live-from_seen view s i a e = live-in view (get s i) a e

pub seen-in : {T A : Type 0} (view : T → A) (o : Option T) → IsSome o → (a : A) × (option_map view o ≡ Some a)
seen-in view None l = absurd (grind (rules, l))
seen-in view (Some x) l = (view x, refl)

pub seen-from_live : {T A : Type 0} (view : T → A) (s : Arena T) (i : ArenaIndex) → IsLiveIn s i → (a : A) × (seen view s i ≡ Some a)
seen-from_live view s i l = seen-in view (get s i) l

-- a node in a list is linked
pub in-linked : {h : Heap Links} {r : Heap Ends} {lists : ArenaIndex → List ArenaIndex} → AreLists h r lists → (c x : ArenaIndex) → In x (lists c) → container_of h x ≡ Some c
in-linked {h} {r} {lists} a c x i = let s = chain-at h c None (lists c) None x (a.chains c) i in ap container_in s.1 ∙ s.2

pub in-is_linked : {h : Heap Links} {r : Heap Ends} {lists : ArenaIndex → List ArenaIndex} → AreLists h r lists → (c x : ArenaIndex) → In x (lists c) → IsInList h x
in-is_linked {h} a c x i = ap is_some (in-linked a c x i)

-- a live node that is not linked has empty links
pub unlinked-links : {h : Heap Links} {r : Heap Ends} {lists : ArenaIndex → List ArenaIndex} → AreLists h r lists → (x : ArenaIndex) (m : Links) → h x ≡ Some m → (IsInList h x → ⊥) → h x ≡ Some unlinked
unlinked-links l x m e out = elim (l.covers x m e) [
  | inl u ↦ e ∙ ap Some u
  | inr s ↦ absurd (out (in-is_linked l s.0 x s.1))
]

pub unlinked-node : {T : Type 0} (links : T → Links) (nodes : Arena T) (r : Heap Ends) (x : ArenaIndex) → AreWellFormed (seen links nodes) r → IsLiveIn nodes x → (IsInList (seen links nodes) x → ⊥) → seen links nodes x ≡ Some unlinked
unlinked-node links nodes r x w live out = let s = seen-from_live links nodes x live in unlinked-links w.1 x s.0 s.1 out

-- where a linked node stands
pub record Place (h : Heap Links) (r : Heap Ends) (lists : ArenaIndex → List ArenaIndex) (x c : ArenaIndex) : Type 0 where
  pub before : List ArenaIndex
  pub after : List ArenaIndex
  pub ends : Ends
  pub splits : lists c ≡ before ++ x ∷ after
  pub links : h x ≡ Some (linked (last_or None before) (head_or None after) c)
  pub root : r c ≡ Some ends

module _ {h : Heap Links} {r : Heap Ends} {lists : ArenaIndex → List ArenaIndex} (l : AreLists h r lists) where
  pub split-links : (c x : ArenaIndex) (a b : List ArenaIndex) → lists c ≡ a ++ x ∷ b → h x ≡ Some (linked (last_or None a) (head_or None b) c)
  split-links c x a b e =
      let k : IsChain h c None (a ++ x ∷ b) None = rw e at (l.chains c) in
      (chain-split h c None a (x ∷ b) None k).1.0

  pub root-cases : (c x : ArenaIndex) → In x (lists c) → (o : Option Ends) → r c ≡ o → (e : Ends) × (r c ≡ Some e)
  root-cases c x i None e = absurd (subst (λ xs. In x xs) (l.absent c e) i)
  root-cases c x i (Some f) e = (f, e)

  pub root-live : (c x : ArenaIndex) → In x (lists c) → (e : Ends) × (r c ≡ Some e)
  root-live c x i = root-cases c x i (r c) refl

  pub place-in : (x c : ArenaIndex) → In x (lists c) → Place h r lists x c
  place-in x c i =
      let s = In-split x (lists c) i in
      let e = root-live c x i in
      record { before = s.0; after = s.1; ends = e.0; splits = s.2; links = split-links c x s.0 s.1 s.2; root = e.1 }

  pub place : (x c : ArenaIndex) (m : Links) → h x ≡ Some m → m.container ≡ Some c → Place h r lists x c
  place x c m e k = elim (l.covers x m e) [
    | inl u ↦ let bad : None ≡ Some c = sym (ap (λ (m : Links). m.container) u) ∙ k in cc
    | inr s ↦
        let t = chain-at h s.0 None (lists s.0) None x (l.chains s.0) s.1 in
        let same : m ≡ t.0 = same_Some _ _ (sym e ∙ t.1) in
        let cs : s.0 ≡ c = same_Some _ _ (sym t.2 ∙ sym (ap (λ (m : Links). m.container) same) ∙ k) in
        place-in x c (subst (λ d. In x (lists d)) cs s.1)
  ]

  pub first-live : (c : ArenaIndex) (a b : List ArenaIndex) (y : ArenaIndex) → lists c ≡ a ++ b → head_or None b ≡ Some y → (m : Links) × (h y ≡ Some m)
  first-live c a b y e is = let t = chain-at h c None (lists c) None y (l.chains c) (rw e (In-right y a b (head-In b y is))) in (t.0, t.1)

  pub last-live : (c : ArenaIndex) (a b : List ArenaIndex) (y : ArenaIndex) → lists c ≡ a ++ b → last_or None a ≡ Some y → (m : Links) × (h y ≡ Some m)
  last-live c a b y e is = let t = chain-at h c None (lists c) None y (l.chains c) (rw e (In-left y a b (last-In a y is))) in (t.0, t.1)

-- a linked node stands in the list of its container
pub linked-place : {h : Heap Links} {r : Heap Ends} {lists : ArenaIndex → List ArenaIndex} → AreLists h r lists → (x : ArenaIndex) → IsInList h x → (c : ArenaIndex) × Place h r lists x c
linked-place {h} {r} {lists} l x k = of_links (h x) refl k
  where
    of_container : (m : Links) → h x ≡ Some m → (o : Option ArenaIndex) → m.container ≡ o → IsSome o → (c : ArenaIndex) × Place h r lists x c
    of_container m e None none some = absurd (search (rules, some))
    of_container m e (Some c) is some = (c, place l x c m e is)

    of_links : (o : Option Links) → h x ≡ o → IsSome (container_in o) → (c : ArenaIndex) × Place h r lists x c
    of_links None e some = absurd (search (rules, some))
    of_links (Some m) e some = of_container m e m.container refl some

-- an index that is live where there is one
pub IfSome-live : {T A : Type 0} (view : T → A) (s : Arena T) (o : Option ArenaIndex) → ((y : ArenaIndex) → o ≡ Some y → (m : A) × (seen view s y ≡ Some m)) → IfSome o (λ i. IsLiveIn s i)
IfSome-live view s None f = search rules
IfSome-live view s (Some y) f = let t = f y refl in let k : IsLiveIn s y = live-from_seen view s y t.0 t.1 in search (rules, k)

-- what was read of a node, by its place
pub record ReadLinks (x c : ArenaIndex) (a b : List ArenaIndex) (next prev : Option ArenaIndex) (d : ArenaIndex) : Type 0 where
  pub next_is : next ≡ head_or None b
  pub prev_is : prev ≡ last_or None a
  pub container_is : d ≡ c

pub read_links : (h : Heap Links) (x c d : ArenaIndex) (a b : List ArenaIndex) (m : Links) (next prev container : Option ArenaIndex)
    → h x ≡ Some (linked (last_or None a) (head_or None b) c) → h x ≡ Some m
    → next ≡ m.next → prev ≡ m.prev → container ≡ m.container → container ≡ Some d
    → ReadLinks x c a b next prev d
read_links h x c d a b m next prev container at_x e n p k u =
    let same : m ≡ linked (last_or None a) (head_or None b) c = same_Some _ _ (sym e ∙ at_x) in
    record {
      next_is = n ∙ ap (λ (l : Links). l.next) same;
      prev_is = p ∙ ap (λ (l : Links). l.prev) same;
      container_is = same_Some _ _ (sym u ∙ k ∙ ap (λ (l : Links). l.container) same);
    }

pub In-middle : (x : ArenaIndex) (a b : List ArenaIndex) → In x (a ++ x ∷ b)
In-middle x a b = In-right x a (x ∷ b) (inl refl)

pub split-after : (a b : List ArenaIndex) (x : ArenaIndex) → a ++ x ∷ b ≡ (a ++ x ∷ []) ++ b
split-after a b x = simp append_assoc

pub IfSome-same : {T U : Type 0} (s : Arena T) (t : Arena U) (o : Option ArenaIndex) → ((i : ArenaIndex) → IsLiveIn s i → IsLiveIn t i) → IfSome o (λ i. IsLiveIn s i) → IfSome o (λ i. IsLiveIn t i)
IfSome-same s t None f h = search rules
IfSome-same s t (Some y) f h = f y h

-- what is live where a linked node stands
pub record Stands (h : Heap Links) (r : Heap Ends) (c : ArenaIndex) (next prev : Option ArenaIndex) : Type 0 where
  pub ends : Ends
  pub root : r c ≡ Some ends
  pub next_live : (y : ArenaIndex) → next ≡ Some y → (m : Links) × (h y ≡ Some m)
  pub prev_live : (y : ArenaIndex) → prev ≡ Some y → (m : Links) × (h y ≡ Some m)

pub stands : (h : Heap Links) (r : Heap Ends) (x c : ArenaIndex) (m : Links) (next prev container : Option ArenaIndex)
    → AreWellFormed h r → h x ≡ Some m
    → next ≡ m.next → prev ≡ m.prev → container ≡ m.container → container ≡ Some c
    → Stands h r c next prev
stands h r x c m next prev container w e n p k u =
    let l : AreLists h r w.0 = w.1 in
    let s = place l x c m e (sym k ∙ u) in
    let t = read_links h x c c s.before s.after m next prev container s.links e n p k u in
    record {
      ends = s.ends;
      root = s.root;
      next_live = λ y is. first-live l c (s.before ++ x ∷ []) s.after y (s.splits ∙ split-after s.before s.after x) (sym t.next_is ∙ is);
      prev_live = λ y is. last-live l c s.before (x ∷ s.after) y s.splits (sym t.prev_is ∙ is);
    }
