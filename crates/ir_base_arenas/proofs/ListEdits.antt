-- What the edits of the links make of the lists.
use Rattle.std.proofs.Common.{◌≡◌, ◌⊎◌, List, [], ◌∷◌, ◌++◌, Option, Some, None, refl, sym, ap, ◌∙◌, subst, inl, inr}
use Rattle.std.proofs.lemmas.Option.{same_Some}
use Rattle.ir_model.specs.declared.ids.ArenaIndex.{ArenaIndex}
use Rattle.ir_model.specs.Ids.{Distinct}
use Rattle.ir_model.specs.Nesting.{In}
use Rattle.ir_model.proofs.Nests.{In-append, In-left, In-right, not_in-Absent}
use Rattle.ir_model.proofs.IdCases.{id_same, id_cases, id_differs, In-either}
use Rattle.ir_model.proofs.Redirected.{Distinct-front, Distinct-back}
use Rattle.ir_base_arenas.specs.Lists.{Links, Ends, unlinked, linked, Heap, change, with_next, with_prev, with_head, with_tail, unless, head_or, last_or, ends_of, IsChain, AreLists, with_list}
use Rattle.ir_base_arenas.proofs.ListChains.{change-other, change-here, head_or-append, last_or-append, last_of-In, chain-split, chain-join, chain-at, chain-apart, apart-both, chain-same, chain-set_prev, chain-set_next}

-- the neighbours' links, changed: the last of a to v, the first of b to w
abbrev pub relink : Heap Links → List ArenaIndex → List ArenaIndex → Option ArenaIndex → Option ArenaIndex → Heap Links
relink h a b v w = change (with_next v) (last_or None a) (change (with_prev w) (head_or None b) h)

abbrev pub reend : Heap Ends → ArenaIndex → List ArenaIndex → List ArenaIndex → Option ArenaIndex → Option ArenaIndex → Heap Ends
reend r c a b v w = change (with_head v) (unless (last_or None a) c) (change (with_tail w) (unless (head_or None b) c) r)

pub change-apart : {A : Type 0} (f : A → A) (o : Option ArenaIndex) (h : Heap A) (j : ArenaIndex) → (o ≡ Some j → ⊥) → change f o h j ≡ h j
change-apart f None h j ne = refl
change-apart f (Some i) h j ne = change-other f i h j (λ e. ne (ap Some e))

-- the ends of a list are in it
pub head-In : (b : List ArenaIndex) (y : ArenaIndex) → head_or None b ≡ Some y → In y b
head-In [] y e = cc
head-In (x ∷ xs) y e = inl (sym (same_Some _ _ e))

pub last-In : (a : List ArenaIndex) (y : ArenaIndex) → last_or None a ≡ Some y → In y a
last-In [] y e = cc
last-In (x ∷ xs) y e = subst (λ z. In z (x ∷ xs)) (same_Some _ _ e) (last_of-In x xs)

pub relink-other : (h : Heap Links) (a b : List ArenaIndex) (v w : Option ArenaIndex) (y : ArenaIndex) → (In y a → ⊥) → (In y b → ⊥) → relink h a b v w y ≡ h y
relink-other h a b v w y na nb =
    change-apart (with_next v) (last_or None a) (change (with_prev w) (head_or None b) h) y (λ e. na (last-In a y e))
    ∙ change-apart (with_prev w) (head_or None b) h y (λ e. nb (head-In b y e))

-- both sides after the neighbours are linked anew
pub relink-sides : (h : Heap Links) (c d : ArenaIndex) (a b : List ArenaIndex) (m p v w : Option ArenaIndex) → Distinct a → Distinct b → ((y : ArenaIndex) → In y a → In y b → ⊥) → IsChain h c None a m → IsChain h d p b None
    → IsChain (relink h a b v w) c None a v × IsChain (relink h a b v w) d w b None
relink-sides h c d a b m p v w apa apb dis ka kb =
    let mid : Heap Links = change (with_prev w) (head_or None b) h in
    let ka2 : IsChain mid c None a m = chain-same h mid c None a m (λ y i. change-apart (with_prev w) (head_or None b) h y (λ e. dis y i (head-In b y e))) ka in
    let kb2 : IsChain mid d w b None = chain-set_prev h d p w b None apb kb in (
      chain-set_next mid c None a m v apa ka2,
      chain-same mid (relink h a b v w) d w b None (λ y i. change-apart (with_next v) (last_or None a) mid y (λ e. dis y (last-In a y e) i)) kb2,
    )

pub reend-here : (r : Heap Ends) (c : ArenaIndex) (a b : List ArenaIndex) (m q v w : Option ArenaIndex) → r c ≡ Some (record { head = head_or m a; tail = last_or q b })
    → reend r c a b v w c ≡ Some (record { head = head_or v a; tail = last_or w b })
reend-here r c [] [] m q v w e = rw (id_same c, e)
reend-here r c [] (y ∷ ys) m q v w e = rw (id_same c, e)
reend-here r c (x ∷ xs) [] m q v w e = rw (id_same c, e)
reend-here r c (x ∷ xs) (y ∷ ys) m q v w e = e

pub reend-other : (r : Heap Ends) (c : ArenaIndex) (a b : List ArenaIndex) (v w : Option ArenaIndex) (k : ArenaIndex) → (c ≡ k → ⊥) → reend r c a b v w k ≡ r k
reend-other r c [] [] v w k ne = rw (id_differs c k ne)
reend-other r c [] (y ∷ ys) v w k ne = rw (id_differs c k ne)
reend-other r c (x ∷ xs) [] v w k ne = rw (id_differs c k ne)
reend-other r c (x ∷ xs) (y ∷ ys) v w k ne = refl

pub with_list-here : (lists : ArenaIndex → List ArenaIndex) (c : ArenaIndex) (xs : List ArenaIndex) → with_list lists c xs c ≡ xs
with_list-here lists c xs = rw (id_same c)

pub with_list-other : (lists : ArenaIndex → List ArenaIndex) (c : ArenaIndex) (xs : List ArenaIndex) (k : ArenaIndex) → (c ≡ k → ⊥) → with_list lists c xs k ≡ lists k
with_list-other lists c xs k ne = rw (id_differs c k ne)

-- two lists have no node in common
pub lists-apart : {h : Heap Links} {r : Heap Ends} {lists : ArenaIndex → List ArenaIndex} → AreLists h r lists → (y c k : ArenaIndex) → In y (lists c) → In y (lists k) → c ≡ k
lists-apart {h} {r} {lists} l y c k i j =
    let s = chain-at h c None (lists c) None y (l.chains c) i in
    let t = chain-at h k None (lists k) None y (l.chains k) j in
    let same : s.0 ≡ t.0 = same_Some _ _ (sym s.1 ∙ t.1) in
    same_Some _ _ (sym s.2 ∙ ap (λ (m : Links). m.container) same ∙ t.2)

-- an unlinked node is in no list
pub unlinked-apart : {h : Heap Links} {r : Heap Ends} {lists : ArenaIndex → List ArenaIndex} → AreLists h r lists → (x : ArenaIndex) → h x ≡ Some unlinked → (k : ArenaIndex) → In x (lists k) → ⊥
unlinked-apart {h} {r} {lists} l x u k i =
    let s = chain-at h k None (lists k) None x (l.chains k) i in
    let same : unlinked ≡ s.0 = same_Some _ _ (sym u ∙ s.1) in
    let e : None ≡ Some k = ap (λ (m : Links). m.container) same ∙ s.2 in
    cc

-- one list has changed: what is to show of the new heaps
pub AreLists-with_list : (h h' : Heap Links) (r r' : Heap Ends) (lists : ArenaIndex → List ArenaIndex) (c : ArenaIndex) (xs : List ArenaIndex) (e : Ends)
    → AreLists h r lists
    → r c ≡ Some e
    → IsChain h' c None xs None
    → r' c ≡ Some (ends_of xs)
    → ((k : ArenaIndex) → (c ≡ k → ⊥) → r' k ≡ r k)
    → ((k y : ArenaIndex) → (c ≡ k → ⊥) → In y (lists k) → h' y ≡ h y)
    → ((y : ArenaIndex) (l : Links) → h' y ≡ Some l → (l ≡ unlinked) ⊎ In y xs ⊎ ((In y (lists c) → ⊥) × (h' y ≡ h y)))
    → AreLists h' r' (with_list lists c xs)
AreLists-with_list h h' r r' lists c xs e l live chain ends others frame covered = record {
  chains = λ k. elim (id_cases c k) [
    | inl same ↦ subst (λ k. IsChain h' k None (with_list lists c xs k) None) same (rw (with_list-here lists c xs) chain)
    | inr ne ↦ rw (with_list-other lists c xs k ne) (chain-same h h' k None (lists k) None (λ y i. frame k y ne i) (l.chains k))
  ];
  ends = λ k f is. elim (id_cases c k) [
    | inl same ↦ subst (λ k. r' k ≡ Some f → f ≡ ends_of (with_list lists c xs k)) same (λ is. rw (with_list-here lists c xs) (same_Some _ _ (sym is ∙ ends))) is
    | inr ne ↦ rw (with_list-other lists c xs k ne) (l.ends k f (sym (others k ne) ∙ is))
  ];
  absent = λ k is. elim (id_cases c k) [
    | inl same ↦ let bad : Some (ends_of xs) ≡ None = sym ends ∙ ap r' same ∙ is in cc
    | inr ne ↦ rw (with_list-other lists c xs k ne) (l.absent k (sym (others k ne) ∙ is))
  ];
  covers = λ y m is. elim (covered y m is) [
    | inl u ↦ inl u
    | inr (inl i) ↦ inr (c, rw (with_list-here lists c xs) i)
    | inr (inr t) ↦ elim (l.covers y m (sym t.1 ∙ is)) [
      | inl u ↦ inl u
      | inr s ↦ inr (s.0, rw (with_list-other lists c xs s.0 (λ same. t.0 (rw (← same) at s.1))) s.1)
    ]
  ];
}

pub last_or-start : (w : Option ArenaIndex) (x : ArenaIndex) (b : List ArenaIndex) → last_or w (x ∷ b) ≡ last_or (Some x) b
last_or-start w x [] = refl
last_or-start w x (y ∷ ys) = refl

-- x, put between a and b
abbrev pub link_at : Heap Links → ArenaIndex → List ArenaIndex → List ArenaIndex → ArenaIndex → Heap Links
link_at h c a b x = change (λ _. linked (last_or None a) (head_or None b) c) (Some x) (relink h a b (Some x) (Some x))

abbrev pub unlink_at : Heap Links → List ArenaIndex → List ArenaIndex → ArenaIndex → Heap Links
unlink_at h a b x = change (λ _. unlinked) (Some x) (relink h a b (head_or None b) (last_or None a))

pub relink-live : (h : Heap Links) (a b : List ArenaIndex) (v w : Option ArenaIndex) (x : ArenaIndex) (l : Links) → (In x a → ⊥) → (In x b → ⊥) → h x ≡ Some l → relink h a b v w x ≡ Some l
relink-live h a b v w x l na nb e = relink-other h a b v w x na nb ∙ e

pub AreLists-link : (h : Heap Links) (r : Heap Ends) (lists : ArenaIndex → List ArenaIndex) (c : ArenaIndex) (a b : List ArenaIndex) (x : ArenaIndex) (e : Ends)
    → AreLists h r lists → lists c ≡ a ++ b → r c ≡ Some e → h x ≡ Some unlinked
    → AreLists (link_at h c a b x) (reend r c a b (Some x) (Some x)) (with_list lists c (a ++ x ∷ b))
AreLists-link h r lists c a b x e l is live u =
    let chain : IsChain h c None (a ++ b) None = rw is at (l.chains c) in
    let apart : Distinct (a ++ b) = chain-apart h c None (a ++ b) chain in
    let parts = chain-split h c None a b None chain in
    let out : In x (a ++ b) → ⊥ = λ i. unlinked-apart l x u c (rw is i) in
    let nxa : In x a → ⊥ = λ i. out (In-left x a b i) in
    let nxb : In x b → ⊥ = λ i. out (In-right x a b i) in
    let mid : Heap Links = relink h a b (Some x) (Some x) in
    let new : Heap Links = link_at h c a b x in
    let f : Links → Links = λ _. linked (last_or None a) (head_or None b) c in
    let sides = relink-sides h c c a b (head_or None b) (last_or None a) (Some x) (Some x) (Distinct-front a b apart) (Distinct-back a b apart) (λ y i j. apart-both y a b apart i j) parts.0 parts.1 in
    let here : new x ≡ Some (linked (last_or None a) (head_or None b) c) = change-here f x mid unlinked (relink-live h a b (Some x) (Some x) x unlinked nxa nxb u) in
    let keep : (y : ArenaIndex) → (x ≡ y → ⊥) → new y ≡ mid y = λ y ne. change-other f x mid y ne in
    let ka : IsChain new c None a (Some x) = chain-same mid new c None a (Some x) (λ y i. keep y (λ e. nxa (rw e i))) sides.0 in
    let kb : IsChain new c (Some x) b None = chain-same mid new c (Some x) b None (λ y i. keep y (λ e. nxb (rw e i))) sides.1 in
    let whole : IsChain new c None (a ++ x ∷ b) None = chain-join new c None a (x ∷ b) None ka (here, kb) in
    let known : e ≡ ends_of (a ++ b) = rw is at (l.ends c e live) in
    let heads : head_or None (a ++ b) ≡ head_or (head_or None b) a = head_or-append None a b in
    let tails : last_or None (a ++ b) ≡ last_or (last_or None a) b = last_or-append None a b in
    let before : r c ≡ Some (record { head = head_or (head_or None b) a; tail = last_or (last_or None a) b }) = rw (← heads, ← tails) (live ∙ ap Some known) in
    let after = reend-here r c a b (head_or None b) (last_or None a) (Some x) (Some x) before in
    let ends : reend r c a b (Some x) (Some x) c ≡ Some (ends_of (a ++ x ∷ b)) = rw (head_or-append None a (x ∷ b), last_or-append None a (x ∷ b), last_or-start (last_or None a) x b) after in
    let elsewhere : (k y : ArenaIndex) → (c ≡ k → ⊥) → In y (lists k) → In y (a ++ b) → ⊥ = λ k y ne i j. ne (lists-apart l y c k (rw is j) i) in
    AreLists-with_list h new r (reend r c a b (Some x) (Some x)) lists c (a ++ x ∷ b) e l live whole ends
    (λ k ne. reend-other r c a b (Some x) (Some x) k ne)
    (λ k y ne i. keep y (λ e. unlinked-apart l x u k (rw e i)) ∙ relink-other h a b (Some x) (Some x) y (λ j. elsewhere k y ne i (In-left y a b j)) (λ j. elsewhere k y ne i (In-right y a b j)))
    (λ y m n. elim (id_cases x y) [
      | inl same ↦ inr (inl (In-right y a (x ∷ b) (inl (sym same))))
      | inr ne ↦ elim (In-either y (a ++ b)) [
        | inl i ↦ elim (In-append y a b i) [ inl j ↦ inr (inl (In-left y a (x ∷ b) j)) | inr j ↦ inr (inl (In-right y a (x ∷ b) (inr j))) ]
        | inr ni ↦ inr (inr (λ i. ni (rw (← is) i), keep y ne ∙ relink-other h a b (Some x) (Some x) y (λ j. ni (In-left y a b j)) (λ j. ni (In-right y a b j))))
      ]
    ])

pub AreLists-unlink : (h : Heap Links) (r : Heap Ends) (lists : ArenaIndex → List ArenaIndex) (c : ArenaIndex) (a b : List ArenaIndex) (x : ArenaIndex) (e : Ends)
    → AreLists h r lists → lists c ≡ a ++ x ∷ b → r c ≡ Some e
    → AreLists (unlink_at h a b x) (reend r c a b (head_or None b) (last_or None a)) (with_list lists c (a ++ b))
AreLists-unlink h r lists c a b x e l is live =
    let chain : IsChain h c None (a ++ x ∷ b) None = rw is at (l.chains c) in
    let apart : Distinct (a ++ x ∷ b) = chain-apart h c None (a ++ x ∷ b) chain in
    let parts = chain-split h c None a (x ∷ b) None chain in
    let rest : Distinct (x ∷ b) = Distinct-back a (x ∷ b) apart in
    let nxa : In x a → ⊥ = λ i. apart-both x a (x ∷ b) apart i (inl refl) in
    let nxb : In x b → ⊥ = not_in-Absent x b rest.0 in
    let v : Option ArenaIndex = head_or None b in
    let w : Option ArenaIndex = last_or None a in
    let mid : Heap Links = relink h a b v w in
    let new : Heap Links = unlink_at h a b x in
    let f : Links → Links = λ _. unlinked in
    let sides = relink-sides h c c a b (Some x) (Some x) v w (Distinct-front a (x ∷ b) apart) rest.1 (λ y i j. apart-both y a (x ∷ b) apart i (inr j)) parts.0 parts.1.1 in
    let here : new x ≡ Some unlinked = change-here f x mid (linked w v c) (relink-live h a b v w x (linked w v c) nxa nxb parts.1.0) in
    let keep : (y : ArenaIndex) → (x ≡ y → ⊥) → new y ≡ mid y = λ y ne. change-other f x mid y ne in
    let ka : IsChain new c None a v = chain-same mid new c None a v (λ y i. keep y (λ e. nxa (rw e i))) sides.0 in
    let kb : IsChain new c w b None = chain-same mid new c w b None (λ y i. keep y (λ e. nxb (rw e i))) sides.1 in
    let whole : IsChain new c None (a ++ b) None = chain-join new c None a b None ka kb in
    let known : e ≡ ends_of (a ++ x ∷ b) = rw is at (l.ends c e live) in
    let heads : head_or None (a ++ x ∷ b) ≡ head_or (Some x) a = head_or-append None a (x ∷ b) in
    let tails : last_or None (a ++ x ∷ b) ≡ last_or (Some x) b = last_or-append None a (x ∷ b) ∙ last_or-start w x b in
    let before : r c ≡ Some (record { head = head_or (Some x) a; tail = last_or (Some x) b }) = rw (← heads, ← tails) (live ∙ ap Some known) in
    let after = reend-here r c a b (Some x) (Some x) v w before in
    let ends : reend r c a b v w c ≡ Some (ends_of (a ++ b)) = rw (head_or-append None a b, last_or-append None a b) after in
    let elsewhere : (k y : ArenaIndex) → (c ≡ k → ⊥) → In y (lists k) → In y (a ++ x ∷ b) → ⊥ = λ k y ne i j. ne (lists-apart l y c k (rw is j) i) in
    AreLists-with_list h new r (reend r c a b v w) lists c (a ++ b) e l live whole ends
    (λ k ne. reend-other r c a b v w k ne)
    (λ k y ne i. keep y (λ e. elsewhere k y ne i (In-right y a (x ∷ b) (inl (sym e)))) ∙ relink-other h a b v w y (λ j. elsewhere k y ne i (In-left y a (x ∷ b) j)) (λ j. elsewhere k y ne i (In-right y a (x ∷ b) (inr j))))
    (λ y m n. elim (id_cases x y) [
      | inl same ↦ inl (same_Some _ _ (sym n ∙ subst (λ z. new z ≡ Some unlinked) same here))
      | inr ne ↦ elim (In-either y (a ++ b)) [
        | inl i ↦ inr (inl i)
        | inr ni ↦ inr (inr (
          λ i. elim (In-append y a (x ∷ b) (rw (← is) i)) [ inl j ↦ ni (In-left y a b j) | inr j ↦ elim j [ inl e ↦ ne (sym e) | inr k ↦ ni (In-right y a b k) ] ],
          keep y ne ∙ relink-other h a b v w y (λ j. ni (In-left y a b j)) (λ j. ni (In-right y a b j)),
        ))
      ]
    ])

-- what the code leaves, where left and right are the neighbours that it was given
abbrev pub heap_linked : Heap Links → ArenaIndex → ArenaIndex → Option ArenaIndex → Option ArenaIndex → Heap Links
heap_linked h x c left right = change (λ _. linked left right c) (Some x) (change (with_next (Some x)) left (change (with_prev (Some x)) right h))

abbrev pub ends_relinked : Heap Ends → ArenaIndex → Option ArenaIndex → Option ArenaIndex → Option ArenaIndex → Option ArenaIndex → Heap Ends
ends_relinked r c left right v w = change (with_head v) (unless left c) (change (with_tail w) (unless right c) r)

pub AreLists-linked : (h h' : Heap Links) (r r' : Heap Ends) (lists : ArenaIndex → List ArenaIndex) (c d x : ArenaIndex) (a b : List ArenaIndex) (left right : Option ArenaIndex) (e : Ends)
    → AreLists h r lists → lists c ≡ a ++ b → r c ≡ Some e → h x ≡ Some unlinked
    → left ≡ last_or None a → right ≡ head_or None b → d ≡ c
    → h' ≡ heap_linked h x d left right
    → r' ≡ ends_relinked r d left right (Some x) (Some x)
    → AreLists h' r' (with_list lists c (a ++ x ∷ b))
AreLists-linked h h' r r' lists c d x a b left right e l is live u le ri dc he re =
    rw (he, re, le, ri, dc) (AreLists-link h r lists c a b x e l is live u)
