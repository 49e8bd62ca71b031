-- Nodes that move to another container, and two lists joined.
use Rattle.std.proofs.Common.{◌≡◌, ◌<◌, Bool, true, false, cond, List, [], ◌∷◌, ◌++◌, length, Option, Some, None, refl, sym, ap, ◌∙◌, subst, inl, inr, arith, append-nil, append_assoc}
use Rattle.std.specs.Option.{option_map, option_or}
use Rattle.std.proofs.lemmas.Option.{same_Some}
use Rattle.ir_model.specs.declared.ids.ArenaIndex.{ArenaIndex}
use Rattle.ir_base_arenas.specs.Arena.{Arena}
use Rattle.ir_model.specs.Ids.{Distinct}
use Rattle.ir_model.specs.Nesting.{In}
use Rattle.ir_model.proofs.Nests.{In-left, In-right, not_in-Absent}
use Rattle.ir_base_arenas.specs.Lists.{seen, Links, Ends, linked, no_ends, is_at, unless, with_next, with_prev, with_head, with_tail, Heap, change, head_or, last_or, ends_of, IsChain, AreLists, with_list, with_container, rehome}
use Rattle.ir_base_arenas.specs.Walks.{IsListFrom, Walked, piece}
use Rattle.ir_model.proofs.IdCases.{id_cases, In-either}
use Rattle.ir_base_arenas.proofs.ListChains.{change-other, change-here, head-None, apart-both, chain-split, chain-join, chain-same, chain-apart, chain-unique, last_or-append}
use Rattle.ir_base_arenas.proofs.ListEdits.{change-apart, relink, relink-sides, relink-other, lists-apart, with_list-here, with_list-other}
use Rattle.ir_base_arenas.proofs.ListWalks.{piece-all}

pub rehome-other : (c : ArenaIndex) (xs : List ArenaIndex) (h : Heap Links) (y : ArenaIndex) → (In y xs → ⊥) → rehome c xs h y ≡ h y
rehome-other c [] h y n = refl
rehome-other c (x ∷ xs) h y n =
    rehome-other c xs (change (with_container c) (Some x) h) y (λ i. n (inr i)) ∙ change-other (with_container c) x h y (λ e. n (inl (sym e)))

pub rehome-push : (c : ArenaIndex) (xs : List ArenaIndex) (x : ArenaIndex) (h : Heap Links) → rehome c (xs ++ x ∷ []) h ≡ change (with_container c) (Some x) (rehome c xs h)
rehome-push c [] x h = refl
rehome-push c (y ∷ ys) x h = rehome-push c ys x (change (with_container c) (Some y) h)

pub chain-rehome : (c d : ArenaIndex) (p : Option ArenaIndex) (xs : List ArenaIndex) (n : Option ArenaIndex) (h : Heap Links) → Distinct xs → IsChain h d p xs n → IsChain (rehome c xs h) c p xs n
chain-rehome c d p [] n h a k = tt
chain-rehome c d p (x ∷ xs) n h a k =
    let first_rehomed : Heap Links = change (with_container c) (Some x) h in (
      rehome-other c xs first_rehomed x (not_in-Absent x xs a.0) ∙ change-here (with_container c) x h (linked p (head_or n xs) d) k.0,
      chain-rehome c d (Some x) xs n first_rehomed a.1 (chain-same h first_rehomed d (Some x) xs n (λ y i. change-other (with_container c) x h y (λ e. not_in-Absent x xs a.0 (subst (λ z. In z xs) (sym e) i))) k.1),
    )

-- a step of the walk
pub record Step (start now : Heap Links) (first : Option ArenaIndex) (c node : ArenaIndex) (w : Walked start now first (Some node) c) : Type 0 where
  pub rest : List ArenaIndex
  pub todo_is : w.todo ≡ node ∷ rest
  pub before : Option ArenaIndex
  pub links : now node ≡ Some (linked before (head_or None rest) w.whole.owner)

head-cases : (xs : List ArenaIndex) (x : ArenaIndex) → Some x ≡ head_or None xs → (ys : List ArenaIndex) × (xs ≡ x ∷ ys)
head-cases [] x e = cc
head-cases (y ∷ ys) x e = (ys, ap (λ z. z ∷ ys) (sym (same_Some _ _ e)))

pub step : (start now : Heap Links) (first : Option ArenaIndex) (c node : ArenaIndex) (w : Walked start now first (Some node) c) → Step start now first c node w
step start now first c node w =
    let t = head-cases w.todo node w.stands in
    let whole : w.whole.nodes ≡ w.done ++ node ∷ t.0 = w.splits ∙ ap (λ ys. w.done ++ ys) t.1 in
    let k : IsChain start w.whole.owner w.whole.before (w.done ++ node ∷ t.0) None = subst (λ ys. IsChain start w.whole.owner w.whole.before ys None) whole w.whole.chain in
    let apart : Distinct (w.done ++ node ∷ t.0) = chain-apart start w.whole.owner w.whole.before _ k in
    let out : In node w.done → ⊥ = λ i. apart-both node w.done (node ∷ t.0) apart i (inl refl) in
    record {
      rest = t.0;
      todo_is = t.1;
      before = last_or w.whole.before w.done;
      links = ap (λ (h : Heap Links). h node) w.moved ∙ rehome-other c w.done start node out ∙ (chain-split start w.whole.owner w.whole.before w.done (node ∷ t.0) None k).1.0;
    }

pub walk-start : (h : Heap Links) (first : Option ArenaIndex) (c : ArenaIndex) → IsListFrom h first c → Walked h h first first c
walk-start h first c f = record { whole = f; done = []; todo = f.nodes; splits = refl; stands = f.begins; moved = refl }

pub walk-more : (start now after : Heap Links) (first next : Option ArenaIndex) (c node : ArenaIndex) (w : Walked start now first (Some node) c)
    → after ≡ change (with_container c) (Some node) now
    → ((l : Links) → after node ≡ Some l → next ≡ l.next)
    → Walked start after first next c
walk-more start now after first next c node w moves reads =
    let s = step start now first c node w in
    record {
      whole = w.whole;
      done = w.done ++ node ∷ [];
      todo = s.rest;
      splits = w.splits ∙ ap (λ ys. w.done ++ ys) s.todo_is ∙ simp append_assoc;
      stands = reads (linked s.before (head_or None s.rest) c) (ap (λ (h : Heap Links). h node) moves ∙ change-here (with_container c) node now _ s.links);
      moved = moves ∙ ap (change (with_container c) (Some node)) w.moved ∙ sym (rehome-push c w.done node start);
    }

pub walk-end : (start now : Heap Links) (first : Option ArenaIndex) (c : ArenaIndex) → Walked start now first None c
    → (d : ArenaIndex) (p : Option ArenaIndex) (xs : List ArenaIndex) → IsChain start d p xs None → first ≡ head_or None xs → now ≡ rehome c xs start
walk-end start now first c w d p xs k b =
    let same : w.whole.nodes ≡ xs = chain-unique start w.whole.owner d w.whole.before p w.whole.nodes xs w.whole.chain k (sym w.whole.begins ∙ b) in
    let over : w.todo ≡ [] = head-None w.todo w.stands in
    let all : xs ≡ w.done = sym same ∙ w.splits ∙ ap (λ ys. w.done ++ ys) over ∙ append-nil w.done in
    w.moved ∙ ap (λ ys. rehome c ys start) (sym all)

-- what is left of the walk is a list of the nodes as they now stand
todo-chain : {start now : Heap Links} {first current : Option ArenaIndex} {c : ArenaIndex} (w : Walked start now first current c) → IsChain now w.whole.owner (last_or w.whole.before w.done) w.todo None
todo-chain {start} {now} {first} {current} {c} w =
    let k : IsChain start w.whole.owner w.whole.before (w.done ++ w.todo) None = subst (λ ys. IsChain start w.whole.owner w.whole.before ys None) w.splits w.whole.chain in
    let apart : Distinct (w.done ++ w.todo) = chain-apart start w.whole.owner w.whole.before _ k in
    chain-same start now w.whole.owner (last_or w.whole.before w.done) w.todo None
    (λ y i. ap (λ (h : Heap Links). h y) w.moved ∙ rehome-other c w.done start y (λ j. apart-both y w.done w.todo apart j i))
    (chain-split start w.whole.owner w.whole.before w.done w.todo None k).1

pub todo-piece : {T : Type 0} (links : T → Links) (start : Heap Links) (first current : Option ArenaIndex) (c : ArenaIndex) (nodes : Arena T) (w : Walked start (seen links nodes) first current c) → piece links nodes current None ≡ w.todo
todo-piece links start first current c nodes w =
    ap (λ (o : Option ArenaIndex). piece links nodes o None) w.stands ∙ piece-all links nodes w.whole.owner (last_or w.whole.before w.done) w.todo (todo-chain w)

-- a step leaves one node less to walk
pub walk-smaller : {T : Type 0} (links : T → Links) (start : Heap Links) (first next : Option ArenaIndex) (c node : ArenaIndex) (nodes after : Arena T)
    → Walked start (seen links nodes) first (Some node) c
    → seen links after ≡ change (with_container c) (Some node) (seen links nodes)
    → ((l : Links) → seen links after node ≡ Some l → next ≡ l.next)
    → length (piece links after next None) < length (piece links nodes (Some node) None)
unfolding walk-more
walk-smaller links start first next c node nodes after w moves reads =
    let s = step start (seen links nodes) first c node w in
    let v = walk-more start (seen links nodes) (seen links after) first next c node w moves reads in
    let before = ap length (todo-piece links start first (Some node) c nodes w ∙ s.todo_is) in
    let later = ap length (todo-piece links start first next c after v) in
    omega (arith, before, later)

pub last-step : (start now : Heap Links) (first : Option ArenaIndex) (c : ArenaIndex) (current : Option ArenaIndex) → Walked start now first current c → current ≡ None
    → (d : ArenaIndex) (p : Option ArenaIndex) (xs : List ArenaIndex) → IsChain start d p xs None → first ≡ head_or None xs → now ≡ rehome c xs start
last-step start now first c current w e d p xs k b = walk-end start now first c (subst (λ (o : Option ArenaIndex). Walked start now first o c) e w) d p xs k b

-- two lists joined
pub AreLists-join : (h h' : Heap Links) (r r' : Heap Ends) (lists : ArenaIndex → List ArenaIndex) (c d : ArenaIndex) (e f : Ends)
    → AreLists h r lists → (c ≡ d → ⊥)
    → h' ≡ rehome c (lists d) (relink h (lists c) (lists d) (head_or None (lists d)) (last_or None (lists c)))
    → r' c ≡ Some (ends_of (lists c ++ lists d)) → r' d ≡ Some (ends_of [])
    → ((k : ArenaIndex) → (c ≡ k → ⊥) → (d ≡ k → ⊥) → r' k ≡ r k)
    → AreLists h' r' (with_list (with_list lists c (lists c ++ lists d)) d [])
AreLists-join h h' r r' lists c d e f l ne is rc rd ro =
    let a : List ArenaIndex = lists c in
    let b : List ArenaIndex = lists d in
    let v : Option ArenaIndex = head_or None b in
    let w : Option ArenaIndex = last_or None a in
    let mid : Heap Links = relink h a b v w in
    let new : ArenaIndex → List ArenaIndex = with_list (with_list lists c (a ++ b)) d [] in
    let apa = chain-apart h c None a (l.chains c) in
    let apb = chain-apart h d None b (l.chains d) in
    let dis : (y : ArenaIndex) → In y a → In y b → ⊥ = λ y i j. ne (lists-apart l y c d i j) in
    let sides = relink-sides h c d a b None None v w apa apb dis (l.chains c) (l.chains d) in
    let ka : IsChain (rehome c b mid) c None a v = chain-same mid (rehome c b mid) c None a v (λ y i. rehome-other c b mid y (dis y i)) sides.0 in
    let kb : IsChain (rehome c b mid) c w b None = chain-rehome c d w b None mid apb sides.1 in
    let whole : IsChain h' c None (a ++ b) None = rw is (chain-join (rehome c b mid) c None a b None ka kb) in
    let far : (y : ArenaIndex) → (In y a → ⊥) → (In y b → ⊥) → h' y ≡ h y = λ y na nb.
    ap (λ (h : Heap Links). h y) is ∙ rehome-other c b mid y nb ∙ relink-other h a b v w y na nb in
    let new-c : new c ≡ a ++ b = with_list-other (with_list lists c (a ++ b)) d [] c (λ e. ne (sym e)) ∙ with_list-here lists c (a ++ b) in
    let new-d : new d ≡ [] = with_list-here (with_list lists c (a ++ b)) d [] in
    let new-k : (k : ArenaIndex) → (c ≡ k → ⊥) → (d ≡ k → ⊥) → new k ≡ lists k = λ k nc nd. with_list-other (with_list lists c (a ++ b)) d [] k nd ∙ with_list-other lists c (a ++ b) k nc in
    record {
      chains = λ k. elim (id_cases c k) [
        | inl same ↦ subst (λ k. IsChain h' k None (new k) None) same (subst (λ xs. IsChain h' c None xs None) (sym new-c) whole)
        | inr nc ↦ elim (id_cases d k) [
          | inl same ↦ subst (λ k. IsChain h' k None (new k) None) same (subst (λ xs. IsChain h' d None xs None) (sym new-d) tt)
          | inr nd ↦ subst (λ xs. IsChain h' k None xs None) (sym (new-k k nc nd))
              (chain-same h h' k None (lists k) None (λ y i. far y (λ j. nc (lists-apart l y c k j i)) (λ j. nd (lists-apart l y d k j i))) (l.chains k))
        ]
      ];
      ends = λ k g at_k. elim (id_cases c k) [
        | inl same ↦ same_Some _ _ (sym at_k ∙ ap r' (sym same) ∙ rc) ∙ ap ends_of (sym new-c ∙ ap new same)
        | inr nc ↦ elim (id_cases d k) [
          | inl same ↦ same_Some _ _ (sym at_k ∙ ap r' (sym same) ∙ rd) ∙ ap ends_of (sym new-d ∙ ap new same)
          | inr nd ↦ l.ends k g (sym (ro k nc nd) ∙ at_k) ∙ ap ends_of (sym (new-k k nc nd))
        ]
      ];
      absent = λ k at_k. elim (id_cases c k) [
        | inl same ↦ let bad : Some (ends_of (a ++ b)) ≡ None = sym rc ∙ ap r' same ∙ at_k in cc
        | inr nc ↦ elim (id_cases d k) [
          | inl same ↦ let bad : Some (ends_of []) ≡ None = sym rd ∙ ap r' same ∙ at_k in cc
          | inr nd ↦ new-k k nc nd ∙ l.absent k (sym (ro k nc nd) ∙ at_k)
        ]
      ];
      covers = λ y m at_y. elim (In-either y (a ++ b)) [
        | inl i ↦ inr (c, subst (λ xs. In y xs) (sym new-c) i)
        | inr n ↦ elim (l.covers y m (sym (far y (λ i. n (In-left y a b i)) (λ i. n (In-right y a b i))) ∙ at_y)) [
          | inl u ↦ inl u
          | inr s ↦ inr (
            s.0,
            subst (λ xs. In y xs) (sym (new-k s.0
                (λ e. n (In-left y a b (subst (λ k. In y (lists k)) (sym e) s.1)))
                (λ e. n (In-right y a b (subst (λ k. In y (lists k)) (sym e) s.1))))) s.1,
          )
        ]
      ];
    }

-- what `append_linked_list` reads and leaves
pub head-read : {h : Heap Links} {r : Heap Ends} {lists : ArenaIndex → List ArenaIndex} → AreLists h r lists → (c : ArenaIndex) (e : Ends) (x : Option ArenaIndex) → r c ≡ Some e → x ≡ e.head → x ≡ head_or None (lists c)
head-read l c e x at_c is = is ∙ ap (λ (e : Ends). e.head) (l.ends c e at_c)

pub tail-read : {h : Heap Links} {r : Heap Ends} {lists : ArenaIndex → List ArenaIndex} → AreLists h r lists → (c : ArenaIndex) (e : Ends) (x : Option ArenaIndex) → r c ≡ Some e → x ≡ e.tail → x ≡ last_or None (lists c)
tail-read l c e x at_c is = is ∙ ap (λ (e : Ends). e.tail) (l.ends c e at_c)

change-live-if : {A : Type 0} (f : A → A) (b : Bool) (o : Option A) (a : A) → o ≡ Some a → (x : A) × (cond b (option_map f o) o ≡ Some x)
change-live-if f true o a e = (f a, ap (option_map f) e)
change-live-if f false o a e = (a, e)

pub change-live : {A : Type 0} (f : A → A) (o : Option ArenaIndex) (h : Heap A) (i : ArenaIndex) (a : A) → h i ≡ Some a → (x : A) × (change f o h i ≡ Some x)
change-live f o h i a e = change-live-if f (is_at o i) (h i) a e

unless-other : (o : Option ArenaIndex) (c k : ArenaIndex) → (c ≡ k → ⊥) → unless o c ≡ Some k → ⊥
unless-other None c k ne e = ne (same_Some _ _ e)
unless-other (Some x) c k ne e = cc

or-head : (a b : List ArenaIndex) → option_or (head_or None a) (head_or None b) ≡ head_or None (a ++ b)
or-head [] b = refl
or-head (x ∷ xs) b = refl

or-tail : (a b : List ArenaIndex) → option_or (last_or None b) (last_or None a) ≡ last_or None (a ++ b)
or-tail a [] = ap (last_or None) (sym (append-nil a))
or-tail a (y ∷ ys) = sym (last_or-append None a (y ∷ ys))

abbrev pub joined_ends : Heap Ends → ArenaIndex → ArenaIndex → Option ArenaIndex → Option ArenaIndex → Option ArenaIndex → Option ArenaIndex → Heap Ends
joined_ends r c d head tail first last =
    change (λ _. no_ends) (Some d) (change (λ _. record { head = option_or head first; tail = option_or last tail }) (Some c)
    (change (with_head first) (unless tail c) (change (with_tail tail) (unless first c) r)))

same-ends : (e : Ends) (xs : List ArenaIndex) → e.head ≡ head_or None xs → e.tail ≡ last_or None xs → e ≡ ends_of xs
same-ends e xs p q = λ i. record { head = p i; tail = q i }

-- where the ends of two lists are tied to each other, the second is a list from its first node on
pub joined-list : (h tied : Heap Links) (r : Heap Ends) (lists : ArenaIndex → List ArenaIndex) (c d : ArenaIndex) (tail first : Option ArenaIndex)
    → AreLists h r lists → (c ≡ d → ⊥) → first ≡ head_or None (lists d) → tail ≡ last_or None (lists c)
    → tied ≡ change (with_next first) tail (change (with_prev tail) first h)
    → IsListFrom tied first c
joined-list h tied r lists c d tail first l ne fi ta is =
    let sides = relink-sides h c d (lists c) (lists d) None None (head_or None (lists d)) (last_or None (lists c)) (chain-apart h c None (lists c) (l.chains c)) (chain-apart h d None (lists d) (l.chains d)) (λ y i j. ne (lists-apart l y c d i j)) (l.chains c) (l.chains d) in
    let k : IsChain tied d (last_or None (lists c)) (lists d) None = rw (is, fi, ta) sides.1 in
    record { owner = d; before = last_or None (lists c); nodes = lists d; chain = k; begins = fi; other = λ e. ne (sym e) }

-- after a walk has moved its nodes too, the two are one list
pub AreLists-joined : (h tied h' : Heap Links) (r r' : Heap Ends) (lists : ArenaIndex → List ArenaIndex) (c d : ArenaIndex) (e f : Ends) (head tail first last : Option ArenaIndex)
    → AreLists h r lists → (c ≡ d → ⊥) → r c ≡ Some e → r d ≡ Some f
    → head ≡ e.head → tail ≡ e.tail → first ≡ f.head → last ≡ f.tail
    → tied ≡ change (with_next first) tail (change (with_prev tail) first h)
    → ((owner : ArenaIndex) (before : Option ArenaIndex) (list : List ArenaIndex) → IsChain tied owner before list None → first ≡ head_or None list → h' ≡ rehome c list tied)
    → r' ≡ joined_ends r c d head tail first last
    → AreLists h' r' (with_list (with_list lists c (lists c ++ lists d)) d [])
unfolding joined-list
AreLists-joined h tied h' r r' lists c d e f head tail first last l ne rc rd he ta fi la is moves ends =
    let head_is = head-read l c e head rc he in
    let tail_is = tail-read l c e tail rc ta in
    let first_is = head-read l d f first rd fi in
    let last_is = tail-read l d f last rd la in
    let from = joined-list h tied r lists c d tail first l ne first_is tail_is is in
    let moved : h' ≡ rehome c (lists d) tied = moves from.owner from.before from.nodes from.chain from.begins in
    let linked : tied ≡ relink h (lists c) (lists d) (head_or None (lists d)) (last_or None (lists c)) = rw (is, first_is, tail_is) in
    let one : Heap Ends = change (with_tail tail) (unless first c) r in
    let two : Heap Ends = change (with_head first) (unless tail c) one in
    let both : Ends = record { head = option_or head first; tail = option_or last tail } in
    let three : Heap Ends = change (λ _. both) (Some c) two in
    let live_before = change-live (with_tail tail) (unless first c) r c e rc in
    let live_after = change-live (with_head first) (unless tail c) one c live_before.0 live_before.1 in
    let at_c : r' c ≡ Some both = ap (λ (q : Heap Ends). q c) ends ∙ change-other (λ _. no_ends) d three c (λ e. ne (sym e)) ∙ change-here (λ _. both) c two live_after.0 live_after.1 in
    let keep : (k : ArenaIndex) → (c ≡ k → ⊥) → three k ≡ r k = λ k nc.
    change-other (λ _. both) c two k nc ∙ change-apart (with_head first) (unless tail c) one k (unless-other tail c k nc) ∙ change-apart (with_tail tail) (unless first c) r k (unless-other first c k nc) in
    let at_d : r' d ≡ Some no_ends = ap (λ (q : Heap Ends). q d) ends ∙ change-here (λ _. no_ends) d three f (keep d ne ∙ rd) in
    let both_is : both ≡ ends_of (lists c ++ lists d) = same-ends both (lists c ++ lists d) (rw (head_is, first_is) (or-head (lists c) (lists d))) (rw (last_is, tail_is) (or-tail (lists c) (lists d))) in
    AreLists-join h h' r r' lists c d e f l ne (moved ∙ ap (rehome c (lists d)) linked) (at_c ∙ ap Some both_is) at_d
    (λ k nc nd. ap (λ (q : Heap Ends). q k) ends ∙ change-other (λ _. no_ends) d three k nd ∙ keep k nc)
