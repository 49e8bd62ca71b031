-- What a walk by the links finds.
use Rattle.std.proofs.Common.{◌≡◌, ℕ, suc, zero, ◌≤◌, Bool, true, false, cond, List, [], ◌∷◌, ◌++◌, length, Option, Some, None, refl, sym, ap, ◌∙◌, subst, inl, arith, length-append}
use Rattle.std.specs.Option.{option_eq}
use Rattle.std.proofs.lemmas.Option.{same_Some}
use Rattle.ir_model.specs.declared.ids.ArenaIndex.{ArenaIndex}
use Rattle.ir_model.specs.ContextIds.{same_id}
use Rattle.ir_base_arenas.specs.Arena.{Arena}
use Rattle.ir_model.specs.Ids.{Distinct}
use Rattle.ir_model.specs.Nesting.{In}
use Rattle.ir_model.proofs.Nests.{not_in-Absent}
use Rattle.ir_model.proofs.Redirected.{Distinct-front}
use Rattle.ir_model.proofs.TwoRuns.{id_tells}
use Rattle.ir_base_arenas.specs.Lists.{seen, Links, Ends, Heap, IsChain, linked, head_or, last_or, last_from, AreLists}
use Rattle.ir_base_arenas.specs.Walks.{next_linked, head_in, walk_to, piece, list_in, IsPiece}
use Rattle.ir_model.proofs.IdCases.{id_same, id_differs}
use Rattle.ir_model.proofs.LiveIds.{live-fit}
use Rattle.ir_base_arenas.proofs.ListChains.{head-None, last_of-In, chain-apart, chain-at, chain-split, apart-both}
use Rattle.ir_base_arenas.proofs.ListPlaces.{live-from_seen}

pub walk-all : (fuel : ℕ) (h : Heap Links) (c : ArenaIndex) (p : Option ArenaIndex) (xs : List ArenaIndex) → IsChain h c p xs None → length xs ≤ fuel → walk_to fuel h (head_or None xs) None ≡ xs
walk-all zero h c p [] k f = refl
walk-all zero h c p (x ∷ xs) k f = absurd (omega arith)
walk-all (suc n) h c p [] k f = refl
walk-all (suc n) h c p (x ∷ xs) k f =
    ap (λ ys. x ∷ ys) (ap (λ o. walk_to n h (next_linked o) None) k.0 ∙ walk-all n h c (Some x) xs k.1 (omega arith))

pub walk-piece : (fuel : ℕ) (h : Heap Links) (c : ArenaIndex) (p n : Option ArenaIndex) (xs : List ArenaIndex) → IsChain h c p xs n → Distinct xs → length xs ≤ fuel → walk_to fuel h (head_or None xs) (last_or None xs) ≡ xs
walk-piece zero h c p n [] k a f = refl
walk-piece zero h c p n (x ∷ xs) k a f = absurd (omega arith)
walk-piece (suc m) h c p n [] k a f = refl
walk-piece (suc m) h c p n (x ∷ []) k a f = ap (λ b. x ∷ cond b [] (walk_to m h (next_linked (h x)) (Some x))) (id_same x)
walk-piece (suc m) h c p n (x ∷ (y ∷ ys)) k a f =
    let other : same_id (last_from y ys) x ≡ false = id_differs (last_from y ys) x (λ e. not_in-Absent x (y ∷ ys) a.0 (subst (λ z. In z (y ∷ ys)) e (last_of-In y ys))) in
    ap (λ b. x ∷ cond b [] (walk_to m h (next_linked (h x)) (Some (last_from y ys)))) other
    ∙ ap (λ zs. x ∷ zs) (ap (λ o. walk_to m h (next_linked o) (Some (last_from y ys))) k.0 ∙ walk-piece m h c (Some x) n (y ∷ ys) k.1 a.1 (omega arith))

pub walk-nothing : (room : ℕ) (h : Heap Links) (last : Option ArenaIndex) → walk_to room h None last ≡ []
walk-nothing zero h last = refl
walk-nothing (suc n) h last = refl

walk-found : (fuel : ℕ) (h : Heap Links) (r : Heap Ends) (lists : ArenaIndex → List ArenaIndex) → AreLists h r lists → ((c : ArenaIndex) → length (lists c) ≤ fuel) → (c : ArenaIndex) (o : Option Ends) → r c ≡ o → walk_to fuel h (head_in o) None ≡ lists c
walk-found fuel h r lists l fits c None e = walk-nothing fuel h None ∙ sym (l.absent c e)
walk-found fuel h r lists l fits c (Some f) e =
    ap (λ (f : Ends). walk_to fuel h f.head None) (l.ends c f e) ∙ walk-all fuel h c None (lists c) (l.chains c) (fits c)

-- the lists are what the walks find
pub lists-walk : (fuel : ℕ) (h : Heap Links) (r : Heap Ends) (lists : ArenaIndex → List ArenaIndex) → AreLists h r lists → ((c : ArenaIndex) → length (lists c) ≤ fuel) → (c : ArenaIndex) → walk_to fuel h (head_in (r c)) None ≡ lists c
lists-walk fuel h r lists l fits c = walk-found fuel h r lists l fits c (r c) refl

pub piece-items : {h : Heap Links} {room : ℕ} {next back : Option ArenaIndex} → (w : IsPiece h room next back) → walk_to room h next back ≡ w.nodes
piece-items {h} {room} {next} {back} w =
    ap (λ (o : Option ArenaIndex). walk_to room h o back) w.begins ∙ ap (λ (o : Option ArenaIndex). walk_to room h (head_or None w.nodes) o) w.ends
    ∙ walk-piece room h w.container w.before w.after w.nodes w.chain w.apart w.fits

-- a call of `next` at a piece
pub record Taken (h : Heap Links) (room : ℕ) (x : ArenaIndex) (next back : Option ArenaIndex) : Type 0 where
  pub links : Links
  pub here : h x ≡ Some links
  pub rest : List ArenaIndex
  pub items : walk_to room h next back ≡ x ∷ rest
  pub at_end : back ≡ Some x → rest ≡ []
  pub further : (back ≡ Some x → ⊥) → IsPiece h room links.next back × (walk_to room h links.next back ≡ rest)

take-nodes : (h : Heap Links) (room : ℕ) (x c : ArenaIndex) (before after next back : Option ArenaIndex) (xs : List ArenaIndex)
    → IsChain h c before xs after → Distinct xs → length xs ≤ room → Some x ≡ head_or None xs → back ≡ last_or None xs → walk_to room h next back ≡ xs → Taken h room x next back
take-nodes h room x c before after next back [] k a f b e w = cc
take-nodes h room x c before after next back (y ∷ []) k a f b e w =
    let same : y ≡ x = sym (same_Some _ _ b) in
    record {
      links = linked before after c;
      here = subst (λ z. h z ≡ Some (linked before after c)) same k.0;
      rest = [];
      items = w ∙ ap (λ z. z ∷ []) same;
      at_end = λ _. refl;
      further = λ ne. absurd (ne (e ∙ ap Some same));
    }
take-nodes h room x c before after next back (y ∷ (z ∷ zs)) k a f b e w =
    let same : y ≡ x = sym (same_Some _ _ b) in
    let piece : IsPiece h room (Some z) back = record { container = c; before = Some y; after = after; nodes = z ∷ zs; chain = k.1; apart = a.1; fits = omega arith; begins = refl; ends = e } in
    record {
      links = linked before (Some z) c;
      here = subst (λ v. h v ≡ Some (linked before (Some z) c)) same k.0;
      rest = z ∷ zs;
      items = w ∙ ap (λ v. v ∷ (z ∷ zs)) same;
      at_end = λ ends_here. absurd (not_in-Absent y (z ∷ zs) a.0 (subst (λ v. In v (z ∷ zs)) (same_Some _ _ (sym e ∙ ends_here) ∙ sym same) (last_of-In z zs)));
      further = λ ne. (piece, piece-items piece);
    }

pub take-next : {h : Heap Links} {room : ℕ} {x : ArenaIndex} {next back : Option ArenaIndex} → IsPiece h room next back → next ≡ Some x → Taken h room x next back
take-next {h} {room} {x} {next} {back} w is =
    take-nodes h room x w.container w.before w.after next back w.nodes w.chain w.apart w.fits (sym is ∙ w.begins) w.ends (piece-items w)

pub piece-none : (h : Heap Links) (room : ℕ) → IsPiece h room None None
piece-none h room = record { container = record { slot = 0; version = 0 }; before = None; after = None; nodes = []; chain = tt; apart = tt; fits = omega arith; begins = refl; ends = refl }

pub piece-empty : {h : Heap Links} {room : ℕ} {next back : Option ArenaIndex} → IsPiece h room next back → next ≡ None → walk_to room h next back ≡ []
piece-empty {h} {room} {next} {back} w is = piece-items w ∙ head-None w.nodes (sym is ∙ w.begins)

pub same-option : (o : Option ArenaIndex) (x : ArenaIndex) (b : Bool) → b ≡ option_eq same_id o (Some x) → b ≡ true → o ≡ Some x
same-option None x b e t = cc
same-option (Some y) x b e t = ap Some ((id_tells y x).0 (sym e ∙ t))

pub other-option : (o : Option ArenaIndex) (x : ArenaIndex) (b : Bool) → b ≡ option_eq same_id o (Some x) → b ≡ false → o ≡ Some x → ⊥
other-option None x b e f s = cc
other-option (Some y) x b e f s =
    let here : same_id y x ≡ true = ap (λ z. same_id z x) (same_Some _ _ s) ∙ id_same x in
    let not : same_id y x ≡ false = sym e ∙ f in
    cc

-- a call of `next_back` at a piece
pub record TakenBack (h : Heap Links) (room : ℕ) (x : ArenaIndex) (next back : Option ArenaIndex) : Type 0 where
  pub links : Links
  pub here : h x ≡ Some links
  pub rest : List ArenaIndex
  pub items : walk_to room h next back ≡ rest ++ x ∷ []
  pub at_end : next ≡ Some x → rest ≡ []
  pub further : (next ≡ Some x → ⊥) → IsPiece h room next links.prev × (walk_to room h next links.prev ≡ rest)

back-nodes : (h : Heap Links) (room : ℕ) (x c : ArenaIndex) (before after next back : Option ArenaIndex) (ys : List ArenaIndex)
    → IsChain h c before (ys ++ x ∷ []) after → Distinct (ys ++ x ∷ []) → length (ys ++ x ∷ []) ≤ room → next ≡ head_or None (ys ++ x ∷ []) → walk_to room h next back ≡ ys ++ x ∷ [] → TakenBack h room x next back
back-nodes h room x c before after next back [] k a f b w =
    record { links = linked before after c; here = k.0; rest = []; items = w; at_end = λ _. refl; further = λ ne. absurd (ne b) }
back-nodes h room x c before after next back (z ∷ zs) k a f b w =
    let s = chain-split h c before (z ∷ zs) (x ∷ []) after k in
    let piece : IsPiece h room next (Some (last_from z zs)) = record {
      container = c;
      before = before;
      after = Some x;
      nodes = z ∷ zs;
      chain = s.0;
      apart = Distinct-front (z ∷ zs) (x ∷ []) a;
      fits = omega (arith, length-append zs (x ∷ []));
      begins = b;
      ends = refl;
    } in
    record {
      links = linked (Some (last_from z zs)) after c;
      here = s.1.0;
      rest = z ∷ zs;
      items = w;
      at_end = λ e. absurd (apart-both x (z ∷ zs) (x ∷ []) a (inl (same_Some _ _ (sym e ∙ b))) (inl refl));
      further = λ ne. (piece, piece-items piece);
    }

front : ArenaIndex → List ArenaIndex → List ArenaIndex
front x [] = []
front x (y ∷ ys) = x ∷ front y ys

front-last : (x : ArenaIndex) (xs : List ArenaIndex) → x ∷ xs ≡ front x xs ++ last_from x xs ∷ []
unfolding front
front-last x [] = refl
front-last x (y ∷ ys) = ap (λ zs. x ∷ zs) (front-last y ys)

last-cases : (xs : List ArenaIndex) (x : ArenaIndex) → Some x ≡ last_or None xs → (ys : List ArenaIndex) × (xs ≡ ys ++ x ∷ [])
last-cases [] x e = cc
last-cases (y ∷ ys) x e = (front y ys, front-last y ys ∙ ap (λ z. front y ys ++ z ∷ []) (sym (same_Some _ _ e)))

pub take-back : {h : Heap Links} {room : ℕ} {x : ArenaIndex} {next back : Option ArenaIndex} → IsPiece h room next back → back ≡ Some x → TakenBack h room x next back
take-back {h} {room} {x} {next} {back} w is =
    let s = last-cases w.nodes x (sym is ∙ w.ends) in
    back-nodes h room x w.container w.before w.after next back s.0
    (subst (λ xs. IsChain h w.container w.before xs w.after) s.1 w.chain) (subst Distinct s.1 w.apart)
    (subst (λ (xs : List ArenaIndex). length xs ≤ room) s.1 w.fits) (w.begins ∙ ap (head_or None) s.1) (piece-items w ∙ s.1)

no-last : (xs : List ArenaIndex) → None ≡ last_or None xs → xs ≡ []
no-last [] e = refl
no-last (x ∷ xs) e = cc

pub piece-empty-back : {h : Heap Links} {room : ℕ} {next back : Option ArenaIndex} → IsPiece h room next back → back ≡ None → walk_to room h next back ≡ []
piece-empty-back {h} {room} {next} {back} w is = piece-items w ∙ no-last w.nodes (sym is ∙ w.ends)

-- a list of live nodes is no longer than its arena
pub chain-fits : {T : Type 0} (links : T → Links) (nodes : Arena T) (c : ArenaIndex) (p : Option ArenaIndex) (xs : List ArenaIndex) → IsChain (seen links nodes) c p xs None → length xs ≤ length nodes.slots
chain-fits links nodes c p xs k =
    live-fit nodes xs (chain-apart (seen links nodes) c p xs k)
    (λ q i. let s = chain-at (seen links nodes) c p xs None q k i in live-from_seen links nodes q s.0 s.1)

-- a chain to its end is the piece from its first node on
pub piece-all : {T : Type 0} (links : T → Links) (nodes : Arena T) (c : ArenaIndex) (p : Option ArenaIndex) (xs : List ArenaIndex) → IsChain (seen links nodes) c p xs None → piece links nodes (head_or None xs) None ≡ xs
piece-all links nodes c p xs k = walk-all (length nodes.slots) (seen links nodes) c p xs k (chain-fits links nodes c p xs k)

-- the lists are a function of the state
pub list_of-is : {T C : Type 0} (links : T → Links) (ends : C → Ends) (nodes : Arena T) (containers : Arena C) (lists : ArenaIndex → List ArenaIndex)
    → AreLists (seen links nodes) (seen ends containers) lists → (c : ArenaIndex) → list_in links ends nodes containers c ≡ lists c
list_of-is links ends nodes containers lists l = lists-walk (length nodes.slots) (seen links nodes) (seen ends containers) lists l (λ c. chain-fits links nodes c None (lists c) (l.chains c))

abbrev pub list-piece : {T : Type 0} (links : T → Links) (nodes : Arena T) (r : Heap Ends) (lists : ArenaIndex → List ArenaIndex) (c : ArenaIndex) (head tail : Option ArenaIndex)
    → AreLists (seen links nodes) r lists → head ≡ head_or None (lists c) → tail ≡ last_or None (lists c) → IsPiece (seen links nodes) (length nodes.slots) head tail
list-piece links nodes r lists c head tail l he ta = record {
  container = c;
  before = None;
  after = None;
  nodes = lists c;
  chain = l.chains c;
  apart = chain-apart (seen links nodes) c None (lists c) (l.chains c);
  fits = chain-fits links nodes c None (lists c) (l.chains c);
  begins = he;
  ends = ta;
}
