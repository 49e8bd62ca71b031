-- The walk over all inside a root from a place on, and the blocks that it passes.
use mathlib.Core.Path.{◌≡◌, refl, sym, ap, ◌∙◌, subst}
use Rattle.std.proofs.Common.{◌<◌, inl, inr, false, is_some, IsNone, Option, Some, None, List, [], ◌∷◌, ◌++◌}
use Rattle.std.proofs.lemmas.List.{append_assoc}
use Rattle.std.specs.Option.{option_map}
use Rattle.std.specs.Prelude.{IfSome}
use Rattle.ir_model.specs.declared.ids.ArenaIndex.{ArenaIndex}
use Rattle.ir_model.specs.ContextIds.{context_ids}
use Rattle.ir_model.specs.Forest.{Dialect, Behaviour, Forest, Entity, a_block}
use Rattle.ir_model.specs.Nesting.{In, itself, below, Inside, IsLive, Nested, ops_of}
use Rattle.ir_model.specs.Parent.{first_of}
use Rattle.ir_model.specs.Subtree.{ListsSubtree}
use Rattle.ir_model.specs.SweepLaws.{NoneIsClosed}
use Rattle.ir_model.proofs.Nests.{In-append, In-left, In-right}
use Rattle.ir_model_passes.specs.SweepInside.{NoneIsClosedInside}
use Rattle.ir_run_passes.specs.Going.{CanGo}
use Rattle.ir_core_erasing.proofs.Steps.{Passing, passing-start, passing-step, passing-end, passing-smaller, remaining}
use Rattle.ir_run_passes.specs.Walks.{ComesNext, CanBeSwept, NoneCanBeSwept}

abbrev E : Type 0
E = Entity context_ids

parted : (x : E) (xs : List E) → In x xs → (before : List E) × (behind : List E) × (xs ≡ before ++ x ∷ behind)
parted x [] h = absurd h
parted x (y ∷ ys) (inl e) = ([], ys, ap (λ z. z ∷ ys) (sym e))
parted x (y ∷ ys) (inr h) = let more = parted x ys h in (y ∷ more.0, more.1, ap (λ zs. y ∷ zs) more.2)

first_in : (x : E) (xs : List E) → Some x ≡ first_of xs → In x xs
first_in x [] e = absurd cc
first_in x (y ∷ ys) e = inl cc

-- an answer that isn't there
pub is_none_so : {P : Type 0} (m : Option P) → is_some m ≡ false → IsNone m
is_none_so None e = refl
is_none_so (Some x) e = absurd cc

-- what is inside something live is live
pub inside_live : {W : Dialect} (f : Forest context_ids W) → Nested f → (root x : E) → IsLive f root → Inside f root x → IsLive f x
inside_live f nested root x live itself = live
inside_live f nested root x live (below {c = c} h i) = nested.live x c h

-- ## Which blocks were passed

module _ {W : Dialect} (f : Forest context_ids W) (xs : List E) (B : Behaviour W) where
  -- of no block that a walk through the list has passed from the start on can something go
  pub record Walked (start now : Option E) : Type 0 where
    pub passed : (before behind : List E) → xs ≡ before ++ behind → start ≡ first_of behind → Passing behind (NoneCanBeSwept B f) now

  pub walk_starts : (start : Option E) → Walked start start
  walk_starts start = record { passed = λ before behind e s. passing-start behind (NoneCanBeSwept B f) start s (λ b h. absurd h) }

  pub walk_goes_on : (start next : Option E) (here : E) → ComesNext xs here next → ((b : ArenaIndex) → here ≡ a_block b → NoneIsClosed B f b) → Walked start (Some here) → Walked start next
  walk_goes_on start next here told clean w = record {
    passed = λ before behind e s.
        passing-step behind (NoneCanBeSwept B f) here (w.passed before behind e s) next
        (λ us vs q. told (before ++ us) vs (e ∙ ap (λ zs. before ++ zs) q ∙ sym (append_assoc before us (here ∷ vs))))
        (NoneCanBeSwept B f) more;
  }
    where
      more : (us : List E) → NoneCanBeSwept B f us → NoneCanBeSwept B f (us ++ here ∷ [])
      more us none b h = elim (In-append (a_block b) us (here ∷ []) h) [
        | inl k ↦ none b k
        | inr k ↦ elim k [ inl e ↦ clean b (sym e) | inr q ↦ absurd q ]
      ]

  pub walk_ends : (start : Option E) → Walked start None → (before behind : List E) → xs ≡ before ++ behind → start ≡ first_of behind → NoneCanBeSwept B f behind
  walk_ends start w before behind e s = passing-end behind (NoneCanBeSwept B f) (w.passed before behind e s)

-- ## Where the walk goes

module _ {W : Dialect} (f : Forest context_ids W) (root : E) where
  -- the block that an entity is stands where the entity does
  pub found_inside : {P : Type 0} (index : P → ArenaIndex) (m : Option P) (x : E) → Inside f root x → IfSome m (λ b. x ≡ a_block (index b)) → IfSome m (λ b. Inside f root (a_block (index b)))
  found_inside index None x i e = tt
  found_inside index (Some b) x i e = subst (Inside f root) e i

  module _ (xs : List E) (lists : ListsSubtree f root xs) where
    -- the first of the listing is inside
    pub first_inside : (x : E) → first_of xs ≡ Some x → Inside f root x
    first_inside x e = (lists.exact x).0 (first_in x xs (sym e))

    module _ (here : E) (i : Inside f root here) where
      found : (before : List E) × (behind : List E) × (xs ≡ before ++ here ∷ behind)
      found = parted here xs ((lists.exact here).1 i)

      -- what comes after something inside is inside
      pub next_inside_too : {P : Type 0} (index : P → E) (m : Option P) → ComesNext xs here (option_map index m) → IfSome m (λ x. Inside f root (index x))
      next_inside_too index None told = tt
      next_inside_too index (Some x) told =
          (lists.exact (index x)).0 (subst (λ zs. In (index x) zs) (sym found.2) (In-right (index x) found.0 (here ∷ found.1) (inr (first_in (index x) found.1 (told found.0 found.1 found.2)))))

      -- and fewer are left from it on
      pub next_smaller : (next : Option E) → ComesNext xs here next → remaining xs next < remaining xs (Some here)
      next_smaller next told =
          passing-smaller xs (λ _. Unit {0}) here (record { before = found.0; behind = here ∷ found.1; splits = found.2; stands = refl; holds = tt }) next told lists.once

    -- where of none of all blocks inside something can go, nothing inside can go
    pub none_inside : (B : Behaviour W) → NoneCanBeSwept B f xs → NoneIsClosedInside B root f
    none_inside B none o listed is_pure closed = none listed.0 ((lists.exact (a_block listed.0)).1 listed.1) o listed.2 is_pure closed

-- ## The operations of one block

module _ {W : Dialect} (B : Behaviour W) (f : Forest context_ids W) (b : ArenaIndex) where
  -- of the block's operations that are ahead in a walk through its list none is missing that can go
  pub record Looking (ahead : List ArenaIndex) : Type 0 where
    pub listed : (o : ArenaIndex) → In o ahead → In o (ops_of f b)
    pub only : (o : ArenaIndex) → In o (ops_of f b) → CanGo B f o → In o ahead

  pub looking_starts : (ahead : List ArenaIndex) → ahead ≡ ops_of f b → Looking ahead
  looking_starts ahead e = record { listed = λ o h. subst (λ xs. In o xs) e h; only = λ o h can. subst (λ xs. In o xs) (sym e) h }

  module _ (here : ArenaIndex) (ahead rest : List ArenaIndex) (e : ahead ≡ rest ++ here ∷ []) (w : Looking ahead) where
    -- the last of those ahead stands in the block
    pub looking_here : In here (ops_of f b)
    looking_here = w.listed here (subst (λ xs. In here xs) (sym e) (In-right here rest (here ∷ []) (inl refl)))

    -- and where it can't go, it can be passed
    pub looking_goes_on : (CanGo B f here → ⊥) → Looking rest
    looking_goes_on not = record {
      listed = λ o h. w.listed o (subst (λ xs. In o xs) (sym e) (In-left o rest (here ∷ []) h));
      only = λ o h can. elim (In-append o rest (here ∷ []) (subst (λ xs. In o xs) e (w.only o h can))) [
        | inl k ↦ k
        | inr k ↦ elim k [ inl same ↦ absurd (not (subst (CanGo B f) same can)) | inr q ↦ absurd q ]
      ];
    }

  pub looking_ends : (ahead : List ArenaIndex) → ahead ≡ [] → Looking ahead → CanBeSwept B f b → ⊥
  looking_ends ahead e w swept = absurd (subst (λ xs. In swept.0 xs) e (w.only swept.0 swept.1 swept.2))

  -- where no operation of the block can go, none that is pure is closed
  pub none_closed : (CanBeSwept B f b → ⊥) → NoneIsClosed B f b
  none_closed none o h is_pure closed = none (o, h, record { is_pure = is_pure; closed = closed })
