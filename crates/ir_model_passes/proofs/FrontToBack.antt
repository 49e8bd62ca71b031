-- In a block in order one way through it leaves no two alike.
use mathlib.Core.Path.{◌≡◌, refl, sym, ap, ◌∙◌, subst}
use Rattle.std.proofs.Common.{ℕ, suc, ◌+◌, ◌⊎◌, inl, inr, Bool, true, false, not, cond, List, [], ◌∷◌, ◌++◌, arith, append_assoc}
use Rattle.std.specs.List.{filter}
use Rattle.std.specs.Cmp.{IsPartialEquivalence}
use Rattle.ir_model.specs.Ids.{Ids, Distinct}
use Rattle.ir_model.specs.Forest.{Dialect, Behaviour, an_op, a_block, OpRecord, Forest}
use Rattle.ir_model.specs.Nesting.{In, WellFormed, ops_of}
use Rattle.ir_model.proofs.Loops.{Lawful}
use Rattle.ir_model.proofs.Nests.{In-left, In-right, not_in-Absent}
use Rattle.ir_model.proofs.Keeps.{Distinct-unmap}
use Rattle.ir_model_passes.specs.Meaning.{SameAttributes, named_values, result_types}
use Rattle.ir_model_passes.specs.Merging.{StandsBefore, redirect_results, Alike, MergesOne, MergesSome, none_merges, one_merges, NoneAlike, Merges}
use Rattle.ir_model_passes.specs.InOrder.{InOrder, LeavesInOrder}
use Rattle.ir_model_passes.specs.FrontWalk.{NoneAlikeAmong}
use Rattle.ir_model_passes.specs.FrontToBack.{FrontToBack, at_end, keeps_it, merges_it}
use Rattle.ir_model_passes.proofs.Merged.{one_formed, list_left}
use Rattle.ir_model_passes.proofs.InOrder.{leaves_in_order}
use Rattle.ir_model_passes.proofs.Preorder.{all_pass}
use Rattle.ir_model_passes.proofs.Going.{some_one}
use Rattle.ir_model.specs.Changes.{Removes}
use Rattle.ir_model.proofs.Removal.{only}

-- ## Lists

pub append_none : {A : Type 0} (xs : List A) → xs ++ [] ≡ xs
append_none [] = refl
append_none (x ∷ xs) = ap (λ ys. x ∷ ys) (append_none xs)

-- what stands in the first part stands before what begins the second
pub before_here : {A : Type 0} (x y : A) (xs ys : List A) → In x xs → StandsBefore x y (xs ++ y ∷ ys)
before_here x y [] ys h = elim h [ ]
before_here x y (z ∷ xs) ys (inl e) = inl (e, In-right y xs (y ∷ ys) (inl refl))
before_here x y (z ∷ xs) ys (inr h) = inr (before_here x y xs ys h)

before_front : {A : Type 0} (x y : A) (xs ys : List A) → StandsBefore x y xs → StandsBefore x y (xs ++ ys)
before_front x y [] ys h = absurd h
before_front x y (z ∷ xs) ys (inl h) = inl (h.0, In-left y xs ys h.1)
before_front x y (z ∷ xs) ys (inr h) = inr (before_front x y xs ys h)

-- with one more at the end, what stands before what
in_or_last : {A : Type 0} (x y : A) (xs : List A) → In x (xs ++ y ∷ []) → In x xs ⊎ (x ≡ y)
in_or_last x y [] (inl e) = inr e
in_or_last x y [] (inr h) = absurd h
in_or_last x y (z ∷ xs) (inl e) = inl (inl e)
in_or_last x y (z ∷ xs) (inr h) = elim (in_or_last x y xs h) [ inl k ↦ inl (inr k) | inr e ↦ inr e ]

pub before_or_last : {A : Type 0} (x y z : A) (xs : List A) → StandsBefore x y (xs ++ z ∷ []) → StandsBefore x y xs ⊎ (In x xs × (y ≡ z))
before_or_last x y z [] (inl h) = absurd h.1
before_or_last x y z [] (inr h) = absurd h
before_or_last x y z (w ∷ xs) (inl h) = elim (in_or_last y z xs h.1) [ inl k ↦ inl (inl (h.0, k)) | inr e ↦ inr (inl h.0, e) ]
before_or_last x y z (w ∷ xs) (inr h) = elim (before_or_last x y z xs h) [ inl k ↦ inl (inr k) | inr k ↦ inr (inr k.0, k.1) ]

-- where it stands once, a list without it is the two parts around it
without_one : {A : Type 0} (t : A → Bool) (x : A) (xs ys : List A) → t x ≡ false → ((y : A) → In y (xs ++ ys) → t y ≡ true) → filter t (xs ++ x ∷ ys) ≡ xs ++ ys
without_one {A = A} t x [] ys off on = ap (λ s. cond s (x ∷ filter t ys) (filter t ys)) off ∙ all_pass t ys on
without_one {A = A} t x (z ∷ xs) ys off on =
    ap (λ s. cond s (z ∷ filter t (xs ++ x ∷ ys)) (filter t (xs ++ x ∷ ys))) (on z (inl refl))
    ∙ ap (λ (zs : List A). z ∷ zs) (without_one t x xs ys off (λ y h. on y (inr h)))

not_twice : {A : Type 0} (x y : A) (xs ys : List A) → Distinct (xs ++ x ∷ ys) → In y (xs ++ ys) → y ≡ x → ⊥
not_twice x y [] ys d h e = not_in-Absent x ys d.0 (subst (λ z. In z ys) e h)
not_twice x y (z ∷ xs) ys d (inl h) e = not_in-Absent z (xs ++ x ∷ ys) d.0 (subst (λ w. In w (xs ++ x ∷ ys)) (sym e ∙ h) (In-right x xs (x ∷ ys) (inl refl)))
not_twice x y (z ∷ xs) ys d (inr h) e = not_twice x y xs ys d.1 h e

module _ {N : Ids} {W : Dialect} (L : Lawful N) (B : Behaviour W) (same : SameAttributes W) (b : N.Block) (keys : ℕ) where
  module _ (f g : Forest N W) (kept rest : List N.Op) (w : WellFormed f keys) (m : MergesOne B same f b g) (order : InOrder f b) (list : ops_of f b ≡ kept ++ m.later ∷ rest) where
    pub leaves : LeavesInOrder B same f b g m
    leaves = leaves_in_order L B same f keys b g w m order

    pub list_now : ops_of g b ≡ kept ++ rest
    list_now = list_left L B same f keys b g w m b ∙ ap (filter (λ o. not (N.same_op o m.later))) list ∙ without_one (λ o. not (N.same_op o m.later)) m.later kept rest (ap not ((L.ops m.later m.later).1 refl)) others
      where
        once : Distinct (kept ++ m.later ∷ rest)
        once = subst Distinct list (Distinct-unmap an_op (ops_of f b) (w.nested.once (a_block b)))

        others : (o : N.Op) → In o (kept ++ rest) → not (N.same_op o m.later) ≡ true
        others o h = by (N.same_op o m.later) refl
          where
            by : (t : Bool) → N.same_op o m.later ≡ t → not t ≡ true
            by true e = absurd (not_twice m.later o kept rest once h ((L.ops o m.later).0 e))
            by false e = refl

    -- the kept ones are as they were
    pub kept_same : (o : N.Op) → In o kept → g.ops o ≡ f.ops o
    kept_same o h = leaves.front o (subst (StandsBefore o m.later) (sym list) (before_here o m.later kept rest h))

    pub still_none : NoneAlikeAmong B same b f kept → NoneAlikeAmong B same b g kept
    still_none none o p before alike = none o p before (record {
      one = alike.one;
      other = alike.other;
      one_is = sym (kept_same o (in_both o p kept before).0) ∙ alike.one_is;
      other_is = sym (kept_same p (in_both o p kept before).1) ∙ alike.other_is;
      one_plain = alike.one_plain;
      other_plain = alike.other_plain;
      kinds = alike.kinds;
      attributes = alike.attributes;
      operands = alike.operands;
      types = alike.types;
    })
      where
        in_both : (x y : N.Op) (xs : List N.Op) → StandsBefore x y xs → In x xs × In y xs
        in_both x y [] h = absurd h
        in_both x y (z ∷ zs) (inl h) = (inl h.0, inr h.1)
        in_both x y (z ∷ zs) (inr h) = let more = in_both x y zs h in (inr more.0, inr more.1)

  one_way : (start f g : Forest N W) (kept rest : List N.Op) (k n : ℕ) → WellFormed f keys → InOrder f b → ops_of f b ≡ kept ++ rest → NoneAlikeAmong B same b f kept → MergesSome B same b start f k
      → FrontToBack B same b f kept rest g n → MergesSome B same b start g (k + n) × NoneAlike B same b g
  one_way start f g kept rest k n w order list none some at_end = (
    subst (MergesSome B same b start f) (let e : k ≡ k + 0 = omega arith in e) some,
    λ o p before alike. none o p (subst (StandsBefore o p) (list ∙ append_none kept) before) alike,
  )
  one_way start f g kept _ k n w order list none some (keeps_it {rest = rest} o apart more) =
      one_way start f g (kept ++ o ∷ []) rest k n w order (list ∙ sym (append_assoc kept (o ∷ []) rest))
      (λ x y before alike. elim (before_or_last x y o kept before) [
        | inl h ↦ none x y h alike
        | inr h ↦ apart x h.0 (subst (λ z. Alike B same f x z) h.1 alike)
      ]) some more
  one_way start f g kept _ k _ w order list none some (merges_it {g = e} {rest = rest} {n = n} o m is here more) =
      let place : ops_of f b ≡ kept ++ m.later ∷ rest = list ∙ ap (λ (x : N.Op). kept ++ x ∷ rest) (sym is) in
      let step = one_way start e g kept rest (suc k) n (one_formed L B same f keys b e w m) (leaves f e kept rest w m order place).in_order
      (list_now f e kept rest w m order place) (still_none f e kept rest w m order place none) (one_merges some m) more in
      (subst (MergesSome B same b start g) (let s : suc k + n ≡ k + suc n = omega arith in s) step.0, step.1)

  pub front_to_back : (f g : Forest N W) (n : ℕ) → WellFormed f keys → InOrder f b → FrontToBack B same b f [] (ops_of f b) g n → Merges B same b f g n
  front_to_back f g n w order pass =
      let done = one_way f f g [] (ops_of f b) 0 n w order refl (λ o p before alike. before) none_merges pass in
      record { steps = subst (MergesSome B same b f g) (let e : 0 + n ≡ n = omega arith in e) done.0; none_alike = done.1 }

  -- ## One outcome

  module _ (equal : IsPartialEquivalence same) where
    -- what is alike to one is alike
    both_alike : (f : Forest N W) (k l o : N.Op) → Alike B same f k o → Alike B same f l o → Alike B same f k l
    both_alike f k l o x y =
        let one : x.other ≡ y.other = some_one x.other y.other (sym x.other_is ∙ y.other_is) in record {
          one = x.one;
          other = y.one;
          one_is = x.one_is;
          other_is = y.one_is;
          one_plain = x.one_plain;
          other_plain = y.one_plain;
          kinds = x.kinds ∙ ap (λ (r : OpRecord N W). r.kind) one ∙ sym y.kinds;
          attributes = equal.trans x.one.attributes x.other.attributes y.one.attributes x.attributes
              (subst (λ (r : OpRecord N W). same r.attributes y.one.attributes ≡ true) (sym one) (equal.symm y.other.attributes y.one.attributes ∙ y.attributes));
          operands = x.operands ∙ ap named_values one ∙ sym y.operands;
          types = x.types ∙ ap result_types one ∙ sym y.types;
        }

    -- of two that stand in a list, one stands before the other, or they are one
    either_first : (x y : N.Op) (xs : List N.Op) → In x xs → In y xs → (x ≡ y) ⊎ (StandsBefore x y xs ⊎ StandsBefore y x xs)
    either_first x y [] h k = elim h [ ]
    either_first x y (z ∷ zs) (inl e) (inl l) = inl (e ∙ sym l)
    either_first x y (z ∷ zs) (inl e) (inr k) = inr (inl (inl (e, k)))
    either_first x y (z ∷ zs) (inr h) (inl l) = inr (inr (inl (l, h)))
    either_first x y (z ∷ zs) (inr h) (inr k) = elim (either_first x y zs h k) [
      | inl e ↦ inl e
      | inr (inl l) ↦ inr (inl (inr l))
      | inr (inr l) ↦ inr (inr (inr l))
    ]

    -- a merged operation is alike to one kept one alone
    one_partner : (f : Forest N W) (kept : List N.Op) (o k l : N.Op) → NoneAlikeAmong B same b f kept → In k kept → In l kept → Alike B same f k o → Alike B same f l o → k ≡ l
    one_partner f kept o k l none h i x y = elim (either_first k l kept h i) [
      | inl e ↦ e
      | inr (inl before) ↦ absurd (none k l before (both_alike f k l o x y))
      | inr (inr before) ↦ absurd (none l k before (both_alike f l k o y x))
    ]

    same_after : (f g h : Forest N W) (m : MergesOne B same f b g) (n : MergesOne B same f b h) → m.earlier ≡ n.earlier → m.later ≡ n.later → h ≡ g
    same_after f g h m n e l = only (redirect_results f n.later n.earlier) h (an_op n.later) n.removes g
        (subst (λ x. Removes (redirect_results f x n.earlier) (an_op x) g) l (subst (λ x. Removes (redirect_results f m.later x) (an_op m.later) g) e m.removes))

    one_outcome : (f g h : Forest N W) (kept rest : List N.Op) (n k : ℕ) → WellFormed f keys → InOrder f b → ops_of f b ≡ kept ++ rest → NoneAlikeAmong B same b f kept
        → FrontToBack B same b f kept rest g n → FrontToBack B same b f kept rest h k → (h ≡ g) × (k ≡ n)
    one_outcome f g h kept rest n k w order list none at_end at_end = (refl, refl)
    one_outcome f g h kept _ n k w order list none (keeps_it {rest = rest} o apart more) (keeps_it p away others) =
        one_outcome f g h (kept ++ o ∷ []) rest n k w order (list ∙ sym (append_assoc kept (o ∷ []) rest))
        (λ x y before alike. elim (before_or_last x y o kept before) [
          | inl b ↦ none x y b alike
          | inr b ↦ apart x b.0 (subst (λ z. Alike B same f x z) b.1 alike)
        ]) more others
    one_outcome f g h kept _ n _ w order list none (keeps_it o apart more) (merges_it p m is here others) = absurd (apart m.earlier here (subst (λ x. Alike B same f m.earlier x) is m.alike))
    one_outcome f g h kept _ _ k w order list none (merges_it o m is here more) (keeps_it p apart others) = absurd (apart m.earlier here (subst (λ x. Alike B same f m.earlier x) is m.alike))
    one_outcome f g h kept _ _ _ w order list none (merges_it {g = e} {rest = rest} {n = n} o m is here more) (merges_it {g = d} {n = k} p l was there others) =
        let place : ops_of f b ≡ kept ++ m.later ∷ rest = list ∙ ap (λ (x : N.Op). kept ++ x ∷ rest) (sym is) in
        let partner = one_partner f kept o m.earlier l.earlier none here there (subst (λ x. Alike B same f m.earlier x) is m.alike) (subst (λ x. Alike B same f l.earlier x) was l.alike) in
        let after : d ≡ e = same_after f e d m l partner (is ∙ sym was) in
        let more_so = one_outcome e g h kept rest n k (one_formed L B same f keys b e w m) (leaves f e kept rest w m order place).in_order
        (list_now f e kept rest w m order place) (still_none f e kept rest w m order place none) more (subst (λ x. FrontToBack B same b x kept rest h k) after others) in
        (more_so.0, ap suc more_so.1)

    pub front_to_back_is_one : (f g h : Forest N W) (n k : ℕ) → WellFormed f keys → InOrder f b → FrontToBack B same b f [] (ops_of f b) g n → FrontToBack B same b f [] (ops_of f b) h k → (h ≡ g) × (k ≡ n)
    front_to_back_is_one f g h n k w order first second = one_outcome f g h [] (ops_of f b) n k w order refl (λ o p before alike. before) first second
