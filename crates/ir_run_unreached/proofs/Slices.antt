-- Loops over slices, and what holds of each item.
use mathlib.Core.Path.{◌≡◌, refl, sym, ap, ◌∙◌, subst}
use Rattle.std.proofs.Common.{ℕ, zero, suc, ◌+◌, ◌<◌, ◌↔◌, ◌⊎◌, inl, inr, All, Option, Some, None, List, [], ◌∷◌, ◌++◌, map, take, drop, length, slice_get, slice_index_or, is_some, true, arith}
use Rattle.std.proofs.lemmas.List.{append_assoc}
use Rattle.ir_model.specs.Ids.{Ids}
use Rattle.ir_model.specs.Forest.{Dialect, Entity, an_op, a_block, a_region, OpRecord, Forest, Named, a_value, the_block, Value}
use Rattle.ir_model.specs.Nesting.{In, itself, below, list_of, Inside, IsLive, Nested, names_of}
use Rattle.ir_model.specs.Uses.{Use, AreUses}
use Rattle.ir_model.proofs.Nests.{In-append, In-left, In-right, In-map, In-map_back}
use Rattle.ir_model.proofs.KeepsUses.{named_by, names_are}
use Rattle.ir_run_unreached.specs.Marks.{Adds}
use Rattle.ir_run_unreached.specs.Kept.{IsInsideOne, KeepsNamed, StandsInMarked}
use Rattle.ir_run_unreached.proofs.Marking.{taken_more}
use Rattle.ir_run_unreached.proofs.KeptNames.{users_keep, keep_users, users_live}

module _ {A B : Type 0} where
  -- the item at a place, as it is seen
  pub seen_at : (xs : List A) (v : A → B) (k : ℕ) (x : A) → k < length xs → x ≡ slice_index_or xs k x → slice_get (map v xs) k ≡ Some (v x)
  seen_at [] v k x h e = absurd (omega (arith, h))
  seen_at (y ∷ xs) v zero x h e = ap (λ z. Some (v z)) (sym e)
  seen_at (y ∷ xs) v (suc k) x h e = seen_at xs v k x (omega (arith, h)) e

  pub seen_or : (xs : List A) (v : A → B) (k : ℕ) (d : A) → k < length xs → slice_get (map v xs) k ≡ Some (v (slice_index_or xs k d))
  seen_or [] v k d h = absurd (omega (arith, h))
  seen_or (y ∷ xs) v zero d h = refl
  seen_or (y ∷ xs) v (suc k) d h = seen_or xs v k d (omega (arith, h))

  pub length_seen : (xs : List A) (v : A → B) → length (map v xs) ≡ length xs
  length_seen [] v = refl
  length_seen (x ∷ xs) v = ap (λ n. suc n) (length_seen xs v)

  pub seen_push : (xs : List A) (v : A → B) (x : A) → map v (xs ++ x ∷ []) ≡ map v xs ++ v x ∷ []
  seen_push [] v x = refl
  seen_push (y ∷ xs) v x = ap (λ ys. v y ∷ ys) (seen_push xs v x)

  -- what holds of what is seen holds of each item
  pub seen_each : (xs : List A) (v : A → B) (P : B → Type 0) → ((y : B) → In y (map v xs) → P y) → All (λ x. P (v x)) xs
  seen_each [] v P h k d w = absurd (omega (arith, w))
  seen_each (x ∷ xs) v P h zero d w = h (v x) (inl refl)
  seen_each (x ∷ xs) v P h (suc k) d w = seen_each xs v P (λ y i. h y (inr i)) k d (omega (arith, w))

  pub each_seen : (xs : List A) (v : A → B) (P : B → Type 0) → All (λ x. P (v x)) xs → (y : B) → In y (map v xs) → P y
  each_seen [] v P h y i = absurd i
  each_seen (x ∷ xs) v P h y (inl e) = subst P (sym e) (h 0 x (omega arith))
  each_seen (x ∷ xs) v P h y (inr i) = each_seen xs v P (λ k d w. h (suc k) d (omega (arith, w))) y i

module _ {A : Type 0} where
  -- what is left from a place on
  pub left_at : (xs : List A) (k next : ℕ) (x : A) → next ≡ k + 1 → slice_get xs k ≡ Some x → drop k xs ≡ x ∷ drop next xs
  left_at xs k zero x one e = absurd (omega (arith, one))
  left_at [] k (suc next) x one e = absurd cc
  left_at (y ∷ xs) zero (suc next) x one e = ap (λ z. z ∷ xs) (head e) ∙ ap (λ n. x ∷ drop n xs) (none one)
    where
      head : Some y ≡ Some x → y ≡ x
      head k = cc

      none : suc next ≡ 0 + 1 → 0 ≡ next
      none k = omega (arith, k)
  left_at (y ∷ xs) (suc k) (suc next) x one e = left_at xs k next x (omega (arith, one)) e

  pub none_left_at : (xs : List A) (n : ℕ) → n ≡ length xs → drop n xs ≡ []
  none_left_at xs n e = ap (λ k. drop k xs) e ∙ all xs
    where
      all : (ys : List A) → drop (length ys) ys ≡ []
      all [] = refl
      all (y ∷ ys) = all ys

  -- one goes over from what is left to what is done
  pub over : (done left after : List A) (x : A) → left ≡ x ∷ after → done ++ left ≡ (done ++ x ∷ []) ++ after
  over done left after x e = ap (λ l. done ++ l) e ∙ sym (append_assoc done (x ∷ []) after)

  pub whole : (done left : List A) → left ≡ [] → done ++ left ≡ done
  whole done left e = ap (λ l. done ++ l) e ∙ none done
    where
      none : (xs : List A) → xs ++ [] ≡ xs
      none [] = refl
      none (x ∷ xs) = ap (λ ys. x ∷ ys) (none xs)

  pub each_in : (P : A → Type 0) (xs : List A) → All P xs → (x : A) → In x xs → P x
  each_in P [] h x i = absurd i
  each_in P (y ∷ ys) h x (inl e) = subst P (sym e) (h 0 x (omega arith))
  each_in P (y ∷ ys) h x (inr i) = each_in P ys (λ k d w. h (suc k) d (omega (arith, w))) x i

  pub in_each : (P : A → Type 0) (xs : List A) → ((x : A) → In x xs → P x) → All P xs
  in_each P [] h k d w = absurd (omega (arith, w))
  in_each P (y ∷ ys) h zero d w = h y (inl refl)
  in_each P (y ∷ ys) h (suc k) d w = in_each P ys (λ x i. h x (inr i)) k d (omega (arith, w))

  -- the item is in the list
  pub item_in : (xs : List A) (k : ℕ) (x : A) → k < length xs → x ≡ slice_index_or xs k x → In x xs
  item_in [] k x h e = absurd (omega (arith, h))
  item_in (y ∷ xs) zero x h e = inl e
  item_in (y ∷ xs) (suc k) x h e = inr (item_in xs k x (omega (arith, h)) e)

  -- what holds of the first so many, and of one more
  pub first_each : (P : A → Type 0) (xs : List A) (k : ℕ) (x : A) → slice_get xs k ≡ Some x → ((y : A) → In y (take k xs) → P y) → P x → (y : A) → In y (take (k + 1) xs) → P y
  first_each P xs k x at so_far here y h = elim ((taken_more xs k (k + 1) x y refl at).0 h) [
    | inl i ↦ so_far y i
    | inr e ↦ subst P (sym e) here
  ]

  take_next : (ys : List A) (n next : ℕ) (x : A) → next ≡ n + 1 → slice_get ys n ≡ Some x → take next ys ≡ take n ys ++ x ∷ []
  take_next ys n zero x one at = absurd (omega (arith, one))
  take_next [] n (suc next) x one at = absurd cc
  take_next (y ∷ ys) zero (suc next) x one at = ap (λ m. y ∷ take m ys) (none one) ∙ ap (λ z. z ∷ []) (same at)
    where
      none : suc next ≡ 0 + 1 → next ≡ 0
      none k = omega (arith, k)

      same : Some y ≡ Some x → y ≡ x
      same k = cc
  take_next (y ∷ ys) (suc n) (suc next) x one at = ap (λ l. y ∷ l) (take_next ys n next x (omega (arith, one)) at)

  -- the first so many, and one more
  pub take_one : (xs : List A) (k : ℕ) (x : A) → slice_get xs k ≡ Some x → take (k + 1) xs ≡ take k xs ++ x ∷ []
  take_one xs k x e = take_next xs k (k + 1) x refl e

  pub in_take : (xs : List A) (k : ℕ) (x : A) → In x (take k xs) → In x xs
  in_take [] k x h = in_nothing k h
    where
      in_nothing : (n : ℕ) → In x (take n []) → In x []
      in_nothing zero i = absurd i
      in_nothing (suc n) i = absurd i
  in_take (y ∷ xs) zero x h = absurd h
  in_take (y ∷ xs) (suc k) x (inl e) = inl e
  in_take (y ∷ xs) (suc k) x (inr h) = inr (in_take xs k x h)

module _ {N : Ids} {W : Dialect} (f : Forest N W) where
  -- the blocks inside one block more are marked
  pub inside_more : (blocks : List N.Block) (k : ℕ) (b : N.Block) (old new : List N.Block) → slice_get blocks k ≡ Some b
      → ((c : N.Block) → In c old ↔ IsInsideOne f (take k blocks) (a_block c)) → Adds (λ (c : N.Block). Inside f (a_block b) (a_block c)) old new
      → (c : N.Block) → In c new ↔ IsInsideOne f (take (k + 1) blocks) (a_block c)
  inside_more blocks k b old new at was adds c = (
    λ h. elim (adds.only c h) [
      | inl i ↦ (let s = (was c).0 i in (s.0, (taken_more blocks k (k + 1) b s.0 refl at).1 (inl s.1), s.2))
      | inr i ↦ (b, (taken_more blocks k (k + 1) b b refl at).1 (inr refl), i)
    ],
    λ s. elim ((taken_more blocks k (k + 1) b s.0 refl at).0 s.1) [
      | inl i ↦ subst (In c) (sym adds.more.1) (In-left c old adds.more.0 ((was c).1 (s.0, i, s.2)))
      | inr e ↦ adds.all c (subst (λ z. Inside f (a_block z) (a_block c)) e s.2)
    ],
  )

  -- what is inside something live is live
  pub inside_live : Nested f → (root x : Entity N) → IsLive f root → Inside f root x → IsLive f x
  inside_live nested root x live itself = live
  inside_live nested root x live (below {c = c} h i) = nested.live x c h

  pub named_live : (o : N.Op) (d : Named N) → In d (names_of f o) → IsLive f (an_op o)
  named_live o d h = by (f.ops o) (subst (In d) (names_are f o) h)
    where
      by : (m : Option (OpRecord N W)) → In d (list_of named_by m) → is_some m ≡ true
      by None k = absurd k
      by (Some r) k = refl

  -- uses that are kept in another form
  module _ {X : Type 0} (seen : X → Use N) (marked : List N.Block) (v : Value N) (xs : List X) (are : AreUses f (a_value v) (map seen xs)) where
    pub kept_named : All (λ x. StandsInMarked f marked (seen x).user) xs ↔ KeepsNamed f marked (a_value v)
    kept_named = (
      λ all. users_keep f marked v (map seen xs) are (λ u h. (let at = In-map_back seen u xs h in subst (λ z. StandsInMarked f marked z.user) (sym at.2) (each_in (λ x. StandsInMarked f marked (seen x).user) xs all at.0 at.1))),
      λ keep. in_each (λ x. StandsInMarked f marked (seen x).user) xs (λ x h. keep_users f marked v (map seen xs) are keep (seen x) (In-map seen x xs h)),
    )

    pub kept_live : All (λ x. IsLive f (an_op (seen x).user)) xs
    kept_live = in_each (λ x. IsLive f (an_op (seen x).user)) xs (λ x h. users_live f marked v (map seen xs) are (seen x) (In-map seen x xs h))

  -- and the users of a block's
  module _ {X : Type 0} (user : X → N.Op) (marked : List N.Block) (d : Named N) (xs : List X) (are : (o : N.Op) → In d (names_of f o) ↔ In o (map user xs)) where
    pub users_named : All (λ x. StandsInMarked f marked (user x)) xs ↔ KeepsNamed f marked d
    users_named = (
      λ all o h. (let at = In-map_back user o xs ((are o).0 h) in subst (StandsInMarked f marked) (sym at.2) (each_in (λ x. StandsInMarked f marked (user x)) xs all at.0 at.1)),
      λ keep. in_each (λ x. StandsInMarked f marked (user x)) xs (λ x h. keep (user x) ((are (user x)).1 (In-map user x xs h))),
    )

    pub named_users_live : All (λ x. IsLive f (an_op (user x))) xs
    named_users_live = in_each (λ x. IsLive f (an_op (user x))) xs (λ x h. named_live (user x) d ((are (user x)).1 (In-map user x xs h)))

  -- the regions among those that were passed are listed
  pub regions_more : (done : List (Entity N)) (x : Entity N) (old new : List N.Region) → ((r : N.Region) → In r old ↔ In (a_region r) done) → Adds (λ (r : N.Region). a_region r ≡ x) old new
      → (r : N.Region) → In r new ↔ In (a_region r) (done ++ x ∷ [])
  regions_more done x old new was adds r = (
    λ h. elim (adds.only r h) [ inl k ↦ In-left (a_region r) done (x ∷ []) ((was r).0 k) | inr e ↦ In-right (a_region r) done (x ∷ []) (inl e) ],
    λ h. elim (In-append (a_region r) done (x ∷ []) h) [
      | inl k ↦ subst (In r) (sym adds.more.1) (In-left r old adds.more.0 ((was r).1 k))
      | inr k ↦ elim k [ inl e ↦ adds.all r e | inr q ↦ absurd q ]
    ],
  )
