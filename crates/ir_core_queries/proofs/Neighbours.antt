-- The links of a node name what stands beside it in the forest, and the ends of a container the first and the last of its list.
use Rattle.std.proofs.Common.{◌≡◌, ◌⊎◌, ℕ, zero, suc, ◌-◌, ◌<◌, List, All, slice_index_or, [], ◌∷◌, ◌++◌, map, length, slice_get, Option, Some, None, IfSome, inl, inr, refl, sym, ap, ◌∙◌, subst, append_assoc, arith}
use Rattle.std.specs.Option.{option_map}
use Rattle.std.proofs.lemmas.Option.{same_Some}
use Rattle.ir_model.specs.declared.ids.ArenaIndex.{ArenaIndex}
use Rattle.ir_model.specs.ContextIds.{context_ids}
use Rattle.ir_model.specs.Forest.{Dialect, Entity, Forest}
use Rattle.ir_model.specs.Nesting.{In, IsLive, Nested, children}
use Rattle.ir_model.specs.Parent.{ComesAfter, FindsOne, IsIn, IsNext, IsParent, IsPrevious}
use Rattle.ir_model.proofs.Back.{slice_get-in}
use Rattle.ir_model.proofs.Nests.{In-map, In-map_back}
use Rattle.ir_model.proofs.Relinks.{Adjacent-first, Adjacent-second}
use Rattle.ir_base_arenas.specs.Lists.{Links, Ends, Heap, unlinked, linked, head_or, last_or, ends_of}
use Rattle.ir_core_context.specs.Ends.{head-is, tail-is}
use Rattle.ir_core_queries.specs.Neighbours.{EndsTell, IsLiveLink, LinksTell}
use Rattle.ir_core_queries.proofs.Listed.{AreListed}
use Rattle.ir_core_queries.proofs.Live.{owner-live}

-- what holds of all that is in a list holds of each of its items
pub all-of : {A : Type 0} (P : A → Type 0) (xs : List A) → ((x : A) → In x xs → P x) → All P xs
all-of {A = A} P xs each = λ k d within. each (slice_index_or xs k d) (in-list xs k d within)
  where
    in-list : (ys : List A) (k : ℕ) (d : A) → k < length ys → In (slice_index_or ys k d) ys
    in-list [] k d h = absurd (omega arith)
    in-list (y ∷ ys) zero d h = inl refl
    in-list (y ∷ ys) (suc k) d h = inr (in-list ys k d (omega arith))

-- an answer that is told both ways finds one
finds : {A : Type 0} (P : A → Type 0) (answer : Option A) → ((y : A) → P y → answer ≡ Some y) → ((y : A) → answer ≡ Some y → P y) → FindsOne P answer
finds P None only is = λ y h. absurd (let e = only y h in cc)
finds P (Some y) only is = is y refl

-- what is in a list stands between two parts of it
parted : {A : Type 0} (x : A) (xs : List A) → In x xs → (before : List A) × (after : List A) × (xs ≡ before ++ x ∷ after)
parted x [] h = absurd h
parted x (y ∷ ys) (inl e) = ([], ys, ap (λ z. z ∷ ys) (sym e))
parted x (y ∷ ys) (inr h) = let p = parted x ys h in (y ∷ p.0, p.1, ap (λ zs. y ∷ zs) p.2)

map-append : {A B : Type 0} (c : A → B) (xs ys : List A) → map c (xs ++ ys) ≡ map c xs ++ map c ys
map-append c [] ys = refl
map-append c (x ∷ xs) ys = ap (λ zs. c x ∷ zs) (map-append c xs ys)

module _ {B : Type 0} (c : ArenaIndex → B) where
  -- a list whose image is parted so
  record Parted (xs : List ArenaIndex) (bs : List B) (x : ArenaIndex) (cs : List B) : Type 0 where
    before : List ArenaIndex
    after : List ArenaIndex
    splits : xs ≡ before ++ x ∷ after
    left : map c before ≡ bs
    right : map c after ≡ cs

  parted-image : ((x z : ArenaIndex) → c x ≡ c z → x ≡ z) → (xs : List ArenaIndex) (bs cs : List B) (x : ArenaIndex) → map c xs ≡ bs ++ c x ∷ cs → Parted xs bs x cs
  parted-image one [] [] cs x e = absurd cc
  parted-image one [] (b ∷ bs) cs x e = absurd cc
  parted-image one (y ∷ ys) [] cs x e =
      let s : c y ≡ c x = cc in
      let t : map c ys ≡ cs = cc in
      record { before = []; after = ys; splits = ap (λ z. z ∷ ys) (one y x s); left = refl; right = t }
  parted-image one (y ∷ ys) (b ∷ bs) cs x e =
      let s : c y ≡ b = cc in
      let t : map c ys ≡ bs ++ c x ∷ cs = cc in
      let p = parted-image one ys bs cs x t in
      record { before = y ∷ p.before; after = p.after; splits = ap (λ z. y ∷ z) p.splits; left = λ i. s i ∷ p.left i; right = p.right }

  head-image : (xs : List ArenaIndex) (y : B) (bs : List B) → map c xs ≡ y ∷ bs → option_map c (head_or None xs) ≡ Some y
  head-image [] y bs e = absurd cc
  head-image (x ∷ xs) y bs e = let s : c x ≡ y = cc in ap Some s

  head-parts : (xs : List ArenaIndex) (y : B) → option_map c (head_or None xs) ≡ Some y → (bs : List B) × (map c xs ≡ y ∷ bs)
  head-parts [] y e = absurd cc
  head-parts (x ∷ xs) y e = (map c xs, ap (λ z. z ∷ map c xs) (same_Some _ _ e))

  last-image : (xs : List ArenaIndex) (y : B) (bs : List B) → map c xs ≡ bs ++ y ∷ [] → option_map c (last_or None xs) ≡ Some y
  last-image [] y [] e = absurd cc
  last-image [] y (b ∷ bs) e = absurd cc
  last-image (x ∷ []) y [] e = let s : c x ≡ y = cc in ap Some s
  last-image (x ∷ []) y (b ∷ []) e = absurd cc
  last-image (x ∷ []) y (b ∷ d ∷ bs) e = absurd cc
  last-image (x ∷ z ∷ xs) y [] e = absurd cc
  last-image (x ∷ z ∷ xs) y (b ∷ bs) e = let t : map c (z ∷ xs) ≡ bs ++ y ∷ [] = cc in last-image (z ∷ xs) y bs t

  last-parts : (xs : List ArenaIndex) (y : B) → option_map c (last_or None xs) ≡ Some y → (bs : List B) × (map c xs ≡ bs ++ y ∷ [])
  last-parts [] y e = absurd cc
  last-parts (x ∷ []) y e = ([], ap (λ z. z ∷ []) (same_Some _ _ e))
  last-parts (x ∷ z ∷ xs) y e = let p = last-parts (z ∷ xs) y e in (c x ∷ p.0, ap (λ zs. c x ∷ zs) p.1)

-- what is found of a link is live
if-found : {A : Type 0} (P Live : A → Type 0) → ((y : A) → P y → Live y) → (c : ArenaIndex → A) (link : Option ArenaIndex) → FindsOne P (option_map c link) → IfSome link (λ x. Live (c x))
if-found P Live live c None h = tt
if-found P Live live c (Some x) h = live (c x) h

module _ {W : Dialect} (f : Forest context_ids W) (nested : Nested f) (node container : ArenaIndex → Entity context_ids) (lists : ArenaIndex → List ArenaIndex) (listed : AreListed f node container lists)
    (nodes : Heap Links) (beside : (b x : ArenaIndex) (before after : List ArenaIndex) → lists b ≡ before ++ x ∷ after → nodes x ≡ Some (linked (last_or None before) (head_or None after) b))
    (x : ArenaIndex) (l : Links) (here : nodes x ≡ Some l) (covered : (l ≡ unlinked) ⊎ ((b : ArenaIndex) × In x (lists b))) where
  -- the links, where a list is parted at the node
  links-at : (b : ArenaIndex) (before after : List ArenaIndex) → lists b ≡ before ++ x ∷ after → l ≡ linked (last_or None before) (head_or None after) b
  links-at b before after e = same_Some _ _ (sym here ∙ beside b x before after e)

  container-at : (b : ArenaIndex) (before after : List ArenaIndex) → lists b ≡ before ++ x ∷ after → l.container ≡ Some b
  container-at b before after e = ap (λ (k : Links). k.container) (links-at b before after e)

  next-at : (b : ArenaIndex) (before after : List ArenaIndex) → lists b ≡ before ++ x ∷ after → l.next ≡ head_or None after
  next-at b before after e = ap (λ (k : Links). k.next) (links-at b before after e)

  previous-at : (b : ArenaIndex) (before after : List ArenaIndex) → lists b ≡ before ++ x ∷ after → l.prev ≡ last_or None before
  previous-at b before after e = ap (λ (k : Links). k.prev) (links-at b before after e)

  -- where a list of the forest is parted at the node, so is the list of its container
  parted-list : (y : Entity context_ids) (bs cs : List (Entity context_ids)) → In (node x) (children f y) → children f y ≡ bs ++ node x ∷ cs → (b : ArenaIndex) × Parted node (lists b) bs x cs
  parted-list y bs cs h e =
      let at = listed.homes x y h in
      (at.0, parted-image node listed.one (lists at.0) bs cs x (sym (listed.list at.0) ∙ ap (children f) (sym at.1) ∙ e))

  -- the list of the forest, parted at the node
  listed-parts : (b : ArenaIndex) (before after : List ArenaIndex) → lists b ≡ before ++ x ∷ after → children f (container b) ≡ map node before ++ node x ∷ map node after
  listed-parts b before after e = listed.list b ∙ ap (map node) e ∙ map-append node before (x ∷ after)

  listed-in : (b : ArenaIndex) → In (node x) (children f (container b)) → In x (lists b)
  listed-in b h =
      let m = In-map_back node (node x) (lists b) (subst (In (node x)) (listed.list b) h) in
      subst (λ z. In z (lists b)) (sym (listed.one x m.0 m.2)) m.1

  container-in : (b : ArenaIndex) → In x (lists b) → l.container ≡ Some b
  container-in b h = let p = parted x (lists b) h in container-at b p.0 p.1 p.2

  parent-only : (y : Entity context_ids) → IsIn f (node x) y → option_map container l.container ≡ Some y
  parent-only y h =
      let at = listed.homes x y h in
      ap (option_map container) (container-in at.0 (listed-in at.0 (subst (λ z. In (node x) (children f z)) at.1 h))) ∙ ap Some (sym at.1)

  parent-from : (y : Entity context_ids) (b : ArenaIndex) → In x (lists b) → option_map container l.container ≡ Some y → IsIn f (node x) y
  parent-from y b h e =
      let same : container b ≡ y = same_Some _ _ (sym (ap (option_map container) (container-in b h)) ∙ e) in
      subst (λ z. In (node x) (children f z)) same (subst (In (node x)) (sym (listed.list b)) (In-map node x (lists b) h))

  parent-is : (y : Entity context_ids) → option_map container l.container ≡ Some y → IsIn f (node x) y
  parent-is y e = elim covered [
    | inl free ↦ absurd (let n : option_map container l.container ≡ None = ap (λ (k : Links). option_map container k.container) free in cc)
    | inr home ↦ parent-from y home.0 home.1 e
  ]

  next-by : (y : Entity context_ids) (bs cs : List (Entity context_ids)) (b : ArenaIndex) → Parted node (lists b) bs x (y ∷ cs) → option_map node l.next ≡ Some y
  next-by y bs cs b p = ap (option_map node) (next-at b p.before p.after p.splits) ∙ head-image node p.after y cs p.right

  next-only : (y : Entity context_ids) → ComesAfter f (node x) y → option_map node l.next ≡ Some y
  next-only y h =
      let p = parted-list h.0 h.1.0 (y ∷ h.1.1) (Adjacent-first (node x) y _ h.1) h.1.2 in
      next-by y h.1.0 h.1.1 p.0 p.1

  next-from : (y : Entity context_ids) (b : ArenaIndex) (before after : List ArenaIndex) → lists b ≡ before ++ x ∷ after → option_map node l.next ≡ Some y → ComesAfter f (node x) y
  next-from y b before after splits e =
      let q = head-parts node after y (sym (ap (option_map node) (next-at b before after splits)) ∙ e) in
      (container b, (map node before, q.0, listed-parts b before after splits ∙ ap (λ zs. map node before ++ node x ∷ zs) q.1))

  next-is : (y : Entity context_ids) → option_map node l.next ≡ Some y → ComesAfter f (node x) y
  next-is y e = elim covered [
    | inl free ↦ absurd (let n : option_map node l.next ≡ None = ap (λ (k : Links). option_map node k.next) free in cc)
    | inr home ↦ let p = parted x (lists home.0) home.1 in next-from y home.0 p.0 p.1 p.2 e
  ]

  previous-by : (y : Entity context_ids) (bs cs : List (Entity context_ids)) (b : ArenaIndex) → Parted node (lists b) (bs ++ y ∷ []) x cs → option_map node l.prev ≡ Some y
  previous-by y bs cs b p = ap (option_map node) (previous-at b p.before p.after p.splits) ∙ last-image node p.before y bs p.left

  previous-only : (y : Entity context_ids) → ComesAfter f y (node x) → option_map node l.prev ≡ Some y
  previous-only y h =
      let p = parted-list h.0 (h.1.0 ++ y ∷ []) h.1.1 (Adjacent-second y (node x) _ h.1) (h.1.2 ∙ sym (append_assoc h.1.0 (y ∷ []) (node x ∷ h.1.1))) in
      previous-by y h.1.0 h.1.1 p.0 p.1

  previous-from : (y : Entity context_ids) (b : ArenaIndex) (before after : List ArenaIndex) → lists b ≡ before ++ x ∷ after → option_map node l.prev ≡ Some y → ComesAfter f y (node x)
  previous-from y b before after splits e =
      let q = last-parts node before y (sym (ap (option_map node) (previous-at b before after splits)) ∙ e) in
      (container b, (q.0, map node after, listed-parts b before after splits ∙ ap (λ zs. zs ++ node x ∷ map node after) q.1 ∙ append_assoc q.0 (y ∷ []) (node x ∷ map node after)))

  previous-is : (y : Entity context_ids) → option_map node l.prev ≡ Some y → ComesAfter f y (node x)
  previous-is y e = elim covered [
    | inl free ↦ absurd (let n : option_map node l.prev ≡ None = ap (λ (k : Links). option_map node k.prev) free in cc)
    | inr home ↦ let p = parted x (lists home.0) home.1 in previous-from y home.0 p.0 p.1 p.2 e
  ]

  pub links-tell : LinksTell f node container x l
  links-tell =
      let parent : IsParent f (node x) (option_map container l.container) = finds (IsIn f (node x)) (option_map container l.container) parent-only parent-is in
      let next : IsNext f (node x) (option_map node l.next) = finds (λ y. ComesAfter f (node x) y) (option_map node l.next) next-only next-is in
      let previous : IsPrevious f (node x) (option_map node l.prev) = finds (λ y. ComesAfter f y (node x)) (option_map node l.prev) previous-only previous-is in
      record {
        parent = parent;
        parent_live = if-found (IsIn f (node x)) (IsLive f) (λ y h. owner-live f (node x) y h) container l.container parent;
        next = next;
        next_live = if-found (λ y. ComesAfter f (node x) y) (IsLive f) (λ y h. nested.live y h.0 (Adjacent-second (node x) y _ h.1)) node l.next next;
        previous = previous;
        previous_live = if-found (λ y. ComesAfter f y (node x)) (IsLive f) (λ y h. nested.live y h.0 (Adjacent-first y (node x) _ h.1)) node l.prev previous;
      }

module _ {W : Dialect} (f : Forest context_ids W) (nested : Nested f) (node : ArenaIndex → Entity context_ids) (y : Entity context_ids) (list : List ArenaIndex) (listed : children f y ≡ map node list) where
  pub each-live : (x : ArenaIndex) → In x list → IsLive f (node x)
  each-live x h = nested.live (node x) y (subst (In (node x)) (sym listed) (In-map node x list h))

  live-at : (k : ℕ) (link : Option ArenaIndex) → link ≡ slice_get list k → IsLiveLink f node link
  live-at k None e = tt
  live-at k (Some x) e = each-live x (slice_get-in list k x (sym e))

  -- the ends of the list of y
  pub ends-tell : (ends : Ends) → ends ≡ ends_of list → EndsTell f node list ends
  ends-tell ends e =
      let first : ends.head ≡ slice_get list 0 = head-is ends list e in
      let last : ends.tail ≡ slice_get list (length list - 1) = tail-is ends list e in
      record { first = first; first_live = live-at 0 ends.head first; last = last; last_live = live-at (length list - 1) ends.tail last }
