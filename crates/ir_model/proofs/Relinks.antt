-- What is taken out of a list and put back where it was leaves the list as it was.
use mathlib.Core.Path.{◌≡◌, refl, sym, ap, ◌∙◌, subst, fun_ext}
use Rattle.std.proofs.Common.{ℕ, ◌≢◌, inl, inr, Bool, true, false, cond, Option, Some, None, List, [], ◌∷◌, ◌++◌, map}
use Rattle.std.specs.Option.{option_map}
use Rattle.ir_model.specs.Ids.{Ids, Distinct}
use Rattle.ir_model.specs.Forest.{Dialect, Entity, an_op, a_block, a_region, BlockRecord, Forest}
use Rattle.ir_model.specs.Nesting.{In, list_of, children, WellFormed, ops_of, blocks_of, regions_of}
use Rattle.ir_model.specs.Changes.{without, put_after, in_blocks, in_regions, on_block, on_region, on_ops}
use Rattle.ir_model.specs.Parent.{Adjacent, ComesAfter, first_of}
use Rattle.ir_model.proofs.Renaming.{Tells}
use Rattle.ir_model.proofs.Loops.{Lawful}
use Rattle.ir_model.proofs.Nests.{In-right, In-map, In-map_back, not_in-Absent}
use Rattle.ir_model.proofs.Keeps.{Distinct-unmap}

module _ {A : Type 0} (same : A → A → Bool) (tells : Tells same) where
  pub same_refl : (x : A) → same x x ≡ true
  same_refl x = (tells x x).1 refl

  pub differs : (x y : A) → x ≢ y → same x y ≡ false
  differs x y n = by (same x y) refl
    where
      by : (b : Bool) → same x y ≡ b → b ≡ false
      by true e = absurd (n ((tells x y).0 e))
      by false e = refl

  pub without_absent : (x : A) (xs : List A) → (In x xs → ⊥) → without same x xs ≡ xs
  without_absent x [] n = refl
  without_absent x (y ∷ ys) n = rw (differs y x (λ e. n (inl (sym e)))) (ap (λ zs. y ∷ zs) (without_absent x ys (λ h. n (inr h))))

  put_after_absent : (x mark : A) (xs : List A) → (In mark xs → ⊥) → put_after same x mark xs ≡ xs
  put_after_absent x mark [] n = refl
  put_after_absent x mark (y ∷ ys) n = rw (differs y mark (λ e. n (inl (sym e)))) (ap (λ zs. y ∷ zs) (put_after_absent x mark ys (λ h. n (inr h))))

  -- at the front
  rejoins_front : (x : A) (xs : List A) → Distinct (x ∷ xs) → x ∷ without same x (x ∷ xs) ≡ x ∷ xs
  rejoins_front x xs d = rw (same_refl x) (ap (λ zs. x ∷ zs) (without_absent x xs (not_in-Absent x xs d.0)))

  -- behind the mark
  rejoins_at : (x mark : A) (before after : List A) → Distinct (before ++ mark ∷ x ∷ after)
      → put_after same x mark (without same x (before ++ mark ∷ x ∷ after)) ≡ before ++ mark ∷ x ∷ after
  rejoins_at x mark [] after d =
      rw (differs mark x (λ e. d.0.0 e), same_refl x, same_refl mark) (ap (λ zs. mark ∷ x ∷ zs) (without_absent x after (not_in-Absent x after d.1.0)))
  rejoins_at x mark (y ∷ before) after d =
      rw (
        differs y x (λ e. not_in-Absent y _ d.0 (In-right y before (mark ∷ x ∷ after) (inr (inl e)))),
        differs y mark (λ e. not_in-Absent y _ d.0 (In-right y before (mark ∷ x ∷ after) (inl e))),
      )
      (ap (λ zs. y ∷ zs) (rejoins_at x mark before after d.1))

  rejoins : (x mark : A) (xs : List A) → Distinct xs → Adjacent mark x xs → put_after same x mark (without same x xs) ≡ xs
  rejoins x mark xs d at =
      subst (λ zs. put_after same x mark (without same x zs) ≡ zs) (sym at.2) (rejoins_at x mark at.0 at.1 (subst Distinct at.2 d))

  rejoins_elsewhere : (x mark : A) (xs : List A) → (In x xs → ⊥) → (In mark xs → ⊥) → put_after same x mark (without same x xs) ≡ xs
  rejoins_elsewhere x mark xs n m = rw (without_absent x xs n) (put_after_absent x mark xs m)

-- neighbours in a list are neighbours in the list that was mapped
unmap_adjacent : {A B : Type 0} (f : A → B) → ((x y : A) → f x ≡ f y → x ≡ y) → (x y : A) (xs : List A) → Adjacent (f x) (f y) (map f xs) → Adjacent x y xs
unmap_adjacent {A} {B} f one x y xs at = by xs at.0 at.2
  where
    by : (zs : List A) (before : List B) → map f zs ≡ before ++ f x ∷ f y ∷ at.1 → Adjacent x y zs
    by [] [] e = absurd cc
    by [] (b ∷ before) e = absurd cc
    by (z ∷ []) [] e = absurd cc
    by (z ∷ w ∷ zs) [] e = ([], zs, let p : f z ≡ f x = cc in let q : f w ≡ f y = cc in let p' = one z x p in let q' = one w y q in cc)
    by (z ∷ zs) (b ∷ before) e =
        let t : map f zs ≡ before ++ f x ∷ f y ∷ at.1 = cc in
        let more = by zs before t in
        (z ∷ more.0, more.1, ap (λ l. z ∷ l) more.2)

pub first_in : {A : Type 0} (x : A) (xs : List A) → first_of xs ≡ Some x → (rest : List A) × (xs ≡ x ∷ rest)
first_in x [] e = absurd cc
first_in x (y ∷ ys) e = (ys, let s : y ≡ x = cc in cc)

pub Adjacent-first : {A : Type 0} (x y : A) (xs : List A) → Adjacent x y xs → In x xs
Adjacent-first x y xs at = subst (In x) (sym at.2) (In-right x at.0 (x ∷ y ∷ at.1) (inl refl))

pub Adjacent-second : {A : Type 0} (x y : A) (xs : List A) → Adjacent x y xs → In y xs
Adjacent-second x y xs at = subst (In y) (sym at.2) (In-right y at.0 (x ∷ y ∷ at.1) (inr (inl refl)))

-- maps from ids to lists: each list is itself after a change and one back
same_lists : {A B : Type 0} (of : B → List A) (on : (List A → List A) → B → B) → ((r : B) (h : List A → List A) → h (of r) ≡ of r → on h r ≡ r)
    → ((r : B) (h g : List A → List A) → on h (on g r) ≡ on (λ xs. h (g xs)) r) → (h g : List A → List A) (m : Option B)
    → ((r : B) → m ≡ Some r → h (g (of r)) ≡ of r) → option_map (on h) (option_map (on g) m) ≡ m
same_lists of on keeps joins h g None e = refl
same_lists of on keeps joins h g (Some r) e = ap Some (joins r h g ∙ keeps r (λ xs. h (g xs)) (e r refl))

-- at the front of the list of one key
front_lists : {K A B : Type 0} (same : A → A → Bool) → Tells same → (key : K → K → Bool) → Tells key → (of : B → List A) (on : (List A → List A) → B → B)
    → ((r : B) (h : List A → List A) → h (of r) ≡ of r → on h r ≡ r) → ((r : B) (h g : List A → List A) → on h (on g r) ≡ on (λ xs. h (g xs)) r)
    → (m : K → Option B) (k : K) (x : A) → ((l : K) → Distinct (list_of of (m l))) → ((l : K) → In x (list_of of (m l)) → l ≡ k) → first_of (list_of of (m k)) ≡ Some x
    → (l : K) → cond (key l k) (option_map (on (λ xs. x ∷ xs)) (option_map (on (without same x)) (m l))) (option_map (on (without same x)) (m l)) ≡ m l
front_lists same tells key keys_tell of on keeps joins m k x once only at l = by (key l k) refl
  where
    front : (t : m l ≡ m k) (o : Option _) → m l ≡ o → option_map (on (λ xs. x ∷ xs)) (option_map (on (without same x)) o) ≡ o
    front t None e = refl
    front t (Some r) e =
        let is : first_of (of r) ≡ Some x = subst (λ o. first_of (list_of of o) ≡ Some x) (sym t ∙ e) at in
        let split = first_in x (of r) is in
        let d : Distinct (of r) = subst (λ o. Distinct (list_of of o)) e (once l) in
        ap Some (joins r (λ xs. x ∷ xs) (without same x) ∙ keeps r (λ xs. x ∷ without same x xs)
        (subst (λ zs. x ∷ without same x zs ≡ zs) (sym split.1) (rejoins_front same tells x split.0 (subst Distinct split.1 d))))

    elsewhere : (In x (list_of of (m l)) → ⊥) → (o : Option _) → m l ≡ o → option_map (on (without same x)) o ≡ o
    elsewhere n None e = refl
    elsewhere n (Some r) e = ap Some (keeps r (without same x) (without_absent same tells x (of r) (λ h. n (subst (λ o. In x (list_of of o)) (sym e) h))))

    by : (t : Bool) → key l k ≡ t → cond t (option_map (on (λ xs. x ∷ xs)) (option_map (on (without same x)) (m l))) (option_map (on (without same x)) (m l)) ≡ m l
    by true e = front (ap m ((keys_tell l k).0 e)) (m l) refl
    by false e = elsewhere (λ h. (let s : l ≡ k = only l h in let t : key l k ≡ true = (keys_tell l k).1 s in cc)) (m l) refl

module _ {N : Ids} {W : Dialect} (L : Lawful N) (f : Forest N W) (keys : ℕ) (w : WellFormed f keys) where
  abbrev ops_in : BlockRecord N W → List N.Op
  ops_in r = r.ops

  once_ops : (b : N.Block) → Distinct (ops_of f b)
  once_ops b = Distinct-unmap an_op (ops_of f b) (w.nested.once (a_block b))

  once_blocks : (g : N.Region) → Distinct (blocks_of f g)
  once_blocks g = Distinct-unmap a_block (blocks_of f g) (w.nested.once (a_region g))

  pub one_block : (o : N.Op) (b c : N.Block) → In o (ops_of f b) → In o (ops_of f c) → b ≡ c
  one_block o b c h k =
      let e : ◌≡◌ {A = Entity N} (a_block b) (a_block c) = w.nested.one_list (an_op o) (a_block b) (a_block c) (In-map an_op o (ops_of f b) h) (In-map an_op o (ops_of f c) k) in cc

  one_region : (b : N.Block) (g h : N.Region) → In b (blocks_of f g) → In b (blocks_of f h) → g ≡ h
  one_region b g h i k =
      let e : ◌≡◌ {A = Entity N} (a_region g) (a_region h) = w.nested.one_list (a_block b) (a_region g) (a_region h) (In-map a_block b (blocks_of f g) i) (In-map a_block b (blocks_of f h) k) in cc

  -- neighbours among children are neighbours in one block's list, or in one region's
  in_one_block : (o mark : N.Op) → ComesAfter f (an_op mark) (an_op o) → (b : N.Block) × Adjacent mark o (ops_of f b)
  in_one_block o mark at = by at.0 at.1
    where
      by : (p : Entity N) → Adjacent (an_op mark) (an_op o) (children f p) → (b : N.Block) × Adjacent mark o (ops_of f b)
      by (a_block b) h = (b, unmap_adjacent an_op (λ x y e. cc) mark o (ops_of f b) h)
      by (an_op p) h = absurd (let k = In-map_back a_region (an_op o) (regions_of f p) (Adjacent-second _ _ _ h) in let e : ◌≡◌ {A = Entity N} (an_op o) (a_region k.0) = k.2 in cc)
      by (a_region g) h = absurd (let k = In-map_back a_block (an_op o) (blocks_of f g) (Adjacent-second _ _ _ h) in let e : ◌≡◌ {A = Entity N} (an_op o) (a_block k.0) = k.2 in cc)

  in_one_region : (b mark : N.Block) → ComesAfter f (a_block mark) (a_block b) → (g : N.Region) × Adjacent mark b (blocks_of f g)
  in_one_region b mark at = by at.0 at.1
    where
      by : (p : Entity N) → Adjacent (a_block mark) (a_block b) (children f p) → (g : N.Region) × Adjacent mark b (blocks_of f g)
      by (a_region g) h = (g, unmap_adjacent a_block (λ x y e. cc) mark b (blocks_of f g) h)
      by (an_op p) h = absurd (let k = In-map_back a_region (a_block b) (regions_of f p) (Adjacent-second _ _ _ h) in let e : ◌≡◌ {A = Entity N} (a_block b) (a_region k.0) = k.2 in cc)
      by (a_block c) h = absurd (let k = In-map_back an_op (a_block b) (ops_of f c) (Adjacent-second _ _ _ h) in let e : ◌≡◌ {A = Entity N} (a_block b) (an_op k.0) = k.2 in cc)

  op_back_after : (o mark : N.Op) (b : N.Block) → Adjacent mark o (ops_of f b) → (c : N.Block) → put_after N.same_op o mark (without N.same_op o (ops_of f c)) ≡ ops_of f c
  op_back_after o mark b at c = by (N.same_block c b) refl
    where
      by : (t : Bool) → N.same_block c b ≡ t → put_after N.same_op o mark (without N.same_op o (ops_of f c)) ≡ ops_of f c
      by true e = rejoins N.same_op L.ops o mark (ops_of f c) (once_ops c) (subst (λ z. Adjacent mark o (ops_of f z)) (sym ((L.blocks c b).0 e)) at)
      by false e =
          let other : c ≢ b = λ s. (let t : N.same_block c b ≡ true = (L.blocks c b).1 s in cc) in
          rejoins_elsewhere N.same_op L.ops o mark (ops_of f c)
          (λ h. other (one_block o c b h (Adjacent-second mark o _ at))) (λ h. other (one_block mark c b h (Adjacent-first mark o _ at)))

  block_back_after : (b mark : N.Block) (g : N.Region) → Adjacent mark b (blocks_of f g) → (h : N.Region) → put_after N.same_block b mark (without N.same_block b (blocks_of f h)) ≡ blocks_of f h
  block_back_after b mark g at h = by (N.same_region h g) refl
    where
      by : (t : Bool) → N.same_region h g ≡ t → put_after N.same_block b mark (without N.same_block b (blocks_of f h)) ≡ blocks_of f h
      by true e = rejoins N.same_block L.blocks b mark (blocks_of f h) (once_blocks h) (subst (λ z. Adjacent mark b (blocks_of f z)) (sym ((L.regions h g).0 e)) at)
      by false e =
          let other : h ≢ g = λ s. (let t : N.same_region h g ≡ true = (L.regions h g).1 s in cc) in
          rejoins_elsewhere N.same_block L.blocks b mark (blocks_of f h)
          (λ i. other (one_region b h g i (Adjacent-second mark b _ at))) (λ i. other (one_region mark h g i (Adjacent-first mark b _ at)))

  pub op_after : (o mark : N.Op) → ComesAfter f (an_op mark) (an_op o) → in_blocks (in_blocks f (without N.same_op o)) (put_after N.same_op o mark) ≡ f
  op_after o mark at =
      let where_ = in_one_block o mark at in
      λ i. record f {
        blocks = fun_ext (λ c. same_lists (λ (r : BlockRecord N W). r.ops) on_ops (λ r h e. λ j. record r { ops = e j }) (λ r h g. refl)
            (put_after N.same_op o mark) (without N.same_op o) (f.blocks c)
            (λ r e. subst (λ m. put_after N.same_op o mark (without N.same_op o (list_of (λ (q : BlockRecord N W). q.ops) m)) ≡ list_of (λ q. q.ops) m) e (op_back_after o mark where_.0 where_.1 c))) i;
      }

  pub block_after : (b mark : N.Block) → ComesAfter f (a_block mark) (a_block b) → in_regions (in_regions f (without N.same_block b)) (put_after N.same_block b mark) ≡ f
  block_after b mark at =
      let where_ = in_one_region b mark at in
      λ i. record f {
        regions = fun_ext (λ c. same_lists (λ (bs : List N.Block). bs) (λ h bs. h bs) (λ r h e. e) (λ r h g. refl)
            (put_after N.same_block b mark) (without N.same_block b) (f.regions c)
            (λ r e. subst (λ m. put_after N.same_block b mark (without N.same_block b (list_of (λ (q : List N.Block). q) m)) ≡ list_of (λ q. q) m) e (block_back_after b mark where_.0 where_.1 c))) i;
      }

  pub op_front : (o : N.Op) (b : N.Block) → first_of (ops_of f b) ≡ Some o → on_block (in_blocks f (without N.same_op o)) b (on_ops (λ os. o ∷ os)) ≡ f
  op_front o b at =
      let split = first_in o (ops_of f b) at in
      let here : In o (ops_of f b) = subst (In o) (sym split.1) (inl refl) in
      λ i. record f {
        blocks = fun_ext (front_lists N.same_op L.ops N.same_block L.blocks (λ (r : BlockRecord N W). r.ops) on_ops (λ r h e. λ j. record r { ops = e j }) (λ r h g. refl)
            f.blocks b o once_ops (λ c h. one_block o c b h here) at) i;
      }

  pub block_front : (b : N.Block) (g : N.Region) → first_of (blocks_of f g) ≡ Some b → on_region (in_regions f (without N.same_block b)) g (λ bs. b ∷ bs) ≡ f
  block_front b g at =
      let split = first_in b (blocks_of f g) at in
      let here : In b (blocks_of f g) = subst (In b) (sym split.1) (inl refl) in
      λ i. record f {
        regions = fun_ext (front_lists N.same_block L.blocks N.same_region L.regions (λ (bs : List N.Block). bs) (λ h bs. h bs) (λ r h e. e) (λ r h g. refl)
            f.regions g b once_blocks (λ c h. one_region b c g h here) at) i;
      }
