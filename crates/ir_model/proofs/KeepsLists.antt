-- Operations and blocks that are put into lists, taken out, and joined to others keep a forest well formed.
use mathlib.Core.Path.{◌≡◌, refl, sym, ap, ◌∙◌}
use Rattle.std.proofs.Common.{ℕ, ◌≢◌, ◌⊎◌, inl, inr, Bool, true, false, Option, Some, List, [], ◌∷◌, ◌++◌, map, cond, is_some, IsSome}
use Rattle.std.specs.Option.{option_map}
use Rattle.ir_model.specs.Ids.{Ids}
use Rattle.ir_model.specs.Forest.{Dialect, Entity, an_op, a_block, a_region, BlockRecord, Forest}
use Rattle.ir_model.specs.Nesting.{In, list_of, children, Inside, IsLinked, IsLive, WellFormed, regions_of}
use Rattle.ir_model.specs.Changes.{rewrite, on_block, on_region, on_ops, in_blocks, in_regions, put_before, put_after, without, append_ops, append_blocks}
use Rattle.ir_model.proofs.Renaming.{Tells}
use Rattle.ir_model.proofs.Loops.{Lawful}
use Rattle.ir_model.proofs.Keeps.{is_some-map}
use Rattle.ir_model.proofs.Nests.{In-map}
use Rattle.ir_model.proofs.Entries.{AddsOne, here, later, AddsOne-map}
use Rattle.ir_model.proofs.Trees.{Sub, Sub-all, Sub-map, Sub-filter, Tree, tree_of, nested_of, Tree-added, Tree-fewer, Tree-joined}
use Rattle.ir_model.proofs.Parts.{Part, whole, ops_part, rewrite_shape, map_shape, SameButLists, still_live, Kept, WellFormed-lists, Rewrites, same_but_ops, rewrites_ops, same_but_blocks, rewrites_blocks}

module _ {N : Ids} {W : Dialect} where
  abbrev pub Linked : Forest N W → Type 0
  Linked f = (r : N.Region) → IsSome (f.regions r) → (o : N.Op) × In r (regions_of f o)

  pub kept_lists : (f g : Forest N W) (keys : ℕ) (new : List N.UseNumber) → SameButLists f g → WellFormed f keys → Tree g → Linked g → Kept f g keys new
  kept_lists f g keys new s w t linked = record {
    forest = WellFormed-lists f g keys s w (nested_of g t linked);
    values = λ v h. rw (s.definitions v.definer) at h;
    uses = λ o u h. inl (rw (s.uses o) at h);
  }

  module _ {A B : Type 0} (member : A → Entity N) (owner : B → Entity N) (G : B → List A → List A) (f g : Forest N W) (rewrites : Rewrites member owner G f g) where
    -- the list of each, where at most that of c gets x
    pub added_at : (x : A) (c : Entity N)
        → ((b : B) (xs : List A) → children f (owner b) ≡ map member xs → (G b xs ≡ xs) ⊎ (AddsOne x xs (G b xs) × (owner b ≡ c)))
        → (y : Entity N) → (children g y ≡ children f y) ⊎ ((y ≡ c) × AddsOne (member x) (children f y) (children g y))
    added_at x c adds y = elim (rewrites y) [
      | inl e ↦ inl e.1
      | inr (inl e) ↦ inl (e.1 ∙ sym e.0)
      | inr (inr e) ↦ elim (adds e.0 e.1 (ap (children f) (sym e.2) ∙ e.3)) [
        | inl k ↦ inl (e.4 ∙ ap (map member) k ∙ sym e.3)
        | inr k ↦ inr (e.2 ∙ k.1, rw (e.3, e.4) (AddsOne-map member k.0))
      ]
    ]

    -- the list of each, where lists only lose members
    pub fewer_at : ((b : B) (xs : List A) → Sub (G b xs) xs) → (y : Entity N) → Sub (children g y) (children f y)
    fewer_at fewer y = elim (rewrites y) [
      | inl e ↦ rw e.1 (Sub-all (children f y))
      | inr (inl e) ↦ rw (e.0, e.1) (Sub-all [])
      | inr (inr e) ↦ rw (e.3, e.4) (Sub-map member (fewer e.0 e.1))
    ]

  module _ {A B : Type 0} (member : A → Entity N) (owner : B → Entity N) (G : B → List A → List A) (f g : Forest N W) (keys : ℕ) (new : List N.UseNumber) (rewrites : Rewrites member owner G f g)
      (s : SameButLists f g) (w : WellFormed f keys) (linked : Linked g) where
    pub added_keeps : (x : A) (c : Entity N)
        → ((b : B) (xs : List A) → children f (owner b) ≡ map member xs → (G b xs ≡ xs) ⊎ (AddsOne x xs (G b xs) × (owner b ≡ c)))
        → IsLive f (member x) → (IsLinked f (member x) → ⊥) → (Inside f (member x) c → ⊥) → Kept f g keys new
    added_keeps x c adds live unlinked apart =
        kept_lists f g keys new s w (Tree-added f g (still_live f g s) (tree_of f w.nested) (member x) c (added_at member owner G f g rewrites x c adds) (still_live f g s (member x) live) (λ y h. unlinked (y, h)) apart) linked

    pub fewer_keeps : ((b : B) (xs : List A) → Sub (G b xs) xs) → Kept f g keys new
    fewer_keeps fewer = kept_lists f g keys new s w (Tree-fewer f g (still_live f g s) (tree_of f w.nested) (fewer_at member owner G f g rewrites fewer)) linked

    pub joined_keeps : (donee donor : B) (ys : List A) → children f (owner donor) ≡ map member ys → owner donee ≢ owner donor → ((x : Entity N) → In x (children f (owner donor)) → Inside f x (owner donee) → ⊥)
        → ((b : B) (xs : List A) → ((owner b ≡ owner donor) × (G b xs ≡ [])) ⊎ ((owner b ≡ owner donee) × (G b xs ≡ xs ++ ys)) ⊎ ((owner b ≢ owner donor) × (G b xs ≡ xs))) → Kept f g keys new
    joined_keeps donee donor ys given differ apart joins = kept_lists f g keys new s w (Tree-joined f g (still_live f g s) (tree_of f w.nested) (owner donee) (owner donor) differ apart at) linked
      where
        map_append : (xs zs : List A) → map member (xs ++ zs) ≡ map member xs ++ map member zs
        map_append [] zs = refl
        map_append (x ∷ xs) zs = ap (λ l. member x ∷ l) (map_append xs zs)

        at : (y : Entity N) → ((y ≡ owner donor) × (children g y ≡ [])) ⊎ ((y ≡ owner donee) × (children g y ≡ children f y ++ children f (owner donor))) ⊎ ((y ≡ owner donor → children f y ≡ []) × (children g y ≡ children f y))
        at y = elim (rewrites y) [
          | inl e ↦ inr (inr (λ k. absurd (e.0 donor k), e.1))
          | inr (inl e) ↦ inr (inr (λ k. e.0, e.1 ∙ sym e.0))
          | inr (inr e) ↦ elim (joins e.0 e.1) [
            | inl k ↦ inl (e.2 ∙ k.0, e.4 ∙ ap (map member) k.1)
            | inr (inl k) ↦ inr (inl (e.2 ∙ k.0, rw (e.3, e.4, k.1, given) (map_append e.1 ys)))
            | inr (inr k) ↦ inr (inr (λ j. absurd (k.0 (sym e.2 ∙ j)), e.4 ∙ ap (map member) k.1 ∙ sym e.3))
          ]
        ]

-- a list that gets one more under one key
module _ {A B E : Type 0} (same : B → B → Bool) (tells : Tells same) (owner : B → E) where
  pub at_key : (key : B) (x : A) (g : List A → List A) → ((xs : List A) → AddsOne x xs (g xs)) → (b : B) (xs : List A) → (cond (same b key) (g xs) xs ≡ xs) ⊎ (AddsOne x xs (cond (same b key) (g xs) xs) × (owner b ≡ owner key))
  at_key key x g adds b xs = by (same b key) refl
    where
      by : (t : Bool) → same b key ≡ t → (cond t (g xs) xs ≡ xs) ⊎ (AddsOne x xs (cond t (g xs) xs) × (owner b ≡ owner key))
      by true e = inr (adds xs, ap owner ((tells b key).0 e))
      by false e = inl refl

  at_keys : (donee donor : B) (ys : List A) → ((b c : B) → owner b ≡ owner c → b ≡ c) → (b : B) (xs : List A)
      → ((owner b ≡ owner donor) × (cond (same b donor) [] (cond (same b donee) (xs ++ ys) xs) ≡ []))
      ⊎ ((owner b ≡ owner donee) × (cond (same b donor) [] (cond (same b donee) (xs ++ ys) xs) ≡ xs ++ ys))
      ⊎ ((owner b ≢ owner donor) × (cond (same b donor) [] (cond (same b donee) (xs ++ ys) xs) ≡ xs))
  at_keys donee donor ys one b xs = by (same b donor) (same b donee) refl refl
    where
      by : (t u : Bool) → same b donor ≡ t → same b donee ≡ u
          → ((owner b ≡ owner donor) × (cond t [] (cond u (xs ++ ys) xs) ≡ []))
          ⊎ ((owner b ≡ owner donee) × (cond t [] (cond u (xs ++ ys) xs) ≡ xs ++ ys))
          ⊎ ((owner b ≢ owner donor) × (cond t [] (cond u (xs ++ ys) xs) ≡ xs))
      by true u e k = inl (ap owner ((tells b donor).0 e), refl)
      by false true e k = inr (inl (ap owner ((tells b donee).0 k), refl))
      by false false e k = inr (inr (λ h. (let l : same b donor ≡ true = (tells b donor).1 (one b donor h) in cc), refl))

-- the donor's list joined to the donee's, as a change of all lists
abbrev joined : {A B : Type 0} → (B → B → Bool) → B → B → List A → B → List A → List A
joined same donee donor ys b xs = cond (same b donor) [] (cond (same b donee) (xs ++ ys) xs)

joined_shape : {A B R : Type 0} (p : Part R (List A)) (same : B → B → Bool) (donee donor : B) (ys : List A) (m : B → Option R) (b : B)
    → rewrite same donor (p.on (λ _. [])) (rewrite same donee (p.on (λ xs. xs ++ ys)) m) b ≡ option_map (p.on (joined same donee donor ys b)) (m b)
joined_shape p same donee donor ys m b =
    rewrite_shape p same donor (λ _. []) (rewrite same donee (p.on (λ xs. xs ++ ys)) m) b
    ∙ ap (option_map (p.on (λ xs. cond (same b donor) [] xs))) (rewrite_shape p same donee (λ xs. xs ++ ys) m b)
    ∙ map_shape p same (λ xs. cond (same b donee) (xs ++ ys) xs) (λ xs. cond (same b donor) [] xs) (m b)

module _ {A : Type 0} (same : A → A → Bool) (tells : Tells same) (x mark : A) where
  -- the list is as it was, or it has the mark, and x beside it
  abbrev Joins : List A → List A → Type 0
  Joins xs ys = (ys ≡ xs) ⊎ (AddsOne x xs ys × In mark xs)

  pub joins_before : (xs : List A) → Joins xs (put_before same x mark xs)
  joins_before [] = inl refl
  joins_before (y ∷ ys) = by (joins_before ys) (same y mark) refl
    where
      by : Joins ys (put_before same x mark ys) → (b : Bool) → same y mark ≡ b → Joins (y ∷ ys) (cond b (x ∷ y ∷ ys) (y ∷ put_before same x mark ys))
      by more true e = inr (here, inl (sym ((tells y mark).0 e)))
      by (inl s) false e = inl (ap (λ zs. y ∷ zs) s)
      by (inr a) false e = inr (later a.0, inr a.1)

  pub joins_after : (xs : List A) → Joins xs (put_after same x mark xs)
  joins_after [] = inl refl
  joins_after (y ∷ ys) = by (joins_after ys) (same y mark) refl
    where
      by : Joins ys (put_after same x mark ys) → (b : Bool) → same y mark ≡ b → Joins (y ∷ ys) (cond b (y ∷ x ∷ ys) (y ∷ put_after same x mark ys))
      by more true e = inr (later here, inl (sym ((tells y mark).0 e)))
      by (inl s) false e = inl (ap (λ zs. y ∷ zs) s)
      by (inr a) false e = inr (later a.0, inr a.1)

module _ {N : Ids} {W : Dialect} (L : Lawful N) (f : Forest N W) (keys : ℕ) (new : List N.UseNumber) (w : WellFormed f keys) where
  -- beside a mark, which stands in one list alone
  marked : {A : Type 0} (member : A → Entity N) (x mark : A) (c y : Entity N) (xs ys : List A) → In (member mark) (children f c) → children f y ≡ map member xs
      → (ys ≡ xs) ⊎ (AddsOne x xs ys × In mark xs) → (ys ≡ xs) ⊎ (AddsOne x xs ys × (y ≡ c))
  marked member x mark c y xs ys there are (inl e) = inl e
  marked member x mark c y xs ys there are (inr a) = inr (a.0, w.nested.one_list (member mark) y c (rw are (In-map member mark xs a.1)) there)

  linked_still : (m : N.Region → Option (List N.Block)) (G : N.Region → List N.Block → List N.Block) (shape : (c : N.Region) → m c ≡ option_map (G c) (f.regions c)) → Linked (record f { regions = m })
  linked_still m G shape r h = w.nested.regions_linked r (sym (ap is_some (shape r) ∙ is_some-map (G r) (f.regions r)) ∙ h)

  module _ (o : N.Op) (live : IsLive f (an_op o)) (unlinked : IsLinked f (an_op o) → ⊥) where
    pub op_into_keeps : (b : N.Block) (g : List N.Op → List N.Op) → ((xs : List N.Op) → AddsOne o xs (g xs)) → (Inside f (an_op o) (a_block b) → ⊥) → Kept f (on_block f b (on_ops g)) keys new
    op_into_keeps b g adds apart =
        let G = λ (c : N.Block) (os : List N.Op). cond (N.same_block c b) (g os) os in
        let shape = rewrite_shape ops_part N.same_block b g f.blocks in
        added_keeps an_op a_block G f _ keys new (rewrites_ops f _ G shape) (same_but_ops f _ G shape) w w.nested.regions_linked o (a_block b)
        (λ c xs e. at_key N.same_block L.blocks a_block b o g adds c xs) live unlinked apart

    pub op_beside_keeps : (mark : N.Op) (c : Entity N) (g : List N.Op → List N.Op) → ((xs : List N.Op) → (g xs ≡ xs) ⊎ (AddsOne o xs (g xs) × In mark xs)) → In (an_op mark) (children f c) → (Inside f (an_op o) c → ⊥) → Kept f (in_blocks f g) keys new
    op_beside_keeps mark c g joins there apart =
        added_keeps an_op a_block (λ _. g) f _ keys new (rewrites_ops f _ (λ _. g) (λ _. refl)) (same_but_ops f _ (λ _. g) (λ _. refl)) w w.nested.regions_linked o c
        (λ b xs e. marked an_op o mark c (a_block b) xs (g xs) there e (joins xs)) live unlinked apart

  module _ (b : N.Block) (live : IsLive f (a_block b)) (unlinked : IsLinked f (a_block b) → ⊥) where
    pub block_into_keeps : (r : N.Region) (g : List N.Block → List N.Block) → ((xs : List N.Block) → AddsOne b xs (g xs)) → (Inside f (a_block b) (a_region r) → ⊥) → Kept f (on_region f r g) keys new
    block_into_keeps r g adds apart =
        let G = λ (c : N.Region) (bs : List N.Block). cond (N.same_region c r) (g bs) bs in
        let shape = rewrite_shape (whole (List N.Block)) N.same_region r g f.regions in
        added_keeps a_block a_region G f _ keys new (rewrites_blocks f _ G shape) (same_but_blocks f _ G shape) w (linked_still _ G shape) b (a_region r)
        (λ c xs e. at_key N.same_region L.regions a_region r b g adds c xs) live unlinked apart

    pub block_beside_keeps : (mark : N.Block) (c : Entity N) (g : List N.Block → List N.Block) → ((xs : List N.Block) → (g xs ≡ xs) ⊎ (AddsOne b xs (g xs) × In mark xs)) → In (a_block mark) (children f c) → (Inside f (a_block b) c → ⊥) → Kept f (in_regions f g) keys new
    block_beside_keeps mark c g joins there apart =
        added_keeps a_block a_region (λ _. g) f _ keys new (rewrites_blocks f _ (λ _. g) (λ _. refl)) (same_but_blocks f _ (λ _. g) (λ _. refl)) w (linked_still _ (λ _. g) (λ _. refl)) b c
        (λ r xs e. marked a_block b mark c (a_region r) xs (g xs) there e (joins xs)) live unlinked apart

  pub UnlinkOp-kept : (o : N.Op) → Kept f (in_blocks f (without N.same_op o)) keys new
  UnlinkOp-kept o =
      let g = without N.same_op o in
      fewer_keeps an_op a_block (λ _. g) f _ keys new (rewrites_ops f _ (λ _. g) (λ _. refl)) (same_but_ops f _ (λ _. g) (λ _. refl)) w w.nested.regions_linked (λ _. Sub-filter _)

  pub UnlinkBlock-kept : (b : N.Block) → Kept f (in_regions f (without N.same_block b)) keys new
  UnlinkBlock-kept b =
      let g = without N.same_block b in
      fewer_keeps a_block a_region (λ _. g) f _ keys new (rewrites_blocks f _ (λ _. g) (λ _. refl)) (same_but_blocks f _ (λ _. g) (λ _. refl)) w (linked_still _ (λ _. g) (λ _. refl)) (λ _. Sub-filter _)

  pub AppendOps-kept : (b c : N.Block) (q : BlockRecord N W) → f.blocks c ≡ Some q → ◌≢◌ {A = Entity N} (a_block b) (a_block c) → ((x : Entity N) → In x (children f (a_block c)) → Inside f x (a_block b) → ⊥) → Kept f (append_ops f b c q.ops) keys new
  AppendOps-kept b c q is differ apart =
      let G = joined N.same_block b c q.ops in
      let shape = joined_shape ops_part N.same_block b c q.ops f.blocks in
      joined_keeps an_op a_block G f _ keys new (rewrites_ops f _ G shape) (same_but_ops f _ G shape) w w.nested.regions_linked b c q.ops (ap (λ m. map an_op (list_of (λ (r : BlockRecord N W). r.ops) m)) is) differ apart
      (at_keys N.same_block L.blocks a_block b c q.ops (λ x y e. cc))

  pub AppendBlocks-kept : (r q : N.Region) (bs : List N.Block) → f.regions q ≡ Some bs → ◌≢◌ {A = Entity N} (a_region r) (a_region q) → ((x : Entity N) → In x (children f (a_region q)) → Inside f x (a_region r) → ⊥) → Kept f (append_blocks f r q bs) keys new
  AppendBlocks-kept r q bs is differ apart =
      let G = joined N.same_region r q bs in
      let shape = joined_shape (whole (List N.Block)) N.same_region r q bs f.regions in
      joined_keeps a_block a_region G f _ keys new (rewrites_blocks f _ G shape) (same_but_blocks f _ G shape) w (linked_still _ G shape) r q bs (ap (λ m. map a_block (list_of (λ (xs : List N.Block). xs) m)) is) differ apart
      (at_keys N.same_region L.regions a_region r q bs (λ x y e. cc))
