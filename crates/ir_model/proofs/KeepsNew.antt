-- A new operation keeps a forest well formed.
use mathlib.Core.Path.{◌≡◌, refl, sym, ap, ◌∙◌, subst}
use Rattle.std.proofs.Common.{ℕ, ◌<◌, ◌≢◌, ◌⊎◌, inl, inr, Bool, true, false, ◌||◌, Option, Some, None, List, [], ◌∷◌, ◌++◌, map, is_some, IsSome}
use Rattle.std.specs.List.{list_any}
use Rattle.ir_model.specs.Ids.{Ids, Distinct}
use Rattle.ir_model.specs.Forest.{Dialect, Definer, of_op, of_block, Entity, an_op, a_block, a_region, Definition, OpRecord, Forest, Operand, Successor, Named, a_value, the_block}
use Rattle.ir_model.specs.Nesting.{In, Within, itself, below, list_of, children, Inside, IsLive, IsLiveNamed, WellFormed, numbers_of, use_numbers_of, names_of, definitions_of, regions_of, blocks_of}
use Rattle.ir_model.specs.Changes.{put, new_op}
use Rattle.ir_model.proofs.Renaming.{Tells}
use Rattle.ir_model.proofs.Loops.{Lawful}
use Rattle.ir_model.proofs.Nests.{In-map_back, Distinct-map}

pub put_at : {A B : Type 0} (same : A → A → Bool) → Tells same → (key : A) (v : B) (m : A → Option B) (x : A)
    → ((x ≡ key) × (put same key v m x ≡ Some v)) ⊎ ((x ≢ key) × (put same key v m x ≡ m x))
put_at same tells key v m x = by (same x key) refl
  where
    by : (b : Bool) → same x key ≡ b → ((x ≡ key) × (put same key v m x ≡ Some v)) ⊎ ((x ≢ key) × (put same key v m x ≡ m x))
    by true e = inl ((tells x key).0 e, rw e)
    by false e = inr (λ h. (let e' : same x key ≡ true = (tells x key).1 h in cc), rw e)

pub any_in : {A : Type 0} (same : A → A → Bool) → Tells same → (x : A) (xs : List A) → ((list_any (λ y. same y x) xs ≡ true) × In x xs) ⊎ ((list_any (λ y. same y x) xs ≡ false) × (In x xs → ⊥))
any_in same tells x [] = inr (refl, λ h. h)
any_in same tells x (y ∷ xs) = by (any_in same tells x xs) (same y x) refl
  where
    by : ((list_any (λ y. same y x) xs ≡ true) × In x xs) ⊎ ((list_any (λ y. same y x) xs ≡ false) × (In x xs → ⊥)) → (b : Bool) → same y x ≡ b
        → (((b || list_any (λ y. same y x) xs) ≡ true) × In x (y ∷ xs)) ⊎ (((b || list_any (λ y. same y x) xs) ≡ false) × (In x (y ∷ xs) → ⊥))
    by more true e = inl (refl, inl (sym ((tells y x).0 e)))
    by (inl h) false e = inl (h.0, inr h.1)
    by (inr h) false e = inr (h.0, λ i. elim i [ inl s ↦ (let t : same y x ≡ true = (tells y x).1 (sym s) in cc) | inr k ↦ h.1 k ])

module _ {N : Ids} {W : Dialect} (L : Lawful N) (f : Forest N W) (keys : ℕ) (w : WellFormed f keys) (o : N.Op) (loc : W.Loc) (kind : ℕ)
    (results : List (Definition N W)) (operands : List (Operand N)) (successors : List (Successor N)) (regions : List N.Region)
    (dead : f.ops o ≡ None) (dead_regions : (r : N.Region) → In r regions → f.regions r ≡ None) where
  abbrev after : Forest N W
  after = new_op f o loc kind results operands successors regions

  abbrev made : OpRecord N W
  made = record { kind = kind; results = results; operands = operands; successors = successors; regions = regions; attributes = []; loc = loc }

  op_case : (p : N.Op) → ((p ≡ o) × (after.ops p ≡ Some made)) ⊎ ((p ≢ o) × (after.ops p ≡ f.ops p))
  op_case p = put_at N.same_op L.ops o made f.ops p

  -- a new region is empty, as a dead one is
  same_blocks : (r : N.Region) → blocks_of after r ≡ blocks_of f r
  same_blocks r = elim (any_in N.same_region L.regions r regions) [
    | inl e ↦ rw (e.0, dead_regions r e.1)
    | inr e ↦ rw e.0
  ]

  live_region : (r : N.Region) → In r regions → IsSome (after.regions r)
  live_region r h = elim (any_in N.same_region L.regions r regions) [ inl e ↦ rw e.0 refl | inr e ↦ absurd (e.1 h) ]

  region_still : (r : N.Region) → IsSome (f.regions r) → IsSome (after.regions r)
  region_still r h = elim (any_in N.same_region L.regions r regions) [ inl e ↦ rw e.0 refl | inr e ↦ rw e.0 h ]

  live_still : (x : Entity N) → IsLive f x → IsLive after x
  live_still (an_op p) h = elim (op_case p) [ inl e ↦ rw e.1 refl | inr e ↦ rw e.1 h ]
  live_still (a_block b) h = h
  live_still (a_region r) h = region_still r h

  abbrev IsNewChild : Entity N → Entity N → Type 0
  IsNewChild x y = In x (map a_region regions) × (y ≡ an_op o)

  child_case : (x y : Entity N) → In x (children after y) → In x (children f y) ⊎ IsNewChild x y
  child_case x (a_block b) h = inl h
  child_case x (a_region r) h = inl (subst (λ bs. In x (map a_block bs)) (same_blocks r) h)
  child_case x (an_op p) h = elim (op_case p) [
    | inl e ↦ inr (subst (λ m. In x (map a_region (list_of (λ (q : OpRecord N W). q.regions) m))) e.1 h, ap an_op e.0)
    | inr e ↦ inl (subst (λ m. In x (map a_region (list_of (λ (q : OpRecord N W). q.regions) m))) e.1 h)
  ]

  dead_op : IsLive f (an_op o) → ⊥
  dead_op h = (let e : is_some {T = OpRecord N W} None ≡ true = rw dead at h in cc)

  o_unlinked : (y : Entity N) → In (an_op o) (children after y) → ⊥
  o_unlinked y h = elim (child_case (an_op o) y h) [
    | inl k ↦ dead_op (w.nested.live (an_op o) y k)
    | inr k ↦ (let at = In-map_back a_region (an_op o) regions k.0 in let e : an_op o ≡ a_region at.0 = at.2 in cc)
  ]

  new_unlinked : (x y : Entity N) → In x (map a_region regions) → In x (children f y) → ⊥
  new_unlinked x y h k =
      let at = In-map_back a_region x regions h in
      let live : IsLive f (a_region at.0) = subst (IsLive f) at.2 (w.nested.live x y k) in
      let e : is_some {T = List N.Block} None ≡ true = rw (dead_regions at.0 at.1) at live in
      absurd cc

  was_within : (x a : Entity N) → (x ≡ an_op o → ⊥) → Within (children after) x a → Within (children f) x a
  was_within x a other itself = itself
  was_within x a other (below {c = c} h v) = elim (child_case a c h) [
    | inl k ↦ below k (was_within x c other v)
    | inr k ↦ absurd (top (subst (Within (children after) x) k.1 v))
  ]
    where
      top : Within (children after) x (an_op o) → ⊥
      top v = at (an_op o) refl v
        where
          at : (a : Entity N) → a ≡ an_op o → Within (children after) x a → ⊥
          at a e itself = other e
          at a e (below {c = d} k u) = o_unlinked d (subst (λ z. In z (children after d)) e k)

  no_cycle : (x y : Entity N) → In x (children after y) → Inside after x y → ⊥
  no_cycle x y h v = elim (child_case x y h) [
    | inl k ↦ w.nested.no_cycle x y k (was_within x y (λ e. dead_op (subst (IsLive f) e (w.nested.live x y k))) v)
    | inr k ↦ (let at = In-map_back a_region x regions k.0 in loop at.0 at.2 y k.1 v)
  ]
    where
      loop : (r : N.Region) → x ≡ a_region r → (y : Entity N) → y ≡ an_op o → Within (children after) x y → ⊥
      loop r e y g itself = (let s : a_region r ≡ an_op o = sym e ∙ g in cc)
      loop r e y g (below {c = d} k u) = o_unlinked d (subst (λ z. In z (children after d)) g k)

  one_list : (x y z : Entity N) → In x (children after y) → In x (children after z) → y ≡ z
  one_list x y z h k = elim (child_case x y h) [
    | inl a ↦ elim (child_case x z k) [ inl b ↦ w.nested.one_list x y z a b | inr b ↦ absurd (new_unlinked x y b.0 a) ]
    | inr a ↦ elim (child_case x z k) [ inl b ↦ absurd (new_unlinked x z a.0 b) | inr b ↦ a.1 ∙ sym b.1 ]
  ]

  once : Distinct regions → (y : Entity N) → Distinct (children after y)
  once d (a_block b) = w.nested.once (a_block b)
  once d (a_region r) = subst (λ bs. Distinct {A = Entity N} (map a_block bs)) (sym (same_blocks r)) (w.nested.once (a_region r))
  once d (an_op p) = elim (op_case p) [
    | inl e ↦ rw e.1 (Distinct-map a_region (λ x y q. cc) regions d)
    | inr e ↦ rw e.1 (w.nested.once (an_op p))
  ]

  pub definitions_case : (d : Definer N) → ((d ≡ of_op o) × (definitions_of after d ≡ results)) ⊎ (definitions_of after d ≡ definitions_of f d)
  definitions_case (of_block b) = inr refl
  definitions_case (of_op p) = elim (op_case p) [
    | inl e ↦ inl (ap of_op e.0, rw e.1)
    | inr e ↦ inr (rw e.1)
  ]

  named_still : (d : Named N) → IsLiveNamed f d → IsLiveNamed after d
  named_still (the_block b) h = h
  named_still (a_value v) h = elim (definitions_case v.definer) [
    | inl e ↦ absurd (let k : In v.number (numbers_of f (of_op o)) = rw e.0 at h in let j : In v.number [] = rw dead at k in j)
    | inr e ↦ rw e h
  ]

  abbrev new_uses : List N.UseNumber
  new_uses = map (λ p. p.use_number) operands ++ map (λ p. p.use_number) successors

  abbrev new_names : List (Named N)
  new_names = map (λ p. a_value p.value) operands ++ map (λ p. the_block p.block) successors

  pub uses_case : (p : N.Op) → ((p ≡ o) × (use_numbers_of after p ≡ new_uses) × (names_of after p ≡ new_names)) ⊎ ((use_numbers_of after p ≡ use_numbers_of f p) × (names_of after p ≡ names_of f p))
  uses_case p = elim (op_case p) [
    | inl e ↦ inl (e.0, rw e.1, rw e.1)
    | inr e ↦ inr (rw e.1, rw e.1)
  ]

  linked : (r : N.Region) → IsSome (after.regions r) → (p : N.Op) × In r (regions_of after p)
  linked r h = elim (any_in N.same_region L.regions r regions) [
    | inl e ↦ (o, elim (op_case o) [ inl c ↦ rw c.1 e.1 | inr c ↦ absurd (c.0 refl) ])
    | inr e ↦ still (w.nested.regions_linked r (rw e.0 at h))
  ]
    where
      still : (p : N.Op) × In r (regions_of f p) → (p : N.Op) × In r (regions_of after p)
      still at = (
        at.0,
        elim (op_case at.0) [
          | inl c ↦ absurd (let k : In r (regions_of f o) = rw c.0 at at.1 in let j : In r [] = rw dead at k in j)
          | inr c ↦ rw c.1 at.1
        ],
      )

  pub NewOp-keeps : Distinct regions → Distinct (map (λ x. x.number) results) → Distinct new_uses
      → ((d : Definer N) (n : N.ValueNumber) → In n (map (λ x. x.number) results) → In n (numbers_of f d) → ⊥)
      → ((p : N.Op) (u : N.UseNumber) → In u new_uses → In u (use_numbers_of f p) → ⊥)
      → ((d : Named N) → In d new_names → IsLiveNamed f d)
      → ((t : ℕ) → In t (map (λ x. x.ty) results) → t < keys)
      → WellFormed after keys
  NewOp-keeps dr dn du fresh unused live known = record {
    nested = record {
      one_list = one_list;
      once = once dr;
      live = λ x y h. elim (child_case x y h) [
        | inl k ↦ live_still x (w.nested.live x y k)
        | inr k ↦ (let at = In-map_back a_region x regions k.0 in subst (IsLive after) (sym at.2) (live_region at.0 at.1))
      ];
      no_cycle = no_cycle;
      regions_linked = linked;
    };
    numbers = λ d e n h k. elim (definitions_case d) [
      | inl a ↦ elim (definitions_case e) [ inl b ↦ a.0 ∙ sym b.0 | inr b ↦ absurd (fresh e n (rw a.1 at h) (rw b at k)) ]
      | inr a ↦ elim (definitions_case e) [ inl b ↦ absurd (fresh d n (rw b.1 at k) (rw a at h)) | inr b ↦ w.numbers d e n (rw a at h) (rw b at k) ]
    ];
    numbers_once = λ d. elim (definitions_case d) [ inl e ↦ rw e.1 dn | inr e ↦ rw e (w.numbers_once d) ];
    uses = λ p q u h k. elim (uses_case p) [
      | inl e ↦ elim (uses_case q) [ inl g ↦ e.0 ∙ sym g.0 | inr g ↦ absurd (unused q u (rw e.1 at h) (rw g.0 at k)) ]
      | inr e ↦ elim (uses_case q) [ inl g ↦ absurd (unused p u (rw g.1 at k) (rw e.0 at h)) | inr g ↦ w.uses p q u (rw e.0 at h) (rw g.0 at k) ]
    ];
    uses_once = λ p. elim (uses_case p) [ inl e ↦ rw e.1 du | inr e ↦ rw e.0 (w.uses_once p) ];
    named = λ p d h. named_still d (elim (uses_case p) [ inl e ↦ live d (rw e.2 at h) | inr e ↦ w.named p d (rw e.1 at h) ]);
    known = λ d t h. elim (definitions_case d) [ inl e ↦ known t (rw e.1 at h) | inr e ↦ w.known d t (rw e at h) ];
  }
