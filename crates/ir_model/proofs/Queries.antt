-- What is asked of blocks, values, regions and handles has one answer.
use mathlib.Core.Path.{◌≡◌, refl, sym, ap, ◌∙◌, subst}
use Rattle.std.proofs.Common.{ℕ, zero, suc, ◌<◌, inl, inr, Bool, true, false, cond, Option, Some, None, List, [], ◌∷◌, map, length, arith, ◌++◌}
use Rattle.std.specs.Prelude.{◌↔◌, slice_get}
use Rattle.std.specs.List.{AllZip, list_any, position_or_len}
use Rattle.std.specs.Option.{option_map}
use Rattle.ir_model.specs.declared.ids.ArenaIndex.{ArenaIndex}
use Rattle.ir_model.specs.Ids.{Ids}
use Rattle.ir_model.specs.ContextIds.{context_ids}
use Rattle.ir_model.specs.Forest.{Dialect, Behaviour, Definer, Definition, of_op, of_block, Entity, an_op, a_block, a_region, OpRecord, Operand, Successor, Forest, Named, a_value, the_block, Value}
use Rattle.ir_model.specs.Nesting.{In, list_of, children, WellFormed, ops_of, blocks_of, regions_of, names_of, operands_of, successors_of, definitions_of, definition_types_of}
use Rattle.ir_model.specs.Edits.{StoredType, The}
use Rattle.ir_model.specs.Uses.{Use, IsUse}
use Rattle.ir_model.specs.Parent.{FindsOne, IsParent}
use Rattle.ir_model.specs.ValueParents.{IsBlockOf}
use Rattle.ir_model.specs.Kinds.{Kinds, dominance, IsDominance, region_kind_interface, HasKind}
use Rattle.ir_model.specs.Saved.{set_body}
use Rattle.ir_model.specs.QueryLaws.{PredecessorsFollowUses, ParentsOfValues, DominanceIsTold, HandlesAreRefused, ValueIsTold, ValuesAreTold, MadeHaveTheirKind, KeysKeepTheirKind}
use Rattle.ir_model.proofs.TwoRuns.{lawful}
use Rattle.ir_model.proofs.Nests.{In-append, In-map, In-map_back, In-right}
use Rattle.ir_model.proofs.Keeps.{Distinct-unmap}
use Rattle.ir_model.proofs.Relinks.{one_block}
use Rattle.ir_model.proofs.Edges.{got_in, zip_left, zip_right}
use Rattle.ir_model.proofs.Searches.{place_one}
use Rattle.ir_model.proofs.Redirected.{one_of}
use Rattle.ir_model.proofs.Uniquing.{still_at}
use Rattle.ir_model.proofs.Saving.{any_last, first_found, pushed}

-- ## Lists that run beside one another

module _ {A B : Type 0} (R : A → B → Type 0) where
  zip_one : (xs : List A) (ys zs : List B) → ((x : A) (y z : B) → R x y → R x z → y ≡ z) → AllZip R xs ys → AllZip R xs zs → ys ≡ zs
  zip_one [] [] [] one p q = refl
  zip_one [] [] (z ∷ zs) one p q = elim q [ ]
  zip_one [] (y ∷ ys) zs one p q = elim p [ ]
  zip_one (x ∷ xs) [] zs one p q = elim p [ ]
  zip_one (x ∷ xs) (y ∷ ys) [] one p q = elim q [ ]
  zip_one (x ∷ xs) (y ∷ ys) (z ∷ zs) one p q = let more = zip_one xs ys zs one p.1 q.1 in λ i. one x y z p.0 q.0 i ∷ more i

  zip_long : (xs : List A) (ys : List B) → AllZip R xs ys → length ys ≡ length xs
  zip_long [] [] p = refl
  zip_long [] (y ∷ ys) p = elim p [ ]
  zip_long (x ∷ xs) [] p = elim p [ ]
  zip_long (x ∷ xs) (y ∷ ys) p = ap suc (zip_long xs ys p.1)

  zip_at : (xs : List A) (ys : List B) (i : ℕ) (y : B) → AllZip R xs ys → slice_get ys i ≡ Some y → The (slice_get xs i) (λ x. R x y)
  zip_at [] [] i y p e = absurd cc
  zip_at [] (z ∷ ys) i y p e = elim p [ ]
  zip_at (x ∷ xs) [] i y p e = elim p [ ]
  zip_at (x ∷ xs) (z ∷ ys) zero y p e = record { value = x; found = refl; holds = (let s : z ≡ y = cc in subst (R x) s p.0) }
  zip_at (x ∷ xs) (z ∷ ys) (suc i) y p e = zip_at xs ys i y p.1 e

  zip_back : (xs : List A) (ys : List B) (i : ℕ) (x : A) (y : B) → ((z : B) → R x y → R x z → z ≡ y) → AllZip R xs ys → slice_get xs i ≡ Some x → R x y → slice_get ys i ≡ Some y
  zip_back [] ys i x y one p e r = absurd cc
  zip_back (w ∷ xs) [] i x y one p e r = elim p [ ]
  zip_back (w ∷ xs) (z ∷ ys) zero x y one p e r = (let s : w ≡ x = cc in ap Some (one z r (subst (λ a. R a z) s p.0)))
  zip_back (w ∷ xs) (z ∷ ys) (suc i) x y one p e r = zip_back xs ys i x y one p.1 e r

  zip_all : (xs : List A) → ((x : A) → In x xs → (y : B) × R x y) → (ys : List B) × AllZip R xs ys
  zip_all [] each = ([], tt)
  zip_all (x ∷ xs) each = let here = each x (inl refl) in let more = zip_all xs (λ z h. each z (inr h)) in (here.0 ∷ more.0, (here.1, more.1))

in_got : {A : Type 0} (x : A) (xs : List A) → In x xs → (i : ℕ) × (slice_get xs i ≡ Some x)
in_got x [] h = elim h [ ]
in_got x (y ∷ ys) (inl e) = (0, ap Some (sym e))
in_got x (y ∷ ys) (inr h) = let more = in_got x ys h in (suc more.0, more.1)

-- ## Predecessors

module _ {N : Ids} {W : Dialect} (f : Forest N W) where
  use_named : (b : N.Block) (u : Use N) → IsUse f (the_block b) u → In (the_block b) (names_of f u.user)
  use_named b u h = In-right (the_block b) (map (λ (p : Operand N). a_value p.value) (operands_of f u.user)) _ (In-map (λ (p : Successor N). the_block p.block) _ (successors_of f u.user) h)

  named_use : (b : N.Block) (o : N.Op) → In (the_block b) (names_of f o) → (u : Use N) × IsUse f (the_block b) u × (u.user ≡ o)
  named_use b o h = elim (In-append (the_block b) (map (λ (p : Operand N). a_value p.value) (operands_of f o)) (map (λ (p : Successor N). the_block p.block) (successors_of f o)) h) [
    | inl k ↦ absurd (let at = In-map_back (λ (p : Operand N). a_value p.value) (the_block b) (operands_of f o) k in let e : ◌≡◌ {A = Named N} (the_block b) (a_value at.0.value) = at.2 in cc)
    | inr k ↦
        let at = In-map_back (λ (p : Successor N). the_block p.block) (the_block b) (successors_of f o) k in
        let e : ◌≡◌ {A = Named N} (the_block b) (the_block at.0.block) = at.2 in
        let s : b ≡ at.0.block = cc in
        (record { user = o; number = at.0.use_number }, subst (λ z. In z (successors_of f o)) (λ i. record { use_number = at.0.use_number; block = sym s i }) at.1, refl)
  ]

  -- what is linked among operations stands in a block
  in_block : (o : N.Op) (y : Entity N) → In (an_op o) (children f y) → (a : N.Block) × (y ≡ a_block a) × In o (ops_of f a)
  in_block o (a_block a) h = (a, refl, let at = In-map_back an_op (an_op o) (ops_of f a) h in let e : ◌≡◌ {A = Entity N} (an_op o) (an_op at.0) = at.2 in let s : o ≡ at.0 = cc in subst (λ z. In z (ops_of f a)) (sym s) at.1)
  in_block o (an_op p) h = absurd (let at = In-map_back a_region (an_op o) (regions_of f p) h in let e : ◌≡◌ {A = Entity N} (an_op o) (a_region at.0) = at.2 in cc)
  in_block o (a_region g) h = absurd (let at = In-map_back a_block (an_op o) (blocks_of f g) h in let e : ◌≡◌ {A = Entity N} (an_op o) (a_block at.0) = at.2 in cc)

  in_region : (b : N.Block) (y : Entity N) → In (a_block b) (children f y) → (g : N.Region) × (y ≡ a_region g) × In b (blocks_of f g)
  in_region b (a_region g) h = (g, refl, let at = In-map_back a_block (a_block b) (blocks_of f g) h in let e : ◌≡◌ {A = Entity N} (a_block b) (a_block at.0) = at.2 in let s : b ≡ at.0 = cc in subst (λ z. In z (blocks_of f g)) (sym s) at.1)
  in_region b (an_op p) h = absurd (let at = In-map_back a_region (a_block b) (regions_of f p) h in let e : ◌≡◌ {A = Entity N} (a_block b) (a_region at.0) = at.2 in cc)
  in_region b (a_block c) h = absurd (let at = In-map_back an_op (a_block b) (ops_of f c) h in let e : ◌≡◌ {A = Entity N} (a_block b) (an_op at.0) = at.2 in cc)

abbrev StandsIn : {W : Dialect} → Forest context_ids W → Use context_ids → ArenaIndex → Type 0
StandsIn f u a = In u.user (ops_of f a)

pub predecessors_follow_uses : (W : Dialect) → PredecessorsFollowUses W
predecessors_follow_uses W = record {
  in_order = λ f keys b uses w. record {
    some_order = λ blocks p. record { uses = uses; are_uses = p.are_uses; in_order = p.in_order };
    one = λ blocks others p q. zip_one (StandsIn f) uses blocks others (λ u a c h k. one_block lawful f keys w u.user a c h k) p.in_order q.in_order;
    as_many = λ blocks p. zip_long (StandsIn f) uses blocks p.in_order;
    at = λ blocks index a p. (
      λ e. zip_at (StandsIn f) uses blocks index a p.in_order e,
      λ t. zip_back (StandsIn f) uses blocks index t.value a (λ c h k. one_block lawful f keys w t.value.user c a k h) p.in_order t.found t.holds,
    );
    there = λ linked are.
        let blocks = zip_all (StandsIn f) uses (λ u h. let y = linked u.user (use_named f b u ((are.exact u).0 h)) in let at = in_block f u.user y.0 y.1 in (at.0, at.2)) in
        (blocks.0, record { are_uses = are; in_order = blocks.1 });
  };
  agree = λ f keys b blocks w p. record {
    each = λ a. (
      λ h. let at = zip_right (StandsIn f) p.uses blocks p.in_order a h in (at.0.user, at.2, use_named f b at.0 ((p.are_uses.exact at.0).0 at.1)),
      λ h. let u = named_use f b h.0 h.2 in
          let at = zip_left (StandsIn f) p.uses blocks p.in_order u.0 ((p.are_uses.exact u.0).1 u.1) in
          subst (λ z. In z blocks) (one_block lawful f keys w h.0 at.0 a (subst (λ o. In o (ops_of f at.0)) u.2 at.2) h.1) at.1,
    );
    some = (
      λ u. let at = zip_left (StandsIn f) p.uses blocks p.in_order u.0 ((p.are_uses.exact u.0).1 u.1) in (at.0, at.1),
      λ a. let at = zip_right (StandsIn f) p.uses blocks p.in_order a.0 a.1 in (at.0, (p.are_uses.exact at.0).0 at.1),
    );
  };
}

-- ## Where a value stands

module _ {W : Dialect} (f : Forest context_ids W) (keys : ℕ) (w : WellFormed f keys) where
  block_of_argument : (b : ArenaIndex) (answer : Option ArenaIndex) → FindsOne (IsBlockOf f (of_block b)) answer ↔ (answer ≡ Some b)
  block_of_argument b None = (λ h. absurd (h b refl), λ e. absurd cc)
  block_of_argument b (Some a) = (λ h. ap Some h, λ e. cc)

  block_of_result : (o : ArenaIndex) (answer : Option ArenaIndex) → FindsOne (IsBlockOf f (of_op o)) answer ↔ IsParent f (an_op o) (option_map a_block answer)
  block_of_result o None = (λ h y k. (let at = in_block f o y k in h at.0 at.2), λ h a k. h (a_block a) (In-map an_op o (ops_of f a) k))
  block_of_result o (Some a) = (λ h. In-map an_op o (ops_of f a) h, λ h. (let at = in_block f o (a_block a) h in let e : ◌≡◌ {A = Entity context_ids} (a_block a) (a_block at.0) = at.1 in let s : a ≡ at.0 = cc in subst (λ z. In o (ops_of f z)) (sym s) at.2))

  one_block_of : (d : Definer context_ids) (a b : ArenaIndex) → IsBlockOf f d a → IsBlockOf f d b → a ≡ b
  one_block_of (of_op o) a b h k = one_block lawful f keys w o a b h k
  one_block_of (of_block c) a b h k = h ∙ sym k

  abbrev IsRegionOf : Definer context_ids → ArenaIndex → Type 0
  IsRegionOf d g = (a : ArenaIndex) × IsBlockOf f d a × In a (blocks_of f g)

  region_of_block : (d : Definer context_ids) (b : ArenaIndex) → IsBlockOf f d b → (answer : Option ArenaIndex) → FindsOne (IsRegionOf d) answer ↔ IsParent f (a_block b) (option_map a_region answer)
  region_of_block d b is None = (λ h y k. (let at = in_region f b y k in h at.0 (b, is, at.2)), λ h g k. h (a_region g) (In-map a_block b (blocks_of f g) (subst (λ z. In z (blocks_of f g)) (one_block_of d k.0 b k.1 is) k.2)))
  region_of_block d b is (Some g) = (
    λ k. In-map a_block b (blocks_of f g) (subst (λ z. In z (blocks_of f g)) (one_block_of d k.0 b k.1 is) k.2),
    λ h. (let at = in_region f b (a_region g) h in let e : ◌≡◌ {A = Entity context_ids} (a_region g) (a_region at.0) = at.1 in let s : g ≡ at.0 = cc in (b, is, subst (λ z. In b (blocks_of f z)) (sym s) at.2)),
  )

  no_region : (d : Definer context_ids) → ((a : ArenaIndex) → IsBlockOf f d a → ⊥) → (answer : Option ArenaIndex) → FindsOne (IsRegionOf d) answer ↔ (answer ≡ None)
  no_region d none None = (λ h. refl, λ e g k. none k.0 k.1)
  no_region d none (Some g) = (λ k. absurd (none k.0 k.1), λ e. absurd cc)

pub parents_of_values : (W : Dialect) → ParentsOfValues W
parents_of_values W f keys v w = record {
  argument = λ b answer e. subst (λ d. FindsOne (IsBlockOf f d) answer ↔ (answer ≡ Some b)) (sym e) (block_of_argument f keys w b answer);
  of_result = λ o answer e. subst (λ d. FindsOne (IsBlockOf f d) answer ↔ IsParent f (an_op o) (option_map a_block answer)) (sym e) (block_of_result f keys w o answer);
  region = λ b answer is. region_of_block f keys w v.definer b is answer;
  no_region = λ answer none. no_region f keys w v.definer none answer;
}

-- ## Dominance

module _ {W : Dialect} (f : Forest context_ids W) (keys : ℕ) (w : WellFormed f keys) (B : Behaviour W) (K : Kinds W) (g : ArenaIndex) where
  one_op : (o p : ArenaIndex) → In g (regions_of f o) → In g (regions_of f p) → o ≡ p
  one_op o p h k = (let e : ◌≡◌ {A = Entity context_ids} (an_op o) (an_op p) = w.nested.one_list (a_region g) (an_op o) (an_op p) (In-map a_region g (regions_of f o) h) (In-map a_region g (regions_of f p) k) in cc)

  told : (o : ArenaIndex) → In g (regions_of f o) → (answer : Bool) × IsDominance B K f g answer
  told o h = by (f.ops o) refl h
    where
      by : (m : Option (OpRecord context_ids W)) → f.ops o ≡ m → In g (list_of (λ (r : OpRecord context_ids W). r.regions) m) → (answer : Bool) × IsDominance B K f g answer
      by None e k = elim k [ ]
      by (Some r) e k = let at = in_got g (regions_of f o) h in (dominance B K r.kind at.0, (o, (at.0, at.1, record { value = r; found = e; holds = refl })))

  abbrev At : ArenaIndex → Bool → Type 0
  At o a = (index : ℕ) × (slice_get (regions_of f o) index ≡ Some g) × The (f.ops o) (λ r. a ≡ dominance B K r.kind index)

  same_told : (answer other : Bool) → IsDominance B K f g answer → IsDominance B K f g other → answer ≡ other
  same_told answer other p q = by p.0 q.0 (one_op p.0 q.0 (got_in (regions_of f p.0) p.1.0 g p.1.1) (got_in (regions_of f q.0) q.1.0 g q.1.1)) p.1 q.1
    where
      same_at : (o : ArenaIndex) → At o answer → At o other → answer ≡ other
      same_at o h k =
          let i : h.0 ≡ k.0 = place_one g (regions_of f o) h.0 k.0 (Distinct-unmap a_region (regions_of f o) (w.nested.once (an_op o))) h.1 k.1 in
          let e : Some h.2.value ≡ Some k.2.value = sym h.2.found ∙ k.2.found in
          let r : h.2.value ≡ k.2.value = cc in
          h.2.holds ∙ ap (λ (x : OpRecord context_ids W). dominance B K x.kind h.0) r ∙ ap (dominance B K k.2.value.kind) i ∙ sym k.2.holds

      by : (o p : ArenaIndex) → o ≡ p → At o answer → At p other → answer ≡ other
      by o p e h k = same_at o h (subst (λ z. At z other) (sym e) k)

  plain : (o : ArenaIndex) (answer : Bool) → In g (regions_of f o) → option_map (λ r. B.op_impls r.kind region_kind_interface) (f.ops o) ≡ Some false → IsDominance B K f g answer → answer ≡ true
  plain o answer h never p =
      let s : p.0 ≡ o = one_op p.0 o (got_in (regions_of f p.0) p.1.0 g p.1.1) h in
      let at : f.ops o ≡ Some p.1.2.value = sym (ap f.ops s) ∙ p.1.2.found in
      let e : Some (B.op_impls p.1.2.value.kind region_kind_interface) ≡ Some false = sym (ap (option_map (λ (r : OpRecord context_ids W). B.op_impls r.kind region_kind_interface)) at) ∙ never in
      let n : B.op_impls p.1.2.value.kind region_kind_interface ≡ false = cc in
      p.1.2.holds ∙ ap (λ t. cond t (K.dominates p.1.2.value.kind p.1.0) true) n

pub dominance_is_told : (W : Dialect) → DominanceIsTold W
dominance_is_told W f keys B K g w = record {
  there = λ live. let at = w.nested.regions_linked g live in told f keys w B K g at.0 at.1;
  one = same_told f keys w B K g;
  plain = plain f keys w B K g;
}

-- ## Handles

there_at : {A : Type 0} (xs : List A) (i : ℕ) → i < length xs → (x : A) × (slice_get xs i ≡ Some x)
there_at [] i lt = absurd (omega (arith, lt))
there_at (x ∷ xs) zero lt = (x, refl)
there_at (x ∷ xs) (suc i) lt = there_at xs i (omega (arith, lt))

module _ {W : Dialect} (K : Kinds W) (store : List (StoredType W)) (t : ℕ) where
  same_kind : (s : StoredType W) → slice_get store t ≡ Some s → (kind : ℕ) → HasKind K store t kind → K.type_kind s.key ≡ kind
  same_kind s e kind h = (let f : Some s ≡ Some h.value = sym e ∙ h.found in let q : s ≡ h.value = cc in ap (λ (x : StoredType W). K.type_kind x.key) q ∙ h.holds)

  keys_stay : (ts : List (StoredType W)) (place k : ℕ) (body : W.Body) → option_map (λ (x : StoredType W). x.key) (slice_get (set_body ts place body) k) ≡ option_map (λ (x : StoredType W). x.key) (slice_get ts k)
  keys_stay [] place k body = refl
  keys_stay (x ∷ ts) zero zero body = refl
  keys_stay (x ∷ ts) zero (suc k) body = refl
  keys_stay (x ∷ ts) (suc place) zero body = refl
  keys_stay (x ∷ ts) (suc place) (suc k) body = keys_stay ts place k body

  by_key : (m n : Option (StoredType W)) (kind : ℕ) → option_map (λ (x : StoredType W). x.key) m ≡ option_map (λ (x : StoredType W). x.key) n → The m (λ s. K.type_kind s.key ≡ kind) → The n (λ s. K.type_kind s.key ≡ kind)
  by_key m None kind e h = absurd (let f : Some h.value.key ≡ None = sym (ap (option_map (λ (x : StoredType W). x.key)) h.found) ∙ e in cc)
  by_key m (Some s) kind e h = record { value = s; found = refl; holds = (let f : Some h.value.key ≡ Some s.key = sym (ap (option_map (λ (x : StoredType W). x.key)) h.found) ∙ e in let q : h.value.key ≡ s.key = cc in sym (ap K.type_kind q) ∙ h.holds) }

pub handles_are_refused : (W : Dialect) → HandlesAreRefused W
handles_are_refused W K store t lt = record {
  one = λ kind other h k. sym (same_kind K store t at.0 at.1 kind h) ∙ same_kind K store t at.0 at.1 other k;
  typed = λ kind. (
    λ other. (K.type_kind at.0.key, (has, λ e. other (record { value = at.0; found = at.1; holds = e }))),
    λ p h. p.1.1 (sym (same_kind K store t at.0 at.1 p.0 p.1.0) ∙ same_kind K store t at.0 at.1 kind h),
  );
  implementing = λ interface. (
    λ lacks. by interface (K.type_impls (K.type_kind at.0.key) interface) refl lacks,
    λ p h. (let s : p.0 ≡ h.0 = sym (same_kind K store t at.0 at.1 p.0 p.1.0) ∙ same_kind K store t at.0 at.1 h.0 h.1 in
        let e : K.type_impls h.0 interface ≡ false = sym (ap (λ k. K.type_impls k interface) s) ∙ p.1.1 in
        let y = h.2 in cc),
  );
  bodies = λ place kind body. (
    by_key K store t (slice_get (set_body store place body) t) (slice_get store t) kind (keys_stay K store t store place t body),
    by_key K store t (slice_get store t) (slice_get (set_body store place body) t) kind (sym (keys_stay K store t store place t body)),
  );
}
  where
    at : (s : StoredType W) × (slice_get store t ≡ Some s)
    at = there_at store t lt

    has : HasKind K store t (K.type_kind at.0.key)
    has = record { value = at.0; found = at.1; holds = refl }

    by : (interface : ℕ) (b : Bool) → K.type_impls (K.type_kind at.0.key) interface ≡ b → (((kind : ℕ) × HasKind K store t kind × (K.type_impls kind interface ≡ true)) → ⊥) → (provided : ℕ) × (HasKind K store t provided × (K.type_impls provided interface ≡ false))
    by interface true e lacks = absurd (lacks (K.type_kind at.0.key, has, e))
    by interface false e lacks = (K.type_kind at.0.key, (has, e))

-- ## Types and names of values

module _ {W : Dialect} (f : Forest context_ids W) (keys : ℕ) (w : WellFormed f keys) (v : Value context_ids) where
  one_definition : (x y : Definition context_ids W) → In x (definitions_of f v.definer) → In y (definitions_of f v.definer) → x.number ≡ v.number → y.number ≡ v.number → x ≡ y
  one_definition x y h k m n = one_of (λ (z : Definition context_ids W). z.number) (definitions_of f v.definer) (w.numbers_once v.definer) x y h k (m ∙ sym n)

  value_told : ValueIsTold f keys v
  value_told = record {
    there = λ live.
        let at = In-map_back (λ (x : Definition context_ids W). x.number) v.number (definitions_of f v.definer) live in
        ((at.0.ty, (at.0, at.1, sym at.2, refl)), (at.0.name, (at.0, at.1, sym at.2, refl)));
    one_type = λ ty other h k. sym h.3 ∙ ap (λ (x : Definition context_ids W). x.ty) (one_definition h.0 k.0 h.1 k.1 h.2 k.2) ∙ k.3;
    known = λ ty h. w.known v.definer ty (subst (λ z. In z (definition_types_of f v.definer)) h.3 (In-map (λ (x : Definition context_ids W). x.ty) h.0 (definitions_of f v.definer) h.1));
    one_name = λ name other h k. sym h.3 ∙ ap (λ (x : Definition context_ids W). x.name) (one_definition h.0 k.0 h.1 k.1 h.2 k.2) ∙ k.3;
    given = λ name. (λ h. h, λ h. h);
  }

pub values_are_told : (W : Dialect) → ValuesAreTold W
values_are_told W f keys v w = value_told f keys w v

-- ## Kinds of handles that are made

module _ {W : Dialect} (B : Behaviour W) (K : Kinds W) (store : List (StoredType W)) (key : W.Key) (itself : B.same_key key key ≡ true)
    (same_kinds : (a b : W.Key) → B.same_key a b ≡ true → K.type_kind a ≡ K.type_kind b) where
  abbrev has : StoredType W → Bool
  has t = B.same_key t.key key

  abbrev one_more : List (StoredType W)
  one_more = store ++ record { key = key; body = B.first_body } ∷ []

  of_its_kind : (types : List (StoredType W)) → list_any has types ≡ true → HasKind K types (position_or_len has types) (K.type_kind key)
  of_its_kind types there = let at = first_found has types there in record { value = at.value; found = at.found; holds = same_kinds at.value.key key at.holds }

  made_kind : MadeHaveTheirKind B K store key
  made_kind = record { made = by (list_any has store) refl; stay = λ t kind h. record { value = h.value; found = still t h.value h.found (list_any has store); holds = h.holds } }
    where
      by : (b : Bool) → list_any has store ≡ b → HasKind K (cond b store one_more) (position_or_len has store) (K.type_kind key)
      by true e = of_its_kind store e
      by false e = subst (λ n. HasKind K one_more n (K.type_kind key)) (pushed has store (record { key = key; body = B.first_body }) e itself) (of_its_kind one_more (any_last has store (record { key = key; body = B.first_body }) itself))

      still : (t : ℕ) (x : StoredType W) → slice_get store t ≡ Some x → (b : Bool) → slice_get (cond b store one_more) t ≡ Some x
      still t x e true = e
      still t x e false = still_at store (record { key = key; body = B.first_body } ∷ []) t x e

pub keys_keep_their_kind : (W : Dialect) → KeysKeepTheirKind W
keys_keep_their_kind W B K store key itself same_kinds = made_kind B K store key itself same_kinds
