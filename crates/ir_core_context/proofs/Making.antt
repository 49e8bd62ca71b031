-- What the steps of making an operation leave of a forest.
use mathlib.Core.Path.{fun_ext}
use Rattle.std.proofs.Common.{◌≡◌, ◌≢◌, ◌⊎◌, ℕ, Bool, true, false, cond, List, [], ◌∷◌, ◌++◌, Option, Some, None, IsSome, refl, sym, ap, subst, ◌∙◌, inl, inr}
use Rattle.std.specs.Option.{option_map}
use Rattle.std.specs.List.{list_any}
use Rattle.std.proofs.lemmas.List.{append-nil}
use Rattle.ir_model.specs.declared.ids.ArenaIndex.{ArenaIndex}
use Rattle.ir_model.specs.ContextIds.{context_ids, same_id}
use Rattle.ir_model.specs.Forest.{Dialect, Definition, Forest, Operand, OpRecord, Successor}
use Rattle.ir_model.specs.Nesting.{In, list_of, regions_of}
use Rattle.ir_model.specs.Changes.{add_region, new_op, on_op, on_operands, on_regions, on_successors, put, rewrite}
use Rattle.ir_model.proofs.Keeps.{rewrite_at}
use Rattle.ir_model.proofs.KeepsNew.{any_in, put_at}
use Rattle.ir_model.proofs.Nests.{In-append, In-left, In-right}
use Rattle.ir_model.proofs.TwoRuns.{id_tells}
use Rattle.ir_core_nesting.specs.Leaves.{without_op, without_region}
use Rattle.ir_core_context.specs.Creation.{with_regions}

-- two edits of a map at one id
pub rewrite-put : {B : Type 0} (u : ArenaIndex) (r : B) (g : B → B) (m : ArenaIndex → Option B) → rewrite same_id u g (put same_id u r m) ≡ put same_id u (g r) m
rewrite-put u r g m = fun_ext (λ i. by (same_id i u) (m i))
  where
    by : (b : Bool) (x : Option _) → cond b (option_map g (cond b (Some r) x)) (cond b (Some r) x) ≡ cond b (Some (g r)) x
    by true x = refl
    by false x = refl

pub rewrite-twice : {B : Type 0} (u : ArenaIndex) (g h : B → B) (m : ArenaIndex → Option B) → rewrite same_id u h (rewrite same_id u g m) ≡ rewrite same_id u (λ r. h (g r)) m
rewrite-twice u g h m = fun_ext (λ i. by (same_id i u) (m i))
  where
    by : (b : Bool) (x : Option _) → cond b (option_map h (cond b (option_map g x) x)) (cond b (option_map g x) x) ≡ cond b (option_map (λ r. h (g r)) x) x
    by true None = refl
    by true (Some x) = refl
    by false x = refl

rewrite-same : {B : Type 0} (u : ArenaIndex) (g h : B → B) (m : ArenaIndex → Option B) → ((r : B) → m u ≡ Some r → g r ≡ h r) → rewrite same_id u g m ≡ rewrite same_id u h m
rewrite-same u g h m same = fun_ext (λ i. elim (rewrite_at same_id id_tells u g m i) [
  | inl e ↦ e.1 ∙ at i e.0 ∙ sym (here i e.0)
  | inr e ↦ e.1 ∙ sym (there i e.0)
])
  where
    at : (i : ArenaIndex) → i ≡ u → option_map g (m i) ≡ option_map h (m i)
    at i e = by (m i) refl
      where
        by : (x : Option _) → m i ≡ x → option_map g x ≡ option_map h x
        by None q = refl
        by (Some r) q = ap Some (same r (ap m (sym e) ∙ q))

    here : (i : ArenaIndex) → i ≡ u → rewrite same_id u h m i ≡ option_map h (m i)
    here i e = elim (rewrite_at same_id id_tells u h m i) [ inl k ↦ k.1 | inr k ↦ absurd (k.0 e) ]

    there : (i : ArenaIndex) → i ≢ u → rewrite same_id u h m i ≡ m i
    there i ne = elim (rewrite_at same_id id_tells u h m i) [ inl k ↦ absurd (ne k.0) | inr k ↦ k.1 ]

pub rewrite-none : {B : Type 0} (u : ArenaIndex) (g : B → B) (m : ArenaIndex → Option B) → ((r : B) → m u ≡ Some r → g r ≡ r) → rewrite same_id u g m ≡ m
rewrite-none u g m same = fun_ext (λ i. elim (rewrite_at same_id id_tells u g m i) [
  | inl e ↦ e.1 ∙ by i e.0 (m i) refl
  | inr e ↦ e.1
])
  where
    by : (i : ArenaIndex) → i ≡ u → (x : Option _) → m i ≡ x → option_map g x ≡ x
    by i e None q = refl
    by i e (Some r) q = ap Some (same r (ap m (sym e) ∙ q))

module _ {W : Dialect} (f : Forest context_ids W) (o : ArenaIndex) where
  -- which regions are new
  pub given_at : (rs : List ArenaIndex) (q : ArenaIndex) → ((In q rs) × ((with_regions f o rs).regions q ≡ Some [])) ⊎ ((In q rs → ⊥) × ((with_regions f o rs).regions q ≡ f.regions q))
  given_at rs q = elim (any_in same_id id_tells q rs) [
    | inl e ↦ inl (e.1, ap (λ (b : Bool). cond b (Some []) (f.regions q)) e.0)
    | inr e ↦ inr (e.1, ap (λ (b : Bool). cond b (Some []) (f.regions q)) e.0)
  ]

  pub given-none : with_regions f o [] ≡ f
  given-none =
      let ops = rewrite-none o (on_regions (λ xs. xs ++ [])) f.ops (λ r e. λ i. record r { regions = append-nil r.regions i }) in
      λ i. record f { ops = ops i }

  pub given-more : (rs : List ArenaIndex) (r : ArenaIndex) → add_region (with_regions f o rs) o r ≡ with_regions f o (rs ++ r ∷ [])
  given-more rs r = λ i. record { ops = ops i; blocks = f.blocks; regions = regions i }
    where
      assoc : (xs : List ArenaIndex) → (xs ++ rs) ++ r ∷ [] ≡ xs ++ (rs ++ r ∷ [])
      assoc [] = refl
      assoc (x ∷ xs) = ap (λ ys. x ∷ ys) (assoc xs)

      ops : (add_region (with_regions f o rs) o r).ops ≡ (with_regions f o (rs ++ r ∷ [])).ops
      ops =
          rewrite-twice o (on_regions (λ xs. xs ++ rs)) (λ rec. record rec { regions = rec.regions ++ r ∷ [] }) f.ops
          ∙ rewrite-same o _ (on_regions (λ xs. xs ++ (rs ++ r ∷ []))) f.ops (λ x e. λ i. record x { regions = assoc x.regions i })

      regions : (add_region (with_regions f o rs) o r).regions ≡ (with_regions f o (rs ++ r ∷ [])).regions
      regions = fun_ext (λ q. elim (put_at same_id id_tells r [] (with_regions f o rs).regions q) [
        | inl e ↦ e.1 ∙ sym (new q (In-right q rs (r ∷ []) (inl e.0)))
        | inr e ↦ e.1 ∙ elim (given_at rs q) [
          | inl h ↦ h.1 ∙ sym (new q (In-left q rs (r ∷ []) h.0))
          | inr h ↦ h.1 ∙ sym (old q (λ k. elim (In-append q rs (r ∷ []) k) [ inl j ↦ h.0 j | inr j ↦ elim j [ inl same ↦ e.0 same | inr none ↦ none ] ]))
        ]
      ])
        where
          new : (q : ArenaIndex) → In q (rs ++ r ∷ []) → (with_regions f o (rs ++ r ∷ [])).regions q ≡ Some []
          new q h = elim (given_at (rs ++ r ∷ []) q) [ inl k ↦ k.1 | inr k ↦ absurd (k.0 h) ]

          old : (q : ArenaIndex) → (In q (rs ++ r ∷ []) → ⊥) → (with_regions f o (rs ++ r ∷ [])).regions q ≡ f.regions q
          old q h = elim (given_at (rs ++ r ∷ []) q) [ inl k ↦ absurd (h k.0) | inr k ↦ k.1 ]

  module _ (bare : regions_of f o ≡ []) where
    -- the regions of an operation that had none
    pub given-regions : (rs : List ArenaIndex) → IsSome (f.ops o) → regions_of (with_regions f o rs) o ≡ rs
    given-regions rs live = elim (rewrite_at same_id id_tells o (on_regions (λ xs. xs ++ rs)) f.ops o) [
      | inl e ↦ ap (list_of (λ r. r.regions)) e.1 ∙ by (f.ops o) live bare
      | inr e ↦ absurd (e.0 refl)
    ]
      where
        by : (x : Option (OpRecord context_ids W)) → IsSome x → list_of (λ r. r.regions) x ≡ [] → list_of (λ r. r.regions) (option_map (on_regions (λ xs. xs ++ rs)) x) ≡ rs
        by None h e = absurd (let k : true ≡ false = sym h in cc)
        by (Some r) h e = ap (λ xs. xs ++ rs) e

    -- the last of them taken back
    pub given-less : (rs : List ArenaIndex) (r : ArenaIndex) → f.regions r ≡ None → (In r rs → ⊥)
        → without_region (on_op (with_regions f o (rs ++ r ∷ [])) o (on_regions (λ _. rs))) r ≡ with_regions f o rs
    given-less rs r dead apart = λ i. record { ops = ops i; blocks = f.blocks; regions = regions i }
      where
        ops : (on_op (with_regions f o (rs ++ r ∷ [])) o (on_regions (λ _. rs))).ops ≡ (with_regions f o rs).ops
        ops =
            rewrite-twice o (on_regions (λ xs. xs ++ (rs ++ r ∷ []))) (on_regions (λ _. rs)) f.ops
            ∙ rewrite-same o _ (on_regions (λ xs. xs ++ rs)) f.ops (λ x e.
            let none : x.regions ≡ [] = sym (ap (list_of (λ (y : OpRecord context_ids W). y.regions)) e) ∙ bare in
            λ i. record x { regions = ap (λ xs. xs ++ rs) (sym none) i })

        regions : (without_region (on_op (with_regions f o (rs ++ r ∷ [])) o (on_regions (λ _. rs))) r).regions ≡ (with_regions f o rs).regions
        regions = fun_ext (λ q. by q (same_id q r) refl)
          where
            by : (q : ArenaIndex) (b : Bool) → same_id q r ≡ b → cond b None ((with_regions f o (rs ++ r ∷ [])).regions q) ≡ (with_regions f o rs).regions q
            by q true e =
                let is : q ≡ r = (id_tells q r).0 e in
                elim (given_at rs q) [
                  | inl h ↦ absurd (apart (subst (λ x. In x rs) is h.0))
                  | inr h ↦ sym (h.1 ∙ ap f.regions is ∙ dead)
                ]
            by q false e =
                let differs : q ≢ r = λ is. (let t : same_id q r ≡ true = (id_tells q r).1 is in cc) in
                elim (given_at (rs ++ r ∷ []) q) [
                  | inl h ↦ h.1 ∙ sym (elim (given_at rs q) [ inl k ↦ k.1 | inr k ↦ absurd (elim (In-append q rs (r ∷ []) h.0) [ inl j ↦ k.0 j | inr j ↦ elim j [ inl same ↦ differs same | inr none ↦ none ] ]) ])
                  | inr h ↦ h.1 ∙ sym (elim (given_at rs q) [ inl k ↦ absurd (h.0 (In-left q rs (r ∷ []) k.0)) | inr k ↦ k.1 ])
                ]

module _ {W : Dialect} (f : Forest context_ids W) (o : ArenaIndex) (loc : W.Loc) (kind : ℕ) (results : List (Definition context_ids W)) where
  abbrev bare_op : Forest context_ids W
  bare_op = new_op f o loc kind results [] [] []

  -- the parts of an operation, given one after another
  pub whole : (operands : List (Operand context_ids)) (successors : List (Successor context_ids)) (regions : List ArenaIndex)
      → on_op (on_op (with_regions bare_op o regions) o (on_operands (λ _. operands))) o (on_successors (λ _. successors)) ≡ new_op f o loc kind results operands successors regions
  whole operands successors regions = λ i. record { ops = ops i; blocks = f.blocks; regions = (with_regions bare_op o regions).regions }
    where
      ops : (on_op (on_op (with_regions bare_op o regions) o (on_operands (λ _. operands))) o (on_successors (λ _. successors))).ops ≡ (new_op f o loc kind results operands successors regions).ops
      ops =
          ap (λ m. rewrite same_id o (on_successors (λ _. successors)) (rewrite same_id o (on_operands (λ _. operands)) m)) (rewrite-put o _ (on_regions (λ xs. xs ++ regions)) f.ops)
          ∙ ap (λ m. rewrite same_id o (on_successors (λ _. successors)) m) (rewrite-put o _ (on_operands (λ _. operands)) f.ops)
          ∙ rewrite-put o _ (on_successors (λ _. successors)) f.ops

  -- a bare operation taken back
  pub taken_back : f.ops o ≡ None → without_op bare_op o ≡ f
  taken_back dead = λ i. record f { ops = ops i }
    where
      ops : (without_op bare_op o).ops ≡ f.ops
      ops = fun_ext (λ p. by p (same_id p o) refl)
        where
          by : (p : ArenaIndex) (b : Bool) → same_id p o ≡ b → cond b None (cond b (Some (record { kind = kind; results = results; operands = []; successors = []; regions = []; attributes = []; loc = loc })) (f.ops p)) ≡ f.ops p
          by p true e = sym (ap f.ops ((id_tells p o).0 e) ∙ dead)
          by p false e = refl

  -- operands taken out again
  pub unlinked : (regions : List ArenaIndex) (operands : List (Operand context_ids))
      → on_op (on_op (with_regions bare_op o regions) o (on_operands (λ _. operands))) o (on_operands (λ _. [])) ≡ with_regions bare_op o regions
  unlinked regions operands = λ i. record { ops = ops i; blocks = f.blocks; regions = (with_regions bare_op o regions).regions }
    where
      ops : (on_op (on_op (with_regions bare_op o regions) o (on_operands (λ _. operands))) o (on_operands (λ _. []))).ops ≡ (with_regions bare_op o regions).ops
      ops =
          ap (λ m. rewrite same_id o (on_operands (λ _. [])) (rewrite same_id o (on_operands (λ _. operands)) m)) (rewrite-put o _ (on_regions (λ xs. xs ++ regions)) f.ops)
          ∙ ap (λ m. rewrite same_id o (on_operands (λ _. [])) m) (rewrite-put o _ (on_operands (λ _. operands)) f.ops)
          ∙ rewrite-put o _ (on_operands (λ _. [])) f.ops
          ∙ sym (rewrite-put o _ (on_regions (λ xs. xs ++ regions)) f.ops)
