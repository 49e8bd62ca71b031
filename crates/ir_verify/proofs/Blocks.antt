-- What the calls that read a block and its neighbours say of its faults.
use Rattle.std.proofs.Common.{◌≡◌, ◌∙◌, ◌⊎◌, ℕ, Bool, true, false, List, [], ◌∷◌, map, Option, Some, None, refl, sym, ap, subst, inl, inr}
use Rattle.std.specs.Prelude.{◌↔◌, IsFalse, IsSome, IsTrue, not}
use Rattle.std.specs.Option.{option_map_or}
use Rattle.ir_model.specs.declared.ids.ArenaIndex.{ArenaIndex}
use Rattle.ir_model.specs.BlockGraph.{implements, no_terminator_interface, succs, targets_of, terminator}
use Rattle.ir_model.specs.ContextIds.{context_ids}
use Rattle.ir_model.specs.Edits.{StoredType}
use Rattle.ir_model.specs.Faults.{IsEntry, IsNamed, IsNamedAside, IsParentOp, LacksTerminator}
use Rattle.ir_model.specs.Forest.{BlockRecord, OpRecord, Dialect, Behaviour, Forest, Entity, an_op, a_block, a_region, Named, Operand, Successor, a_value, the_block, Text}
use Rattle.ir_model.specs.Names.{IsBlockName, block_id, unique_name}
use Rattle.ir_model.specs.Nesting.{In, IsLinked, IsLive, WellFormed, blocks_of, children, list_of, names_of, operands_of, ops_of, regions_of, successors_of}
use Rattle.ir_model.specs.Parent.{IsIn, IsParent, first_of}
use Rattle.ir_model.specs.Uses.{AreUses, IsUse, Use}
use Rattle.ir_model.proofs.Edges.{got_in}
use Rattle.ir_model.proofs.Nests.{In-append, In-map, In-map_back, In-right}
use Rattle.ir_model.proofs.Relinks.{one_block}
use Rattle.ir_model.proofs.TwoRuns.{lawful}
use Rattle.ir_core_records.specs.declared.record.UseIndex.{UseIndex}
use Rattle.ir_core_records.specs.Found.{record-there}
use Rattle.ir_core_records.specs.Meaning.{use_of}
use Rattle.ir_verify.specs.Parts.{IsAside}

module _ {W : Dialect} (f : Forest context_ids W) where
  -- what stands in a list stands there by its kind
  pub in-region : (b g : ArenaIndex) → IsIn f (a_block b) (a_region g) → In b (blocks_of f g)
  in-region b g h =
      let at = In-map_back a_block (a_block b) (blocks_of f g) h in
      let e : ◌≡◌ {A = Entity context_ids} (a_block b) (a_block at.0) = at.2 in
      let s : b ≡ at.0 = cc in
      subst (λ z. In z (blocks_of f g)) (sym s) at.1

  pub in-op : (g o : ArenaIndex) → IsIn f (a_region g) (an_op o) → In g (regions_of f o)
  in-op g o h =
      let at = In-map_back a_region (a_region g) (regions_of f o) h in
      let e : ◌≡◌ {A = Entity context_ids} (a_region g) (a_region at.0) = at.2 in
      let s : g ≡ at.0 = cc in
      subst (λ z. In z (regions_of f o)) (sym s) at.1

  pub in-block : (o b : ArenaIndex) → IsIn f (an_op o) (a_block b) → In o (ops_of f b)
  in-block o b h =
      let at = In-map_back an_op (an_op o) (ops_of f b) h in
      let e : ◌≡◌ {A = Entity context_ids} (an_op o) (an_op at.0) = at.2 in
      let s : o ≡ at.0 = cc in
      subst (λ z. In z (ops_of f b)) (sym s) at.1

  -- a live block has a unique name
  pub has-name : (b : ArenaIndex) → IsLive f (a_block b) → (name : Text) × IsBlockName f b name
  has-name b live = by (f.blocks b) refl live
    where
      by : (m : Option (BlockRecord context_ids W)) → f.blocks b ≡ m → IsSome m → (name : Text) × IsBlockName f b name
      by None e h = absurd cc
      by (Some r) e h = (unique_name r.label (block_id b), record { value = r; found = e; holds = refl })

  -- what names a block has a use of it, and the user of a use names it
  pub used-named : (b : ArenaIndex) (u : Use context_ids) → IsUse f (the_block b) u → In (the_block b) (names_of f u.user)
  used-named b u h = In-right (the_block b) (map (λ (p : Operand context_ids). a_value p.value) (operands_of f u.user)) _ (In-map (λ (p : Successor context_ids). the_block p.block) _ (successors_of f u.user) h)

  pub successor-named : (b o : ArenaIndex) → In (the_block b) (names_of f o) → (s : Successor context_ids) × In s (successors_of f o) × (b ≡ s.block)
  successor-named b o h = elim (In-append (the_block b) (map (λ (p : Operand context_ids). a_value p.value) (operands_of f o)) (map (λ (p : Successor context_ids). the_block p.block) (successors_of f o)) h) [
    | inl k ↦ absurd (let at = In-map_back (λ (p : Operand context_ids). a_value p.value) (the_block b) (operands_of f o) k in let e : ◌≡◌ {A = Named context_ids} (the_block b) (a_value at.0.value) = at.2 in cc)
    | inr k ↦
        let at = In-map_back (λ (p : Successor context_ids). the_block p.block) (the_block b) (successors_of f o) k in
        let e : ◌≡◌ {A = Named context_ids} (the_block b) (the_block at.0.block) = at.2 in
        let s : b ≡ at.0.block = cc in
        (at.0, at.1, s)
  ]

  pub named-used : (b o : ArenaIndex) → In (the_block b) (names_of f o) → (u : Use context_ids) × IsUse f (the_block b) u × (u.user ≡ o)
  named-used b o h =
      let at = successor-named b o h in
      (record { user = o; number = at.0.use_number }, subst (λ z. In z (successors_of f o)) (λ i. record { use_number = at.0.use_number; block = sym at.2 i }) at.1, refl)

  pub named-target : (b o : ArenaIndex) → In (the_block b) (names_of f o) → In b (targets_of f o)
  named-target b o h =
      let at = successor-named b o h in
      subst (λ z. In z (targets_of f o)) (sym at.2) (In-map (λ (p : Successor context_ids). p.block) at.0 (successors_of f o) at.1)

  module _ (keys : ℕ) (formed : WellFormed f keys) where
    one-region : (b g h : ArenaIndex) → In b (blocks_of f g) → In b (blocks_of f h) → g ≡ h
    one-region b g h i j =
        let e : ◌≡◌ {A = Entity context_ids} (a_region g) (a_region h) = formed.nested.one_list (a_block b) (a_region g) (a_region h) (In-map a_block b (blocks_of f g) i) (In-map a_block b (blocks_of f h) j) in
        cc

    one-op : (g o p : ArenaIndex) → In g (regions_of f o) → In g (regions_of f p) → o ≡ p
    one-op g o p i j =
        let e : ◌≡◌ {A = Entity context_ids} (an_op o) (an_op p) = formed.nested.one_list (a_region g) (an_op o) (an_op p) (In-map a_region g (regions_of f o) i) (In-map a_region g (regions_of f p) j) in
        cc

    module _ (B : Behaviour W) (store : List (StoredType W)) where
      -- a block is the entry of its own region or of none
      pub entry-first : (b g : ArenaIndex) → In b (blocks_of f g) → IsEntry B f store b → first_of (blocks_of f g) ≡ Some b
      entry-first b g i e = subst (λ h. first_of (blocks_of f h) ≡ Some b) (one-region b e.0 g (got_in (blocks_of f e.0) 0 b e.1) i) e.1

      pub entry-linked : (b : ArenaIndex) → IsEntry B f store b → IsLinked f (a_block b)
      entry-linked b e = (a_region e.0, In-map a_block b (blocks_of f e.0) (got_in (blocks_of f e.0) 0 b e.1))

      -- a block lacks a terminator by its own parent operation
      pub lacks-by : (b g p : ArenaIndex) → In b (blocks_of f g) → In g (regions_of f p) → LacksTerminator B f store b → IsFalse (implements B f no_terminator_interface p) × (terminator B f b ≡ None)
      lacks-by b g p i j l =
          let s : l.0 ≡ p = one-op g l.0 p (subst (λ h. In h (regions_of f l.0)) (one-region b l.1.0 g l.1.1 i) l.1.2) j in
          (subst (λ q. IsFalse (implements B f no_terminator_interface q)) s l.2, l.3)

      pub lacks-linked : (b : ArenaIndex) → LacksTerminator B f store b → IsLinked f (a_block b)
      lacks-linked b l = (a_region l.1.0, In-map a_block b (blocks_of f l.1.0) l.1.1)

      -- an operation in a block is aside where the block's terminator does not lead there
      pub aside-by : (o a b : ArenaIndex) → In o (ops_of f a) → IsAside B f store o b → In b (succs B f a) → ⊥
      aside-by o a b i (inl k) s = k (a_block a, In-map an_op o (ops_of f a) i)
      aside-by o a b i (inr k) s = k.2 (subst (λ c. In b (succs B f c)) (one_block lawful f keys formed o a k.0 i k.1) s)

-- a test and its opposite
pub not-true : (x : Bool) → not x ≡ true → x ≡ false
not-true true e = absurd cc
not-true false e = refl

pub true-not : (x : Bool) → x ≡ false → not x ≡ true
true-not true e = absurd cc
true-not false e = refl

module _ {W : Dialect} (f : Forest context_ids W) (b : ArenaIndex) (kept : List UseIndex) (are : AreUses f (the_block b) (map use_of kept)) where
  -- the user of each kept use names the block, and what names it is such a user
  pub kept-named : (u : UseIndex) → In u kept → In (the_block b) (names_of f u.user)
  kept-named u h = used-named f b (use_of u) ((are.exact (use_of u)).0 (In-map use_of u kept h))

  pub named-kept : (o : ArenaIndex) → In (the_block b) (names_of f o) → (u : UseIndex) × In u kept × (u.user ≡ o)
  named-kept o h =
      let u = named-used f b o h in
      let at = In-map_back use_of u.0 kept ((are.exact u.0).1 u.1) in
      (at.0, at.1, ap (λ (x : Use context_ids). x.user) (sym at.2) ∙ u.2)

-- what is and what is not told by a test
pub not-told : (x : Bool) (P Q : Type 0) → IsTrue x ↔ P → (Q → P → ⊥) → ((P → ⊥) → Q) → IsTrue (not x) ↔ Q
not-told true P Q told apart none = (λ e. absurd cc, λ q. absurd (apart q (told.0 refl)))
not-told false P Q told apart none = (λ e. none (λ p. absurd (let h : false ≡ true = told.1 p in cc)), λ q. refl)

module _ {W : Dialect} (B : Behaviour W) (f : Forest context_ids W) (keys : ℕ) (formed : WellFormed f keys) (store : List (StoredType W)) where
  -- an operation of a block is aside exactly where the block does not lead there
  pub aside-told : (o a b : ArenaIndex) (x : Bool) → In o (ops_of f a) → IsTrue x ↔ In b (succs B f a) → IsTrue (not x) ↔ IsAside B f store o b
  aside-told o a b x i told = not-told x (In b (succs B f a)) (IsAside B f store o b) told (λ k s. aside-by f keys formed B store o a b i k s) (λ none. inr (a, i, none))

  -- the operation that ends the block leads to what it names
  pub ender-leads : (o a b : ArenaIndex) → terminator B f a ≡ Some o → In (the_block b) (names_of f o) → In b (succs B f a)
  ender-leads o a b ends named = subst (λ m. In b (list_of (targets_of f) m)) (sym ends) (named-target f b o named)

  -- without a terminator a block leads nowhere
  pub leads-nowhere : (a b : ArenaIndex) → terminator B f a ≡ None → In b (succs B f a) → ⊥
  leads-nowhere a b none h = subst (λ m. In b (list_of (targets_of f) m)) none h

  -- what the record of an operation tells of its kind
  pub implements-read : (i : ℕ) (o : ArenaIndex) (r : OpRecord context_ids W) → f.ops o ≡ Some r → implements B f i o ≡ B.op_impls r.kind i
  implements-read i o r e = ap (λ m. option_map_or (λ (x : OpRecord context_ids W). B.op_impls x.kind i) m false) e

  -- what names a block is live
  pub namer-live : (b o : ArenaIndex) → In (the_block b) (names_of f o) → IsLive f (an_op o)
  namer-live b o h = let at = successor-named f b o h in record-there (λ (r : OpRecord context_ids W). r.successors) at.0 (f.ops o) at.1
