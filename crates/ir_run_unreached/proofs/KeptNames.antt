-- What is named from inside marked blocks alone, asked of each definition inside unreached ones.
use mathlib.Core.Path.{◌≡◌, refl, sym, ap, ◌∙◌, subst}
use Rattle.std.proofs.Common.{ℕ, ◌+◌, ◌↔◌, ◌⊎◌, inl, inr, List, [], ◌∷◌, ◌++◌, map, take, slice_get, Option, Some, None, is_some, true}
use Rattle.ir_model.specs.Ids.{Ids}
use Rattle.ir_model.specs.Forest.{Dialect, Definer, of_op, of_block, Entity, an_op, a_block, a_region, OpRecord, Forest, Named, a_value, the_block, Value, Operand, Successor, definer_entity, owner}
use Rattle.ir_model.specs.Nesting.{In, Within, itself, below, list_of, children, Inside, IsLive, WellFormed, blocks_of, names_of, numbers_of, operands_of, ops_of, regions_of, successors_of}
use Rattle.ir_model.specs.Uses.{Use, IsUse, AreUses}
use Rattle.ir_model.proofs.Nests.{In-append, In-left, In-right, In-map, In-map_back}
use Rattle.ir_model_passes.specs.Unreached.{IsUnreached, NamesStayInside}
use Rattle.ir_run_unreached.specs.Marks.{Adds, ListsUnreached}
use Rattle.ir_run_unreached.specs.Kept.{IsInsideOne, KeepsNamed, KeepsOwn, StandsInMarked}
use Rattle.ir_run_unreached.proofs.Marking.{taken_more, adds_then}

module _ {N : Ids} {W : Dialect} (f : Forest N W) where
  -- ## The marked blocks

  -- an operation inside one of these stands in a block inside it
  stands_inside : (e x : Entity N) (o : N.Op) → ((b : N.Block) → e ≡ a_block b → Inside f e x → x ≡ an_op o → (c : N.Block) × Inside f e (a_block c) × In o (ops_of f c))
  stands_inside e _ o b is itself same = absurd (let z : a_block b ≡ an_op o = sym is ∙ same in cc)
  stands_inside e x o b is (below {c = an_op p} h v) same = absurd (let at = In-map_back a_region x (regions_of f p) h in let z : an_op o ≡ a_region at.0 = sym same ∙ at.2 in cc)
  stands_inside e x o b is (below {c = a_region r} h v) same = absurd (let at = In-map_back a_block x (blocks_of f r) h in let z : an_op o ≡ a_block at.0 = sym same ∙ at.2 in cc)
  stands_inside e x o b is (below {c = a_block c} h v) same =
      let at = In-map_back an_op x (ops_of f c) h in
      (c, v, subst (λ p. In p (ops_of f c)) (op_one x at.0 o at.2 same) at.1)
    where
      op_one : (y : Entity N) (p q : N.Op) → y ≡ an_op p → y ≡ an_op q → p ≡ q
      op_one y p q a e = let z : an_op p ≡ an_op q = sym a ∙ e in cc

  module _ (blocks marked : List N.Block) (all : (c : N.Block) → In c marked ↔ IsInsideOne f blocks (a_block c)) where
    pub marked_inside : (o : N.Op) → StandsInMarked f marked o → IsInsideOne f blocks (an_op o)
    marked_inside o s = let k = (all s.0).0 s.1 in (k.0, k.1, below (In-map an_op o (ops_of f s.0) s.2) k.2)

    pub inside_marked : (o : N.Op) → IsInsideOne f blocks (an_op o) → StandsInMarked f marked o
    inside_marked o k = let s = stands_inside (a_block k.0) (an_op o) o k.0 refl k.2 refl in (s.0, (all s.0).1 (k.0, k.1, s.1), s.2)

    -- asked of each definition inside unreached blocks, it is the condition of a removal
    module _ (region : N.Region) (listed : ListsUnreached f region blocks) where
      pub all_keep : ((b : N.Block) → In b blocks → (x : Entity N) → Inside f (a_block b) x → KeepsOwn f marked x) → NamesStayInside f region
      all_keep keep user d h goes =
          let k = marked_inside user (keep goes.0 ((listed.exact goes.0).1 goes.1) (owner N d) goes.2 user d h refl) in
          (k.0, (listed.exact k.0).0 k.1, k.2)

      pub keep_all : NamesStayInside f region → (b : N.Block) → In b blocks → (x : Entity N) → Inside f (a_block b) x → KeepsOwn f marked x
      keep_all stay b here x i user d h e =
          let goes = stay user d h (b, (listed.exact b).0 here, subst (Inside f (a_block b)) (sym e) i) in
          inside_marked user (goes.0, (listed.exact goes.0).1 goes.1, goes.2)

  -- ## What an entity defines

  module _ (marked : List N.Block) where
    pub own_value : (d : Definer N) (n : N.ValueNumber) → KeepsOwn f marked (definer_entity N d) → KeepsNamed f marked (a_value (record { definer = d; number = n }))
    own_value d n keep user h = keep user (a_value (record { definer = d; number = n })) h refl

    pub own_block : (b : N.Block) → KeepsOwn f marked (a_block b) → KeepsNamed f marked (the_block b)
    own_block b keep user h = keep user (the_block b) h refl

    -- each of the first values that it defines is named from marked blocks alone
    abbrev pub KeepsFirst : Definer N → ℕ → Type 0
    KeepsFirst d count = (n : N.ValueNumber) → In n (take count (numbers_of f d)) → KeepsNamed f marked (a_value (record { definer = d; number = n }))

    pub first_more : (d : Definer N) (k : ℕ) (n : N.ValueNumber) → slice_get (numbers_of f d) k ≡ Some n → KeepsNamed f marked (a_value (record { definer = d; number = n })) → KeepsFirst d k → KeepsFirst d (k + 1)
    first_more d k n at here so_far m h = elim ((taken_more (numbers_of f d) k (k + 1) n m refl at).0 h) [
      | inl i ↦ so_far m i
      | inr e ↦ subst (λ z. KeepsNamed f marked (a_value (record { definer = d; number = z }))) (sym e) here
    ]

    module _ (named : (o : N.Op) (n : N.ValueNumber) (d : Definer N) → In (a_value (record { definer = d; number = n })) (names_of f o) → In n (numbers_of f d)) where
      abbrev pub AllNamed : Definer N → Type 0
      AllNamed d = (n : N.ValueNumber) → In n (numbers_of f d) → KeepsNamed f marked (a_value (record { definer = d; number = n }))

      by_value : (d : Definer N) → AllNamed d → (user : N.Op) (v : Value N) → In (a_value v) (names_of f user) → v.definer ≡ d → StandsInMarked f marked user
      by_value d all user v h e =
          let h2 : In (a_value (record { definer = d; number = v.number })) (names_of f user) = subst (λ z. In (a_value (record { definer = z; number = v.number })) (names_of f user)) e h in
          all v.number (named user v.number d h2) user h2

      pub op_keeps : (o : N.Op) → AllNamed (of_op o) → KeepsOwn f marked (an_op o)
      op_keeps o all user (a_value v) h e = by_value (of_op o) all user v h (definer_is v.definer e)
        where
          definer_is : (d : Definer N) → definer_entity N d ≡ an_op o → d ≡ of_op o
          definer_is (of_op p) z = cc
          definer_is (of_block b) z = absurd cc
      op_keeps o all user (the_block b) h e = absurd cc

      pub block_keeps : (b : N.Block) → KeepsNamed f marked (the_block b) → AllNamed (of_block b) → KeepsOwn f marked (a_block b)
      block_keeps b here all user (a_value v) h e = by_value (of_block b) all user v h (definer_is v.definer e)
        where
          definer_is : (d : Definer N) → definer_entity N d ≡ a_block b → d ≡ of_block b
          definer_is (of_op p) z = absurd cc
          definer_is (of_block c) z = cc
      block_keeps b here all user (the_block c) h e = here user (subst (λ z. In (the_block z) (names_of f user)) (block_is (a_block c) c e refl) h)
        where
          block_is : (y : Entity N) (d : N.Block) → y ≡ a_block b → y ≡ a_block d → d ≡ b
          block_is y d a k = let z : a_block d ≡ a_block b = sym k ∙ a in cc

    -- a region defines nothing
    pub region_keeps : (r : N.Region) → KeepsOwn f marked (a_region r)
    region_keeps r user (a_value v) h e = absurd (none v.definer e)
      where
        none : (d : Definer N) → definer_entity N d ≡ a_region r → ⊥
        none (of_op p) z = cc
        none (of_block b) z = cc
    region_keeps r user (the_block b) h e = absurd cc

    -- ## Users

    -- what names a value has a use of it
    value_used : (v : Value N) (o : N.Op) → In (a_value v) (names_of f o) → (u : Use N) × IsUse f (a_value v) u × (u.user ≡ o)
    value_used v o h = elim (In-append (a_value v) (map (λ (p : Operand N). a_value p.value) (operands_of f o)) _ h) [
      | inl k ↦ (
          let at = In-map_back (λ (p : Operand N). a_value p.value) (a_value v) (operands_of f o) k in
          let one : v ≡ at.0.value = value_one v at.0.value at.2 in
          (record { user = o; number = at.0.use_number }, subst (λ z. In (record { use_number = at.0.use_number; value = z }) (operands_of f o)) (sym one) at.1, refl))
      | inr k ↦ absurd (let at = In-map_back (λ (p : Successor N). the_block p.block) (a_value v) (successors_of f o) k in let z : a_value v ≡ the_block at.0.block = at.2 in cc)
    ]
      where
        value_one : (x y : Value N) → a_value x ≡ a_value y → x ≡ y
        value_one x y z = cc

    used_value : (v : Value N) (u : Use N) → IsUse f (a_value v) u → In (a_value v) (names_of f u.user)
    used_value v u h = In-left (a_value v) (map (λ (p : Operand N). a_value p.value) (operands_of f u.user)) _ (In-map (λ (p : Operand N). a_value p.value) (record { use_number = u.number; value = v }) (operands_of f u.user) h)

    -- the users of all uses of a value stand in marked blocks
    module _ (v : Value N) (uses : List (Use N)) (are : AreUses f (a_value v) uses) where
      pub users_keep : ((u : Use N) → In u uses → StandsInMarked f marked u.user) → KeepsNamed f marked (a_value v)
      users_keep each o h = let k = value_used v o h in subst (StandsInMarked f marked) k.2 (each k.0 ((are.exact k.0).1 k.1))

      pub keep_users : KeepsNamed f marked (a_value v) → (u : Use N) → In u uses → StandsInMarked f marked u.user
      keep_users keep u h = keep u.user (used_value v u ((are.exact u).0 h))

      -- and are live
      pub users_live : (u : Use N) → In u uses → IsLive f (an_op u.user)
      users_live u h = there (f.ops u.user) ((are.exact u).0 h)
        where
          there : (m : Option (OpRecord N W)) → In (record { use_number = u.number; value = v }) (list_of (λ (r : OpRecord N W). r.operands) m) → is_some m ≡ true
          there None k = absurd k
          there (Some r) k = refl

  -- ## Walks over what is inside

  -- all that were passed in a walk keep what is theirs
  pub passed_more : (marked : List N.Block) (done : List (Entity N)) (x : Entity N) → ((y : Entity N) → In y done → KeepsOwn f marked y) → KeepsOwn f marked x → (y : Entity N) → In y (done ++ x ∷ []) → KeepsOwn f marked y
  passed_more marked done x so_far here y h = elim (In-append y done (x ∷ []) h) [
    | inl k ↦ so_far y k
    | inr k ↦ elim k [ inl e ↦ subst (KeepsOwn f marked) (sym e) here | inr q ↦ absurd q ]
  ]

  -- the blocks among those that were passed are marked
  abbrev pub MarksPassed : List (Entity N) → List N.Block → List N.Block → Type 0
  MarksPassed done old new = Adds (λ (c : N.Block). In (a_block c) done) old new

  pub marks_more : (done : List (Entity N)) (x : Entity N) (old mid new : List N.Block) → MarksPassed done old mid → Adds (λ (c : N.Block). a_block c ≡ x) mid new → MarksPassed (done ++ x ∷ []) old new
  marks_more done x old mid new so_far here = adds_then (λ c. In (a_block c) done) (λ c. a_block c ≡ x) (λ c. In (a_block c) (done ++ x ∷ [])) old mid new so_far here
      (λ c h. elim (In-append (a_block c) done (x ∷ []) h) [ inl k ↦ inl k | inr k ↦ elim k [ inl e ↦ inr e | inr q ↦ absurd q ] ])
      (λ c h. In-left (a_block c) done (x ∷ []) h)
      (λ c e. In-right (a_block c) done (x ∷ []) (inl e))
