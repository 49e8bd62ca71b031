-- Kept uses tell the users of what an entity defines.
use Rattle.std.proofs.Common.{◌≡◌, ◌↔◌, ◌<◌, ℕ, zero, suc, List, All, [], ◌∷◌, map, length, slice_index_or, Some, inl, inr, refl, sym, ap, ◌∙◌, subst, arith}
use Rattle.ir_model.specs.declared.ids.ArenaIndex.{ArenaIndex}
use Rattle.ir_model.specs.ContextIds.{context_ids}
use Rattle.ir_model.specs.Ids.{Distinct}
use Rattle.ir_model.specs.Forest.{Entity, an_op, a_block, of_block, Operand, Successor, a_value, the_block, definer_entity, Named}
use Rattle.ir_model.specs.Nesting.{In, Inside, numbers_of, operands_of, successors_of}
use Rattle.ir_model.specs.Uses.{Use, IsUse}
use Rattle.ir_model.proofs.Nests.{In-map, In-map_back}
use Rattle.ir_base_arenas.specs.Arena.{get}
use Rattle.ir_core_records.specs.declared.record.Definer.{Definer}
use Rattle.ir_core_records.specs.declared.record.Definer.TheVariants.{Op, Block}
use Rattle.ir_core_records.specs.declared.record.Operation.{Operation}
use Rattle.ir_core_records.specs.declared.record.BasicBlock.{BasicBlock}
use Rattle.ir_core_records.specs.declared.record.ValueIndex.{ValueIndex}
use Rattle.ir_core_records.specs.declared.record.BlockIndex.{BlockIndex}
use Rattle.ir_core_records.specs.declared.record.UseIndex.{UseIndex}
use Rattle.ir_core_records.specs.declared.record.Definition.{Definition}
use Rattle.ir_core_records.specs.declared.records.Records.{Records}
use Rattle.ir_core_records.specs.Chains.{chains_of, AreLinked}
use Rattle.ir_core_records.specs.Distinct.{first_with}
use Rattle.ir_core_records.specs.Found.{place-In}
use Rattle.ir_core_records.specs.KeptUses.{kept-exact}
use Rattle.ir_core_records.specs.Lists.{in_record, uses_with}
use Rattle.ir_core_records.specs.Meaning.{forest_in, definer_of, value_of, use_of}
use Rattle.ir_core_records.specs.Meant.{value-same, operands-meant, successors-meant, numbers-meant}
use Rattle.ir_core_records.specs.Numbered.{uses_with-at}
use Rattle.ir_core_records.specs.Table.{block_uses_at, definitions_at, operands_at, successors_at, uses_at}
use Rattle.ir_core_erasing.specs.Closed.{EntityClosed, UsersInside}
use Rattle.ir_core_erasing.specs.Dropping.{Unnamed}
use Rattle.ir_core_erasing.proofs.ClosedListings.{use-named}

-- an item of a list is the same whatever stands for what is past it
pub or-same : {A : Type 0} (xs : List A) (k : ℕ) (d e : A) → k < length xs → slice_index_or xs k d ≡ slice_index_or xs k e
or-same [] k d e h = absurd (omega (arith, h))
or-same (x ∷ xs) zero d e h = refl
or-same (x ∷ xs) (suc k) d e h = or-same xs k d e (omega (arith, h))

module _ {A : Type 0} (P : A → Type 0) where
  pub all-in : (xs : List A) → All P xs → (x : A) → In x xs → P x
  all-in [] h x i = absurd i
  all-in (y ∷ ys) h x (inl e) = subst P (sym e) (h 0 x (omega arith))
  all-in (y ∷ ys) h x (inr i) = all-in ys (λ k d w. h (suc k) d (omega (arith, w))) x i

  in-list : (ys : List A) (k : ℕ) (d : A) → k < length ys → In (slice_index_or ys k d) ys
  in-list [] k d h = absurd (omega arith)
  in-list (y ∷ ys) zero d h = inl refl
  in-list (y ∷ ys) (suc k) d h = inr (in-list ys k d (omega arith))

  pub in-all : (xs : List A) → ((x : A) → In x xs → P x) → All P xs
  in-all xs each = λ k d w. each (slice_index_or xs k d) (in-list xs k d w)

empty : {A : Type 0} (xs : List A) → ((x : A) → In x xs → ⊥) → xs ≡ []
empty [] none = refl
empty (x ∷ xs) none = absurd (none x (inl refl))

abbrev operand_like : ℕ → ValueIndex → Operand context_ids
operand_like n v = record { use_number = n; value = value_of v }

abbrev successor_like : ℕ → BlockIndex → Successor context_ids
successor_like n b = record { use_number = n; block = b.index }

operand-same : (m n : ℕ) (v w : ValueIndex) → operand_like m v ≡ operand_like n w → (m ≡ n) × (v ≡ w)
operand-same m n v w e = (ap (λ (p : Operand context_ids). p.use_number) e, value-same v w (ap (λ (p : Operand context_ids). p.value) e))

successor-same : (m n : ℕ) (b c : BlockIndex) → successor_like m b ≡ successor_like n c → (m ≡ n) × (b ≡ c)
successor-same m n b c e =
    let p : b.index ≡ c.index = ap (λ (q : Successor context_ids). q.block) e in
    (ap (λ (q : Successor context_ids). q.use_number) e, λ i. record { index = p i })

module _ {D A K B S X L : Type 0} (t : Records D A K B S X L) (linked : AreLinked (chains_of t)) where
  -- the kept uses of a value, and of a block, are its uses
  value-uses : (v : ValueIndex) (u : Use context_ids) → In u (map use_of (uses_at t v)) ↔ IsUse (forest_in t) (a_value (value_of v)) u
  value-uses v u = kept-exact (operands_at t) (uses_at t) linked.values operand_like operand-same (operands_of (forest_in t)) (operands-meant t) v u

  block-uses : (b : BlockIndex) (u : Use context_ids) → In u (map use_of (block_uses_at t b)) ↔ IsUse (forest_in t) (the_block b.index) u
  block-uses b u = kept-exact (successors_at t) (block_uses_at t) linked.blocks successor_like successor-same (successors_of (forest_in t)) (successors-meant t) b u

  -- what is not named has no kept uses
  pub unnamed-value : (e : Entity context_ids) → Unnamed (forest_in t) e → (v : ValueIndex) → Inside (forest_in t) e (definer_entity context_ids (definer_of v.definer)) → uses_at t v ≡ []
  unnamed-value e none v i = empty (uses_at t v) (λ u h.
      none u.user (a_value (value_of v)) (use-named (forest_in t) (a_value (value_of v)) (use_of u) ((value-uses v (use_of u)).0 (In-map use_of u (uses_at t v) h))) i)

  pub unnamed-block : (e : Entity context_ids) → Unnamed (forest_in t) e → (b : BlockIndex) → Inside (forest_in t) e (a_block b.index) → block_uses_at t b ≡ []
  unnamed-block e none b i = empty (block_uses_at t b) (λ u h.
      none u.user (the_block b.index) (use-named (forest_in t) (the_block b.index) (use_of u) ((block-uses b (use_of u)).0 (In-map use_of u (block_uses_at t b) h))) i)

  module _ (root : Entity context_ids) where
    -- the user is inside the root
    abbrev pub IsUserInside : UseIndex → Type 0
    IsUserInside u = Inside (forest_in t) root (an_op u.user)

    -- to ask each kept use is to ask each user
    asked : (d : Named context_ids) (uses : List UseIndex) → ((u : Use context_ids) → In u (map use_of uses) ↔ IsUse (forest_in t) d u) → All IsUserInside uses ↔ UsersInside (forest_in t) root d
    asked d uses exact = (
      λ all u h. (let m = In-map_back use_of u uses ((exact u).1 h) in
          subst (λ (w : Use context_ids). Inside (forest_in t) root (an_op w.user)) (sym m.2) (all-in IsUserInside uses all m.0 m.1)),
      λ by. in-all IsUserInside uses (λ u h. by (use_of u) ((exact (use_of u)).0 (In-map use_of u uses h))),
    )

    pub block-asked : (b : BlockIndex) → All IsUserInside (block_uses_at t b) ↔ UsersInside (forest_in t) root (the_block b.index)
    block-asked b = asked (the_block b.index) (block_uses_at t b) (block-uses b)

    module _ (d : Definer) (once : Distinct (numbers_of (forest_in t) (definer_of d))) where
      -- the uses that a definition keeps are those of its number
      kept-of : (r : Definition) → In r (definitions_at t d) → uses_with (definitions_at t d) r.number ≡ r.uses
      kept-of r h =
          let p = place-In (definitions_at t d) r h in
          sym (uses_with-at (definitions_at t d) r.number p.0 r p.1 (first_with (λ (x : Definition). x.number) (definitions_at t d) r.number p.0 r (subst Distinct (numbers-meant t d) once) p.1 refl))

      -- to ask each definition is to ask each number
      pub definitions-asked : All (λ (r : Definition). All IsUserInside r.uses) (definitions_at t d) ↔ ((n : ℕ) → In n (numbers_of (forest_in t) (definer_of d)) → UsersInside (forest_in t) root (a_value (record { definer = definer_of d; number = n })))
      definitions-asked = (
        λ all n h. (let m = In-map_back (λ (x : Definition). x.number) n (definitions_at t d) (subst (In n) (numbers-meant t d) h) in
            let kept : uses_with (definitions_at t d) n ≡ m.0.uses = ap (uses_with (definitions_at t d)) m.2 ∙ kept-of m.0 m.1 in
            (asked (a_value (record { definer = definer_of d; number = n })) (uses_with (definitions_at t d) n) (value-uses (record { definer = d; number = n }))).0
            (subst (λ us. All IsUserInside us) (sym kept) (all-in (λ (r : Definition). All IsUserInside r.uses) (definitions_at t d) all m.0 m.1))),
        λ by. in-all (λ (r : Definition). All IsUserInside r.uses) (definitions_at t d) (λ r h.
            subst (λ us. All IsUserInside us) (kept-of r h)
            ((asked (a_value (record { definer = definer_of d; number = r.number })) (uses_with (definitions_at t d) r.number) (value-uses (record { definer = d; number = r.number }))).1
            (by r.number (subst (In r.number) (sym (numbers-meant t d)) (In-map (λ (x : Definition). x.number) r (definitions_at t d) h))))),
      )

    module _ (once : (d : Definer) → Distinct (numbers_of (forest_in t) (definer_of d))) where
      -- of an operation, by its record
      pub op-asked : (op : ArenaIndex) (x : Operation D A K B S X L) → get t.ops op ≡ Some x → (results : List Definition) → results ≡ x.results
          → All (λ (r : Definition). All IsUserInside r.uses) results ↔ EntityClosed (forest_in t) root (an_op op)
      op-asked op x found results is =
          subst (λ rs. All (λ (r : Definition). All IsUserInside r.uses) rs ↔ EntityClosed (forest_in t) root (an_op op)) (sym (is ∙ sym (ap (in_record (λ (y : Operation D A K B S X L). y.results) []) found)))
          (definitions-asked (Op op) (once (Op op)))

      -- of a block, by its record
      pub block-uses-asked : (block : ArenaIndex) (x : BasicBlock D A K B S X L) → get t.blocks block ≡ Some x → (uses : List UseIndex) → uses ≡ x.uses
          → All IsUserInside uses ↔ UsersInside (forest_in t) root (the_block block)
      block-uses-asked block x found uses is =
          subst (λ us. All IsUserInside us ↔ UsersInside (forest_in t) root (the_block block)) (sym (is ∙ sym (ap (in_record (λ (y : BasicBlock D A K B S X L). y.uses) []) found)))
          (block-asked (record { index = block }))

      pub arguments-asked : (block : ArenaIndex) (x : BasicBlock D A K B S X L) → get t.blocks block ≡ Some x → (arguments : List Definition) → arguments ≡ x.arguments
          → All (λ (r : Definition). All IsUserInside r.uses) arguments ↔ ((n : ℕ) → In n (numbers_of (forest_in t) (of_block block)) → UsersInside (forest_in t) root (a_value (record { definer = of_block block; number = n })))
      arguments-asked block x found arguments is =
          subst (λ rs. All (λ (r : Definition). All IsUserInside r.uses) rs ↔ ((n : ℕ) → In n (numbers_of (forest_in t) (of_block block)) → UsersInside (forest_in t) root (a_value (record { definer = of_block block; number = n })))) (sym (is ∙ sym (ap (in_record (λ (y : BasicBlock D A K B S X L). y.arguments) []) found)))
          (definitions-asked (Block block) (once (Block block)))
