-- The facts of the worked examples of verification.
use mathlib.Core.Path.{◌≡◌, refl, sym, ap, ◌∙◌, subst}
use Rattle.std.proofs.Common.{ℕ, suc, ◌+◌, ◌⊎◌, inl, inr, Bool, true, false, cond, Option, Some, None, List, [], ◌∷◌, ◌++◌, map, length, length-append, arith}
use Rattle.std.specs.Prelude.{codes}
use Rattle.std.specs.Option.{option_map_or}
use Rattle.ir_model.specs.declared.ids.ArenaIndex.{ArenaIndex}
use Rattle.ir_model.specs.ContextIds.{context_ids, same_id}
use Rattle.ir_model.specs.Forest.{Text, Forest, Successor, Named, Entity, an_op, a_block, a_region, OpRecord, BlockRecord, a_value, the_block}
use Rattle.ir_model.specs.Nesting.{In, Inside, itself, below, IsLinked, children, list_of, names_of, ops_of, blocks_of, regions_of}
use Rattle.ir_model.specs.BlockGraph.{implements, succs, no_terminator_interface}
use Rattle.ir_model.specs.Parent.{Adjacent, ComesAfter, first_of}
use Rattle.ir_model.specs.Names.{IsBlockName}
use Rattle.ir_model.specs.Faults.{Fault, IsNamedAside, NoParent, MissingTerminator, TerminatorNotLast, EntryHasPred, OperandNotUseOfDef, Verifier}
use Rattle.ir_model.specs.SmallForests.{bare, behaviour}
use Rattle.ir_model.specs.IdForests.{first, second, third, three, op_of_kind, block_with}
use Rattle.ir_model.specs.FaultRows.{Stands, branching, one_block, loop, naming_twice, EntryBlock, FaultsStand, lone_block, with_empty_block, unlinked_user}
use Rattle.ir_model.proofs.Nests.{In-right, In-map_back}
use Rattle.ir_model.proofs.TwoRuns.{id_tells}
use Rattle.ir_model.proofs.NamedRows.{block_one, differ, one_block_name}

-- nothing stands in a list where there are none
pub lone : IsLinked lone_block (a_block first) → ⊥
lone h = by h.0 h.1
  where
    in_block : (t u v : Bool) → In {A = Entity context_ids} (a_block first) (map an_op (list_of (λ (r : BlockRecord context_ids bare). r.ops) (cond t (Some (block_with [])) (cond u None (cond v None None))))) → ⊥
    in_block true u v k = k
    in_block false true v k = k
    in_block false false true k = k
    in_block false false false k = k

    by : (y : Entity context_ids) → In (a_block first) (children lone_block y) → ⊥
    by (an_op o) k = k
    by (a_region r) k = k
    by (a_block b) k = in_block (same_id b first) (same_id b second) (same_id b third) k

-- an operation with regions is the first, whose kind asks for no terminators
asks_for_none : (o g : ArenaIndex) → In g (regions_of (with_empty_block 5) o) → implements behaviour (with_empty_block 5) no_terminator_interface o ≡ false → ⊥
asks_for_none o g = by (same_id o first) (same_id o second) (same_id o third)
  where
    by : (t u v : Bool) → In g (list_of (λ (r : OpRecord context_ids bare). r.regions) (cond t (Some (op_of_kind 5 [] (first ∷ []))) (cond u None (cond v None None))))
        → option_map_or (λ (r : OpRecord context_ids bare). behaviour.op_impls r.kind no_terminator_interface) (cond t (Some (op_of_kind 5 [] (first ∷ []))) (cond u None (cond v None None))) false ≡ false → ⊥
    by true u v h e = cc
    by false true v h e = elim h [ ]
    by false false true h e = elim h [ ]
    by false false false h e = elim h [ ]

-- no list of operations has any
pub no_ops : (named b o : ArenaIndex) → In o (ops_of (unlinked_user named) b) → ⊥
no_ops named b o = by (same_id b first) (same_id b second) (same_id b third)
  where
    by : (t u v : Bool) → In o (list_of (λ (r : BlockRecord context_ids bare). r.ops) (cond t (Some (block_with [])) (cond u (Some (block_with [])) (cond v None None)))) → ⊥
    by true u v k = k
    by false true v k = k
    by false false true k = k
    by false false false k = k

pub unlinked : (named : ArenaIndex) → IsLinked (unlinked_user named) (an_op second) → ⊥
unlinked named h = by h.0 h.1
  where
    by : (y : Entity context_ids) → In (an_op second) (children (unlinked_user named) y) → ⊥
    by (an_op o) k = let at = In-map_back a_region (an_op second) (regions_of (unlinked_user named) o) k in let e : ◌≡◌ {A = Entity context_ids} (an_op second) (a_region at.0) = at.2 in cc
    by (a_region r) k = let at = In-map_back a_block (an_op second) (blocks_of (unlinked_user named) r) k in let e : ◌≡◌ {A = Entity context_ids} (an_op second) (a_block at.0) = at.2 in cc
    by (a_block b) k = let at = In-map_back an_op (an_op second) (ops_of (unlinked_user named) b) k in no_ops named b at.0 at.1

-- an empty block has nothing inside but itself
pub only_it : (named b : ArenaIndex) (x : Entity context_ids) → Inside (unlinked_user named) (a_block b) x → x ≡ a_block b
only_it named b x itself = refl
only_it named b x (below {c = c} h w) =
    let k : In x (children (unlinked_user named) (a_block b)) = subst (λ y. In x (children (unlinked_user named) y)) (only_it named b c w) h in
    let at = In-map_back an_op x (ops_of (unlinked_user named) b) k in
    absurd (no_ops named b at.0 at.1)

-- the first of a region's list is the first block
pub first_block : (named g b : ArenaIndex) → first_of (blocks_of (unlinked_user named) g) ≡ Some b → b ≡ first
first_block named g b = by (same_id g first) (same_id g second) (same_id g third)
  where
    by : (t u v : Bool) → first_of (list_of (λ (bs : List ArenaIndex). bs) (cond t (Some (first ∷ second ∷ [])) (cond u None (cond v None None)))) ≡ Some b → b ≡ first
    by true u v e = let s : first ≡ b = cc in sym s
    by false true v e = absurd cc
    by false false true e = absurd cc
    by false false false e = absurd cc

-- ## Branches

-- what stands inside something else is linked
pub inside_linked : (f : Forest context_ids bare) (e x : Entity context_ids) → Inside f e x → (x ≡ e → ⊥) → IsLinked f x
inside_linked f e x itself out = absurd (out refl)
inside_linked f e x (below {c = c} h w) out = (c, h)

-- the record of an id is one of the three, or there is none
pub at_three : {R : Type 0} (a b c : Option R) (i : ArenaIndex)
    → ((i ≡ first) × (three a b c i ≡ a)) ⊎ ((i ≡ second) × (three a b c i ≡ b)) ⊎ ((i ≡ third) × (three a b c i ≡ c)) ⊎ (three a b c i ≡ None)
at_three a b c i = by (same_id i first) (same_id i second) (same_id i third) refl refl refl
  where
    by : (t u v : Bool) → same_id i first ≡ t → same_id i second ≡ u → same_id i third ≡ v
        → ((i ≡ first) × (cond t a (cond u b (cond v c None)) ≡ a)) ⊎ ((i ≡ second) × (cond t a (cond u b (cond v c None)) ≡ b)) ⊎ ((i ≡ third) × (cond t a (cond u b (cond v c None)) ≡ c)) ⊎ (cond t a (cond u b (cond v c None)) ≡ None)
    by true u v e g h = inl ((id_tells i first).0 e, refl)
    by false true v e g h = inr (inl ((id_tells i second).0 g, refl))
    by false false true e g h = inr (inr (inl ((id_tells i third).0 h, refl)))
    by false false false e g h = inr (inr (inr refl))

-- nothing comes after another in a list of one
no_two : {A : Type 0} (x y : A) (xs : List A) → length xs ≡ 1 → Adjacent x y xs → ⊥
no_two x y xs one a =
    let e : length xs ≡ length (a.0 ++ x ∷ y ∷ a.1) = ap length a.2 in
    let f : length (a.0 ++ x ∷ y ∷ a.1) ≡ length a.0 + length (x ∷ y ∷ a.1) = length-append a.0 (x ∷ y ∷ a.1) in
    let g : length (x ∷ y ∷ a.1) ≡ suc (suc (length a.1)) = refl in
    omega (arith, one, e, f, g)

-- both of two that are beside each other stand in the list
pub adjacent_in : {A : Type 0} (x y : A) (xs : List A) → Adjacent x y xs → In x xs
adjacent_in x y xs a = subst (In x) (sym a.2) (In-right x a.0 (x ∷ y ∷ a.1) (inl refl))

module _ (kind : ℕ) (successors : List (Successor context_ids)) (other : Option (BlockRecord context_ids bare)) (blocks : List ArenaIndex) where
  abbrev F : Forest context_ids bare
  F = branching kind successors other blocks

  -- a region stands in the module
  its_region : (o g : ArenaIndex) → In g (regions_of F o) → o ≡ first
  its_region o g h = by (at_three (Some (op_of_kind 5 [] (first ∷ []))) (Some (op_of_kind kind successors [])) None o)
    where
      by : ((o ≡ first) × (F.ops o ≡ Some (op_of_kind 5 [] (first ∷ [])))) ⊎ ((o ≡ second) × (F.ops o ≡ Some (op_of_kind kind successors []))) ⊎ ((o ≡ third) × (F.ops o ≡ None)) ⊎ (F.ops o ≡ None) → o ≡ first
      by (inl p) = p.0
      by (inr (inl p)) = absurd (let k : In g (list_of (λ (r : OpRecord context_ids bare). r.regions) (Some (op_of_kind kind successors []))) = subst (λ m. In g (list_of (λ (r : OpRecord context_ids bare). r.regions) m)) p.1 h in k)
      by (inr (inr (inl p))) = absurd (let k : In g (list_of (λ (r : OpRecord context_ids bare). r.regions) None) = subst (λ m. In g (list_of (λ (r : OpRecord context_ids bare). r.regions) m)) p.1 h in k)
      by (inr (inr (inr e))) = absurd (let k : In g (list_of (λ (r : OpRecord context_ids bare). r.regions) None) = subst (λ m. In g (list_of (λ (r : OpRecord context_ids bare). r.regions) m)) e h in k)

  -- what names a block is the operation in the first block
  its_branch : (o b : ArenaIndex) → In (the_block b) (names_of F o) → (o ≡ second) × In {A = Named context_ids} (the_block b) (map (λ (p : Successor context_ids). the_block p.block) successors)
  its_branch o b h = by (at_three (Some (op_of_kind 5 [] (first ∷ []))) (Some (op_of_kind kind successors [])) None o)
    where
      named_by : Option (OpRecord context_ids bare) → List (Named context_ids)
      named_by m = map (λ p. a_value p.value) (list_of (λ (r : OpRecord context_ids bare). r.operands) m) ++ map (λ (p : Successor context_ids). the_block p.block) (list_of (λ (r : OpRecord context_ids bare). r.successors) m)

      by : ((o ≡ first) × (F.ops o ≡ Some (op_of_kind 5 [] (first ∷ [])))) ⊎ ((o ≡ second) × (F.ops o ≡ Some (op_of_kind kind successors []))) ⊎ ((o ≡ third) × (F.ops o ≡ None)) ⊎ (F.ops o ≡ None)
          → (o ≡ second) × In {A = Named context_ids} (the_block b) (map (λ (p : Successor context_ids). the_block p.block) successors)
      by (inl p) = absurd (let k : In (the_block b) (named_by (Some (op_of_kind 5 [] (first ∷ [])))) = subst (λ m. In (the_block b) (named_by m)) p.1 h in k)
      by (inr (inl p)) = (p.0, (let k : In (the_block b) (named_by (Some (op_of_kind kind successors []))) = subst (λ m. In (the_block b) (named_by m)) p.1 h in k))
      by (inr (inr (inl p))) = absurd (let k : In (the_block b) (named_by None) = subst (λ m. In (the_block b) (named_by m)) p.1 h in k)
      by (inr (inr (inr e))) = absurd (let k : In (the_block b) (named_by None) = subst (λ m. In (the_block b) (named_by m)) e h in k)

  -- the list of a block is that of the first, or has nothing
  module _ (none_there : list_of (λ (r : BlockRecord context_ids bare). r.ops) other ≡ []) where
    its_ops : (b : ArenaIndex) → ((b ≡ first) × (ops_of F b ≡ second ∷ [])) ⊎ (ops_of F b ≡ [])
    its_ops b = by (at_three (Some (block_with (second ∷ []))) other None b)
      where
        by : ((b ≡ first) × (F.blocks b ≡ Some (block_with (second ∷ [])))) ⊎ ((b ≡ second) × (F.blocks b ≡ other)) ⊎ ((b ≡ third) × (F.blocks b ≡ None)) ⊎ (F.blocks b ≡ None) → ((b ≡ first) × (ops_of F b ≡ second ∷ [])) ⊎ (ops_of F b ≡ [])
        by (inl p) = inl (p.0, ap (list_of (λ (r : BlockRecord context_ids bare). r.ops)) p.1)
        by (inr (inl p)) = inr (ap (list_of (λ (r : BlockRecord context_ids bare). r.ops)) p.1 ∙ none_there)
        by (inr (inr (inl p))) = inr (ap (list_of (λ (r : BlockRecord context_ids bare). r.ops)) p.1)
        by (inr (inr (inr e))) = inr (ap (list_of (λ (r : BlockRecord context_ids bare). r.ops)) e)

    -- an operation of a block stands in the first
    its_block : (o b : ArenaIndex) → In o (ops_of F b) → b ≡ first
    its_block o b h = elim (its_ops b) [ inl p ↦ p.0 | inr e ↦ absurd (let k : In o [] = subst (In o) e h in k) ]

    -- no operation comes after another
    nothing_after : (o : ArenaIndex) (p : Entity context_ids) → ComesAfter F (an_op o) p → ⊥
    nothing_after o p c = by c.0 c.1
      where
        by : (y : Entity context_ids) → Adjacent (an_op o) p (children F y) → ⊥
        by (an_op q) a = let at = In-map_back a_region (an_op o) (regions_of F q) (adjacent_in (an_op o) p (children F (an_op q)) a) in let e : ◌≡◌ {A = Entity context_ids} (an_op o) (a_region at.0) = at.2 in cc
        by (a_region g) a = let at = In-map_back a_block (an_op o) (blocks_of F g) (adjacent_in (an_op o) p (children F (a_region g)) a) in let e : ◌≡◌ {A = Entity context_ids} (an_op o) (a_block at.0) = at.2 in cc
        by (a_block b) a = elim (its_ops b) [
          | inl e ↦ no_two (an_op o) p (map an_op (ops_of F b)) (ap (λ (os : List ArenaIndex). length (map {A = ArenaIndex} {B = Entity context_ids} an_op os)) e.1) a
          | inr e ↦ (let k : In {A = Entity context_ids} (an_op o) (map an_op (ops_of F b)) = adjacent_in (an_op o) p (map an_op (ops_of F b)) a in let n : In {A = Entity context_ids} (an_op o) [] = subst (λ (os : List ArenaIndex). In {A = Entity context_ids} (an_op o) (map an_op os)) e k in n)
        ]

    -- every block has a parent, none has to end, and no operation ends too early
    all_linked : (name : Text) → Stands F (an_op first) (NoParent name) → ⊥
    all_linked name h = h.3 (inside_linked F (an_op first) (a_block h.0) h.1 (λ e. cc))

    none_missing : (name : Text) → Stands F (an_op first) (MissingTerminator name) → ⊥
    none_missing name h = let e : implements behaviour F no_terminator_interface first ≡ false = subst (λ o. implements behaviour F no_terminator_interface o ≡ false) (its_region h.3.0 h.3.1.0 h.3.1.2) h.3.2 in cc

    none_early : (name : Text) → Stands F (an_op first) (TerminatorNotLast name) → ⊥
    none_early name h = nothing_after h.0 h.3.1.0 h.3.1.1

    -- what is named aside is no successor of the first block
    aside : (b : ArenaIndex) → IsNamedAside behaviour F [] b → In {A = Named context_ids} (the_block b) (map (λ (p : Successor context_ids). the_block p.block) successors) × (In b (succs behaviour F first) → ⊥)
    aside b h = (named.1, by h.2)
      where
        named : (h.0 ≡ second) × In {A = Named context_ids} (the_block b) (map (λ (p : Successor context_ids). the_block p.block) successors)
        named = its_branch h.0 b h.1

        by : (IsLinked F (an_op h.0) → ⊥) ⊎ ((a : ArenaIndex) × In h.0 (ops_of F a) × (In b (succs behaviour F a) → ⊥)) → In b (succs behaviour F first) → ⊥
        by (inl out) = absurd (out (a_block first, (let e : an_op h.0 ≡ an_op second = ap an_op named.0 in inl e)))
        by (inr at) = subst (λ a. In b (succs behaviour F a) → ⊥) (its_block h.0 at.0 at.1) at.2

-- the one block that is named
named_first : (b : ArenaIndex) → In {A = Named context_ids} (the_block b) (the_block first ∷ []) → b ≡ first
named_first b (inl e) = cc
named_first b (inr k) = elim k [ ]

-- the first of two blocks
entry_first : (kind : ℕ) (g b : ArenaIndex) → first_of (blocks_of (naming_twice kind) g) ≡ Some b → b ≡ first
entry_first kind g b = by (same_id g first) (same_id g second) (same_id g third)
  where
    by : (t u v : Bool) → first_of (list_of (λ (bs : List ArenaIndex). bs) (cond t (Some (first ∷ second ∷ [])) (cond u None (cond v None None)))) ≡ Some b → b ≡ first
    by true u v e = let s : first ≡ b = cc in sym s
    by false true v e = absurd cc
    by false false true e = absurd cc
    by false false false e = absurd cc

named_second : (b : ArenaIndex) → In {A = Named context_ids} (the_block b) (the_block second ∷ the_block second ∷ []) → b ≡ second
named_second b (inl e) = cc
named_second b (inr (inl e)) = cc
named_second b (inr (inr k)) = elim k [ ]

-- the use of the block by itself
abbrev to_itself : List (Successor context_ids)
to_itself = record { use_number = 0; block = first } ∷ []

pub loop_alone : (fault : Fault) → Stands loop (an_op first) fault → fault ≡ EntryHasPred (codes "block1v1")
loop_alone (NoParent name) h = absurd (all_linked 3 to_itself None (first ∷ []) refl name h)
loop_alone (MissingTerminator name) h = absurd (none_missing 3 to_itself None (first ∷ []) refl name h)
loop_alone (TerminatorNotLast name) h = absurd (none_early 3 to_itself None (first ∷ []) refl name h)
loop_alone (EntryHasPred name) h =
    let b = named_first h.0 (its_branch 3 to_itself None (first ∷ []) h.4.0 h.0 h.4.1).1 in
    let n : IsBlockName loop first name = subst (λ b. IsBlockName loop b name) b h.2 in
    ap EntryHasPred (one_block_name loop first name (codes "block1v1") n (record { value = _; found = refl; holds = sym block_one }))
loop_alone OperandNotUseOfDef h =
    let at = aside 3 to_itself None (first ∷ []) refl h.0 h.2 in
    absurd (at.1 (inl (named_first h.0 at.0)))
loop_alone (Verifier code) h = absurd h.2

pub entry_block : EntryBlock
entry_block = record {
  stands = (first, below {c = a_region first} (inl refl) (below {c = an_op first} (inl refl) itself), record { value = _; found = refl; holds = sym block_one }, (first, refl), (second, inl refl));
  alone = loop_alone;
  no_other_version = λ h. (let e : EntryHasPred (codes "block1v3") ≡ EntryHasPred (codes "block1v1") = loop_alone (EntryHasPred (codes "block1v3")) h in let n : codes "block1v3" ≡ codes "block1v1" = cc in differ (codes "block1v3") (codes "block1v1") refl n);
  not_without = not_without;
}
  where
    not_without : (fault : Fault) → Stands (one_block []) (an_op first) fault → ⊥
    not_without (NoParent name) h = all_linked 3 [] None (first ∷ []) refl name h
    not_without (MissingTerminator name) h = none_missing 3 [] None (first ∷ []) refl name h
    not_without (TerminatorNotLast name) h = none_early 3 [] None (first ∷ []) refl name h
    not_without (EntryHasPred name) h = (its_branch 3 [] None (first ∷ []) h.4.0 h.0 h.4.1).1
    not_without OperandNotUseOfDef h = (aside 3 [] None (first ∷ []) refl h.0 h.2).0
    not_without (Verifier code) h = h.2

-- the two uses of the second block
abbrev both : List (Successor context_ids)
both = record { use_number = 0; block = second } ∷ record { use_number = 1; block = second } ∷ []

abbrev empty_block : Option (BlockRecord context_ids bare)
empty_block = Some (block_with [])

-- whatever its kind, a fault but that of the uses does not stand
pub twice_alone : (kind : ℕ) (fault : Fault) → Stands (naming_twice kind) (an_op first) fault → fault ≡ OperandNotUseOfDef
twice_alone kind (NoParent name) h = absurd (all_linked kind both empty_block (first ∷ second ∷ []) refl name h)
twice_alone kind (MissingTerminator name) h = absurd (none_missing kind both empty_block (first ∷ second ∷ []) refl name h)
twice_alone kind (TerminatorNotLast name) h = absurd (none_early kind both empty_block (first ∷ second ∷ []) refl name h)
twice_alone kind (EntryHasPred name) h =
    let named = named_second h.0 (its_branch kind both empty_block (first ∷ second ∷ []) h.4.0 h.0 h.4.1).1 in
    let entry = entry_first kind h.3.0 h.0 h.3.1 in
    let n : 2 ≡ 1 = ap (λ (i : ArenaIndex). i.slot) (sym named ∙ entry) in
    absurd (omega (arith, n))
twice_alone kind OperandNotUseOfDef h = refl
twice_alone kind (Verifier code) h = absurd h.2

pub by_terminator : (fault : Fault) → Stands (naming_twice 3) (an_op first) fault → ⊥
by_terminator fault h = by fault h (twice_alone 3 fault h)
  where
    by : (fault : Fault) → Stands (naming_twice 3) (an_op first) fault → fault ≡ OperandNotUseOfDef → ⊥
    by OperandNotUseOfDef h e = let at = aside 3 both empty_block (first ∷ second ∷ []) refl h.0 h.2 in at.1 (inl (named_second h.0 at.0))
    by (NoParent name) h e = cc
    by (MissingTerminator name) h e = cc
    by (TerminatorNotLast name) h e = cc
    by (EntryHasPred name) h e = cc
    by (Verifier code) h e = cc

pub faults_stand : FaultsStand
faults_stand = record {
  no_parent = (first, itself, record { value = _; found = refl; holds = sym block_one }, lone);
  no_parent_elsewhere = λ name h. h.3 (inside_linked (with_empty_block 5) (an_op first) (a_block h.0) h.1 (λ e. cc));
  missing = (first, below {c = a_region first} (inl refl) (below {c = an_op first} (inl refl) itself), record { value = _; found = refl; holds = sym block_one }, (first, (first, inl refl, inl refl), refl, refl));
  not_missing = λ name h. asks_for_none h.3.0 h.3.1.0 h.3.1.2 h.3.2;
  too_early = (second, first, below {c = a_block first} (inl refl) (below {c = a_region first} (inl refl) (below {c = an_op first} (inl refl) itself)), (refl, (an_op third, (a_block first, ([], [], refl)))), inl refl, record { value = _; found = refl; holds = sym block_one });
  named_twice = (second, below {c = a_region first} (inr (inl refl)) (below {c = an_op first} (inl refl) itself), (second, inl refl, inr (first, inl refl, λ k. k)));
  named_twice_alone = twice_alone 4;
  not_by_a_terminator = by_terminator;
  named_aside = (second, itself, (second, inl refl, inl (unlinked second)));
  no_entry = λ name h.
      let e = only_it second second (a_block h.0) h.1 in
      let b : h.0 ≡ second = cc in
      let f = first_block second h.3.0 h.0 h.3.1 in
      let n : 1 ≡ 2 = ap (λ (i : ArenaIndex). i.slot) (sym f ∙ b) in
      omega (arith, n);
}
