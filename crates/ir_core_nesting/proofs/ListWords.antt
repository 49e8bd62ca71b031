-- The lists after an edit, in the words of the model.
use mathlib.Core.Path.{fun_ext}
use Rattle.std.proofs.Common.{◌≡◌, cond, List, [], ◌∷◌, ◌++◌, Option, Some, None, refl, sym, ap, ◌∙◌, subst, inl, inr}
use Rattle.std.specs.Option.{option_map}
use Rattle.ir_model.specs.declared.ids.ArenaIndex.{ArenaIndex}
use Rattle.ir_model.specs.ContextIds.{same_id}
use Rattle.ir_model.specs.Ids.{Distinct}
use Rattle.ir_model.specs.Nesting.{In}
use Rattle.ir_model.specs.Changes.{on_block, on_ops, on_region, in_blocks, in_regions, append_ops, append_blocks, without, put_before, put_after}
use Rattle.ir_model.proofs.IdCases.{id_cases, id_same, id_differs}
use Rattle.ir_model.proofs.Nests.{In-right, not_in-Absent}
use Rattle.ir_model.proofs.Relinks.{without_absent}
use Rattle.ir_model.proofs.TwoRuns.{id_tells}
use Rattle.ir_base_arenas.specs.Arena.{get}
use Rattle.ir_base_arenas.specs.Lists.{with_list}
use Rattle.ir_core_records.specs.declared.record.Region.{Region}
use Rattle.ir_core_records.specs.declared.records.Records.{Records}
use Rattle.ir_core_records.specs.Meaning.{forest_in, block_record}
use Rattle.ir_core_records.specs.Tree.{tree_of, ops_in, blocks_in}
use Rattle.ir_core_nesting.specs.Edits.{with_op_lists, with_block_lists}

-- what stands in a list splits it
pub In-split : {Y : Type 0} (x : Y) (xs : List Y) → In x xs → (a : List Y) × (b : List Y) × (xs ≡ a ++ x ∷ b)
In-split x [] h = absurd h
In-split x (y ∷ ys) (inl e) = ([], ys, ap (λ z. z ∷ ys) (sym e))
In-split x (y ∷ ys) (inr h) = let s = In-split x ys h in (y ∷ s.0, s.1, ap (λ zs. y ∷ zs) s.2)

-- the item before a split is not the one at it
other : (y x : ArenaIndex) (a b : List ArenaIndex) → Distinct (y ∷ a ++ x ∷ b) → y ≡ x → ⊥
other y x a b d e = not_in-Absent y (a ++ x ∷ b) d.0 (subst (λ z. In z (a ++ x ∷ b)) (sym e) (In-right x a (x ∷ b) (inl refl)))

pub without-middle : (x : ArenaIndex) (a b : List ArenaIndex) → Distinct (a ++ x ∷ b) → without same_id x (a ++ x ∷ b) ≡ a ++ b
without-middle x [] b d = rw (id_same x) (without_absent same_id id_tells x b (λ h. not_in-Absent x b d.0 h))
without-middle x (y ∷ a) b d = rw (id_differs y x (other y x a b d)) (ap (λ zs. y ∷ zs) (without-middle x a b d.1))

pub before-middle : (x mark : ArenaIndex) (a b : List ArenaIndex) → Distinct (a ++ mark ∷ b) → put_before same_id x mark (a ++ mark ∷ b) ≡ a ++ x ∷ mark ∷ b
before-middle x mark [] b d = rw (id_same mark) refl
before-middle x mark (y ∷ a) b d = rw (id_differs y mark (other y mark a b d)) (ap (λ zs. y ∷ zs) (before-middle x mark a b d.1))

pub after-middle : (x mark : ArenaIndex) (a b : List ArenaIndex) → Distinct (a ++ mark ∷ b) → put_after same_id x mark (a ++ mark ∷ b) ≡ a ++ mark ∷ x ∷ b
after-middle x mark [] b d = rw (id_same mark) refl
after-middle x mark (y ∷ a) b d = rw (id_differs y mark (other y mark a b d)) (ap (λ zs. y ∷ zs) (after-middle x mark a b d.1))

pub before-absent : (x mark : ArenaIndex) (xs : List ArenaIndex) → (In mark xs → ⊥) → put_before same_id x mark xs ≡ xs
before-absent x mark [] n = refl
before-absent x mark (y ∷ ys) n = rw (id_differs y mark (λ e. n (inl (sym e)))) (ap (λ zs. y ∷ zs) (before-absent x mark ys (λ h. n (inr h))))

pub after-absent : (x mark : ArenaIndex) (xs : List ArenaIndex) → (In mark xs → ⊥) → put_after same_id x mark xs ≡ xs
after-absent x mark [] n = refl
after-absent x mark (y ∷ ys) n = rw (id_differs y mark (λ e. n (inl (sym e)))) (ap (λ zs. y ∷ zs) (after-absent x mark ys (λ h. n (inr h))))

-- an edit of one list that leaves all others is an edit of each
pub spread : (lists : ArenaIndex → List ArenaIndex) (c : ArenaIndex) (xs : List ArenaIndex) (g : List ArenaIndex → List ArenaIndex) → xs ≡ g (lists c)
    → ((k : ArenaIndex) → (c ≡ k → ⊥) → g (lists k) ≡ lists k) → with_list lists c xs ≡ (λ k. g (lists k))
spread lists c xs g is others = fun_ext (λ k. elim (id_cases c k) [
  | inl e ↦ ap (λ q. cond q xs (lists k)) (ap (same_id c) (sym e) ∙ id_same c) ∙ is ∙ ap (λ z. g (lists z)) e
  | inr ne ↦ ap (λ q. cond q xs (lists k)) (id_differs c k ne) ∙ sym (others k ne)
])

-- records of containers, each with its list
module _ {B R : Type 0} (record_of : List ArenaIndex → B → R) (on : (List ArenaIndex → List ArenaIndex) → R → R)
    (puts : (h : List ArenaIndex → List ArenaIndex) (xs : List ArenaIndex) (x : B) → on h (record_of xs x) ≡ record_of (h xs) x) where
  mapped : (h : List ArenaIndex → List ArenaIndex) (xs : List ArenaIndex) (m : Option B) → option_map (on h) (option_map (record_of xs) m) ≡ option_map (record_of (h xs)) m
  mapped h xs None = refl
  mapped h xs (Some x) = ap Some (puts h xs x)

  -- the list of one container is edited
  one : (lists : ArenaIndex → List ArenaIndex) (g : List ArenaIndex → List ArenaIndex) (c k : ArenaIndex) (m : Option B)
      → option_map (record_of (with_list lists c (g (lists c)) k)) m ≡ cond (same_id k c) (option_map (on g) (option_map (record_of (lists k)) m)) (option_map (record_of (lists k)) m)
  one lists g c k m = elim (id_cases c k) [
    | inl e ↦ ap (λ (xs : List ArenaIndex). option_map (record_of xs) m) (ap (λ q. cond q (g (lists c)) (lists k)) (ap (same_id c) (sym e) ∙ id_same c) ∙ ap (λ z. g (lists z)) e)
        ∙ sym (mapped g (lists k) m)
        ∙ sym (ap (λ q. cond q (option_map (on g) (option_map (record_of (lists k)) m)) (option_map (record_of (lists k)) m)) (ap (λ z. same_id z c) (sym e) ∙ id_same c))
    | inr ne ↦ ap (λ (xs : List ArenaIndex). option_map (record_of xs) m) (ap (λ q. cond q (g (lists c)) (lists k)) (id_differs c k ne))
        ∙ sym (ap (λ q. cond q (option_map (on g) (option_map (record_of (lists k)) m)) (option_map (record_of (lists k)) m)) (id_differs k c (λ e. ne (sym e))))
  ]

  at_one : (lists : ArenaIndex → List ArenaIndex) (g : List ArenaIndex → List ArenaIndex) (c k : ArenaIndex) (m : Option B)
      → option_map (on (λ _. with_list lists c (g (lists c)) k)) (option_map (record_of (lists k)) m) ≡ cond (same_id k c) (option_map (on g) (option_map (record_of (lists k)) m)) (option_map (record_of (lists k)) m)
  at_one lists g c k m = mapped (λ _. with_list lists c (g (lists c)) k) (lists k) m ∙ one lists g c k m

  -- every list is edited
  at_each : (lists : ArenaIndex → List ArenaIndex) (g : List ArenaIndex → List ArenaIndex) (k : ArenaIndex) (m : Option B)
      → option_map (on (λ _. g (lists k))) (option_map (record_of (lists k)) m) ≡ option_map (on g) (option_map (record_of (lists k)) m)
  at_each lists g k m = mapped (λ _. g (lists k)) (lists k) m ∙ sym (mapped g (lists k) m)

  -- one list goes behind another
  joined : (lists : ArenaIndex → List ArenaIndex) (donee donor k : ArenaIndex) (m : Option B)
      → option_map (on (λ _. with_list (with_list lists donee (lists donee ++ lists donor)) donor [] k)) (option_map (record_of (lists k)) m)
      ≡ cond (same_id k donor)
      (option_map (on (λ _. [])) (cond (same_id k donee) (option_map (on (λ xs. xs ++ lists donor)) (option_map (record_of (lists k)) m)) (option_map (record_of (lists k)) m)))
      (cond (same_id k donee) (option_map (on (λ xs. xs ++ lists donor)) (option_map (record_of (lists k)) m)) (option_map (record_of (lists k)) m))
  joined lists donee donor k m =
      mapped (λ _. with_list (with_list lists donee (lists donee ++ lists donor)) donor [] k) (lists k) m
      ∙ one (with_list lists donee (lists donee ++ lists donor)) (λ _. []) donor k m
      ∙ ap (λ (o : Option R). cond (same_id k donor) (option_map (on (λ _. [])) o) o) (one lists (λ xs. xs ++ lists donor) donee k m)

module _ {D A K B S X L : Type 0} (t : Records D A K B S X L) where
  -- in the words of operations
  pub ops-at_one : (g : List ArenaIndex → List ArenaIndex) (c : ArenaIndex) → with_op_lists (forest_in t) (with_list (ops_in (tree_of t)) c (g (ops_in (tree_of t) c))) ≡ on_block (forest_in t) c (on_ops g)
  ops-at_one g c = λ i. record (forest_in t) { blocks = fun_ext (λ k. at_one block_record on_ops (λ h xs x. refl) (ops_in (tree_of t)) g c k (get t.blocks k)) i }

  pub ops-at_each : (g : List ArenaIndex → List ArenaIndex) → with_op_lists (forest_in t) (λ k. g (ops_in (tree_of t) k)) ≡ in_blocks (forest_in t) g
  ops-at_each g = λ i. record (forest_in t) { blocks = fun_ext (λ k. at_each block_record on_ops (λ h xs x. refl) (ops_in (tree_of t)) g k (get t.blocks k)) i }

  pub ops-joined : (donee donor : ArenaIndex)
      → with_op_lists (forest_in t) (with_list (with_list (ops_in (tree_of t)) donee (ops_in (tree_of t) donee ++ ops_in (tree_of t) donor)) donor [])
      ≡ append_ops (forest_in t) donee donor (ops_in (tree_of t) donor)
  ops-joined donee donor = λ i. record (forest_in t) { blocks = fun_ext (λ k. joined block_record on_ops (λ h xs x. refl) (ops_in (tree_of t)) donee donor k (get t.blocks k)) i }

  -- in the words of blocks
  pub blocks-at_one : (g : List ArenaIndex → List ArenaIndex) (c : ArenaIndex) → with_block_lists (forest_in t) (with_list (blocks_in (tree_of t)) c (g (blocks_in (tree_of t) c))) ≡ on_region (forest_in t) c g
  blocks-at_one g c = λ i. record (forest_in t) { regions = fun_ext (λ k. at_one (λ xs (x : Region). xs) (λ h. h) (λ h xs x. refl) (blocks_in (tree_of t)) g c k (get t.regions k)) i }

  pub blocks-at_each : (g : List ArenaIndex → List ArenaIndex) → with_block_lists (forest_in t) (λ k. g (blocks_in (tree_of t) k)) ≡ in_regions (forest_in t) g
  blocks-at_each g = λ i. record (forest_in t) { regions = fun_ext (λ k. at_each (λ xs (x : Region). xs) (λ h. h) (λ h xs x. refl) (blocks_in (tree_of t)) g k (get t.regions k)) i }

  pub blocks-joined : (donee donor : ArenaIndex)
      → with_block_lists (forest_in t) (with_list (with_list (blocks_in (tree_of t)) donee (blocks_in (tree_of t) donee ++ blocks_in (tree_of t) donor)) donor [])
      ≡ append_blocks (forest_in t) donee donor (blocks_in (tree_of t) donor)
  blocks-joined donee donor = λ i. record (forest_in t) { regions = fun_ext (λ k. joined (λ xs (x : Region). xs) (λ h. h) (λ h xs x. refl) (blocks_in (tree_of t)) donee donor k (get t.regions k)) i }
