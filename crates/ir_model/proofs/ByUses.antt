-- To redirect exactly the uses of a definition is to redirect all that names it.
use mathlib.Core.Path.{◌≡◌, refl, sym, ap, ◌∙◌, subst, fun_ext}
use Rattle.std.proofs.Common.{ℕ, inl, inr, Bool, true, false, cond, Option, Some, None, List, [], ◌∷◌, map}
use Rattle.std.specs.Prelude.{◌↔◌, IsTrue}
use Rattle.std.specs.Option.{option_map}
use Rattle.ir_model.specs.Ids.{Ids, Distinct}
use Rattle.ir_model.specs.Forest.{Dialect, OpRecord, Forest, Value, Operand, Successor, Entity, an_op, Named, a_value, the_block, same_value}
use Rattle.ir_model.specs.Nesting.{In, Inside, IsClosed, list_of, names_of, operands_of, successors_of, WellFormed}
use Rattle.ir_model.specs.Changes.{redirect, redirected, retarget, retargeted, on_operands, on_successors}
use Rattle.ir_model.specs.Redirect.{redirect_uses, retarget_uses}
use Rattle.ir_model.specs.Uses.{Use, IsUse}
use Rattle.ir_model.specs.Subtree.{DefinedInside}
use Rattle.ir_model.proofs.Renaming.{Tells}
use Rattle.ir_model.proofs.Loops.{Lawful}
use Rattle.ir_model.proofs.Redirected.{Entries, operand_entries, successor_entries, one_of, Distinct-front, Distinct-back, value_tells}

module _ {E U D : Type 0} (L : Entries E U D) (same : D → D → Bool) (tells : Tells same) (old : D) (xs : List E) (once : Distinct (map L.number xs))
    (set : U → Bool) (exact : (u : U) → IsTrue (set u) ↔ In (L.entry u old) xs) where
  -- the number of an entry is in the set exactly where the entry names the old definition
  same_choice : (e : E) → In e xs → set (L.number e) ≡ same (L.named e) old
  same_choice e h = by (set (L.number e)) (same (L.named e) old) refl refl
    where
      by : (s t : Bool) → set (L.number e) ≡ s → same (L.named e) old ≡ t → s ≡ t
      by true true p q = refl
      by false false p q = refl
      by true false p q =
          let k : In (L.entry (L.number e) old) xs = (exact (L.number e)).0 p in
          let one : e ≡ L.entry (L.number e) old = one_of L.number xs once e (L.entry (L.number e) old) h k (sym (L.number_is (L.number e) old)) in
          let names : L.named e ≡ old = ap L.named one ∙ L.named_is (L.number e) old in
          sym ((tells (L.named e) old).1 names) ∙ q
      by false true p q =
          let names : L.named e ≡ old = (tells (L.named e) old).0 q in
          let k : In (L.entry (L.number e) old) xs = subst (λ x. In x xs) (sym (L.entry_is e) ∙ ap (L.entry (L.number e)) names) h in
          sym p ∙ (exact (L.number e)).1 k

-- maps that agree on the items of a list
map_same : {A B : Type 0} (g h : A → B) (xs : List A) → ((x : A) → In x xs → g x ≡ h x) → map g xs ≡ map h xs
map_same g h [] e = refl
map_same g h (x ∷ xs) e = let more = map_same g h xs (λ y k. e y (inr k)) in λ i. e x (inl refl) i ∷ more i

module _ {N : Ids} {W : Dialect} (L : Lawful N) (f : Forest N W) (keys : ℕ) (w : WellFormed f keys) where
  pub values_by_uses : (old new : Value N) (set : Use N → Bool) → ((u : Use N) → IsTrue (set u) ↔ IsUse f (a_value old) u) → redirect_uses f set new ≡ redirect f old new
  values_by_uses old new set exact = ap (λ (ops : N.Op → Option (OpRecord N W)). record f { ops = ops }) (fun_ext (λ o. at o (f.ops o) (operands o)))
    where
      by_set : N.Op → Operand N → Operand N
      by_set o a = cond (set (record { user = o; number = a.use_number })) (record a { value = new }) a

      operands : (o : N.Op) → map (by_set o) (operands_of f o) ≡ map (redirected old new) (operands_of f o)
      operands o = map_same (by_set o) (redirected old new) (operands_of f o) (λ a h.
          ap (λ b. cond b (record a { value = new }) a)
          (same_choice (operand_entries N) (same_value N) (value_tells L) old (operands_of f o) (Distinct-front (map (λ (p : Operand N). p.use_number) (operands_of f o)) (map (λ (p : Successor N). p.use_number) (successors_of f o)) (w.uses_once o)) (λ u. set (record { user = o; number = u })) (λ u. exact (record { user = o; number = u })) a h))

      at : (o : N.Op) (m : Option (OpRecord N W)) → map (by_set o) (list_of (λ r. r.operands) m) ≡ map (redirected old new) (list_of (λ r. r.operands) m)
          → option_map (on_operands (map (by_set o))) m ≡ option_map (on_operands (map (redirected old new))) m
      at o None e = refl
      at o (Some r) e = ap (λ xs. Some (record r { operands = xs })) e

  pub blocks_by_uses : (old new : N.Block) (set : Use N → Bool) → ((u : Use N) → IsTrue (set u) ↔ IsUse f (the_block old) u) → retarget_uses f set new ≡ retarget f old new
  blocks_by_uses old new set exact = ap (λ (ops : N.Op → Option (OpRecord N W)). record f { ops = ops }) (fun_ext (λ o. at o (f.ops o) (successors o)))
    where
      by_set : N.Op → Successor N → Successor N
      by_set o a = cond (set (record { user = o; number = a.use_number })) (record a { block = new }) a

      successors : (o : N.Op) → map (by_set o) (successors_of f o) ≡ map (retargeted old new) (successors_of f o)
      successors o = map_same (by_set o) (retargeted old new) (successors_of f o) (λ a h.
          ap (λ b. cond b (record a { block = new }) a)
          (same_choice (successor_entries N) N.same_block L.blocks old (successors_of f o) (Distinct-back (map (λ (p : Operand N). p.use_number) (operands_of f o)) (map (λ (p : Successor N). p.use_number) (successors_of f o)) (w.uses_once o)) (λ u. set (record { user = o; number = u })) (λ u. exact (record { user = o; number = u })) a h))

      at : (o : N.Op) (m : Option (OpRecord N W)) → map (by_set o) (list_of (λ r. r.successors) m) ≡ map (retargeted old new) (list_of (λ r. r.successors) m)
          → option_map (on_successors (map (by_set o))) m ≡ option_map (on_successors (map (retargeted old new))) m
      at o None e = refl
      at o (Some r) e = ap (λ xs. Some (record r { successors = xs })) e

  -- what is named is live, so what is defined inside is all that counts
  pub closed_by_definitions : (e : Entity N) → IsClosed f e ↔ ((o : N.Op) (d : Named N) → In d (names_of f o) → DefinedInside f e d → Inside f e (an_op o))
  closed_by_definitions e = (λ closed o d h i. closed o d h i.1, λ by o d h i. by o d h (w.named o d h, i))
