-- When all uses of one definition come to name another, the first has none left and the second has those of both.
use mathlib.Core.Path.{◌≡◌, refl, sym, ap, ◌∙◌, subst}
use Rattle.std.proofs.Common.{ℕ, ◌≢◌, ◌+◌, ◌⊎◌, inl, inr, Bool, true, false, ◌&&◌, cond, Option, Some, None, List, [], ◌∷◌, ◌++◌, map, length, length-append}
use Rattle.std.specs.Prelude.{◌↔◌}
use Rattle.std.specs.Option.{option_map}
use Rattle.ir_model.specs.Ids.{Ids, Distinct}
use Rattle.ir_model.specs.Forest.{Dialect, of_op, of_block, Value, OpRecord, Forest, Operand, Successor, a_value, the_block, same_definer, same_value}
use Rattle.ir_model.specs.Nesting.{In, list_of, WellFormed, operands_of, successors_of}
use Rattle.ir_model.specs.Changes.{redirect, redirected, retarget, retargeted, on_operands, on_successors}
use Rattle.ir_model.specs.Uses.{Use, IsUse, AreUses}
use Rattle.ir_model.proofs.Renaming.{Tells}
use Rattle.ir_model.proofs.Loops.{Lawful}
use Rattle.ir_model.proofs.Nests.{In-append, In-left, In-right, In-map, In-map_back, Absent-not_in, not_in-Absent, Distinct-append}
use Rattle.ir_model.proofs.Relinks.{differs}
use Rattle.ir_model.proofs.Removal.{length-same}

-- where the images are distinct, equal images are of one
pub one_of : {A B : Type 0} (f : A → B) (xs : List A) → Distinct (map f xs) → (x y : A) → In x xs → In y xs → f x ≡ f y → x ≡ y
one_of f [] d x y h k e = elim h [ ]
one_of f (z ∷ zs) d x y (inl p) (inl q) e = p ∙ sym q
one_of f (z ∷ zs) d x y (inl p) (inr k) e = absurd (not_in-Absent (f z) (map f zs) d.0 (subst (λ w. In w (map f zs)) (sym e ∙ ap f p) (In-map f y zs k)))
one_of f (z ∷ zs) d x y (inr h) (inl q) e = absurd (not_in-Absent (f z) (map f zs) d.0 (subst (λ w. In w (map f zs)) (e ∙ ap f q) (In-map f x zs h)))
one_of f (z ∷ zs) d x y (inr h) (inr k) e = one_of f zs d.1 x y h k e

pub Distinct-front : {A : Type 0} (xs ys : List A) → Distinct (xs ++ ys) → Distinct xs
Distinct-front [] ys d = tt
Distinct-front (x ∷ xs) ys d = (Absent-not_in x xs (λ h. not_in-Absent x (xs ++ ys) d.0 (In-left x xs ys h)), Distinct-front xs ys d.1)

pub Distinct-back : {A : Type 0} (xs ys : List A) → Distinct (xs ++ ys) → Distinct ys
Distinct-back [] ys d = d
Distinct-back (x ∷ xs) ys d = Distinct-back xs ys d.1

-- operands and successors alike: entries with a number and what they name
pub record Entries (E U D : Type 0) : Type 0 where
  pub number : E → U
  pub named : E → D
  pub entry : U → D → E
  pub number_is : (u : U) (d : D) → number (entry u d) ≡ u
  pub named_is : (u : U) (d : D) → named (entry u d) ≡ d
  pub entry_is : (e : E) → entry (number e) (named e) ≡ e

-- the entry names the new, where it named the old
abbrev change : {E U D : Type 0} → Entries E U D → (D → D → Bool) → D → D → E → E
change L same old new e = cond (same (L.named e) old) (L.entry (L.number e) new) e

module _ {E U D : Type 0} (L : Entries E U D) (same : D → D → Bool) (tells : Tells same) (old new : D) where
  change_old : (u : U) → change L same old new (L.entry u old) ≡ L.entry u new
  change_old u = by (same (L.named (L.entry u old)) old) ((tells _ _).1 (L.named_is u old))
    where
      by : (t : Bool) → t ≡ true → cond t (L.entry (L.number (L.entry u old)) new) (L.entry u old) ≡ L.entry u new
      by true e = ap (λ z. L.entry z new) (L.number_is u old)
      by false e = absurd cc

  change_new : old ≢ new → (u : U) → change L same old new (L.entry u new) ≡ L.entry u new
  change_new differ u = by (same (L.named (L.entry u new)) old) (differs same tells _ _ (λ k. differ (sym k ∙ L.named_is u new)))
    where
      by : (t : Bool) → t ≡ false → cond t (L.entry (L.number (L.entry u new)) new) (L.entry u new) ≡ L.entry u new
      by true e = absurd cc
      by false e = refl

module _ {N : Ids} {E D : Type 0} (L : Entries E N.UseNumber D) (same : D → D → Bool) (tells : Tells same) (old new : D) (differ : old ≢ new)
    (entries : N.Op → List E) (once : (o : N.Op) → Distinct (map L.number (entries o))) where
  abbrev Was : D → Use N → Type 0
  Was d u = In (L.entry u.number d) (entries u.user)

  abbrev Becomes : D → Use N → Type 0
  Becomes d u = In (L.entry u.number d) (map (change L same old new) (entries u.user))

  -- an entry after the change is new, or one that did not name the old
  from : (d : D) (u : Use N) → Becomes d u → ((d ≡ new) × Was old u) ⊎ ((d ≢ old) × Was d u)
  from d u h = let at = In-map_back (change L same old new) (L.entry u.number d) (entries u.user) h in by at.0 at.1 (same (L.named at.0) old) refl at.2
    where
      by : (e : E) → In e (entries u.user) → (t : Bool) → same (L.named e) old ≡ t → L.entry u.number d ≡ cond t (L.entry (L.number e) new) e → ((d ≡ new) × Was old u) ⊎ ((d ≢ old) × Was d u)
      by e here true s q =
          let n : u.number ≡ L.number e = sym (L.number_is u.number d) ∙ ap L.number q ∙ L.number_is (L.number e) new in
          let is : L.entry (L.number e) old ≡ e = ap (L.entry (L.number e)) (sym ((tells (L.named e) old).0 s)) ∙ L.entry_is e in
          inl (
            sym (L.named_is u.number d) ∙ ap L.named q ∙ L.named_is (L.number e) new,
            subst (λ z. In (L.entry z old) (entries u.user)) (sym n) (subst (λ z. In z (entries u.user)) (sym is) here),
          )
      by e here false s q = inr (
        λ k. (let m : L.named e ≡ old = sym (ap L.named q) ∙ L.named_is u.number d ∙ k in let t : same (L.named e) old ≡ true = (tells (L.named e) old).1 m in cc),
        subst (λ z. In z (entries u.user)) (sym q) here,
      )

  pub none_left : (u : Use N) → Becomes old u → ⊥
  none_left u h = elim (from old u h) [ inl k ↦ differ k.0 | inr k ↦ k.0 refl ]

  to_new : (u : Use N) → Was old u ⊎ Was new u → Becomes new u
  to_new u (inl h) = subst (λ z. In z (map (change L same old new) (entries u.user))) (change_old L same tells old new u.number) (In-map (change L same old new) (L.entry u.number old) (entries u.user) h)
  to_new u (inr h) = subst (λ z. In z (map (change L same old new) (entries u.user))) (change_new L same tells old new differ u.number) (In-map (change L same old new) (L.entry u.number new) (entries u.user) h)

  -- no number stands at both
  apart : (u : Use N) → Was old u → Was new u → ⊥
  apart u h k =
      let e = one_of L.number (entries u.user) (once u.user) (L.entry u.number old) (L.entry u.number new) h k (L.number_is u.number old ∙ sym (L.number_is u.number new)) in
      differ (sym (L.named_is u.number old) ∙ ap L.named e ∙ L.named_is u.number new)

  pub sum : (us vs ws : List (Use N)) → Distinct us → Distinct vs → Distinct ws
      → ((u : Use N) → In u us ↔ Was old u) → ((u : Use N) → In u vs ↔ Was new u) → ((u : Use N) → In u ws ↔ Becomes new u) → length ws ≡ length us + length vs
  sum us vs ws d e c p q r =
      length-same ws (us ++ vs) c (Distinct-append us vs d e (λ u h k. apart u ((p u).0 h) ((q u).0 k)))
      (λ u h. elim (from new u ((r u).0 h)) [ inl k ↦ In-left u us vs ((p u).1 k.1) | inr k ↦ In-right u us vs ((q u).1 k.1) ])
      (λ u h. (r u).1 (to_new u (elim (In-append u us vs h) [ inl k ↦ inl ((p u).0 k) | inr k ↦ inr ((q u).0 k) ])))
      ∙ length-append us vs

pub both_true : (p q : Bool) → (p && q) ≡ true → (p ≡ true) × (q ≡ true)
both_true true q e = (refl, e)
both_true false q e = absurd cc

module _ {N : Ids} (L : Lawful N) where
  pub definer_tells : Tells (same_definer N)
  definer_tells (of_op o) (of_op p) = (λ e. ap of_op ((L.ops o p).0 e), λ e. (L.ops o p).1 cc)
  definer_tells (of_block b) (of_block c) = (λ e. ap of_block ((L.blocks b c).0 e), λ e. (L.blocks b c).1 cc)
  definer_tells (of_op o) (of_block c) = (λ e. absurd cc, λ e. absurd cc)
  definer_tells (of_block b) (of_op p) = (λ e. absurd cc, λ e. absurd cc)

  pub value_tells : Tells (same_value N)
  value_tells v w = (
    λ e. let both = both_true (same_definer N v.definer w.definer) (N.same_number v.number w.number) e in
        λ i. record { definer = (definer_tells v.definer w.definer).0 both.0 i; number = (L.numbers v.number w.number).0 both.1 i },
    λ e. let d : same_definer N v.definer w.definer ≡ true = (definer_tells v.definer w.definer).1 (ap (λ (x : Value N). x.definer) e) in
        let n : N.same_number v.number w.number ≡ true = (L.numbers v.number w.number).1 (ap (λ (x : Value N). x.number) e) in rw (d, n),
  )

abbrev pub operand_entries : (N : Ids) → Entries (Operand N) N.UseNumber (Value N)
operand_entries N = record { number = λ p. p.use_number; named = λ p. p.value; entry = λ u v. record { use_number = u; value = v }; number_is = λ u d. refl; named_is = λ u d. refl; entry_is = λ e. refl }

abbrev pub successor_entries : (N : Ids) → Entries (Successor N) N.UseNumber N.Block
successor_entries N = record { number = λ p. p.use_number; named = λ p. p.block; entry = λ u b. record { use_number = u; block = b }; number_is = λ u d. refl; named_is = λ u d. refl; entry_is = λ e. refl }

-- a list that is rewritten in each record
rewritten : {A B : Type 0} (of : B → List A) (on : (List A → List A) → B → B) (h : List A → List A) → ((r : B) → of (on h r) ≡ h (of r)) → h [] ≡ [] → (m : Option B) → list_of of (option_map (on h) m) ≡ h (list_of of m)
rewritten of on h keeps empty None = sym empty
rewritten of on h keeps empty (Some r) = keeps r

module _ {N : Ids} {W : Dialect} (L : Lawful N) (f : Forest N W) (keys : ℕ) (w : WellFormed f keys) where
  module _ (old new : Value N) (differ : old ≢ new) where
    redirected_operands : (o : N.Op) → operands_of (redirect f old new) o ≡ map (redirected old new) (operands_of f o)
    redirected_operands o = rewritten (λ (r : OpRecord N W). r.operands) on_operands (map (redirected old new)) (λ r. refl) refl (f.ops o)

    once_operands : (o : N.Op) → Distinct (map (λ (p : Operand N). p.use_number) (operands_of f o))
    once_operands o = Distinct-front _ _ (w.uses_once o)

    to_redirected : (v : Value N) (u : Use N) → IsUse (redirect f old new) (a_value v) u → In (record { use_number = u.number; value = v }) (map (redirected old new) (operands_of f u.user))
    to_redirected v u h = subst (λ l. In (record { use_number = u.number; value = v }) l) (redirected_operands u.user) h

    from_redirected : (v : Value N) (u : Use N) → In (record { use_number = u.number; value = v }) (map (redirected old new) (operands_of f u.user)) → IsUse (redirect f old new) (a_value v) u
    from_redirected v u h = subst (λ l. In (record { use_number = u.number; value = v }) l) (sym (redirected_operands u.user)) h

    pub value_none : (u : Use N) → IsUse (redirect f old new) (a_value old) u → ⊥
    value_none u h = none_left (operand_entries N) (same_value N) (value_tells L) old new differ (operands_of f) once_operands u (to_redirected old u h)

    pub value_all : (us vs ws : List (Use N)) → AreUses f (a_value old) us → AreUses f (a_value new) vs → AreUses (redirect f old new) (a_value new) ws → length ws ≡ length us + length vs
    value_all us vs ws p q r = sum (operand_entries N) (same_value N) (value_tells L) old new differ (operands_of f) once_operands us vs ws p.once q.once r.once
        p.exact q.exact (λ u. (λ h. to_redirected new u ((r.exact u).0 h), λ h. (r.exact u).1 (from_redirected new u h)))

  module _ (old new : N.Block) (differ : old ≢ new) where
    retargeted_successors : (o : N.Op) → successors_of (retarget f old new) o ≡ map (retargeted old new) (successors_of f o)
    retargeted_successors o = rewritten (λ (r : OpRecord N W). r.successors) on_successors (map (retargeted old new)) (λ r. refl) refl (f.ops o)

    once_successors : (o : N.Op) → Distinct (map (λ (p : Successor N). p.use_number) (successors_of f o))
    once_successors o = Distinct-back _ _ (w.uses_once o)

    to_retargeted : (b : N.Block) (u : Use N) → IsUse (retarget f old new) (the_block b) u → In (record { use_number = u.number; block = b }) (map (retargeted old new) (successors_of f u.user))
    to_retargeted b u h = subst (λ l. In (record { use_number = u.number; block = b }) l) (retargeted_successors u.user) h

    from_retargeted : (b : N.Block) (u : Use N) → In (record { use_number = u.number; block = b }) (map (retargeted old new) (successors_of f u.user)) → IsUse (retarget f old new) (the_block b) u
    from_retargeted b u h = subst (λ l. In (record { use_number = u.number; block = b }) l) (sym (retargeted_successors u.user)) h

    pub block_none : (u : Use N) → IsUse (retarget f old new) (the_block old) u → ⊥
    block_none u h = none_left (successor_entries N) N.same_block L.blocks old new differ (successors_of f) once_successors u (to_retargeted old u h)

    pub block_all : (us vs ws : List (Use N)) → AreUses f (the_block old) us → AreUses f (the_block new) vs → AreUses (retarget f old new) (the_block new) ws → length ws ≡ length us + length vs
    block_all us vs ws p q r = sum (successor_entries N) N.same_block L.blocks old new differ (successors_of f) once_successors us vs ws p.once q.once r.once
        p.exact q.exact (λ u. (λ h. to_retargeted new u ((r.exact u).0 h), λ h. (r.exact u).1 (from_retargeted new u h)))
