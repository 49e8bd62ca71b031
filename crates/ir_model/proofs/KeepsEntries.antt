-- Operands and successors put in, taken out and replaced keep a forest well formed.
use mathlib.Core.Path.{◌≡◌, refl, sym, ap, ◌∙◌, subst}
use Rattle.std.proofs.Common.{ℕ, ◌⊎◌, inl, inr, Bool, true, false, Option, Some, None, List, [], ◌∷◌, ◌++◌, map, cond}
use Rattle.std.specs.List.{insert, remove}
use Rattle.std.specs.Option.{option_map}
use Rattle.ir_model.specs.Ids.{Ids, Distinct}
use Rattle.ir_model.specs.Forest.{Dialect, Value, OpRecord, Forest, Operand, Successor, Named, a_value, the_block}
use Rattle.ir_model.specs.Nesting.{In, list_of, IsLiveNamed, WellFormed, use_numbers_of, names_of}
use Rattle.ir_model.specs.Changes.{rewrite, on_op, on_operands, on_successors, operand, successor}
use Rattle.ir_model.proofs.Loops.{Lawful}
use Rattle.ir_model.proofs.Keeps.{rewrite_at}
use Rattle.ir_model.proofs.Parts.{Kept}
use Rattle.ir_model.proofs.KeepsUses.{kept_uses, on_uses, use_numbers, named_by, uses_are, names_are}
use Rattle.ir_model.proofs.Trees.{Sub, Sub-all, Sub-map, Sub-append, Sub-remove, Sub-in, Sub-distinct}
use Rattle.ir_model.proofs.Entries.{AddsOne, AddsOne-map, AddsOne-before, AddsOne-behind, AddsOne-push, AddsOne-insert, AddsOne-in, AddsOne-distinct}

-- the second list has x, somewhere among what is left of the first
pub record Puts {A : Type 0} (x : A) (xs ys : List A) : Type 0 where
  pub left : List A
  pub fewer : Sub left xs
  pub one : AddsOne x left ys

module _ {A : Type 0} where
  puts-map : {B : Type 0} (f : A → B) {x : A} {xs ys : List A} → Puts x xs ys → Puts (f x) (map f xs) (map f ys)
  puts-map f p = record { left = map f p.left; fewer = Sub-map f p.fewer; one = AddsOne-map f p.one }

  puts-before : {x : A} {xs ys : List A} (zs : List A) → Puts x xs ys → Puts x (xs ++ zs) (ys ++ zs)
  puts-before zs p = record { left = p.left ++ zs; fewer = Sub-append p.fewer (Sub-all zs); one = AddsOne-before zs p.one }

  puts-behind : {x : A} {xs ys : List A} (zs : List A) → Puts x xs ys → Puts x (zs ++ xs) (zs ++ ys)
  puts-behind zs p = record { left = zs ++ p.left; fewer = Sub-append (Sub-all zs) p.fewer; one = AddsOne-behind zs p.one }

  puts-in : {x : A} {xs ys : List A} (z : A) → Puts x xs ys → In z ys → (z ≡ x) ⊎ In z xs
  puts-in z p h = elim (AddsOne-in z p.one h) [ inl e ↦ inl e | inr k ↦ inr (Sub-in z p.fewer k) ]

  puts-distinct : {x : A} {xs ys : List A} → Puts x xs ys → Distinct xs → (In x xs → ⊥) → Distinct ys
  puts-distinct p d n = AddsOne-distinct p.one (Sub-distinct p.fewer d) (λ h. n (Sub-in _ p.fewer h))

  pub push-puts : (x : A) (xs : List A) → Puts x xs (xs ++ x ∷ [])
  push-puts x xs = record { left = xs; fewer = Sub-all xs; one = AddsOne-push x xs }

  pub insert-puts : (at : ℕ) (x : A) (xs : List A) → Puts x xs (insert xs at x)
  insert-puts at x xs = record { left = xs; fewer = Sub-all xs; one = AddsOne-insert x xs at }

  pub replace-puts : (at : ℕ) (x : A) (xs : List A) → Puts x xs (insert (remove xs at) at x)
  replace-puts at x xs = record { left = remove xs at; fewer = Sub-remove xs at; one = AddsOne-insert x (remove xs at) at }

module _ {N : Ids} {W : Dialect} where
  shape_at : (same : N.Op → N.Op → Bool) (o : N.Op) (G : List (Operand N) → List (Operand N)) (H : List (Successor N) → List (Successor N)) (m : N.Op → Option (OpRecord N W)) (p : N.Op)
      → rewrite same o (on_uses G H) m p ≡ option_map (on_uses (λ ps. cond (same p o) (G ps) ps) (λ ps. cond (same p o) (H ps) ps)) (m p)
  shape_at same o G H m p = by (same p o) (m p)
    where
      by : (t : Bool) (x : Option (OpRecord N W)) → cond t (option_map (on_uses G H) x) x ≡ option_map (on_uses (λ ps. cond t (G ps) ps) (λ ps. cond t (H ps) ps)) x
      by true None = refl
      by true (Some r) = refl
      by false None = refl
      by false (Some r) = refl

  module _ (L : Lawful N) (f : Forest N W) (keys : ℕ) (new : List N.UseNumber) (w : WellFormed f keys) (o : N.Op) (r : OpRecord N W) (is : f.ops o ≡ Some r) where
    module _ (G : List (Operand N) → List (Operand N)) (H : List (Successor N) → List (Successor N)) where
      abbrev after : Forest N W
      after = on_op f o (on_uses G H)

      -- the record is the rewritten one, or the old one
      use_case : (p : N.Op) → ((p ≡ o) × (use_numbers_of after p ≡ use_numbers (on_uses G H r)) × (use_numbers_of f p ≡ use_numbers r) × (names_of after p ≡ named_by (on_uses G H r)) × (names_of f p ≡ named_by r))
          ⊎ ((use_numbers_of after p ≡ use_numbers_of f p) × (names_of after p ≡ names_of f p))
      use_case p = elim (rewrite_at N.same_op L.ops o (on_uses G H) f.ops p) [
        | inl e ↦ inl (
            let was : f.ops p ≡ Some r = ap f.ops e.0 ∙ is in
            let now : after.ops p ≡ Some (on_uses G H r) = e.1 ∙ ap (option_map (on_uses G H)) was in
            (e.0, uses_are after p ∙ ap (list_of use_numbers) now, uses_are f p ∙ ap (list_of use_numbers) was, names_are after p ∙ ap (list_of named_by) now, names_are f p ∙ ap (list_of named_by) was))
        | inr e ↦ inr (uses_are after p ∙ ap (list_of use_numbers) e.1 ∙ sym (uses_are f p), names_are after p ∙ ap (list_of named_by) e.1 ∙ sym (names_are f p))
      ]

      pub puts_kept : (u : N.UseNumber) (d : Named N) → Puts u (use_numbers r) (use_numbers (on_uses G H r)) → Puts d (named_by r) (named_by (on_uses G H r))
          → In u new → ((p : N.Op) → In u (use_numbers_of f p) → ⊥) → IsLiveNamed f d → Kept f after keys new
      puts_kept u d puts puts_name made unused live = kept_uses f after.ops (λ p ps. cond (N.same_op p o) (G ps) ps) (λ p ps. cond (N.same_op p o) (H ps) ps) (shape_at N.same_op o G H f.ops) keys new w uses once named
          (λ p v h. elim (in_use p v h) [ inl e ↦ inr (rw e.0 made) | inr i ↦ inl i ])
        where
          in_use : (p : N.Op) (v : N.UseNumber) → In v (use_numbers_of after p) → ((v ≡ u) × (p ≡ o)) ⊎ In v (use_numbers_of f p)
          in_use p v h = elim (use_case p) [
            | inl e ↦ elim (puts-in v puts (rw e.1 at h)) [ inl s ↦ inl (s, e.0) | inr i ↦ inr (rw e.2 i) ]
            | inr e ↦ inr (rw e.0 at h)
          ]

          uses : (p q : N.Op) (v : N.UseNumber) → In v (use_numbers_of after p) → In v (use_numbers_of after q) → p ≡ q
          uses p q v h k = elim (in_use p v h) [
            | inl e ↦ elim (in_use q v k) [ inl g ↦ e.1 ∙ sym g.1 | inr j ↦ absurd (unused q (subst (λ x. In x (use_numbers_of f q)) e.0 j)) ]
            | inr i ↦ elim (in_use q v k) [ inl g ↦ absurd (unused p (subst (λ x. In x (use_numbers_of f p)) g.0 i)) | inr j ↦ w.uses p q v i j ]
          ]

          once : (p : N.Op) → Distinct (use_numbers_of after p)
          once p = elim (use_case p) [
            | inl e ↦ rw e.1 (puts-distinct puts (rw e.2 at (w.uses_once p)) (λ h. unused p (rw e.2 h)))
            | inr e ↦ rw e.0 (w.uses_once p)
          ]

          named : (p : N.Op) (c : Named N) → In c (names_of after p) → IsLiveNamed f c
          named p c h = elim (use_case p) [
            | inl e ↦ elim (puts-in c puts_name (rw e.3 at h)) [ inl s ↦ subst (IsLiveNamed f) (sym s) live | inr i ↦ w.named p c (rw e.4 i) ]
            | inr e ↦ w.named p c (rw e.1 at h)
          ]

      pub loses_kept : Sub (use_numbers (on_uses G H r)) (use_numbers r) → Sub (named_by (on_uses G H r)) (named_by r) → Kept f after keys new
      loses_kept fewer fewer_names = kept_uses f after.ops (λ p ps. cond (N.same_op p o) (G ps) ps) (λ p ps. cond (N.same_op p o) (H ps) ps) (shape_at N.same_op o G H f.ops) keys new w
          (λ p q v h k. w.uses p q v (still_use p v h) (still_use q v k)) once named (λ p v h. inl (still_use p v h))
        where
          still_use : (p : N.Op) (v : N.UseNumber) → In v (use_numbers_of after p) → In v (use_numbers_of f p)
          still_use p v h = elim (use_case p) [ inl e ↦ rw e.2 (Sub-in v fewer (rw e.1 at h)) | inr e ↦ rw e.0 at h ]

          once : (p : N.Op) → Distinct (use_numbers_of after p)
          once p = elim (use_case p) [ inl e ↦ rw e.1 (Sub-distinct fewer (rw e.2 at (w.uses_once p))) | inr e ↦ rw e.0 (w.uses_once p) ]

          named : (p : N.Op) (c : Named N) → In c (names_of after p) → IsLiveNamed f c
          named p c h = elim (use_case p) [ inl e ↦ w.named p c (rw e.4 (Sub-in c fewer_names (rw e.3 at h))) | inr e ↦ w.named p c (rw e.1 at h) ]

    -- an operand that is put in, by a push, an insertion or in the place of another
    pub operand_kept : (G : List (Operand N) → List (Operand N)) (u : N.UseNumber) (v : Value N) → ((ps : List (Operand N)) → Puts (operand (u, v)) ps (G ps))
        → In u new → ((p : N.Op) → In u (use_numbers_of f p) → ⊥) → IsLiveNamed f (a_value v) → Kept f (on_op f o (on_operands G)) keys new
    operand_kept G u v puts = puts_kept G (λ ps. ps) u (a_value v)
        (puts-before _ (puts-map (λ (p : Operand N). p.use_number) (puts r.operands))) (puts-before _ (puts-map (λ (p : Operand N). a_value p.value) (puts r.operands)))

    pub successor_kept : (H : List (Successor N) → List (Successor N)) (u : N.UseNumber) (b : N.Block) → ((ps : List (Successor N)) → Puts (successor (u, b)) ps (H ps))
        → In u new → ((p : N.Op) → In u (use_numbers_of f p) → ⊥) → IsLiveNamed f (the_block b) → Kept f (on_op f o (on_successors H)) keys new
    successor_kept H u b puts = puts_kept (λ ps. ps) H u (the_block b)
        (puts-behind _ (puts-map (λ (p : Successor N). p.use_number) (puts r.successors))) (puts-behind _ (puts-map (λ (p : Successor N). the_block p.block) (puts r.successors)))

    pub RemoveOperand-kept : (at : ℕ) → Kept f (on_op f o (on_operands (λ ps. remove ps at))) keys new
    RemoveOperand-kept at = loses_kept (λ ps. remove ps at) (λ ps. ps)
        (Sub-append (Sub-map (λ (p : Operand N). p.use_number) (Sub-remove r.operands at)) (Sub-all _)) (Sub-append (Sub-map (λ (p : Operand N). a_value p.value) (Sub-remove r.operands at)) (Sub-all _))

    pub RemoveSuccessor-kept : (at : ℕ) → Kept f (on_op f o (on_successors (λ ps. remove ps at))) keys new
    RemoveSuccessor-kept at = loses_kept (λ ps. ps) (λ ps. remove ps at)
        (Sub-append (Sub-all _) (Sub-map (λ (p : Successor N). p.use_number) (Sub-remove r.successors at))) (Sub-append (Sub-all _) (Sub-map (λ (p : Successor N). the_block p.block) (Sub-remove r.successors at)))
