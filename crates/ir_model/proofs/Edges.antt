-- Where terminators alone name successors, the edges of the graph of blocks are the same from both ends.
use mathlib.Core.Path.{◌≡◌, refl, sym, ap, ◌∙◌, subst}
use Rattle.std.proofs.Common.{ℕ, zero, suc, ◌-◌, inl, inr, Bool, true, false, cond, Option, Some, None, List, [], ◌∷◌, length}
use Rattle.std.specs.Prelude.{slice_get}
use Rattle.std.specs.List.{AllZip}
use Rattle.std.specs.Option.{option_and_then}
use Rattle.ir_model.specs.Ids.{Ids}
use Rattle.ir_model.specs.Forest.{Dialect, Behaviour, Forest, Successor, the_block}
use Rattle.ir_model.specs.Nesting.{In, list_of, WellFormed, ops_of, successors_of}
use Rattle.ir_model.specs.Uses.{Use, IsUse}
use Rattle.ir_model.specs.BlockGraph.{implements, last_op, targets_of, terminator, succs, ArePredecessors, is_terminator_interface}
use Rattle.ir_model.proofs.Nests.{In-map, In-map_back}
use Rattle.ir_model.proofs.Relinks.{one_block}
use Rattle.ir_model.specs.DefinitionLaws.{SuccessorsMeetPredecessors}
use Rattle.ir_model.proofs.Loops.{Lawful}
use Rattle.ir_model.proofs.TwoRuns.{lawful}

pub got_in : {A : Type 0} (xs : List A) (n : ℕ) (x : A) → slice_get xs n ≡ Some x → In x xs
got_in [] n x e = absurd cc
got_in (y ∷ ys) zero x e = inl (let s : y ≡ x = cc in sym s)
got_in (y ∷ ys) (suc n) x e = inr (got_in ys n x e)

pub zip_left : {A B : Type 0} (R : A → B → Type 0) (xs : List A) (ys : List B) → AllZip R xs ys → (x : A) → In x xs → (y : B) × In y ys × R x y
zip_left R [] ys z x h = elim h [ ]
zip_left R (a ∷ xs) [] z x h = elim z [ ]
zip_left R (a ∷ xs) (b ∷ ys) z x (inl e) = (b, inl refl, subst (λ c. R c b) (sym e) z.0)
zip_left R (a ∷ xs) (b ∷ ys) z x (inr h) = let more = zip_left R xs ys z.1 x h in (more.0, inr more.1, more.2)

pub zip_right : {A B : Type 0} (R : A → B → Type 0) (xs : List A) (ys : List B) → AllZip R xs ys → (y : B) → In y ys → (x : A) × In x xs × R x y
zip_right R [] [] z y h = elim h [ ]
zip_right R (a ∷ xs) [] z y h = elim h [ ]
zip_right R [] (b ∷ ys) z y h = elim z [ ]
zip_right R (a ∷ xs) (b ∷ ys) z y (inl e) = (a, inl refl, subst (λ c. R a c) (sym e) z.0)
zip_right R (a ∷ xs) (b ∷ ys) z y (inr h) = let more = zip_right R xs ys z.1 y h in (more.0, inr more.1, more.2)

module _ {N : Ids} {W : Dialect} (L : Lawful N) (B : Behaviour W) (f : Forest N W) (keys : ℕ) (w : WellFormed f keys) where
  -- a terminator stands in its block
  terminator_in : (a : N.Block) (o : N.Op) → terminator B f a ≡ Some o → In o (ops_of f a)
  terminator_in a o e = by (last_op f a) refl e
    where
      pick : (p : N.Op) (t : Bool) → cond t (Some p) None ≡ Some o → p ≡ o
      pick p true e = cc
      pick p false e = absurd cc

      by : (m : Option N.Op) → last_op f a ≡ m → option_and_then (λ p. cond (implements B f is_terminator_interface p) (Some p) None) m ≡ Some o → In o (ops_of f a)
      by None s k = absurd cc
      by (Some p) s k = got_in (ops_of f a) (length (ops_of f a) - 1) o (s ∙ ap Some (pick p (implements B f is_terminator_interface p) k))

  -- a successor of the block is named by its terminator
  named_by : (a b : N.Block) → In b (succs B f a) → (o : N.Op) × (terminator B f a ≡ Some o) × In b (targets_of f o)
  named_by a b h = by (terminator B f a) refl h
    where
      by : (m : Option N.Op) → terminator B f a ≡ m → In b (list_of (targets_of f) m) → (o : N.Op) × (terminator B f a ≡ Some o) × In b (targets_of f o)
      by None e k = elim k [ ]
      by (Some o) e k = (o, e, k)

  target_use : (o : N.Op) (b : N.Block) → In b (targets_of f o) → (u : Use N) × IsUse f (the_block b) u × (u.user ≡ o)
  target_use o b h =
      let at = In-map_back (λ (p : Successor N). p.block) b (successors_of f o) h in
      (record { user = o; number = at.0.use_number }, subst (λ z. In z (successors_of f o)) (λ i. record { use_number = at.0.use_number; block = sym at.2 i }) at.1, refl)

  use_target : (u : Use N) (b : N.Block) → IsUse f (the_block b) u → In b (targets_of f u.user)
  use_target u b h = In-map (λ (p : Successor N). p.block) _ (successors_of f u.user) h

  pub forward : (a b : N.Block) (preds : List N.Block) → ArePredecessors f b preds → In b (succs B f a) → In a preds
  forward a b preds p h =
      let named = named_by a b h in
      let u = target_use named.0 b named.2 in
      let at = zip_left (λ (v : Use N) c. In v.user (ops_of f c)) p.uses preds p.in_order u.0 ((p.are_uses.exact u.0).1 u.1) in
      let same = one_block L f keys w named.0 a at.0 (terminator_in a named.0 named.1) (subst (λ z. In z (ops_of f at.0)) u.2 at.2) in
      subst (λ z. In z preds) (sym same) at.1

  pub back : ((o : N.Op) (b : N.Block) → In b (targets_of f o) → (a : N.Block) × (terminator B f a ≡ Some o))
      → (a b : N.Block) (preds : List N.Block) → ArePredecessors f b preds → In a preds → In b (succs B f a)
  back only a b preds p h =
      let at = zip_right (λ (v : Use N) c. In v.user (ops_of f c)) p.uses preds p.in_order a h in
      let target = use_target at.0 b ((p.are_uses.exact at.0).0 at.1) in
      let ends = only at.0.user b target in
      let same = one_block L f keys w at.0.user a ends.0 at.2 (terminator_in ends.0 at.0.user ends.1) in
      subst (λ z. In b (succs B f z)) (sym same) (subst (λ m. In b (list_of (targets_of f) m)) (sym ends.1) target)

pub edges_meet : (W : Dialect) (B : Behaviour W) → SuccessorsMeetPredecessors W B
edges_meet W B f keys w only a b preds p = (forward lawful B f keys w a b preds p, back lawful B f keys w only a b preds p)
