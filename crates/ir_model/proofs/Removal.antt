-- What a removal leaves is determined, and so are the uses in it and the number of entities that it takes away.
use mathlib.Core.Path.{◌≡◌, refl, sym, ◌∙◌, subst, fun_ext}
use Rattle.std.proofs.Common.{◌≤◌, ◌+◌, inl, inr, Option, Some, None, List, [], ◌∷◌, length, arith}
use Rattle.ir_model.specs.Ids.{Ids, Distinct}
use Rattle.ir_model.specs.Forest.{Dialect, Entity, an_op, a_region, OpRecord, Forest, Named, a_value, the_block, owner, Operand, Successor}
use Rattle.ir_model.specs.Nesting.{In, Inside, IsClosed, list_of, operands_of, successors_of, names_of}
use Rattle.ir_model.specs.Changes.{Removes, but, on_regions}
use Rattle.ir_model.specs.Uses.{Use, IsUse}
use Rattle.ir_model.specs.Subtree.{ListsSubtree}
use Rattle.ir_model.proofs.Nests.{not_in-Absent, In-left, In-right, In-map}
use Rattle.ir_model.proofs.Keeps.{list_of-map}
use Rattle.ir_model.proofs.Entries.{AddsOne, here, later, AddsOne-in}

-- what is there is in some place
pub splits : {A : Type 0} (x : A) (xs : List A) → In x xs → (rest : List A) × AddsOne x rest xs
splits x [] h = elim h [ ]
splits x (y ∷ xs) (inl e) = (xs, subst (λ z. AddsOne z xs (y ∷ xs)) (sym e) here)
splits x (y ∷ xs) (inr h) = let more = splits x xs h in (y ∷ more.0, later more.1)

pub AddsOne-length : {A : Type 0} {x : A} {xs ys : List A} → AddsOne x xs ys → length ys ≡ length xs + 1
AddsOne-length here = omega arith
AddsOne-length (later h) = let more = AddsOne-length h in omega (arith, more)

-- a list without repeats is no longer than one that has all of it
pub length-within : {A : Type 0} (xs ys : List A) → Distinct xs → ((x : A) → In x xs → In x ys) → length xs ≤ length ys
length-within [] ys d h = omega arith
length-within (x ∷ xs) ys d h =
    let at = splits x ys (h x (inl refl)) in
    let fewer = length-within xs at.0 d.1 (λ z i. elim (AddsOne-in z at.1 (h z (inr i))) [
      | inl e ↦ absurd (not_in-Absent x xs d.0 (subst (λ y. In y xs) e i))
      | inr k ↦ k
    ]) in
    let longer = AddsOne-length at.1 in
    omega (arith, fewer, longer)

-- two lists without repeats of the same things are equally long
pub length-same : {A : Type 0} (xs ys : List A) → Distinct xs → Distinct ys → ((x : A) → In x xs → In x ys) → ((x : A) → In x ys → In x xs) → length xs ≡ length ys
length-same xs ys d e h k = let p = length-within xs ys d h in let q = length-within ys xs e k in omega (arith, p, q)

-- what is outside is known of each, and what is inside is gone
pub gone_or_kept : {A : Type 0} (Ins : Type 0) (g h kept : Option A) → (Ins → g ≡ None) → (Ins → h ≡ None) → ((Ins → ⊥) → g ≡ kept) → ((Ins → ⊥) → h ≡ kept) → g ≡ h
gone_or_kept Ins None None kept a b c d = refl
gone_or_kept Ins (Some x) h kept a b c d = let out : Ins → ⊥ = λ i. (let e : Some x ≡ None = a i in cc) in c out ∙ sym (d out)
gone_or_kept Ins None (Some y) kept a b c d = let out : Ins → ⊥ = λ i. (let e : Some y ≡ None = b i in cc) in c out ∙ sym (d out)

-- a list that is read off a record is empty, or what it was outside
pub read_off : {A B : Type 0} (Ins : Type 0) (of : B → List A) (now kept : Option B) → (Ins → now ≡ None) → ((Ins → ⊥) → now ≡ kept) → (x : A) → In x (list_of of now) → (Ins → ⊥) × In x (list_of of kept)
read_off Ins of None kept gone out x h = elim h [ ]
read_off Ins of (Some r) kept gone out x h =
    let not_in : Ins → ⊥ = λ i. (let e : Some r ≡ None = gone i in cc) in
    (not_in, subst (λ m. In x (list_of of m)) (out not_in) h)

module _ {N : Ids} {W : Dialect} where
  module _ (f g : Forest N W) (e : Entity N) (p : Removes f e g) where
    pub only : (h : Forest N W) → Removes f e h → g ≡ h
    only h q = λ i. record {
      ops = fun_ext (λ o. gone_or_kept _ (g.ops o) (h.ops o) _ (p.ops_inside o) (q.ops_inside o) (p.ops_outside o) (q.ops_outside o)) i;
      blocks = fun_ext (λ o. gone_or_kept _ (g.blocks o) (h.blocks o) _ (p.blocks_inside o) (q.blocks_inside o) (p.blocks_outside o) (q.blocks_outside o)) i;
      regions = fun_ext (λ o. gone_or_kept _ (g.regions o) (h.regions o) _ (p.regions_inside o) (q.regions_inside o) (p.regions_outside o) (q.regions_outside o)) i;
    }

    abbrev Left : N.Op → Type 0
    Left o = Inside f e (an_op o) → ⊥

    -- what an operation has in a list that a removal leaves alone
    left_in : {A : Type 0} (of : OpRecord N W → List A) → ((r : OpRecord N W) → of (on_regions (but e a_region) r) ≡ of r) → (o : N.Op) (x : A)
        → In x (list_of of (g.ops o)) → Left o × In x (list_of of (f.ops o))
    left_in of keeps o x h =
        let at = read_off _ of (g.ops o) _ (p.ops_inside o) (p.ops_outside o) x h in
        (at.0, subst (In x) (list_of-map of (on_regions (but e a_region)) keeps (f.ops o)) at.1)

    still_in : {A : Type 0} (of : OpRecord N W → List A) → ((r : OpRecord N W) → of (on_regions (but e a_region) r) ≡ of r) → (o : N.Op) (x : A)
        → Left o → In x (list_of of (f.ops o)) → In x (list_of of (g.ops o))
    still_in of keeps o x out h =
        subst (λ m. In x (list_of of m)) (sym (p.ops_outside o out)) (subst (In x) (sym (list_of-map of (on_regions (but e a_region)) keeps (f.ops o))) h)

    pub uses_left : (d : Named N) (u : Use N) → IsUse g d u → IsUse f d u × Left u.user
    uses_left (a_value v) u h = let at = left_in (λ r. r.operands) (λ r. refl) u.user _ h in (at.1, at.0)
    uses_left (the_block b) u h = let at = left_in (λ r. r.successors) (λ r. refl) u.user _ h in (at.1, at.0)

    pub uses_still : (d : Named N) (u : Use N) → IsUse f d u × Left u.user → IsUse g d u
    uses_still (a_value v) u h = still_in (λ r. r.operands) (λ r. refl) u.user _ h.1 h.0
    uses_still (the_block b) u h = still_in (λ r. r.successors) (λ r. refl) u.user _ h.1 h.0

    -- a use is a name
    use_names : (d : Named N) (u : Use N) → IsUse f d u → In d (names_of f u.user)
    use_names (a_value v) u h = In-left _ _ _ (In-map (λ (x : Operand N). a_value x.value) _ (operands_of f u.user) h)
    use_names (the_block b) u h = In-right _ _ _ (In-map (λ (x : Successor N). the_block x.block) _ (successors_of f u.user) h)

    pub unused : IsClosed f e → (d : Named N) (u : Use N) → Inside f e (owner N d) → IsUse g d u → ⊥
    unused closed d u h use_ = let at = uses_left d u use_ in at.1 (closed u.user d (use_names d u at.0) h)

  pub one_size : (f : Forest N W) (e : Entity N) (xs ys : List (Entity N)) → ListsSubtree f e xs → ListsSubtree f e ys → length xs ≡ length ys
  one_size f e xs ys p q = length-same xs ys p.once q.once (λ x h. (q.exact x).1 ((p.exact x).0 h)) (λ x h. (p.exact x).1 ((q.exact x).0 h))
