-- A merging in a block in order leaves it in order, and what stands before the later operation as it was.
use mathlib.Core.Path.{◌≡◌, refl, sym, ap, ◌∙◌, subst}
use Rattle.std.proofs.Common.{ℕ, inl, inr, Bool, true, false, not, cond, Option, Some, None, List, [], ◌∷◌, map, IsSome}
use Rattle.std.specs.List.{filter, AllZip}
use Rattle.std.specs.Option.{option_map}
use Rattle.ir_model.specs.Ids.{Ids, Distinct}
use Rattle.ir_model.specs.Forest.{Dialect, Behaviour, of_op, an_op, a_block, OpRecord, Forest, Value, Operand}
use Rattle.ir_model.specs.Nesting.{In, list_of, WellFormed, ops_of, operands_of}
use Rattle.ir_model.specs.Changes.{on_operands}
use Rattle.ir_model.proofs.Loops.{Lawful}
use Rattle.ir_model.proofs.Nests.{In-map_back}
use Rattle.ir_model.proofs.Keeps.{Distinct-unmap}
use Rattle.ir_model.proofs.Filters.{In-filter, In-kept}
use Rattle.ir_model_passes.specs.Meaning.{SameAttributes}
use Rattle.ir_model_passes.specs.Merging.{StandsBefore, MergesOne, MovesBack, OperandsMoveBack}
use Rattle.ir_model_passes.specs.InOrder.{InOrder, EachIsSeen, SeesEarlier, LeavesInOrder}
use Rattle.ir_model_passes.proofs.Preorder.{is_there}
use Rattle.ir_model_passes.proofs.Merged.{moved, moved_case, pairs, given_so, before_in, before_differs, list_left, op_case, op_was, of_op_one}
use Rattle.ir_model_passes.proofs.Merges.{before_kept, before_then}

map_fixed : {A : Type 0} (h : A → A) (xs : List A) → ((x : A) → In x xs → h x ≡ x) → map h xs ≡ xs
map_fixed h [] e = refl
map_fixed h (x ∷ xs) e = ap (λ y. y ∷ map h xs) (e x (inl refl)) ∙ ap (λ ys. x ∷ ys) (map_fixed h xs (λ y k. e y (inr k)))

module _ {N : Ids} {W : Dialect} (L : Lawful N) (B : Behaviour W) (same : SameAttributes W) (f : Forest N W) (keys : ℕ) (b : N.Block) (g : Forest N W) (w : WellFormed f keys) (m : MergesOne B same f b g) (order : InOrder f b) where
  once : Distinct (ops_of f b)
  once = Distinct-unmap an_op (ops_of f b) (w.nested.once (a_block b))

  abbrev move : Operand N → Operand N
  move = moved (pairs L B same f keys b g w m)

  -- the operands of what is there
  operands_now : (o : N.Op) (r : OpRecord N W) → g.ops o ≡ Some r → operands_of g o ≡ map move (operands_of f o)
  operands_now o r e =
      let was = op_was L B same f keys b g w m o r e in
      ap (list_of (λ (x : OpRecord N W). x.operands)) (e ∙ ap Some was.2) ∙ sym (ap (λ (k : Option (OpRecord N W)). map move (list_of (λ (x : OpRecord N W). x.operands) k)) was.1)

  front : (o : N.Op) → StandsBefore o m.later (ops_of f b) → g.ops o ≡ f.ops o
  front o before = elim (op_case L B same f keys b g w m o) [
    | inl k ↦ absurd (before_differs o m.later (ops_of f b) once before k.0)
    | inr k ↦ k.2 ∙ by (f.ops o) refl
  ]
    where
      unmoved : (p : Operand N) → In p (operands_of f o) → move p ≡ p
      unmoved p here = elim (moved_case L (of_op m.later) (of_op m.earlier) (pairs L B same f keys b g w m) (given_so L B same f keys b g w m) p) [
        | inl k ↦ k
        | inr k ↦ absurd (order o m.later p here k.0 before)
      ]

      by : (k : Option (OpRecord N W)) → f.ops o ≡ k → option_map (on_operands (map move)) k ≡ k
      by None e = refl
      by (Some r) e = ap (λ ps. Some (record r { operands = ps })) (map_fixed move r.operands (λ p h. unmoved p (subst (λ k. In p (list_of (λ (x : OpRecord N W). x.operands) k)) (sym e) h)))

  in_order : InOrder g b
  in_order user o p named given before = elim (moved_case L (of_op m.later) (of_op m.earlier) (pairs L B same f keys b g w m) (given_so L B same f keys b g w m) at.0) [
    | inl k ↦ order user o at.0 at.1 (ap (λ (z : Operand N). z.value.definer) (sym (at.2 ∙ k)) ∙ given) stood
    | inr k ↦ (
        let one : o ≡ m.earlier = of_op_one (sym given ∙ ap (λ (z : Operand N). z.value.definer) at.2 ∙ k.1) in
        order user m.later at.0 at.1 k.0 (before_then user m.earlier m.later (ops_of f b) once (subst (λ z. StandsBefore user z (ops_of f b)) one stood) m.in_order))
  ]
    where
      stood : StandsBefore user o (ops_of f b)
      stood = before_kept (λ x. not (N.same_op x m.later)) user o (ops_of f b) (subst (StandsBefore user o) (list_left L B same f keys b g w m b) before)

      some_record : (k : Option (OpRecord N W)) → In p (list_of (λ (x : OpRecord N W). x.operands) k) → IsSome k
      some_record None h = elim h [ ]
      some_record (Some r) h = refl

      at : (q : Operand N) × In q (operands_of f user) × (p ≡ move q)
      at =
          let there = is_there (g.ops user) (some_record (g.ops user) named) in
          In-map_back move p (operands_of f user) (subst (In p) (operands_now user there.0 there.1) named)

  pub leaves_in_order : LeavesInOrder B same f b g m
  leaves_in_order = record { in_order = in_order; front = front }

-- what stands in the second list stands beside something of the first
pub zip_back : {A C : Type 0} (R : A → C → Type 0) (xs : List A) (ys : List C) → AllZip R xs ys → (y : C) → In y ys → (x : A) × In x xs × R x y
zip_back R [] [] h y k = elim k [ ]
zip_back R [] (z ∷ ys) h y k = absurd h
zip_back R (x ∷ xs) [] h y k = elim k [ ]
zip_back R (x ∷ xs) (z ∷ ys) h y (inl e) = (x, inl refl, subst (R x) (sym e) h.0)
zip_back R (x ∷ xs) (z ∷ ys) h y (inr k) = let more = zip_back R xs ys h.1 y k in (more.0, inr more.1, more.2)

module _ {N : Ids} {W : Dialect} (f g : Forest N W) (back : OperandsMoveBack f g) (may_see : Value N → N.Op → Bool) (earlier : SeesEarlier may_see f) where
  -- what each operation may see it still may see
  pub seen_still : EachIsSeen may_see f → EachIsSeen may_see g
  seen_still each user p named = elim at.2 [
    | inl e ↦ subst (λ (q : Operand N). may_see q.value user ≡ true) (sym e) (each user at.0 at.1)
    | inr k ↦ earlier p.value at.0.value user k.1 (each user at.0 at.1)
  ]
    where
      live : (k : Option (OpRecord N W)) → In p (list_of (λ (x : OpRecord N W). x.operands) k) → IsSome k
      live None h = elim h [ ]
      live (Some r) h = refl

      at : (q : Operand N) × In q (operands_of f user) × MovesBack f g q p
      at = zip_back (MovesBack f g) (operands_of f user) (operands_of g user) (back user (live (g.ops user) named)) p named
