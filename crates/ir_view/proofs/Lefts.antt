-- What is left of a listing from an entity on.
use Rattle.std.proofs.Common.{◌≡◌, Bool, true, false, cond, List, [], ◌∷◌, ◌++◌, Option, Some, None, refl, sym, ap, ◌∙◌, subst}
use Rattle.std.proofs.lemmas.List.{append_assoc}
use Rattle.ir_model.specs.ContextIds.{context_ids}
use Rattle.ir_model.specs.Forest.{Entity, same_entity}
use Rattle.ir_model.specs.Ids.{Distinct}
use Rattle.ir_model.specs.Nesting.{In}
use Rattle.ir_model.specs.Parent.{first_of}
use Rattle.ir_model.proofs.KeepsErase.{same_self, same_tells}
use Rattle.ir_model.proofs.Nests.{not_in-Absent}
use Rattle.ir_model.proofs.Relinks.{first_in}
use Rattle.ir_model.proofs.TwoRuns.{lawful}
use Rattle.ir_view.specs.Left.{left_from}
use Rattle.ir_view.proofs.Splits.{split, in-middle}

left-front : (vs : List (Entity context_ids)) (x : Entity context_ids) → left_from (Some x) (x ∷ vs) ≡ x ∷ vs
left-front vs x = ap (λ b. cond b (x ∷ vs) (left_from (Some x) vs)) (same_self context_ids lawful x)

left-here : (us vs : List (Entity context_ids)) (x : Entity context_ids) → Distinct (us ++ x ∷ vs) → left_from (Some x) (us ++ x ∷ vs) ≡ x ∷ vs
left-here [] vs x d = left-front vs x
left-here (u ∷ us) vs x d = by (left-here us vs x d.1) (same_entity context_ids u x) refl
  where
    by : left_from (Some x) (us ++ x ∷ vs) ≡ x ∷ vs → (b : Bool) → same_entity context_ids u x ≡ b → cond b (u ∷ us ++ x ∷ vs) (left_from (Some x) (us ++ x ∷ vs)) ≡ x ∷ vs
    by more true e = absurd (not_in-Absent u (us ++ x ∷ vs) d.0 (subst (λ z. In z (us ++ x ∷ vs)) (sym (same_tells context_ids lawful u x e)) (in-middle x us vs)))
    by more false e = more

-- from its first entity on, all of a list is left
pub left-first : (xs : List (Entity context_ids)) (x : Entity context_ids) → first_of xs ≡ Some x → left_from (Some x) xs ≡ xs
left-first xs x e = let m = first_in x xs e in ap (left_from (Some x)) m.1 ∙ left-front m.0 x ∙ sym m.1

-- from an entity on, the entity is left and what is left from the next on
pub left-step : (xs : List (Entity context_ids)) (here : Entity context_ids) (next : Option (Entity context_ids)) → Distinct xs → In here xs
    → ((before behind : List (Entity context_ids)) → xs ≡ before ++ here ∷ behind → next ≡ first_of behind) → left_from (Some here) xs ≡ here ∷ left_from next xs
left-step xs here next once is_in told =
    let m = split here xs is_in in
    ap (left_from (Some here)) m.2 ∙ left-here m.0 m.1 here (subst Distinct m.2 once) ∙ ap (λ ys. here ∷ ys) (by m.0 m.1 m.2 next (told m.0 m.1 m.2))
  where
    by : (us vs : List (Entity context_ids)) → xs ≡ us ++ here ∷ vs → (o : Option (Entity context_ids)) → o ≡ first_of vs → vs ≡ left_from o xs
    by us [] is None e = refl
    by us [] is (Some y) e = absurd cc
    by us (v ∷ vs) is None e = absurd cc
    by us (v ∷ vs) is (Some y) e =
        let s : y ≡ v = cc in
        let whole : xs ≡ (us ++ here ∷ []) ++ v ∷ vs = is ∙ sym (append_assoc us (here ∷ []) (v ∷ vs)) in
        sym (ap (λ z. left_from (Some z) xs) s ∙ ap (left_from (Some v)) whole ∙ left-here (us ++ here ∷ []) vs v (subst Distinct whole once))
