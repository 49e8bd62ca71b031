-- A loop over a list, whose next item is told by what is left.
use Rattle.std.proofs.Common.{◌≡◌, ◌<◌, Bool, true, false, cond, ℕ, suc, List, [], ◌∷◌, ◌++◌, length, Option, Some, None, refl, sym, ap, ◌∙◌, subst, arith}
use Rattle.std.proofs.lemmas.List.{append_assoc, append-nil}
use Rattle.std.proofs.lemmas.Option.{same_Some}
use Rattle.ir_model.specs.ContextIds.{context_ids}
use Rattle.ir_model.specs.Forest.{Entity, same_entity}
use Rattle.ir_model.specs.Ids.{Distinct}
use Rattle.ir_model.specs.Nesting.{In}
use Rattle.ir_model.specs.Parent.{first_of}
use Rattle.ir_model.proofs.KeepsErase.{same_self, same_tells}
use Rattle.ir_model.proofs.Nests.{not_in-Absent}
use Rattle.ir_model.proofs.TwoRuns.{lawful}
use Rattle.ir_core_erasing.proofs.Posts.{in-middle}

-- two entities that were told apart
pub differ : (x y : Entity context_ids) → same_entity context_ids x y ≡ false → x ≡ y → ⊥
differ x y f e =
    let h : same_entity context_ids x y ≡ true = ap (λ z. same_entity context_ids x z) (sym e) ∙ same_self context_ids lawful x in
    cc

-- the loop has come to o, and P holds of what it has passed
pub record Passing (xs : List (Entity context_ids)) (P : List (Entity context_ids) → Type 0) (o : Option (Entity context_ids)) : Type 0 where
  pub before : List (Entity context_ids)
  pub behind : List (Entity context_ids)
  pub splits : xs ≡ before ++ behind
  pub stands : o ≡ first_of behind
  pub holds : P before

-- what stands behind the first place of x
abbrev behind_of : Entity context_ids → List (Entity context_ids) → List (Entity context_ids)
behind_of x [] = []
behind_of x (y ∷ ys) = cond (same_entity context_ids y x) ys (behind_of x ys)

-- how many are left
abbrev pub remaining : List (Entity context_ids) → Option (Entity context_ids) → ℕ
remaining xs None = 0
remaining xs (Some x) = suc (length (behind_of x xs))

behind-split : (us vs : List (Entity context_ids)) (x : Entity context_ids) → Distinct (us ++ x ∷ vs) → behind_of x (us ++ x ∷ vs) ≡ vs
behind-split [] vs x d = ap (λ b. cond b vs (behind_of x vs)) (same_self context_ids lawful x)
behind-split (u ∷ us) vs x d = by (behind-split us vs x d.1) (same_entity context_ids u x) refl
  where
    by : behind_of x (us ++ x ∷ vs) ≡ vs → (b : Bool) → same_entity context_ids u x ≡ b → cond b (us ++ x ∷ vs) (behind_of x (us ++ x ∷ vs)) ≡ vs
    by more true e = absurd (not_in-Absent u (us ++ x ∷ vs) d.0 (subst (λ z. In z (us ++ x ∷ vs)) (sym (same_tells context_ids lawful u x e)) (in-middle x us vs)))
    by more false e = more

parted : {E : Type 0} (xs : List E) (x : E) → Some x ≡ first_of xs → (rest : List E) × (xs ≡ x ∷ rest)
parted [] x e = absurd cc
parted (y ∷ ys) x e = (ys, ap (λ z. z ∷ ys) (sym (same_Some _ _ e)))

nothing : {E : Type 0} (xs : List E) → None ≡ first_of xs → xs ≡ []
nothing [] e = refl
nothing (y ∷ ys) e = absurd cc

module _ (xs : List (Entity context_ids)) (P : List (Entity context_ids) → Type 0) where
  pub passing-start : (o : Option (Entity context_ids)) → o ≡ first_of xs → P [] → Passing xs P o
  passing-start o e p = record { before = []; behind = xs; splits = refl; stands = e; holds = p }

  pub passing-end : Passing xs P None → P xs
  passing-end w = subst P (sym (w.splits ∙ ap (λ zs. w.before ++ zs) (nothing w.behind w.stands) ∙ append-nil w.before)) w.holds

  module _ (here : Entity context_ids) (w : Passing xs P (Some here)) where
    pub found : (rest : List (Entity context_ids)) × (w.behind ≡ here ∷ rest)
    found = parted w.behind here w.stands

    abbrev pub rest : List (Entity context_ids)
    rest = found.0

    pub at-here : xs ≡ w.before ++ here ∷ rest
    at-here = w.splits ∙ ap (λ zs. w.before ++ zs) found.1

    pub passing-in : In here xs
    passing-in = subst (In here) (sym at-here) (in-middle here w.before rest)

    module _ (next : Option (Entity context_ids)) (told : (before behind : List (Entity context_ids)) → xs ≡ before ++ here ∷ behind → next ≡ first_of behind) where
      pub passing-step : (Q : List (Entity context_ids) → Type 0) → ((before : List (Entity context_ids)) → P before → Q (before ++ here ∷ [])) → Passing xs Q next
      passing-step Q step = record {
        before = w.before ++ here ∷ [];
        behind = rest;
        splits = at-here ∙ sym (append_assoc w.before (here ∷ []) rest);
        stands = told w.before rest at-here;
        holds = step w.before w.holds;
      }

      -- each step leaves less
      pub passing-smaller : Distinct xs → remaining xs next < remaining xs (Some here)
      passing-smaller once = by next (told w.before rest at-here)
        where
          left : behind_of here xs ≡ rest
          left = ap (behind_of here) at-here ∙ behind-split w.before rest here (subst Distinct at-here once)

          by : (o : Option (Entity context_ids)) → o ≡ first_of rest → remaining xs o < remaining xs (Some here)
          by None e = omega arith
          by (Some y) e =
              let m = parted rest y e in
              let whole : xs ≡ (w.before ++ here ∷ []) ++ y ∷ m.0 = at-here ∙ sym (append_assoc w.before (here ∷ []) rest) ∙ ap (λ zs. (w.before ++ here ∷ []) ++ zs) m.1 in
              let more : behind_of y xs ≡ m.0 = ap (behind_of y) whole ∙ behind-split (w.before ++ here ∷ []) m.0 y (subst Distinct whole once) in
              let a : length (behind_of here xs) ≡ length rest = ap length left in
              let b : length rest ≡ suc (length m.0) = ap length m.1 in
              let c : length (behind_of y xs) ≡ length m.0 = ap length more in
              omega (arith, a, b, c)
