-- A walk over a listing, whose next item is told by what is left.
use Rattle.std.proofs.Common.{◌≡◌, ◌∙◌, ◌<◌, Bool, true, false, cond, ℕ, suc, List, [], ◌∷◌, ◌++◌, length, Option, Some, None, refl, sym, ap, subst, inl, inr, arith}
use Rattle.std.proofs.lemmas.List.{append_assoc, append-nil}
use Rattle.std.proofs.lemmas.Option.{same_Some}
use Rattle.ir_model.specs.ContextIds.{context_ids}
use Rattle.ir_model.specs.Forest.{Dialect, Entity, Forest, same_entity}
use Rattle.ir_model.specs.Ids.{Distinct}
use Rattle.ir_model.specs.Nesting.{In, Inside, IsLive, Nested, itself, below}
use Rattle.ir_model.specs.Parent.{first_of}
use Rattle.ir_model.proofs.KeepsErase.{same_self, same_tells}
use Rattle.ir_model.proofs.Nests.{In-append, In-right, not_in-Absent}
use Rattle.ir_model.proofs.TwoRuns.{lawful}

-- what is inside something live is live
pub inside-live : {W : Dialect} (f : Forest context_ids W) → Nested f → (e x : Entity context_ids) → IsLive f e → Inside f e x → IsLive f x
inside-live f nested e x live itself = live
inside-live f nested e x live (below h i) = nested.live x _ h

-- the walk has come to o, and all that it has passed has P
pub record Passing (xs : List (Entity context_ids)) (P : Entity context_ids → Type 0) (o : Option (Entity context_ids)) : Type 0 where
  pub before : List (Entity context_ids)
  pub behind : List (Entity context_ids)
  pub splits : xs ≡ before ++ behind
  pub stands : o ≡ first_of behind
  pub passed : (x : Entity context_ids) → In x before → P x

-- what stands behind the first place of x
abbrev behind_of : Entity context_ids → List (Entity context_ids) → List (Entity context_ids)
behind_of x [] = []
behind_of x (y ∷ ys) = cond (same_entity context_ids y x) ys (behind_of x ys)

-- how many are left
abbrev pub remaining : List (Entity context_ids) → Option (Entity context_ids) → ℕ
remaining xs None = 0
remaining xs (Some x) = suc (length (behind_of x xs))

behind-split : (us vs : List (Entity context_ids)) (x : Entity context_ids) → Distinct (us ++ x ∷ vs) → behind_of x (us ++ x ∷ vs) ≡ vs
behind-split [] vs x d = ap (λ b. cond b vs (behind_of x vs)) (same_self context_ids lawful x)
behind-split (u ∷ us) vs x d = by (behind-split us vs x d.1) (same_entity context_ids u x) refl
  where
    by : behind_of x (us ++ x ∷ vs) ≡ vs → (b : Bool) → same_entity context_ids u x ≡ b → cond b (us ++ x ∷ vs) (behind_of x (us ++ x ∷ vs)) ≡ vs
    by more true e = absurd (not_in-Absent u (us ++ x ∷ vs) d.0 (subst (λ z. In z (us ++ x ∷ vs)) (sym (same_tells context_ids lawful u x e)) (In-right x us (x ∷ vs) (inl refl))))
    by more false e = more

parted : (xs : List (Entity context_ids)) (x : Entity context_ids) → Some x ≡ first_of xs → (rest : List (Entity context_ids)) × (xs ≡ x ∷ rest)
parted [] x e = absurd cc
parted (y ∷ ys) x e = (ys, ap (λ z. z ∷ ys) (sym (same_Some _ _ e)))

nothing : (xs : List (Entity context_ids)) → None ≡ first_of xs → xs ≡ []
nothing [] e = refl
nothing (y ∷ ys) e = absurd cc

module _ (xs : List (Entity context_ids)) (P : Entity context_ids → Type 0) where
  pub passing-start : (o : Option (Entity context_ids)) → o ≡ first_of xs → Passing xs P o
  passing-start o e = record { before = []; behind = xs; splits = refl; stands = e; passed = λ x h. absurd h }

  pub passing-end : Passing xs P None → (x : Entity context_ids) → In x xs → P x
  passing-end w x h = w.passed x (subst (In x) (w.splits ∙ ap (λ zs. w.before ++ zs) (nothing w.behind w.stands) ∙ append-nil w.before) h)

  module _ (here : Entity context_ids) (w : Passing xs P (Some here)) where
    found : (rest : List (Entity context_ids)) × (w.behind ≡ here ∷ rest)
    found = parted w.behind here w.stands

    at-here : xs ≡ w.before ++ here ∷ found.0
    at-here = w.splits ∙ ap (λ zs. w.before ++ zs) found.1

    pub passing-in : In here xs
    passing-in = subst (In here) (sym at-here) (In-right here w.before (here ∷ found.0) (inl refl))

    module _ (next : Option (Entity context_ids)) (told : (before behind : List (Entity context_ids)) → xs ≡ before ++ here ∷ behind → next ≡ first_of behind) where
      pub passing-step : P here → Passing xs P next
      passing-step p = record {
        before = w.before ++ here ∷ [];
        behind = found.0;
        splits = at-here ∙ sym (append_assoc w.before (here ∷ []) found.0);
        stands = told w.before found.0 at-here;
        passed = λ x h. elim (In-append x w.before (here ∷ []) h) [ inl k ↦ w.passed x k | inr k ↦ elim k [ inl e ↦ subst P (sym e) p | inr z ↦ absurd z ] ];
      }

      -- each step leaves less
      pub passing-smaller : Distinct xs → remaining xs next < remaining xs (Some here)
      passing-smaller once = by next (told w.before found.0 at-here)
        where
          left : behind_of here xs ≡ found.0
          left = ap (behind_of here) at-here ∙ behind-split w.before found.0 here (subst Distinct at-here once)

          by : (o : Option (Entity context_ids)) → o ≡ first_of found.0 → remaining xs o < remaining xs (Some here)
          by None e = omega arith
          by (Some y) e =
              let m = parted found.0 y e in
              let whole : xs ≡ (w.before ++ here ∷ []) ++ y ∷ m.0 = at-here ∙ sym (append_assoc w.before (here ∷ []) found.0) ∙ ap (λ zs. (w.before ++ here ∷ []) ++ zs) m.1 in
              let more : behind_of y xs ≡ m.0 = ap (behind_of y) whole ∙ behind-split (w.before ++ here ∷ []) m.0 y (subst Distinct whole once) in
              let a : length (behind_of here xs) ≡ length found.0 = ap length left in
              let b : length found.0 ≡ suc (length m.0) = ap length m.1 in
              let c : length (behind_of y xs) ≡ length m.0 = ap length more in
              omega (arith, a, b, c)
