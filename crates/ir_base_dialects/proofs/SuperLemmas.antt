-- Supers stay before their items where each item is kept at its first place.
use Rattle.std.proofs.Common.{◌≡◌, ℕ, Bool, true, false, cond, nat_eq, List, [], ◌∷◌, ◌++◌, filter, Contains, All, refl, sym, ap, subst, eqb-true, append_assoc, inl, inr, arith}
use Rattle.std.specs.List.{list_any, flat_map, AllByRecursion}
use Rattle.std.proofs.lemmas.List.{append-nil}
use Rattle.std.proofs.lemmas.List.Elements.{Contains-append_left, Contains-push, Contains-push_cases, recursion_from_All}
use Rattle.indexmap.proofs.CallerLemmas.{Contains-list_any}
use Rattle.ir_model.specs.VerifierLists.{first_places, joined, SupersFirst}
use Rattle.ir_base_dialects.specs.VerifierGroups.{with_each}
use Rattle.ir_base_dialects.proofs.GroupLemmas.{first_places-append}
use Rattle.ir_model.specs.Edits.{with_key}

module _ (R : ℕ → ℕ → Bool) where
  -- the supers of each item stand among those seen before the list or before it in the list
  abbrev Follows : List ℕ → List ℕ → Type 0
  Follows seen [] = Unit {0}
  Follows seen (x ∷ xs) = ((s : ℕ) → R x s ≡ true → Contains seen s) × Follows (seen ++ x ∷ []) xs

  from_supers : (seen xs : List ℕ) → ((before after : List ℕ) (item super : ℕ) → xs ≡ before ++ item ∷ after → R item super ≡ true → Contains (seen ++ before) super) → Follows seen xs
  from_supers seen [] h = tt
  from_supers seen (x ∷ xs) h = (
    λ s r. subst (λ l. Contains l s) (append-nil seen) (h [] xs x s refl r),
    from_supers (seen ++ x ∷ []) xs
        (λ before after item super e r. subst (λ l. Contains l super) (sym (append_assoc seen (x ∷ []) before)) (h (x ∷ before) after item super (ap (λ l. x ∷ l) e) r)),
  )

  supers_at : (seen before after : List ℕ) (item super : ℕ) → Follows seen (before ++ item ∷ after) → R item super ≡ true → Contains (seen ++ before) super
  supers_at seen [] after item super h r = subst (λ l. Contains l super) (sym (append-nil seen)) (h.0 super r)
  supers_at seen (b ∷ bs) after item super h r = subst (λ l. Contains l super) (append_assoc seen (b ∷ []) bs) (supers_at (seen ++ b ∷ []) bs after item super h.1 r)

  to_supers : (xs : List ℕ) → Follows [] xs → SupersFirst R xs
  to_supers xs h before after item super e r = supers_at [] before after item super (subst (Follows []) e h) r

  weaken : (seen more xs : List ℕ) → ((s : ℕ) → Contains seen s → Contains more s) → Follows seen xs → Follows more xs
  weaken seen more [] w h = tt
  weaken seen more (x ∷ xs) w h = (
    λ s r. w s (h.0 s r),
    weaken (seen ++ x ∷ []) (more ++ x ∷ []) xs
        (λ s c. elim (Contains-push_cases seen x s c) [ inl a ↦ Contains-append_left more (x ∷ []) s (w s a) | inr e ↦ subst (Contains (more ++ x ∷ [])) e (Contains-push more x) ]) h.1,
  )

  both : (seen xs ys : List ℕ) → Follows seen xs → Follows [] ys → Follows seen (xs ++ ys)
  both seen [] ys h k = weaken [] seen ys (λ s c. absurd (omega (arith, c.1))) k
  both seen (x ∷ xs) ys h k = (h.0, both (seen ++ x ∷ []) xs ys h.1 k)

  push : (seen kept : List ℕ) (y : ℕ) → Follows seen kept → ((s : ℕ) → R y s ≡ true → Contains (seen ++ kept) s) → Follows seen (kept ++ y ∷ [])
  push seen [] y h k = (λ s r. subst (λ l. Contains l s) (append-nil seen) (k s r), tt)
  push seen (x ∷ xs) y h k = (h.0, push (seen ++ x ∷ []) xs y h.1 (λ s r. subst (λ l. Contains l s) (sym (append_assoc seen (x ∷ []) xs)) (k s r)))

  kept_has : (kept : List ℕ) (y : ℕ) → Contains (with_key nat_eq kept y) y
  kept_has kept y = by (list_any (λ k. nat_eq k y) kept) refl
    where
      by : (b : Bool) → list_any (λ k. nat_eq k y) kept ≡ b → Contains (cond b kept (kept ++ y ∷ [])) y
      by true e = Contains-list_any (λ a b. nat_eq b a) (λ a b q. sym (eqb-true b a q)) kept y e
      by false e = Contains-push kept y

  kept_keeps : (kept : List ℕ) (y s : ℕ) → Contains kept s → Contains (with_key nat_eq kept y) s
  kept_keeps kept y s c =
      elim (list_any (λ k. nat_eq k y) kept) as (λ b. Contains (cond b kept (kept ++ y ∷ [])) s) [ true ↦ c | false ↦ Contains-append_left kept (y ∷ []) s c ]

  one_kept : (kept : List ℕ) (y : ℕ) → ((s : ℕ) → R y s ≡ true → Contains kept s) → Follows [] kept → Follows [] (with_key nat_eq kept y)
  one_kept kept y first h =
      elim (list_any (λ k. nat_eq k y) kept) as (λ b. Follows [] (cond b kept (kept ++ y ∷ []))) [ true ↦ h | false ↦ push [] kept y h first ]

  all_kept : (seen kept ys : List ℕ) → ((s : ℕ) → Contains seen s → Contains kept s) → Follows seen ys → Follows [] kept → Follows [] (with_each nat_eq kept ys)
  all_kept seen kept [] sub h k = k
  all_kept seen kept (y ∷ ys) sub h k =
      all_kept (seen ++ y ∷ []) (with_key nat_eq kept y) ys
      (λ s c. elim (Contains-push_cases seen y s c) [ inl a ↦ kept_keeps kept y s (sub s a) | inr e ↦ subst (Contains (with_key nat_eq kept y)) e (kept_has kept y) ])
      h.1 (one_kept kept y (λ s r. sub s (h.0 s r)) k)

  joined_follows : (es : List (ℕ × List ℕ)) (owner : ℕ) → AllByRecursion (λ e. SupersFirst R e.1) es → Follows [] (joined es owner)
  joined_follows [] owner h = tt
  joined_follows (e ∷ es) owner h =
      elim (nat_eq e.0 owner) as (λ b. Follows [] (flat_map (λ (f : ℕ × List ℕ). f.1) (cond b (e ∷ filter (λ (f : ℕ × List ℕ). nat_eq f.0 owner) es) (filter (λ (f : ℕ × List ℕ). nat_eq f.0 owner) es)))) [
        | true ↦ both [] e.1 (joined es owner) (from_supers [] e.1 h.0) (joined_follows es owner h.1)
        | false ↦ joined_follows es owner h.1
      ]

  -- where the supers stand first in each list, they do in an owner's deduplicated list
  pub supers_stay : (es : List (ℕ × List ℕ)) (owner : ℕ) → All (λ e. SupersFirst R e.1) es → SupersFirst R (first_places nat_eq (joined es owner))
  supers_stay es owner all =
      to_supers (first_places nat_eq (joined es owner))
      (subst (Follows []) (sym (first_places-append [] (joined es owner)))
      (all_kept [] [] (joined es owner) (λ s c. c) (joined_follows es owner (recursion_from_All (λ e. SupersFirst R e.1) es all)) tt))
