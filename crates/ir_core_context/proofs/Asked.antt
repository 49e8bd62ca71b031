-- The uses whose answer is yes are a set that the answers choose.
use Rattle.std.proofs.Common.{◌≡◌, ◌⊎◌, ◌∙◌, ℕ, ◌+◌, zero, suc, Bool, true, false, cond, List, [], ◌∷◌, ◌++◌, length, map, Some, slice_get, refl, sym, ap, subst, inl, inr, arith}
use Rattle.std.specs.Prelude.{◌&&◌, ◌↔◌}
use Rattle.std.proofs.lemmas.Option.{same_Some}
use Rattle.ir_model.specs.ContextIds.{context_ids, same_id}
use Rattle.ir_model.specs.Forest.{Dialect, Forest, Named}
use Rattle.ir_model.specs.Ids.{Absent, Distinct}
use Rattle.ir_model.specs.Nesting.{In}
use Rattle.ir_model.specs.Uses.{AreUses, Use}
use Rattle.ir_model.proofs.Nests.{not_in-Absent}
use Rattle.ir_model.proofs.Redirected.{both_true}
use Rattle.ir_model.proofs.TwoRuns.{lawful}
use Rattle.ir_core_records.specs.declared.record.UseIndex.{UseIndex}
use Rattle.ir_core_records.specs.Meaning.{use_of}
use Rattle.ir_core_chains.specs.ListReads.{slice_get-push_cases}
use Rattle.ir_core_replacing.specs.Chosen.{is_chosen, same_use}
use Rattle.ir_core_context.specs.Asked.{AreAnswers, IsChosenBy}

same-tells : (u w : Use context_ids) → (same_use u w ≡ true) ↔ (u ≡ w)
same-tells u w = (
  λ e. let both = both_true (same_id u.user w.user) (context_ids.same_number u.number w.number) e in
      λ i. record { user = (lawful.ops u.user w.user).0 both.0 i; number = (lawful.numbers u.number w.number).0 both.1 i },
  λ e. let user : same_id u.user w.user ≡ true = (lawful.ops u.user w.user).1 (ap (λ (x : Use context_ids). x.user) e) in
      let number : context_ids.same_number u.number w.number ≡ true = (lawful.numbers u.number w.number).1 (ap (λ (x : Use context_ids). x.number) e) in rw (user, number),
)

-- what is chosen is one of the uses
chosen-in : (us : List UseIndex) (bs : List Bool) (w : Use context_ids) → is_chosen us bs w ≡ true → In w (map use_of us)
chosen-in [] bs w h = absurd cc
chosen-in (u ∷ us) [] w h = absurd cc
chosen-in (u ∷ us) (b ∷ bs) w h = by b (same_use (use_of u) w) refl h (chosen-in us bs w)
  where
    by : (c t : Bool) → same_use (use_of u) w ≡ t → cond (c && t) true (is_chosen us bs w) ≡ true → (is_chosen us bs w ≡ true → In w (map use_of us)) → In w (map use_of (u ∷ us))
    by true true e k later = inl (sym ((same-tells (use_of u) w).0 e))
    by true false e k later = inr (later k)
    by false t e k later = inr (later k)

unchosen : (us : List UseIndex) (bs : List Bool) (w : Use context_ids) → (In w (map use_of us) → ⊥) → is_chosen us bs w ≡ false
unchosen us bs w out = by (is_chosen us bs w) refl
  where
    by : (t : Bool) → is_chosen us bs w ≡ t → t ≡ false
    by true e = absurd (out (chosen-in us bs w e))
    by false e = refl

module _ (may : Use context_ids → Bool → Type 0) where
  first-or-later : (u : UseIndex) (us : List UseIndex) (bs : List Bool) (w : Use context_ids) (b t : Bool) → same_use (use_of u) w ≡ t → may (use_of u) b → Absent (use_of u) (map use_of us)
      → In w (map use_of (u ∷ us)) → (In w (map use_of us) → may w (is_chosen us bs w)) → may w (cond (b && t) true (is_chosen us bs w))
  first-or-later u us bs w true true e m d h later = subst (λ x. may x true) ((same-tells (use_of u) w).0 e) m
  first-or-later u us bs w false true e m d h later =
      let is : use_of u ≡ w = (same-tells (use_of u) w).0 e in
      let none : is_chosen us bs w ≡ false = unchosen us bs w (λ k. not_in-Absent (use_of u) (map use_of us) d (subst (λ x. In x (map use_of us)) (sym is) k)) in
      subst (may w) (sym none) (subst (λ x. may x false) is m)
  first-or-later u us bs w b false e m d (inl k) later = absurd (let s : same_use (use_of u) w ≡ true = (same-tells (use_of u) w).1 (sym k) in cc)
  first-or-later u us bs w true false e m d (inr k) later = later k
  first-or-later u us bs w false false e m d (inr k) later = later k

  -- where no use stands twice, whether one is chosen is its answer
  answered : (us : List UseIndex) (bs : List Bool) → AreAnswers may us bs → Distinct (map use_of us) → (w : Use context_ids) → In w (map use_of us) → may w (is_chosen us bs w)
  answered [] bs are d w h = absurd h
  answered (u ∷ us) [] are d w h = let none : 0 ≡ suc (length us) = are.count in absurd (omega (arith, none))
  answered (u ∷ us) (b ∷ bs) are d w h =
      let rest : AreAnswers may us bs = record { count = (let c : suc (length bs) ≡ suc (length us) = are.count in omega (arith, c)); each = λ k. are.each (suc k) } in
      first-or-later u us bs w b (same_use (use_of u) w) refl (are.each 0 u b refl refl) d.0 h (λ k. answered us bs rest d.1 w k)

  -- the chosen uses are a set that the answers choose
  pub chosen-by : {W : Dialect} (f : Forest context_ids W) (d : Named context_ids) (us : List UseIndex) (bs : List Bool) → AreUses f d (map use_of us) → AreAnswers may us bs → IsChosenBy f d may (is_chosen us bs)
  chosen-by f d us bs uses are = record {
    inside = λ u h. (uses.exact u).0 (chosen-in us bs u h);
    answered = λ u h. answered us bs are uses.once u ((uses.exact u).1 h);
  }

  -- one more answer
  pub each-more : (us : List UseIndex) (bs : List Bool) (u : UseIndex) (b : Bool) → slice_get us (length bs) ≡ Some u → may (use_of u) b
      → ((k : ℕ) (w : UseIndex) (c : Bool) → slice_get us k ≡ Some w → slice_get bs k ≡ Some c → may (use_of w) c)
      → (k : ℕ) (w : UseIndex) (c : Bool) → slice_get us k ≡ Some w → slice_get (bs ++ b ∷ []) k ≡ Some c → may (use_of w) c
  each-more us bs u b at m each k w c here there = elim (slice_get-push_cases bs b k c there) [
    | inl old ↦ each k w c here old
    | inr new ↦
        let same : u ≡ w = same_Some u w (sym at ∙ ap (λ n. slice_get us n) (sym new.0) ∙ here) in
        subst (λ x. may (use_of x) c) same (subst (may (use_of u)) new.1 m)
  ]
