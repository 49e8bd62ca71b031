-- Lists of uses of which some are chosen.
use Rattle.std.proofs.Common.{◌≡◌, ℕ, zero, suc, List, [], ◌∷◌, length, Some, slice_get, Bool, true, false, cond, refl, sym, ap, ◌∙◌, arith}
use Rattle.std.specs.Prelude.{◌&&◌}
use Rattle.std.proofs.lemmas.Option.{same_Some}
use Rattle.ir_model.specs.ContextIds.{context_ids}
use Rattle.ir_model.specs.Uses.{Use}
use Rattle.ir_core_records.specs.declared.record.UseIndex.{UseIndex}
use Rattle.ir_core_records.specs.Meaning.{use_of}
use Rattle.ir_core_replacing.specs.Chosen.{same_use, is_chosen, chosen, left_out, count_yes, count_no}
use Rattle.ir_core_replacing.proofs.UseLemmas.{same_use-self, same_use-tells}

-- where a chosen use stands among those that are chosen
pub chosen-at : (us : List UseIndex) (bs : List Bool) (k : ℕ) (u : UseIndex) → slice_get us k ≡ Some u → slice_get bs k ≡ Some true → slice_get (chosen us bs) (count_yes bs k) ≡ Some u
chosen-at [] bs k u at is = absurd (cc)
chosen-at (x ∷ us) [] k u at is = absurd (cc)
chosen-at (x ∷ us) (true ∷ bs) zero u at is = at
chosen-at (x ∷ us) (false ∷ bs) zero u at is = absurd (cc)
chosen-at (x ∷ us) (true ∷ bs) (suc k) u at is = chosen-at us bs k u at is
chosen-at (x ∷ us) (false ∷ bs) (suc k) u at is = chosen-at us bs k u at is

pub left_out-at : (us : List UseIndex) (bs : List Bool) (k : ℕ) (u : UseIndex) → slice_get us k ≡ Some u → slice_get bs k ≡ Some false → slice_get (left_out us bs) (count_no bs k) ≡ Some u
left_out-at [] bs k u at is = absurd (cc)
left_out-at (x ∷ us) [] k u at is = absurd (cc)
left_out-at (x ∷ us) (false ∷ bs) zero u at is = at
left_out-at (x ∷ us) (true ∷ bs) zero u at is = absurd (cc)
left_out-at (x ∷ us) (true ∷ bs) (suc k) u at is = left_out-at us bs k u at is
left_out-at (x ∷ us) (false ∷ bs) (suc k) u at is = left_out-at us bs k u at is

-- where a chosen use stood
pub chosen-from : (us : List UseIndex) (bs : List Bool) (j : ℕ) (u : UseIndex) → slice_get (chosen us bs) j ≡ Some u → (k : ℕ) × (slice_get us k ≡ Some u) × (slice_get bs k ≡ Some true) × (count_yes bs k ≡ j)
chosen-from [] bs j u at = absurd (cc)
chosen-from (x ∷ us) [] j u at = absurd (cc)
chosen-from (x ∷ us) (true ∷ bs) zero u at = (0, at, refl, refl)
chosen-from (x ∷ us) (true ∷ bs) (suc j) u at = let r = chosen-from us bs j u at in (suc r.0, r.1, r.2, ap suc r.3)
chosen-from (x ∷ us) (false ∷ bs) j u at = let r = chosen-from us bs j u at in (suc r.0, r.1, r.2, r.3)

pub left_out-from : (us : List UseIndex) (bs : List Bool) (j : ℕ) (u : UseIndex) → length bs ≡ length us → slice_get (left_out us bs) j ≡ Some u → (k : ℕ) × (slice_get us k ≡ Some u) × (slice_get bs k ≡ Some false) × (count_no bs k ≡ j)
left_out-from [] bs j u e at = absurd (cc)
left_out-from (x ∷ us) [] j u e at = absurd (omega (arith, e))
left_out-from (x ∷ us) (false ∷ bs) zero u e at = (0, at, refl, refl)
left_out-from (x ∷ us) (false ∷ bs) (suc j) u e at = let r = left_out-from us bs j u (omega (arith, e)) at in (suc r.0, r.1, r.2, ap suc r.3)
left_out-from (x ∷ us) (true ∷ bs) j u e at = let r = left_out-from us bs j u (omega (arith, e)) at in (suc r.0, r.1, r.2, r.3)

or_true : (b r : Bool) → r ≡ true → cond b true r ≡ true
or_true true r e = refl
or_true false r e = e

-- the set has the uses whose answer is yes
pub is_chosen-at : (us : List UseIndex) (bs : List Bool) (k : ℕ) (u : UseIndex) → slice_get us k ≡ Some u → slice_get bs k ≡ Some true → is_chosen us bs (use_of u) ≡ true
is_chosen-at [] bs k u at is = absurd (cc)
is_chosen-at (x ∷ us) [] k u at is = absurd (cc)
is_chosen-at (x ∷ us) (false ∷ bs) zero u at is = absurd (cc)
is_chosen-at (x ∷ us) (true ∷ bs) zero u at is = ap (λ (b : Bool). cond b true (is_chosen us bs (use_of u))) (same_use-self (use_of x) (use_of u) (ap use_of (same_Some x u at)))
is_chosen-at (x ∷ us) (b ∷ bs) (suc k) u at is = or_true (b && same_use (use_of x) (use_of u)) (is_chosen us bs (use_of u)) (is_chosen-at us bs k u at is)

-- and no others
pub is_chosen-from : (us : List UseIndex) (bs : List Bool) (w : Use context_ids) → is_chosen us bs w ≡ true → (k : ℕ) × (u : UseIndex) × (slice_get us k ≡ Some u) × (slice_get bs k ≡ Some true) × (use_of u ≡ w)
is_chosen-from [] bs w h = absurd (cc)
is_chosen-from (x ∷ us) [] w h = absurd (cc)
is_chosen-from (x ∷ us) (false ∷ bs) w h = let r = is_chosen-from us bs w h in (suc r.0, r.1, r.2, r.3, r.4)
is_chosen-from (x ∷ us) (true ∷ bs) w h = by (same_use (use_of x) w) refl (is_chosen-from us bs w)
  where
    by : (b : Bool) → same_use (use_of x) w ≡ b → (is_chosen us bs w ≡ true → (k : ℕ) × (u : UseIndex) × (slice_get us k ≡ Some u) × (slice_get bs k ≡ Some true) × (use_of u ≡ w))
        → (k : ℕ) × (u : UseIndex) × (slice_get (x ∷ us) k ≡ Some u) × (slice_get (true ∷ bs) k ≡ Some true) × (use_of u ≡ w)
    by true e later = (0, x, refl, refl, same_use-tells (use_of x) w e)
    by false e later =
        let r = later (ap (λ (b : Bool). cond b true (is_chosen us bs w)) (sym e) ∙ h) in
        (suc r.0, r.1, r.2, r.3, r.4)
