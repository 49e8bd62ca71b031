-- The chains of kept operations of one hash.
use mathlib.Core.Path.{◌≡◌, refl, sym, ap, ◌∙◌, subst}
use Rattle.std.proofs.Common.{ℕ, zero, suc, ◌+◌, ◌<◌, ◌≤◌, ◌⊎◌, inl, inr, Bool, true, false, cond, Option, Some, None, List, [], ◌∷◌, ◌++◌, length, map, nat_eq, arith}
use Rattle.std.specs.Prelude.{slice_get}
use Rattle.std.proofs.lemmas.List.{length_push}
use Rattle.std.proofs.lemmas.Option.{slice_get_within}
use Rattle.std.proofs.lemmas.Bool.{cases_lt}
use Rattle.std.proofs.lemmas.Bool.Decides.{Decides-eqb}
use Rattle.ir_model.specs.declared.ids.ArenaIndex.{ArenaIndex}
use Rattle.ir_model.specs.Nesting.{In}
use Rattle.ir_model.proofs.Back.{slice_get-in}
use Rattle.ir_model.proofs.Nests.{In-map}
use Rattle.ir_model.proofs.Uniquing.{still_at}
use Rattle.indexmap.specs.IndexMap.{get}
use Rattle.ir_run_passes.specs.declared.kept_ops.KeptOp.{KeptOp}
use Rattle.ir_run_passes.specs.declared.kept_ops.KeptOps.{KeptOps}
use Rattle.ir_run_passes.specs.KeptOps.{HasHash, IsLast, IsIndexed, kept_in}

pub at_end_of : {A : Type 0} (xs : List A) (y : A) → slice_get (xs ++ y ∷ []) (length xs) ≡ Some y
at_end_of [] y = refl
at_end_of (x ∷ xs) y = at_end_of xs y

was_at : {A : Type 0} (xs : List A) (y : A) (p : ℕ) (z : A) → p < length xs → slice_get (xs ++ y ∷ []) p ≡ Some z → slice_get xs p ≡ Some z
was_at [] y p z h e = absurd (omega arith)
was_at (x ∷ xs) y zero z h e = e
was_at (x ∷ xs) y (suc p) z h e = was_at xs y p z (omega arith) e

some_so : {A : Type 0} (x y : A) → Some x ≡ Some y → x ≡ y
some_so x y e = cc

true_or_false : (b : Bool) → (b ≡ true) ⊎ (b ≡ false)
true_or_false true = inl refl
true_or_false false = inr refl

module _ (hash_of : ArenaIndex → ℕ) (ops : List KeptOp) (k : KeptOp) where
  abbrev more : List KeptOp
  more = ops ++ k ∷ []

  one_more : length more ≡ length ops + 1
  one_more = length_push ops k

  has_still : (hash q : ℕ) → HasHash hash_of ops hash q → HasHash hash_of more hash q
  has_still hash q h = (h.0, still_at ops (k ∷ []) q h.0 h.1, h.2)

  had : (hash q : ℕ) → q < length ops → HasHash hash_of more hash q → HasHash hash_of ops hash q
  had hash q lt h = (h.0, was_at ops k q h.0 lt h.1, h.2)

  last_still : (hash n : ℕ) → n ≤ length ops → (a : Option ℕ) → IsLast hash_of ops hash n a → IsLast hash_of more hash n a
  last_still hash n le None last = λ q lt h. last q lt (had hash q (omega arith) h)
  last_still hash n le (Some p) last = (last.0, has_still hash p last.1, λ q lt h. last.2 q lt (had hash q (omega arith) h))

  -- the new one has another hash
  last_passes : (hash : ℕ) → (hash_of k.op ≡ hash → ⊥) → (a : Option ℕ) → IsLast hash_of ops hash (length ops) a → IsLast hash_of more hash (length more) a
  last_passes hash other a = by a
    where
      before : (q : ℕ) → q < length more → HasHash hash_of more hash q → q < length ops
      before q lt h = elim (cases_lt q (length ops)) [
        | inl l ↦ l
        | inr l ↦ (
            let e = one_more in
            let here : q ≡ length ops = omega arith in
            let there : slice_get more (length ops) ≡ Some h.0 = subst (λ p. slice_get more p ≡ Some h.0) here h.1 in
            let same : k ≡ h.0 = some_so k h.0 (sym (at_end_of ops k) ∙ there) in
            absurd (other (ap (λ (x : KeptOp). hash_of x.op) same ∙ h.2)))
      ]

      by : (a : Option ℕ) → IsLast hash_of ops hash (length ops) a → IsLast hash_of more hash (length more) a
      by None last = λ q lt h. (let l = before q lt h in last q l (had hash q l h))
      by (Some p) last = (let e = one_more in let l = last.0 in omega arith, has_still hash p last.1, λ q lt h. (let l = before q lt h in last.2 q l (had hash q l h)))

  module _ (last after : ℕ → Option ℕ) (hash : ℕ) (hashed : hash_of k.op ≡ hash) (chained : k.earlier ≡ last hash)
      (put : (q : ℕ) → after q ≡ cond (nat_eq hash q) (Some (length ops)) (last q))
      (lasts : (q : ℕ) → IsLast hash_of ops q (length ops) (last q)) where
    pub chains_more : ((p : ℕ) (x : KeptOp) → slice_get ops p ≡ Some x → IsLast hash_of ops (hash_of x.op) p x.earlier)
        → (p : ℕ) (x : KeptOp) → slice_get more p ≡ Some x → IsLast hash_of more (hash_of x.op) p x.earlier
    chains_more chains p x e = elim (cases_lt p (length ops)) [
      | inl l ↦ last_still (hash_of x.op) p (omega arith) x.earlier (chains p x (was_at ops k p x l e))
      | inr l ↦ (
          let w = slice_get_within more p x e in
          let n = one_more in
          let here : p ≡ length ops = omega arith in
          let there : slice_get more (length ops) ≡ Some x = subst (λ q. slice_get more q ≡ Some x) here e in
          let same : k ≡ x = some_so k x (sym (at_end_of ops k) ∙ there) in
          let own : IsLast hash_of more hash (length ops) (last hash) = last_still hash (length ops) (omega arith) (last hash) (lasts hash) in
          let of_k : IsLast hash_of more (hash_of k.op) (length ops) k.earlier = subst (λ h. IsLast hash_of more h (length ops) k.earlier) (sym hashed) (subst (IsLast hash_of more hash (length ops)) (sym chained) own) in
          subst (λ q. IsLast hash_of more (hash_of x.op) q x.earlier) (sym here) (subst (λ (y : KeptOp). IsLast hash_of more (hash_of y.op) (length ops) y.earlier) same of_k))
    ]

    pub lasts_more : (q : ℕ) → IsLast hash_of more q (length more) (after q)
    lasts_more q = subst (IsLast hash_of more q (length more)) (sym (put q)) (by (nat_eq hash q) (Decides-eqb hash q).0 (Decides-eqb hash q).1)
      where
        by : (b : Bool) → (b ≡ true → hash ≡ q) → (hash ≡ q → b ≡ true) → IsLast hash_of more q (length more) (cond b (Some (length ops)) (last q))
        by true so back = (let n = one_more in omega arith, (k, at_end_of ops k, hashed ∙ so refl), λ p lt h. (let n = one_more in omega arith))
        by false so back = last_passes q (λ e. (let t : false ≡ true = back (sym hashed ∙ e) in absurd cc)) (last q) (lasts q)

-- where the kept ones have the hashes that they had, they are found as before
module _ (was now : ArenaIndex → ℕ) (t : KeptOps) (same : (k : ArenaIndex) → In k (kept_in t) → now k ≡ was k) where
  same_at : (p : ℕ) (k : KeptOp) → slice_get t.ops.items p ≡ Some k → now k.op ≡ was k.op
  same_at p k e = same k.op (In-map (λ (x : KeptOp). x.op) k t.ops.items (slice_get-in t.ops.items p k e))

  had_then : (hash q : ℕ) → HasHash now t.ops.items hash q → HasHash was t.ops.items hash q
  had_then hash q h = (h.0, h.1, sym (same_at q h.0 h.1) ∙ h.2)

  has_now : (hash q : ℕ) → HasHash was t.ops.items hash q → HasHash now t.ops.items hash q
  has_now hash q h = (h.0, h.1, same_at q h.0 h.1 ∙ h.2)

  last_now : (hash n : ℕ) (a : Option ℕ) → IsLast was t.ops.items hash n a → IsLast now t.ops.items hash n a
  last_now hash n None last = λ q lt h. last q lt (had_then hash q h)
  last_now hash n (Some p) last = (last.0, has_now hash p last.1, λ q lt h. last.2 q lt (had_then hash q h))

  pub rehashed : IsIndexed was t → IsIndexed now t
  rehashed indexed = record {
    chains = λ p k e. last_now (now k.op) p k.earlier (subst (λ h. IsLast was t.ops.items h p k.earlier) (sym (same_at p k e)) (indexed.chains p k e));
    last = λ hash. last_now hash (length t.ops.items) (get nat_eq t.latest hash) (indexed.last hash);
  }

-- ## Looking along a chain

pub found_at : (ops : List KeptOp) (k : ArenaIndex) → In k (map (λ (x : KeptOp). x.op) ops) → (q : ℕ) × (x : KeptOp) × (slice_get ops q ≡ Some x) × (x.op ≡ k)
found_at [] k h = absurd h
found_at (x ∷ xs) k (inl e) = (zero, x, refl, sym e)
found_at (x ∷ xs) k (inr h) = let more = found_at xs k h in (suc more.0, more.1, more.2, more.3)

pub kept_at : (t : KeptOps) (q : ℕ) (x : KeptOp) → slice_get t.ops.items q ≡ Some x → In x.op (kept_in t)
kept_at t q x e = In-map (λ (y : KeptOp). y.op) x t.ops.items (slice_get-in t.ops.items q x e)

-- how many places are left from a place of the chain on, at most
abbrev pub chain_left : Option ℕ → ℕ
chain_left None = zero
chain_left (Some p) = suc p

module _ (hash_of : ArenaIndex → ℕ) (t : KeptOps) (hash : ℕ) (P : ArenaIndex → Type 0) where
  -- the place is the last below a bound of an operation that has the hash, and of those from the bound on that have it none has P
  pub record Looking (place : Option ℕ) : Type 0 where
    pub bound : ℕ
    pub within : bound ≤ length t.ops.items
    pub last : IsLast hash_of t.ops.items hash bound place
    pub passed : (q : ℕ) (x : KeptOp) → bound ≤ q → slice_get t.ops.items q ≡ Some x → hash_of x.op ≡ hash → P x.op → ⊥

  pub looking_starts : IsIndexed hash_of t → (place : Option ℕ) → place ≡ get nat_eq t.latest hash → Looking place
  looking_starts indexed place e = record {
    bound = length t.ops.items;
    within = omega arith;
    last = subst (IsLast hash_of t.ops.items hash (length t.ops.items)) (sym e) (indexed.last hash);
    passed = λ q x far at h p. (let w = slice_get_within t.ops.items q x at in absurd (omega (arith, far, w)));
  }

  pub looking_within : (p : ℕ) → Looking (Some p) → p < length t.ops.items
  looking_within p l = let w = l.within in let lt = l.last.0 in omega (arith, w, lt)

  module _ (indexed : IsIndexed hash_of t) (p : ℕ) (x : KeptOp) (at : slice_get t.ops.items p ≡ Some x) (l : Looking (Some p)) where
    own : hash_of x.op ≡ hash
    own = ap (λ (y : KeptOp). hash_of y.op) (some_so x l.last.1.0 (sym at ∙ l.last.1.1)) ∙ l.last.1.2

    chained : IsLast hash_of t.ops.items hash p x.earlier
    chained = subst (λ h. IsLast hash_of t.ops.items h p x.earlier) own (indexed.chains p x at)

    pub looking_goes_on : (P x.op → ⊥) → Looking x.earlier
    looking_goes_on not = record {
      bound = p;
      within = let w = looking_within p l in omega (arith, w);
      last = chained;
      passed = λ q y far at_q h has. elim (cases_lt q l.bound) [
        | inl lt ↦ (
            let most = l.last.2 q lt (y, at_q, h) in
            let here : q ≡ p = omega (arith, far, most) in
            not (subst P (sym (ap (λ (z : KeptOp). z.op) (some_so x y (sym at ∙ ap (slice_get t.ops.items) (sym here) ∙ at_q)))) has))
        | inr ge ↦ l.passed q y ge at_q h has
      ];
    }

    pub looking_smaller : chain_left x.earlier < suc p
    looking_smaller = by x.earlier chained
      where
        by : (a : Option ℕ) → IsLast hash_of t.ops.items hash p a → chain_left a < suc p
        by None last = omega arith
        by (Some r) last = let lt = last.0 in omega (arith, lt)

  pub looking_ends : Looking None → (k : ArenaIndex) → In k (kept_in t) → hash_of k ≡ hash → P k → ⊥
  looking_ends l k h same has =
      let at = found_at t.ops.items k h in
      let hashed : hash_of at.1.op ≡ hash = ap hash_of at.3 ∙ same in
      let there : P at.1.op = subst P (sym at.3) has in
      elim (cases_lt at.0 l.bound) [
        | inl lt ↦ l.last at.0 lt (at.1, at.2, hashed)
        | inr ge ↦ l.passed at.0 at.1 ge at.2 hashed there
      ]
