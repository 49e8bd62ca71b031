-- Whether an operation names a value of some kind, seen operand by operand.
use mathlib.Core.Path.{◌≡◌, refl, sym, ap, ◌∙◌, subst}
use Rattle.std.proofs.Common.{ℕ, zero, suc, ◌+◌, ◌<◌, ◌⊎◌, inl, inr, Option, Some, None, List, [], ◌∷◌, length, arith}
use Rattle.std.proofs.lemmas.Bool.{cases_lt}
use Rattle.std.specs.Prelude.{slice_get}
use Rattle.std.specs.Option.{option_map}
use Rattle.ir_model.specs.declared.ids.ArenaIndex.{ArenaIndex}
use Rattle.ir_model.specs.ContextIds.{context_ids}
use Rattle.ir_model.specs.Forest.{Dialect, Forest, Value, Operand}
use Rattle.ir_model.specs.Nesting.{In, operands_of}
use Rattle.ir_model.proofs.Back.{slice_get-in}

module _ {W : Dialect} (f : Forest context_ids W) (P : Value context_ids → Type 0) (user : ArenaIndex) where
  -- of the first so many operands none names such a value
  abbrev pub NoneNamed : ℕ → Type 0
  NoneNamed n = (k : ℕ) (p : Operand context_ids) → k < n → slice_get (operands_of f user) k ≡ Some p → P p.value → ⊥

  same_at : (k : ℕ) (v : Value context_ids) → option_map (λ (p : Operand context_ids). p.value) (slice_get (operands_of f user) k) ≡ Some v → (p : Operand context_ids) × (slice_get (operands_of f user) k ≡ Some p) × (p.value ≡ v)
  same_at k v e = by (slice_get (operands_of f user) k) e refl
    where
      by : (m : Option (Operand context_ids)) → option_map (λ (p : Operand context_ids). p.value) m ≡ Some v → slice_get (operands_of f user) k ≡ m → (p : Operand context_ids) × (slice_get (operands_of f user) k ≡ Some p) × (p.value ≡ v)
      by None e s = absurd cc
      by (Some p) e s = (p, s, (let t : p.value ≡ v = cc in t))

  pub named_here : (k : ℕ) (v : Value context_ids) → option_map (λ (p : Operand context_ids). p.value) (slice_get (operands_of f user) k) ≡ Some v → P v → (p : Operand context_ids) × In p (operands_of f user) × P p.value
  named_here k v e u = let at = same_at k v e in (at.0, slice_get-in (operands_of f user) k at.0 at.1, subst P (sym at.2) u)

  pub not_named_here : (k : ℕ) (v : Value context_ids) → option_map (λ (p : Operand context_ids). p.value) (slice_get (operands_of f user) k) ≡ Some v → (P v → ⊥) → NoneNamed k → NoneNamed (k + 1)
  not_named_here k v e none so_far j p lt at u = elim (cases_lt j k) [
    | inl h ↦ so_far j p h at u
    | inr h ↦ (
        let here : j ≡ k = omega arith in
        let there = same_at k v e in
        let one : p ≡ there.0 = some_back p there.0 (sym at ∙ ap (slice_get (operands_of f user)) here ∙ there.1) in
        none (subst P (ap (λ (q : Operand context_ids). q.value) one ∙ there.2) u))
  ]
    where
      some_back : {A : Type 0} (x y : A) → Some x ≡ Some y → x ≡ y
      some_back x y e = cc

  pub none_named : (n : ℕ) → length (operands_of f user) ≡ n → NoneNamed n → (p : Operand context_ids) → In p (operands_of f user) → P p.value → ⊥
  none_named n e none p named u = let at = index_of p (operands_of f user) named in let w = at.2 in none at.0 p (omega (arith, w, e)) at.1 u
    where
      index_of : (p : Operand context_ids) (ps : List (Operand context_ids)) → In p ps → (k : ℕ) × (slice_get ps k ≡ Some p) × (k < length ps)
      index_of p [] h = absurd h
      index_of p (q ∷ qs) (inl s) = (zero, ap Some (sym s), omega arith)
      index_of p (q ∷ qs) (inr h) = let more = index_of p qs h in let w = more.2 in (suc more.0, more.1, omega (arith, w))
