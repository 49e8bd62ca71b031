-- How far a block was seen to be in order.
use mathlib.Core.Path.{◌≡◌, refl, sym, ap, ◌∙◌, subst}
use Rattle.std.specs.Prelude.{if◌then◌else◌}
use Rattle.std.proofs.Common.{◌⊎◌, inl, inr, Bool, true, false, ◌||◌, List, [], ◌∷◌, ◌++◌, append_assoc}
use Rattle.std.specs.List.{list_any}
use Rattle.ir_model.specs.declared.ids.ArenaIndex.{ArenaIndex}
use Rattle.ir_model.specs.ContextIds.{context_ids, same_id}
use Rattle.ir_model.specs.Ids.{Distinct}
use Rattle.ir_model.specs.Forest.{Dialect, Forest, of_op, an_op, a_block, Operand}
use Rattle.ir_model.specs.Nesting.{In, IsLive, Nested, ops_of, operands_of}
use Rattle.ir_model.proofs.Keeps.{Distinct-unmap}
use Rattle.ir_model.proofs.Loops.{Lawful}
use Rattle.ir_model.proofs.Nests.{In-append, In-left, In-right, In-map, not_in-Absent}
use Rattle.ir_model.proofs.TwoRuns.{lawful}
use Rattle.ir_model_passes.specs.Merging.{StandsBefore}
use Rattle.ir_model_passes.specs.InOrder.{InOrder}
use Rattle.ir_run_passes.specs.Ordering.{NamesUnmet}

-- ## Lists

pub in_both : {A : Type 0} (x y : A) (xs : List A) → StandsBefore x y xs → In x xs × In y xs
in_both x y [] h = absurd h
in_both x y (z ∷ zs) (inl h) = (inl h.0, inr h.1)
in_both x y (z ∷ zs) (inr h) = let more = in_both x y zs h in (inr more.0, inr more.1)

-- what stands behind something that stands once is in the part behind it
pub behind_it : {A : Type 0} (x y : A) (xs ys : List A) → Distinct (xs ++ x ∷ ys) → StandsBefore x y (xs ++ x ∷ ys) → In y ys
behind_it x y [] ys d (inl h) = h.1
behind_it x y [] ys d (inr h) = absurd (not_in-Absent x ys d.0 (in_both x y ys h).0)
behind_it x y (z ∷ xs) ys d (inl h) = absurd (not_in-Absent z (xs ++ x ∷ ys) d.0 (subst (λ w. In w (xs ++ x ∷ ys)) h.0 (In-right x xs (x ∷ ys) (inl refl))))
behind_it x y (z ∷ xs) ys d (inr h) = behind_it x y xs ys d.1 h

pub before_rest : {A : Type 0} (x y : A) (xs ys : List A) → In y ys → StandsBefore x y (xs ++ x ∷ ys)
before_rest x y [] ys h = inl (refl, h)
before_rest x y (z ∷ xs) ys h = inr (before_rest x y xs ys h)

-- no element of a first part is in the second
pub parts_apart : {A : Type 0} (y : A) (xs ys : List A) → Distinct (xs ++ ys) → In y xs → In y ys → ⊥
parts_apart y [] ys d h k = absurd h
parts_apart y (x ∷ xs) ys d (inl e) k = not_in-Absent x (xs ++ ys) d.0 (subst (λ z. In z (xs ++ ys)) e (In-right y xs ys k))
parts_apart y (x ∷ xs) ys d (inr h) k = parts_apart y xs ys d.1 h k

-- a new key goes last
pub none_is : (x : ArenaIndex) (xs : List ArenaIndex) → (In x xs → ⊥) → list_any (same_id x) xs ≡ false
none_is x [] h = refl
none_is x (y ∷ ys) h = by (same_id x y) refl (none_is x ys (λ k. h (inr k)))
  where
    by : (b : Bool) → same_id x y ≡ b → list_any (same_id x) ys ≡ false → (b || list_any (same_id x) ys) ≡ false
    by true e more = absurd (h (inl ((lawful.ops x y).0 e)))
    by false e more = more

-- ## Blocks

module _ {W : Dialect} (f : Forest context_ids W) (b : ArenaIndex) where
  -- the block has what was met and then what is ahead, and what was met stands before nothing of the block whose result it names
  pub record MetSoFar (met ahead : List ArenaIndex) : Type 0 where
    pub lists : met ++ ahead ≡ ops_of f b
    pub behind : (user o : ArenaIndex) (p : Operand context_ids) → In user met → In p (operands_of f user) → p.value.definer ≡ of_op o → StandsBefore user o (ops_of f b) → ⊥

  pub stay_met : {met now ahead : List ArenaIndex} → met ≡ now → MetSoFar met ahead → MetSoFar now ahead
  stay_met {ahead = ahead} e m = subst (λ xs. MetSoFar xs ahead) e m

  pub met_starts : (met ahead : List ArenaIndex) → met ≡ [] → ahead ≡ ops_of f b → MetSoFar met ahead
  met_starts met ahead none all = subst (λ xs. MetSoFar xs ahead) (sym none) (record { lists = all; behind = λ user o p h. absurd h })

  pub met_ends : (met : List ArenaIndex) → MetSoFar met [] → InOrder f b
  met_ends met m user o p named given before = m.behind user o p (subst (λ xs. In user xs) (none_left met) (subst (λ xs. In user xs) (sym m.lists) (in_both user o (ops_of f b) before).0)) named given before
    where
      none_left : (xs : List ArenaIndex) → xs ++ [] ≡ xs
      none_left [] = refl
      none_left (x ∷ xs) = ap (λ ys. x ∷ ys) (none_left xs)

  module _ (nested : Nested f) (met rest : List ArenaIndex) (x : ArenaIndex) (m : MetSoFar met (x ∷ rest)) where
    once : Distinct (met ++ x ∷ rest)
    once = subst Distinct (sym m.lists) (Distinct-unmap an_op (ops_of f b) (nested.once (a_block b)))

    pub met_live : IsLive f (an_op x)
    met_live = nested.live (an_op x) (a_block b) (In-map an_op x (ops_of f b) (subst (In x) m.lists (In-right x met (x ∷ rest) (inl refl))))

    is_new : In x met → ⊥
    is_new h = parts_apart x met (x ∷ rest) once h (inl refl)

    -- it goes last among those that were met
    pub met_more : (now : List ArenaIndex) → now ≡ (if list_any (same_id x) met then met else met ++ x ∷ []) → now ≡ met ++ x ∷ []
    met_more now e = e ∙ ap (λ t. if t then met else met ++ x ∷ []) (none_is x met is_new)

    splits : met ++ x ∷ [] ++ rest ≡ met ++ x ∷ rest
    splits = append_assoc met (x ∷ []) rest

    pub met_goes_on : (NamesUnmet f b (met ++ x ∷ []) x → ⊥) → MetSoFar (met ++ x ∷ []) rest
    met_goes_on none = record {
      lists = splits ∙ m.lists;
      behind = λ user o p h named given before. elim (In-append user met (x ∷ []) h) [
        | inl k ↦ m.behind user o p k named given before
        | inr k ↦ elim k [
          | inl e ↦ own o p (subst (λ z. In p (operands_of f z)) e named) given (subst (λ z. StandsBefore z o (ops_of f b)) e before)
          | inr q ↦ absurd q
        ]
      ];
    }
      where
        own : (o : ArenaIndex) (p : Operand context_ids) → In p (operands_of f x) → p.value.definer ≡ of_op o → StandsBefore x o (ops_of f b) → ⊥
        own o p named given before =
            let later : In o rest = behind_it x o met rest once (subst (StandsBefore x o) (sym m.lists) before) in
            none (p, named, (o, given, (in_both x o (ops_of f b) before).1, λ h. parts_apart o (met ++ x ∷ []) rest (subst Distinct (sym splits) once) h later))

    pub met_refutes : NamesUnmet f b (met ++ x ∷ []) x → InOrder f b → ⊥
    met_refutes u order =
        let o = u.2.0 in
        let listed : In o (met ++ x ∷ [] ++ rest) = subst (λ xs. In o xs) (sym (splits ∙ m.lists)) u.2.2 in
        elim (In-append o (met ++ x ∷ []) rest listed) [
          | inl k ↦ u.2.3 k
          | inr k ↦ order x o u.0 u.1 u.2.1 (subst (StandsBefore x o) m.lists (before_rest x o met rest k))
        ]
