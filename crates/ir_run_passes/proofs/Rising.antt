-- What holds of a block whose operations are in slots that rise.
use mathlib.Core.Path.{◌≡◌, refl, sym, ap, ◌∙◌, subst}
use Rattle.std.proofs.Common.{ℕ, ◌<◌, ◌≤◌, ◌⊎◌, inl, inr, List, [], ◌∷◌, arith}
use Rattle.std.specs.Prelude.{◌↔◌, IsTrue}
use Rattle.ir_model.specs.declared.ids.ArenaIndex.{ArenaIndex}
use Rattle.ir_model.specs.ContextIds.{context_ids}
use Rattle.ir_model.specs.Forest.{Dialect, Forest, of_op, an_op, a_block}
use Rattle.ir_model.specs.Nesting.{In, IsLive, Nested, ops_of}
use Rattle.ir_model.proofs.Nests.{In-map}
use Rattle.ir_model_passes.specs.Merging.{StandsBefore}
use Rattle.ir_model_passes.specs.InOrder.{InOrder}
use Rattle.ir_run_passes.specs.Ordering.{NamesAbove, Rises, RisesInOrder}

-- what stands behind something of a list stands in the list
pub later_in : {A : Type 0} (x y : A) (xs : List A) → StandsBefore x y xs → In y xs
later_in x y [] h = absurd h
later_in x y (z ∷ zs) (inl h) = inr h.1
later_in x y (z ∷ zs) (inr h) = inr (later_in x y zs h)

module _ {W : Dialect} (f : Forest context_ids W) (b : ArenaIndex) where
  -- all of a list that rises is above the slot that it rises from
  all_above : (slot : ℕ) (o : ArenaIndex) (xs : List ArenaIndex) → Rises f b slot xs → In o xs → slot < o.slot
  all_above slot o [] r h = absurd h
  all_above slot o (x ∷ xs) r (inl e) = subst (λ (z : ArenaIndex). slot < z.slot) (sym e) r.0
  all_above slot o (x ∷ xs) r (inr h) = let first = r.0 in let more = all_above x.slot o xs r.2 h in omega (arith, first, more)

  -- what stands before another one there is in a lower slot, and names nothing from above
  lower : (slot : ℕ) (user o : ArenaIndex) (xs : List ArenaIndex) → Rises f b slot xs → StandsBefore user o xs → (user.slot < o.slot) × (NamesAbove f b user → ⊥)
  lower slot user o [] r h = absurd h
  lower slot user o (x ∷ xs) r (inl h) = (
    subst (λ (z : ArenaIndex). z.slot < o.slot) (sym h.0) (all_above x.slot o xs r.2 h.1),
    subst (λ (z : ArenaIndex). NamesAbove f b z → ⊥) (sym h.0) r.1,
  )
  lower slot user o (x ∷ xs) r (inr h) = lower x.slot user o xs r.2 h

  pub rising_in_order : RisesInOrder f b → InOrder f b
  rising_in_order r user o p named given before =
      let is = lower 0 user o (ops_of f b) r before in
      is.1 (p, named, (o, given, later_in user o (ops_of f b) before, is.0))

  -- what is ahead belongs to the block, and rises from this slot exactly where the whole block rises
  pub record RisesSoFar (slot : ℕ) (ahead : List ArenaIndex) : Type 0 where
    pub part : (o : ArenaIndex) → In o ahead → In o (ops_of f b)
    pub same : Rises f b slot ahead ↔ RisesInOrder f b

  pub rising_starts : (slot : ℕ) (ahead : List ArenaIndex) → slot ≡ 0 → ahead ≡ ops_of f b → RisesSoFar slot ahead
  rising_starts slot ahead first all = subst (λ n. RisesSoFar n ahead) (sym first) (subst (λ xs. RisesSoFar 0 xs) (sym all) (record { part = λ o h. h; same = (λ r. r, λ r. r) }))

  pub rising_ends : (slot : ℕ) → RisesSoFar slot [] → RisesInOrder f b
  rising_ends slot m = m.same.0 tt

  module _ (slot : ℕ) (rest : List ArenaIndex) (x : ArenaIndex) (m : RisesSoFar slot (x ∷ rest)) where
    pub rising_live : Nested f → IsLive f (an_op x)
    rising_live nested = nested.live (an_op x) (a_block b) (In-map an_op x (ops_of f b) (m.part x (inl refl)))

    pub rising_goes_on : slot < x.slot → (NamesAbove f b x → ⊥) → RisesSoFar x.slot rest
    rising_goes_on higher none = record {
      part = λ o h. m.part o (inr h);
      same = (λ r. m.same.0 (higher, none, r), λ r. (m.same.1 r).2);
    }

    -- where the slot of the next one is not higher, the block doesn't rise
    pub not_higher : x.slot ≤ slot → RisesInOrder f b → ⊥
    not_higher lower r = let higher = (m.same.1 r).0 in omega (arith, lower, higher)

    -- nor where the next one names something from above
    pub names_from_above : NamesAbove f b x → RisesInOrder f b → ⊥
    names_from_above named r = (m.same.1 r).1 named
