-- What stands first in a list, and after an item at its index.
use Rattle.std.proofs.Common.{◌≡◌, ◌<◌, ℕ, zero, suc, inl, List, [], ◌∷◌, ◌++◌, map, length, slice_get, Some, refl, sym, ap, ◌∙◌, subst, arith}
use Rattle.std.specs.Option.{option_map}
use Rattle.std.proofs.lemmas.List.{length-map}
use Rattle.std.proofs.lemmas.Option.{same_Some, slice_get-map}
use Rattle.ir_model.specs.declared.ids.ArenaIndex.{ArenaIndex}
use Rattle.ir_model.specs.ContextIds.{context_ids}
use Rattle.ir_model.specs.Forest.{Dialect, Entity, Forest, an_op, a_block, a_region}
use Rattle.ir_model.specs.Ids.{Distinct}
use Rattle.ir_model.specs.Nesting.{In, Nested, children}
use Rattle.ir_model.specs.Parent.{first_of, Adjacent, ComesAfter, IsIndex, IsParent}
use Rattle.ir_model.proofs.Back.{slice_get-in}
use Rattle.ir_model.proofs.Nests.{not_in-Absent, In-right}
use Rattle.ir_model.proofs.Relinks.{Adjacent-first}

pub first-map : {A B : Type 0} (m : A → B) (xs : List A) → option_map m (first_of xs) ≡ first_of (map m xs)
first-map m [] = refl
first-map m (x ∷ xs) = refl

module _ {A : Type 0} where
  -- what stands at the next index comes right after
  adjacent-at : (xs : List A) (k : ℕ) (x y : A) → slice_get xs k ≡ Some x → slice_get xs (suc k) ≡ Some y → Adjacent x y xs
  adjacent-at [] k x y e h = absurd cc
  adjacent-at (z ∷ []) zero x y e h = absurd cc
  adjacent-at (z ∷ w ∷ ws) zero x y e h = ([], ws, ap (λ v. v ∷ w ∷ ws) (same_Some z x e) ∙ ap (λ v. x ∷ v ∷ ws) (same_Some w y h))
  adjacent-at (z ∷ zs) (suc k) x y e h = let m = adjacent-at zs k x y e h in (z ∷ m.0, m.1, ap (λ ws. z ∷ ws) m.2)

  -- where something comes right after an item, there is a next index
  next-at : (xs : List A) (k : ℕ) (x y : A) (us vs : List A) → Distinct xs → slice_get xs k ≡ Some x → xs ≡ us ++ x ∷ y ∷ vs → suc k < length xs
  next-at [] k x y us vs d e is = absurd cc
  next-at (z ∷ zs) zero x y [] vs d e is =
      let t : zs ≡ y ∷ vs = cc in
      let n = ap length t in
      omega (arith, n)
  next-at (z ∷ zs) zero x y (u ∷ us) vs d e is =
      let t : zs ≡ us ++ x ∷ y ∷ vs = cc in
      absurd (not_in-Absent z zs d.0 (subst (In z) (sym t) (subst (λ w. In z (us ++ w ∷ y ∷ vs)) (same_Some z x e) (In-right z us (z ∷ y ∷ vs) (inl refl)))))
  next-at (z ∷ zs) (suc k) x y [] vs d e is =
      let s : z ≡ x = cc in
      absurd (not_in-Absent z zs d.0 (subst (λ w. In w zs) (sym s) (slice_get-in zs k x e)))
  next-at (z ∷ zs) (suc k) x y (u ∷ us) vs d e is =
      let t : zs ≡ us ++ x ∷ y ∷ vs = cc in
      let n = next-at zs k x y us vs d.1 e t in
      omega (arith, n)

  within-at : (xs : List A) (k : ℕ) (x : A) → slice_get xs k ≡ Some x → k < length xs
  within-at [] k x e = absurd cc
  within-at (z ∷ zs) zero x e = omega arith
  within-at (z ∷ zs) (suc k) x e = let n = within-at zs k x e in omega (arith, n)

-- an operation, a block and a region, as entities
abbrev pub op : ArenaIndex → Entity context_ids
op o = an_op o

abbrev pub block : ArenaIndex → Entity context_ids
block b = a_block b

abbrev pub region : ArenaIndex → Entity context_ids
region g = a_region g

module _ {W : Dialect} (f : Forest context_ids W) (nested : Nested f) (o g : ArenaIndex) (gs : List ArenaIndex) (listed : children f (an_op o) ≡ map region gs) (parent : IsParent f (region g) (Some (an_op o))) (k : ℕ) (index : IsIndex f (region g) k) where
  -- the region stands at its index among the regions of its operation
  at-index : slice_get (map region gs) k ≡ Some (region g)
  at-index =
      let home : index.0 ≡ an_op o = nested.one_list (region g) index.0 (an_op o) (slice_get-in (children f index.0) k (region g) index.1) parent in
      ap (λ xs. slice_get xs k) (sym listed) ∙ ap (λ y. slice_get (children f y) k) (sym home) ∙ index.1

  pub region-within : k < length gs
  region-within = by gs k (sym (slice_get-map region gs k) ∙ at-index)
    where
      by : (xs : List ArenaIndex) (k : ℕ) → option_map region (slice_get xs k) ≡ Some (region g) → k < length xs
      by [] k e = absurd cc
      by (x ∷ xs) zero e = omega arith
      by (x ∷ xs) (suc k) e = let n = by xs k e in omega (arith, n)

  pub region-next : (h : ArenaIndex) → slice_get gs (suc k) ≡ Some h → ComesAfter f (region g) (region h)
  region-next h e =
      (an_op o, subst (Adjacent (region g) (region h)) (sym listed) (adjacent-at (map region gs) k (region g) (region h) at-index (slice_get-map region gs (suc k) ∙ ap (option_map region) e)))

  pub region-last : (y : Entity context_ids) → suc k ≡ length gs → ComesAfter f (region g) y → ⊥
  region-last y e after =
      let home : after.0 ≡ an_op o = nested.one_list (region g) after.0 (an_op o) (Adjacent-first (region g) y (children f after.0) after.1) parent in
      let is : children f (an_op o) ≡ after.1.0 ++ region g ∷ y ∷ after.1.1 = ap (children f) (sym home) ∙ after.1.2 in
      let at : slice_get (children f (an_op o)) k ≡ Some (region g) = ap (λ xs. slice_get xs k) listed ∙ at-index in
      let n = next-at (children f (an_op o)) k (region g) y after.1.0 after.1.1 (nested.once (an_op o)) at is in
      let same : length (children f (an_op o)) ≡ length gs = ap length listed ∙ length-map gs region in
      absurd (omega (arith, n, same, e))
