-- An erasure as a whole: its uses are dropped, its leaves removed one by one, and it is itself the last leaf.
use mathlib.Core.Path.{◌≡◌, subst}
use Rattle.std.proofs.Common.{ℕ, ◌+◌, [], arith}
use Rattle.ir_model.specs.Ids.{Ids}
use Rattle.ir_model.specs.Forest.{Dialect, Entity, Forest}
use Rattle.ir_model.specs.Nesting.{children, Inside, WellFormed}
use Rattle.ir_model.specs.Changes.{DropsUses, Removes}
use Rattle.ir_model.specs.Subtree.{IsSubtreeSize}
use Rattle.ir_model.proofs.Loops.{Lawful}
use Rattle.ir_core_erasing.specs.Dropping.{Bare, Unnamed}
use Rattle.ir_core_erasing.proofs.Drops.{drop-inside, drop-was_inside}
use Rattle.ir_core_erasing.proofs.Unnamed.{leaf-unnamed, leaf-formed}
use Rattle.ir_core_erasing.proofs.Bare.{removed-bare}
use Rattle.ir_core_erasing.proofs.LeafRemovals.{leaf-first, leaf-counts, leaf-size}

module _ {N : Ids} {W : Dialect} where
  pub drop-size : (f g : Forest N W) (e : Entity N) (n : ℕ) → DropsUses f e g → IsSubtreeSize g e n → IsSubtreeSize f e n
  drop-size f g e n d s = (
    s.0,
    record { once = s.1.once; exact = λ x. (λ h. drop-was_inside f g e d e x ((s.1.exact x).0 h), λ i. (s.1.exact x).1 (drop-inside f g e d e x i)) },
    s.2,
  )

  -- an erasure of e that began at `first` has come to `now`, and has removed so many leaves
  pub record Erasing (first : Forest N W) (e : Entity N) (keys : ℕ) (now : Forest N W) (steps : ℕ) : Type 0 where
    pub formed : WellFormed now keys
    pub unnamed : Unnamed now e
    pub bare : Bare now e
    pub completes : (last : Forest N W) → Removes now e last → Removes first e last
    pub counts : (left : ℕ) → IsSubtreeSize now e left → IsSubtreeSize first e (left + steps)

  module _ (first : Forest N W) (e : Entity N) (keys : ℕ) where
    module _ (L : Lawful N) (now next : Forest N W) (leaf : Entity N) (steps : ℕ) (at : Erasing first e keys now steps)
        (empty : children now leaf ≡ []) (i : Inside now e leaf) (r : Removes now leaf next) where
      pub erasing-step : (leaf ≡ e → ⊥) → Erasing first e keys next (steps + 1)
      erasing-step other = record {
        formed = leaf-formed L now next e leaf keys at.formed at.unnamed i r;
        unnamed = leaf-unnamed L now next e leaf keys at.unnamed empty i r;
        bare = removed-bare now next leaf r e at.bare;
        completes = λ last k. at.completes last (leaf-first L now next leaf empty r at.formed.nested e other i last k);
        counts = λ left s. subst (IsSubtreeSize first e) (omega arith) (at.counts (left + 1) (leaf-counts L now next leaf empty r at.formed.nested e other i left s));
      }

      pub erasing-last : leaf ≡ e → Removes first e next × IsSubtreeSize first e (steps + 1) × WellFormed next keys
      erasing-last is = (
        at.completes next (subst (λ z. Removes now z next) is r),
        subst (IsSubtreeSize first e) (omega arith) (at.counts 1 (subst (λ z. IsSubtreeSize now z 1) is (leaf-size L now next leaf empty r))),
        leaf-formed L now next e leaf keys at.formed at.unnamed i r,
      )
