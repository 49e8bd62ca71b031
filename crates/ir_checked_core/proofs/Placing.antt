-- Where entities may stand and lists may be joined, as it is tested: by who is inside whom.
use Rattle.std.proofs.Common.{◌≡◌, refl, sym, subst, ◌∙◌, inl, inr, ◌⊎◌, Bool, true, false, List}
use Rattle.std.specs.Prelude.{◌↔◌, not}
use Rattle.ir_model.specs.Ids.{Ids}
use Rattle.ir_model.specs.Forest.{Dialect, Entity, Forest}
use Rattle.ir_model.specs.Nesting.{In, Inside, IsLinked, Nested, Within, below, children, itself}
use Rattle.ir_model.specs.Edits.{MayGoBeside, MayJoin}

-- a test that says yes and no
pub clash : (b : Bool) → b ≡ true → b ≡ false → ⊥
clash b t f = let e : true ≡ false = sym t ∙ f in cc

-- what is said where a test says no, by what the test says
pub negated : (b : Bool) (P Q : Type 0) → (b ≡ true) ↔ P → (P → Q → ⊥) → ((P → ⊥) → Q) → (not b ≡ true) ↔ Q
negated true P Q tells apart else_ = (λ e. absurd (clash false e refl), λ q. absurd (apart (tells.0 refl) q))
negated false P Q tells apart else_ = (λ _. else_ (λ p. clash false (tells.1 p) refl), λ _. refl)

-- what is inside e is e, or inside something in its list
first_step : {E : Type 0} (lists : E → List E) (e a : E) → Within lists e a → (a ≡ e) ⊎ ((x : E) × In x (lists e) × Within lists x a)
first_step lists e a itself = inl refl
first_step lists e a (below {c = c} h w) = elim (first_step lists e c w) [
  | inl same ↦ inr (a, subst (λ z. In a (lists z)) same h, itself)
  | inr more ↦ inr (more.0, more.1, below h more.2)
]

module _ {N : Ids} {W : Dialect} (f : Forest N W) (nested : Nested f) where
  inside_more : (x y z : Entity N) → In x (children f y) → Inside f x z → Inside f y z
  inside_more x y z at itself = below at itself
  inside_more x y z at (below {c = c} h w) = below h (inside_more x y c at w)

  may_join : (donee donor : Entity N) → (Inside f donor donee → ⊥) → MayJoin f donee donor
  may_join donee donor apart = (
    λ same. apart (subst (λ z. Inside f donor z) (sym same) itself),
    λ x at. (λ w. apart (inside_more x donor donee at w), λ w. nested.no_cycle x donor at w),
  )

  may_not_join : (donee donor : Entity N) → Inside f donor donee → MayJoin f donee donor → ⊥
  may_not_join donee donor within may = elim (first_step (children f) donor donee within) [
    | inl same ↦ may.0 same
    | inr more ↦ (may.1 more.0 more.1).0 more.2
  ]

  -- a list may be joined to another exactly where that isn't inside what has it
  pub joins : (donee donor : Entity N) (b : Bool) → (b ≡ true) ↔ Inside f donor donee → (not b ≡ true) ↔ MayJoin f donee donor
  joins donee donor b tells = negated b (Inside f donor donee) (MayJoin f donee donor) tells (may_not_join donee donor) (may_join donee donor)

  -- an unlinked entity may stand beside a mark exactly where what has the mark isn't inside it
  pub stands : (x mark y : Entity N) → (IsLinked f x → ⊥) → In mark (children f y) → (b : Bool) → (b ≡ true) ↔ Inside f x y → (not b ≡ true) ↔ MayGoBeside f x mark
  stands x mark y unlinked at b tells = negated b (Inside f x y) (MayGoBeside f x mark) tells
      (λ within may. may.1.2 (subst (λ z. Inside f x z) (nested.one_list mark y may.1.0 at may.1.1) within))
      (λ apart. (unlinked, (y, at, apart)))

  -- nothing may stand beside a mark that is in no list
  pub stands_not : (x mark : Entity N) → ((y : Entity N) → In mark (children f y) → ⊥) → (false ≡ true) ↔ MayGoBeside f x mark
  stands_not x mark none = (λ e. absurd (clash false e refl), λ may. absurd (none may.1.0 may.1.1))
