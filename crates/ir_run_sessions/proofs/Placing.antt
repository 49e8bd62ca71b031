-- Where entities may stand, as it is tested: by what they stand in, and by who is inside whom.
use Rattle.std.proofs.Common.{◌≡◌, refl, sym, ap, subst, ◌∙◌, inl, inr, ◌⊎◌, ◌↔◌, Bool, true, false, not, IsTrue, ℕ, List, map, Option, None, Some, IfSome, IsNone, MatchOption}
use Rattle.std.specs.Prelude.{slice_get}
use Rattle.std.specs.Option.{option_map}
use Rattle.std.proofs.lemmas.Option.{slice_get-map}
use Rattle.ir_model.specs.Ids.{Ids}
use Rattle.ir_model.specs.Forest.{Dialect, Entity, Forest}
use Rattle.ir_model.specs.Nesting.{In, Inside, Nested, Within, below, children, itself}
use Rattle.ir_model.specs.Edits.{MayGoBeside, MayGoInto, MayJoin, The}
use Rattle.ir_model.specs.Parent.{IsIn}
use Rattle.ir_run_sessions.specs.Named.{Names}
use Rattle.ir_run_sessions.specs.SessionLists.{the-map}

-- what fails exactly where P holds
pub not_so : (P : Type 0) (b : Bool) → IsTrue b ↔ P → IsTrue (not b) ↔ (P → ⊥)
not_so P true told = (λ t. absurd (let f : false ≡ true = t in cc), λ fails. absurd (fails (told.0 refl)))
not_so P false told = (λ t p. let f : false ≡ true = told.1 p in cc, λ fails. refl)

pub both_ways : {P Q R : Type 0} → P ↔ Q → Q ↔ R → P ↔ R
both_ways a b = (λ p. b.0 (a.0 p), λ r. a.1 (b.1 r))

-- what is inside e is e, or inside something in its list
first_step : {E : Type 0} (lists : E → List E) (e a : E) → Within lists e a → (a ≡ e) ⊎ ((x : E) × In x (lists e) × Within lists x a)
first_step lists e a itself = inl refl
first_step lists e a (below {c = c} h w) = elim (first_step lists e c w) [
  | inl same ↦ inr (a, subst (λ z. In a (lists z)) same h, itself)
  | inr more ↦ inr (more.0, more.1, below h more.2)
]

module _ {N : Ids} {W : Dialect} (f : Forest N W) (nested : Nested f) where
  -- an entity may go beside a mark exactly where it may go into what the mark stands in
  pub beside_so : (x mark y : Entity N) → IsIn f mark y → MayGoInto f x y ↔ MayGoBeside f x mark
  beside_so x mark y at = (
    λ may. (may.0, (y, at, may.1)),
    λ may. (may.0, subst (λ z. Inside f x z → ⊥) (nested.one_list mark may.1.0 y may.1.1 at) may.1.2),
  )

  inside_more : (x y z : Entity N) → In x (children f y) → Inside f x z → Inside f y z
  inside_more x y z at itself = below at itself
  inside_more x y z at (below {c = c} h w) = below h (inside_more x y c at w)

  -- a list may be joined to another exactly where that isn't inside what has it
  pub join_so : (donee donor : Entity N) → (Inside f donor donee → ⊥) ↔ MayJoin f donee donor
  join_so donee donor = (
    λ apart. (
      λ same. apart (subst (λ z. Inside f donor z) (sym same) itself),
      λ x at. (λ w. apart (inside_more x donor donee at w), λ w. nested.no_cycle x donor at w),
    ),
    λ may w. elim (first_step (children f) donor donee w) [
      | inl same ↦ may.0 same
      | inr more ↦ (may.1 more.0 more.1).0 more.2
    ],
  )

-- what is looked up in a table by its number is what the number names
module _ {I S : Type 0} (Live : I → Type 0) (index : S → I) (LiveIn : S → Type 0) (lives : (x : S) → LiveIn x ↔ Live (index x))
    (table : List S) (column : List I) (is : map index table ≡ column) (n : ℕ) where
  pub looked_up : (found : Option S) → IfSome found (λ x. slice_get table n ≡ Some x) → IfSome found LiveIn → (IsNone found → The (slice_get table n) LiveIn → ⊥)
      → MatchOption found ((i : I) → Names Live column n i → ⊥) (λ x. Names Live column n (index x))
  looked_up None at live missing = λ i x.
      missing refl ((the-map index table LiveIn Live lives n).1 (record { value = i; found = ap (λ t. slice_get t n) is ∙ x.found; holds = x.live }))
  looked_up (Some x) at live missing = record { found = ap (λ t. slice_get t n) (sym is) ∙ slice_get-map index table n ∙ ap (option_map index) at; live = (lives x).0 live }
