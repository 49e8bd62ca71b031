-- While an erasure removes leaves, no operation inside has operands or successors.
use mathlib.Core.Path.{◌≡◌, refl, ap, ◌∙◌}
use Rattle.std.proofs.Common.{Option, Some, None, List, []}
use Rattle.std.specs.Option.{option_map}
use Rattle.ir_model.specs.Ids.{Ids}
use Rattle.ir_model.specs.Forest.{Dialect, Entity, an_op, a_region, OpRecord, Forest}
use Rattle.ir_model.specs.Nesting.{list_of, Inside}
use Rattle.ir_model.specs.Changes.{on_regions, but, no_uses, DropsUses, Removes}
use Rattle.ir_core_erasing.specs.Dropping.{Bare}
use Rattle.ir_model.proofs.Keeps.{list_of-map}
use Rattle.ir_core_erasing.proofs.Drops.{drop-was_inside}
use Rattle.ir_core_erasing.proofs.Unnamed.{removed-inside}

-- a list that was empty is empty where the record is gone or as it was kept
still_empty : {A B : Type 0} (Ins : Type 0) (of : B → List A) (now kept : Option B) → (Ins → now ≡ None) → ((Ins → ⊥) → now ≡ kept) → list_of of kept ≡ [] → list_of of now ≡ []
still_empty Ins of None kept gone out e = refl
still_empty Ins of (Some r) kept gone out e = ap (list_of of) (out (λ i. (let k : Some r ≡ None = gone i in cc))) ∙ e

module _ {N : Ids} {W : Dialect} where
  no_operands : (m : Option (OpRecord N W)) → list_of (λ r. r.operands) (option_map no_uses m) ≡ []
  no_operands None = refl
  no_operands (Some r) = refl

  no_successors : (m : Option (OpRecord N W)) → list_of (λ r. r.successors) (option_map no_uses m) ≡ []
  no_successors None = refl
  no_successors (Some r) = refl

  pub drop-bare : (f g : Forest N W) (e : Entity N) → DropsUses f e g → Bare g e
  drop-bare f g e d o i =
      let k = d.inside o (drop-was_inside f g e d e (an_op o) i) in
      (ap (list_of (λ (r : OpRecord N W). r.operands)) k ∙ no_operands (f.ops o), ap (list_of (λ (r : OpRecord N W). r.successors)) k ∙ no_successors (f.ops o))

  module _ (f g : Forest N W) (x : Entity N) (r : Removes f x g) (e : Entity N) (bare : Bare f e) where
    pub removed-bare : Bare g e
    removed-bare o i =
        let was = bare o (removed-inside f g x r e (an_op o) i) in
        let kept = option_map (on_regions (but x a_region)) (f.ops o) in (
          still_empty (Inside f x (an_op o)) (λ (q : OpRecord N W). q.operands) (g.ops o) kept (r.ops_inside o) (r.ops_outside o) (list_of-map (λ q. q.operands) (on_regions (but x a_region)) (λ q. refl) (f.ops o) ∙ was.0),
          still_empty (Inside f x (an_op o)) (λ (q : OpRecord N W). q.successors) (g.ops o) kept (r.ops_inside o) (r.ops_outside o) (list_of-map (λ q. q.successors) (on_regions (but x a_region)) (λ q. refl) (f.ops o) ∙ was.1),
        )
