-- Where an operation may stand, as it is tested: by who is inside whom.
use Rattle.std.proofs.Common.{◌≡◌, refl, sym, subst, ◌∙◌, Bool, true, false}
use Rattle.std.specs.Prelude.{◌↔◌, not}
use Rattle.ir_model.specs.declared.ids.ArenaIndex.{ArenaIndex}
use Rattle.ir_model.specs.ContextIds.{context_ids}
use Rattle.ir_model.specs.Forest.{Dialect, Entity, Forest, an_op}
use Rattle.ir_model.specs.Nesting.{In, Inside, Nested, children}
use Rattle.ir_rewrite.specs.Points.{StandsOutside}

-- a test that says yes and no
pub clash : (b : Bool) → b ≡ true → b ≡ false → ⊥
clash b t f = let e : true ≡ false = sym t ∙ f in cc

-- what is said where a test says no, by what the test says
pub negated : (b : Bool) (P Q : Type 0) → (b ≡ true) ↔ P → (P → Q → ⊥) → ((P → ⊥) → Q) → (not b ≡ true) ↔ Q
negated true P Q tells apart else_ = (λ e. absurd (clash false e refl), λ q. absurd (apart (tells.0 refl) q))
negated false P Q tells apart else_ = (λ _. else_ (λ p. clash false (tells.1 p) refl), λ _. refl)

module _ {W : Dialect} (f : Forest context_ids W) (nested : Nested f) where
  -- the mark stands outside exactly where what has it isn't inside the operation
  pub stands : (o mark : ArenaIndex) (y : Entity context_ids) → In (an_op mark) (children f y) → (b : Bool) → (b ≡ true) ↔ Inside f (an_op o) y → (not b ≡ true) ↔ StandsOutside f mark o
  stands o mark y at b tells = negated b (Inside f (an_op o) y) (StandsOutside f mark o) tells
      (λ within may. may.2 (subst (λ z. Inside f (an_op o) z) (nested.one_list (an_op mark) y may.0 at may.1) within))
      (λ apart. (y, at, apart))

-- a mark that is in no list stands nowhere
pub stands_not : {W : Dialect} (f : Forest context_ids W) (o mark : ArenaIndex) → ((y : Entity context_ids) → In (an_op mark) (children f y) → ⊥) → (false ≡ true) ↔ StandsOutside f mark o
stands_not f o mark none = (λ e. absurd (clash false e refl), λ may. absurd (none may.0 may.1))
