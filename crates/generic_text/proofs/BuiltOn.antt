-- What is built on, one step after the other.
use Rattle.std.proofs.Common.{◌≡◌, ℕ, OnErr, OnOk, Result, Ok, Err, Some, List, [], ◌∷◌, ◌++◌, slice_get, sym, subst}
use Rattle.std.specs.List.{All}
use Rattle.std.proofs.lemmas.List.Elements.{All-append, All-cons, All-nil}
use Rattle.std.proofs.lemmas.Option.{get_or_from_slice_get, slice_get_within}
use Rattle.ir_model.specs.Forest.{a_block, an_op}
use Rattle.ir_model.specs.Nesting.{Nested}
use Rattle.generic_text.specs.declared.made.Made.{Made}
use Rattle.generic_text.specs.Left.{BuildsOn, GenericForest, IsNew, StandsApart}
use Rattle.generic_text.proofs.Apart.{apart-none, apart-same}

-- what holds holds where nothing went wrong
pub any_ok : {X E P : Type 0} (r : Result X E) → P → OnOk r P
any_ok (Ok x) p = p
any_ok (Err e) p = tt

module _ {P : Type 0} (Q : P → Type 0) where
  -- what holds of all holds of the one at a place
  pub all_at : (xs : List P) (k : ℕ) (x : P) → All Q xs → slice_get xs k ≡ Some x → Q x
  all_at xs k x all at = subst Q (get_or_from_slice_get xs k x x at) (all k x (slice_get_within xs k x at))

  -- and with one more it holds of all
  pub all_more : (xs ys : List P) (x : P) → ys ≡ xs ++ x ∷ [] → All Q xs → Q x → All Q ys
  all_more xs ys x is all one = subst (λ (zs : List P). All Q zs) (sym is) (All-append Q xs (x ∷ []) all (All-cons Q x [] one (All-nil Q)))

-- what follows where a call was made, and where it was refused, follows in each case
pub either_way : {X E P Q R : Type 0} (r : Result X E) → OnOk r P → OnErr r Q → (P → R) → (Q → R) → R
either_way (Ok x) p q made refused = made p
either_way (Err e) p q made refused = refused q

module _ (first f : GenericForest) (made : Made) (builds : BuildsOn first f made) where
  -- where as much is made as before
  pub on_apart : (g : GenericForest) (more : Made) → StandsApart first g → more.ops.items ≡ made.ops.items → more.blocks.items ≡ made.blocks.items → more.late.items ≡ made.late.items → BuildsOn first g more
  on_apart g more apart ops blocks late = record {
    apart = apart;
    ops = subst (λ ps. All (λ p. IsNew first (an_op p.0.index)) ps) (sym ops) builds.ops;
    blocks = subst (λ bs. All (λ b. IsNew first (a_block b.index)) bs) (sym blocks) builds.blocks;
    late = subst (λ ps. All (λ p. IsNew first (an_op p.0.index)) ps) (sym late) builds.late;
  }

  -- where nothing has changed
  pub on_same : (g : GenericForest) (more : Made) → g ≡ f → more.ops.items ≡ made.ops.items → more.blocks.items ≡ made.blocks.items → more.late.items ≡ made.late.items → BuildsOn first g more
  on_same g more is ops blocks late = on_apart g more (apart-same first f builds.apart g is) ops blocks late

-- before anything is made
pub begins : (f : GenericForest) (made : Made) → Nested f → made.ops.items ≡ [] → made.blocks.items ≡ [] → made.late.items ≡ [] → BuildsOn f f made
begins f made nested ops blocks late = record {
  apart = apart-none f nested;
  ops = subst (λ ps. All (λ p. IsNew f (an_op p.0.index)) ps) (sym ops) (All-nil (λ p. IsNew f (an_op p.0.index)));
  blocks = subst (λ bs. All (λ b. IsNew f (a_block b.index)) bs) (sym blocks) (All-nil (λ b. IsNew f (a_block b.index)));
  late = subst (λ ps. All (λ p. IsNew f (an_op p.0.index)) ps) (sym late) (All-nil (λ p. IsNew f (an_op p.0.index)));
}
