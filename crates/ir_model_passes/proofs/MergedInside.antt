-- Mergings in a block where it is in order, and in each block inside an entity, are right.
use mathlib.Core.Path.{sym, subst}
use Rattle.std.proofs.Common.{ℕ, inl, inr, List, Option}
use Rattle.ir_model.specs.Ids.{Ids}
use Rattle.ir_model.specs.Forest.{Dialect, Behaviour, Entity, Forest}
use Rattle.ir_model.specs.Nesting.{WellFormed}
use Rattle.ir_model.proofs.Loops.{Lawful}
use Rattle.ir_model_passes.specs.Meaning.{SameAttributes, Interpretation, Respects, KeepsMeaning}
use Rattle.ir_model_passes.specs.MergingInside.{MergesCommon, in_order, out_of_order, MergesEach, at_end, one_more, MergesInside, MergesInsideBrokenOff}
use Rattle.ir_model_passes.specs.RightPasses.{IsRight}
use Rattle.ir_model_passes.proofs.FrontWalk.{broken_off_keeps}
use Rattle.ir_model_passes.proofs.Preorder.{meaning_then}
use Rattle.ir_model_passes.proofs.Right.{merges_right, right_then, stays_right}

module _ {N : Ids} {W : Dialect} (L : Lawful N) (B : Behaviour W) (same : SameAttributes W) {V : Type 0} (gives : Interpretation W V) (keys : ℕ) (respects : Respects W V same gives) where
  pub common_right : (f g : Forest N W) (b : N.Block) (answer : Option ℕ) → WellFormed f keys → MergesCommon B same f b g answer → IsRight B gives keys f g
  common_right f g b answer w (in_order order merges) = merges_right B gives keys f g w L same respects b _ merges.steps
  common_right f g b answer w (out_of_order not_so) = stays_right B gives keys f w

  pub each_right : (f g : Forest N W) (blocks : List N.Block) (count : ℕ) → WellFormed f keys → MergesEach B same f blocks g count → IsRight B gives keys f g
  each_right f g blocks count w at_end = stays_right B gives keys f w
  each_right f h _ _ w (one_more {g = g} {blocks = blocks} {count = count} {answer = answer} b now more) =
      let first = common_right f g b answer w now in
      right_then B gives keys f g h w first (each_right g h blocks count first.formed more)

  pub inside_right : (f g : Forest N W) (root : Entity N) (count : ℕ) → WellFormed f keys → MergesInside B same f root g count → IsRight B gives keys f g
  inside_right f g root count w m = each_right f g m.blocks count w m.steps

  pub inside_broken_off_keeps : (f h : Forest N W) (root : Entity N) → WellFormed f keys → MergesInsideBrokenOff B same f root h → WellFormed h keys × KeepsMeaning B gives f h
  inside_broken_off_keeps f h root w m = elim m.broken_off [
    | inl e ↦ (subst (λ z. WellFormed z keys) (sym e) right.formed, subst (KeepsMeaning B gives f) (sym e) kept)
    | inr p ↦ (
        let last = broken_off_keeps L B same p.0 keys gives respects m.between h right.formed p.2 in
        (last.0, meaning_then B gives f m.between h kept last.1))
  ]
    where
      right : IsRight B gives keys f m.between
      right = each_right f m.between m.blocks m.count w m.steps

      kept : KeepsMeaning B gives f m.between
      kept = record { only_pure = right.only_pure; values = right.values }
