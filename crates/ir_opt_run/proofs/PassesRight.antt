-- Passes one after the other, right or keeping values.
use Rattle.std.proofs.Common.{◌≡◌, ℕ, [], ◌∷◌, Some, None, IsSome, Option, refl, sym, subst, ◌∙◌}
use Rattle.std.proofs.lemmas.Bool.{false≢true}
use Rattle.ir_model.specs.declared.ids.ArenaIndex.{ArenaIndex}
use Rattle.ir_model.specs.ContextIds.{context_ids}
use Rattle.ir_model.specs.Forest.{Dialect, Behaviour, Forest, OpRecord, an_op}
use Rattle.ir_model.specs.Nesting.{IsLive, WellFormed}
use Rattle.ir_model_passes.specs.Meaning.{Interpretation, OnlyPureGo, Respects, SameAttributes}
use Rattle.ir_model_passes.specs.RightPasses.{IsRight}
use Rattle.ir_model_passes.specs.PassLaws.{MergeInsideIsRight, NothingIsRight, RightPassesFollow, SweepInsideIsRight}
use Rattle.ir_run_unreached.specs.Inside.{InsideRemovalTells}
use Rattle.ir_opt_run.specs.declared.options.Pass.{Pass}
use Rattle.ir_opt_run.specs.declared.options.Pass.TheVariants as passes
use Rattle.ir_opt_run.specs.Passes.{PassLeads, PassesLead}
use Rattle.ir_opt_run.specs.RunLaws.{Keeps, LetEffectsStay, LetsEffectsStay, PassesAreRight, PassesKeep}

module _ (W : Dialect) (V : Type 0) (sweep : SweepInsideIsRight W V) (merge : MergeInsideIsRight W V) where
  -- one pass is right, if it lets effects stay
  one_right : (B : Behaviour W) (same : SameAttributes W) (gives : Interpretation W V) → Respects W V same gives → (f g : Forest context_ids W) (keys : ℕ) (root : ArenaIndex) (p : Pass)
      → WellFormed f keys → LetsEffectsStay p → PassLeads B same root p f g → IsRight B gives keys f g
  one_right B same gives respects f g keys root passes.Sweep formed lets leads = sweep B gives f g keys leads.0 (an_op root) formed leads.1
  one_right B same gives respects f g keys root passes.Cse formed lets leads = merge B same gives respects f g keys leads.0 (an_op root) formed leads.1
  one_right B same gives respects f g keys root passes.UnreachableBlocks formed lets leads = absurd lets

  module _ (follow : RightPassesFollow W V) (nothing : NothingIsRight W V) where
    -- and so are all such, one after the other
    pub all_right : PassesAreRight W V
    unfolding PassesLead LetEffectsStay
    all_right B same gives respects f g keys root [] formed lets leads = subst (λ (h : Forest context_ids W). IsRight B gives keys f h) leads (nothing B gives f keys formed)
    all_right B same gives respects f g keys root (p ∷ ps) formed lets leads =
        let first = one_right B same gives respects f leads.0 keys root p formed lets.0 leads.1 in
        follow B gives f leads.0 g keys formed first (all_right B same gives respects leads.0 g keys root ps first.formed lets.1 leads.2)

  -- what is there was there, where only pure operations went
  was_there : (B : Behaviour W) (f g : Forest context_ids W) → OnlyPureGo B f g → (o : ArenaIndex) → IsLive g (an_op o) → IsLive f (an_op o)
  was_there B f g only o live = found (g.ops o) refl live
    where
      found : (r : Option (OpRecord context_ids W)) → g.ops o ≡ r → IsSome r → IsSome (f.ops o)
      found (Some r) is live = let (q, was, _) = only.ops o r is in subst (λ (x : Option (OpRecord context_ids W)). IsSome x) (sym was) refl
      found None is live = absurd (false≢true live)

  right_keeps : (B : Behaviour W) (gives : Interpretation W V) (keys : ℕ) (f g : Forest context_ids W) → IsRight B gives keys f g → Keeps W V B gives keys f g
  right_keeps B gives keys f g right = record { formed = right.formed; there = was_there B f g right.only_pure; values = right.values }

  module _ (unreached : InsideRemovalTells W V) where
    one_keeps : (B : Behaviour W) (same : SameAttributes W) (gives : Interpretation W V) → Respects W V same gives → (f g : Forest context_ids W) (keys : ℕ) (root : ArenaIndex) (p : Pass)
        → WellFormed f keys → PassLeads B same root p f g → Keeps W V B gives keys f g
    one_keeps B same gives respects f g keys root passes.Sweep formed leads = right_keeps B gives keys f g (one_right B same gives respects f g keys root passes.Sweep formed tt leads)
    one_keeps B same gives respects f g keys root passes.Cse formed leads = right_keeps B gives keys f g (one_right B same gives respects f g keys root passes.Cse formed tt leads)
    one_keeps B same gives respects f g keys root passes.UnreachableBlocks formed (names, (count, removed)) =
        let tells = unreached B gives root f g keys count formed removed.0 in
        record { formed = (tells.formed names).0; there = λ o live. subst (λ (x : Option (OpRecord context_ids W)). IsSome x) (tells.stays o live) live; values = tells.values }

    -- what one keeps, and then another
    keeps_then : (B : Behaviour W) (gives : Interpretation W V) (keys : ℕ) (f g h : Forest context_ids W) → Keeps W V B gives keys f g → Keeps W V B gives keys g h → Keeps W V B gives keys f h
    keeps_then B gives keys f g h one two = record {
      formed = two.formed;
      there = λ o live. one.there o (two.there o live);
      values = λ a is.
          let first = one.values a is in
          let second = two.values a first.consistent in
          record { consistent = second.consistent; values = λ o live. second.values o live ∙ first.values o (two.there o live) };
    }

    pub all_keep : PassesKeep W V
    unfolding PassesLead
    all_keep B same gives respects f g keys root [] formed leads =
        subst (λ (h : Forest context_ids W). Keeps W V B gives keys f h) leads (record { formed = formed; there = λ o live. live; values = λ a is. record { consistent = is; values = λ o live. refl } })
    all_keep B same gives respects f g keys root (p ∷ ps) formed leads =
        let first = one_keeps B same gives respects f leads.0 keys root p formed leads.1 in
        keeps_then B gives keys f leads.0 g first (all_keep B same gives respects leads.0 g keys root ps first.formed leads.2)
