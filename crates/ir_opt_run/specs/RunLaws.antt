-- Why the passes of a run are right together.
use Rattle.std.specs.Prelude.{ℕ, ⊤, List, [], ◌∷◌}
use Rattle.ir_model.specs.declared.ids.ArenaIndex.{ArenaIndex}
use Rattle.ir_model.specs.ContextIds.{context_ids}
use Rattle.ir_model.specs.Forest.{Dialect, Behaviour, Forest, an_op}
use Rattle.ir_model.specs.Nesting.{IsLive, WellFormed}
use Rattle.ir_model_passes.specs.Meaning.{Interpretation, KeepsValues, Respects, SameAttributes}
use Rattle.ir_model_passes.specs.RightPasses.{IsRight}
use Rattle.ir_opt_run.specs.declared.options.Pass.{Pass}
use Rattle.ir_opt_run.specs.declared.options.Pass.TheVariants as passes
use Rattle.ir_opt_run.specs.Passes.{PassesLead}

-- the pass lets effects stay, unlike the one that removes unreached blocks
abbrev pub LetsEffectsStay : Pass → Type 0
LetsEffectsStay passes.Sweep = ⊤
LetsEffectsStay passes.Cse = ⊤
LetsEffectsStay passes.UnreachableBlocks = ⊥

-- all of them do
unfoldable pub LetEffectsStay : List Pass → Type 0
LetEffectsStay [] = ⊤
LetEffectsStay (p ∷ ps) = LetsEffectsStay p × LetEffectsStay ps

module _ (W : Dialect) (V : Type 0) where
  -- where passes that let effects stay lead from one forest to another, that is right: only pure operations went, and each operation that is there sees the values that it saw
  abbrev pub PassesAreRight : Type 0
  PassesAreRight = (B : Behaviour W) (same : SameAttributes W) (gives : Interpretation W V) → Respects W V same gives
      → (f g : Forest context_ids W) (keys : ℕ) (root : ArenaIndex) (ps : List Pass) → WellFormed f keys → LetEffectsStay ps → PassesLead B same root ps f g → IsRight B gives keys f g

  -- the forest is well formed, what is there was there, and each operation of it sees the values that it saw
  pub record Keeps (B : Behaviour W) (gives : Interpretation W V) (keys : ℕ) (f g : Forest context_ids W) : Type 0 where
    pub formed : WellFormed g keys
    pub there : (o : ArenaIndex) → IsLive g (an_op o) → IsLive f (an_op o)
    pub values : KeepsValues B gives f g

  -- so it is with all passes; of effects it says nothing, since those in unreached blocks go
  abbrev pub PassesKeep : Type 0
  PassesKeep = (B : Behaviour W) (same : SameAttributes W) (gives : Interpretation W V) → Respects W V same gives
      → (f g : Forest context_ids W) (keys : ℕ) (root : ArenaIndex) (ps : List Pass) → WellFormed f keys → PassesLead B same root ps f g → Keeps B gives keys f g
