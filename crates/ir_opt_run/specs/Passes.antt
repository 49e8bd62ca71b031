-- What the passes of a run make of a forest.
use Rattle.std.specs.Prelude.{◌≡◌, ℕ, List, [], ◌∷◌}
use Rattle.ir_model.specs.declared.ids.ArenaIndex.{ArenaIndex}
use Rattle.ir_model.specs.ContextIds.{context_ids}
use Rattle.ir_model.specs.Forest.{Dialect, Behaviour, Forest, an_op}
use Rattle.ir_model_passes.specs.Meaning.{SameAttributes}
use Rattle.ir_model_passes.specs.MergingInside.{MergesInside}
use Rattle.ir_model_passes.specs.SweepInside.{SweepsInside}
use Rattle.ir_run_unreached.specs.Inside.{NamesStayInsideEach, RemovesUnreachedInside}
use Rattle.ir_opt_run.specs.declared.options.Pass.{Pass}
use Rattle.ir_opt_run.specs.declared.options.Pass.TheVariants as passes

module _ {W : Dialect} (B : Behaviour W) (same : SameAttributes W) (root : ArenaIndex) where
  -- what a pass makes of all that stands inside the root
  abbrev pub PassLeads : Pass → Forest context_ids W → Forest context_ids W → Type 0
  PassLeads passes.Sweep f g = (count : ℕ) × SweepsInside B f (an_op root) g count
  PassLeads passes.Cse f g = (count : ℕ) × MergesInside B same f (an_op root) g count
  PassLeads passes.UnreachableBlocks f g = NamesStayInsideEach (an_op root) f × ((count : ℕ) × RemovesUnreachedInside (an_op root) f g count)

  -- one pass after the other
  unfoldable pub PassesLead : List Pass → Forest context_ids W → Forest context_ids W → Type 0
  PassesLead [] f g = f ≡ g
  PassesLead (p ∷ ps) f g = (h : Forest context_ids W) × PassLeads p f h × PassesLead ps h g
