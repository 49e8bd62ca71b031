-- Passes that lead on, one after the other.
use Rattle.std.proofs.Common.{◌≡◌, List, [], ◌∷◌, refl, sym, subst, ◌∙◌}
use Rattle.ir_model.specs.declared.ids.ArenaIndex.{ArenaIndex}
use Rattle.ir_model.specs.ContextIds.{context_ids}
use Rattle.ir_model.specs.Forest.{Dialect, Behaviour, Forest}
use Rattle.ir_model.specs.Sessions.{Session}
use Rattle.ir_core_queries.specs.Calls.{SameButForest}
use Rattle.ir_model_passes.specs.Meaning.{SameAttributes}
use Rattle.ir_opt_run.specs.declared.options.Pass.{Pass}
use Rattle.ir_opt_run.specs.Passes.{PassLeads, PassesLead}

module _ {W : Dialect} (B : Behaviour W) (same : SameAttributes W) (root : ArenaIndex) (passes : List Pass) (f : Forest context_ids W) where
  -- whatever the passes that are left make of this forest, all passes make of the first
  abbrev pub LedSoFar : List Pass → Forest context_ids W → Type 0
  LedSoFar left g = (h : Forest context_ids W) → PassesLead B same root left g h → PassesLead B same root passes f h

  pub led_one_more : (left rest : List Pass) (p : Pass) (g h : Forest context_ids W) → left ≡ p ∷ rest → LedSoFar left g → PassLeads B same root p g h → LedSoFar rest h
  unfolding PassesLead
  led_one_more left rest p g h is so_far one k more = so_far k (subst (λ (ps : List Pass). PassesLead B same root ps g k) (sym is) (h, one, more))

  pub led_by_all : (left : List Pass) (g : Forest context_ids W) → left ≡ [] → LedSoFar left g → PassesLead B same root passes f g
  unfolding PassesLead
  led_by_all left g is so_far = so_far g (subst (λ (ps : List Pass). PassesLead B same root ps g g) (sym is) refl)

-- all but the forest is as before, over two changes
pub same_joined : {W : Dialect} (r s t : Session W) → SameButForest r s → SameButForest s t → SameButForest r t
same_joined r s t a c = record { store = c.store ∙ a.store; beside = c.beside ∙ a.beside; passed = c.passed ∙ a.passed; limits = c.limits ∙ a.limits }
