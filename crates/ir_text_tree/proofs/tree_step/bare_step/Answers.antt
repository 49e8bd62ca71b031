use Rattle.std.proofs.Common.{◌≡◌, Bool, refl, sym, ap, ◌∙◌}
use Rattle.ir_text_tree.specs.declared.sort.Sort.{Sort}
use Rattle.ir_text_tree.specs.declared.sort.Sort.TheVariants as s
use Rattle.ir_text_tree.specs.TreeSteps.{after_step, behind_type, bare_step}
use Rattle.ir_text_tree.proofs.tree_step.bare_step.Goals as goal

-- any token that is no group
bare_other : (inside : Bool) (x : Sort) → (x ≡ s.Group → ⊥) → bare_step inside x ≡ behind_type (after_step inside x)
bare_other inside s.Group h = absurd (h refl)
bare_other inside _ h = refl

pub returns-in_default : goal.returns-in_default
returns-in_default c = c.behind_type.ensures ∙ ap behind_type c.after_step.ensures ∙ sym (bare_other c.args.inside c.args.sort c.in_default.not-Group)
