use Rattle.std.proofs.Common.{◌≡◌, ℕ, List, sym, subst}
use Rattle.ir_text_spelling.specs.RoundTrips.{SpellsAgain}
use Rattle.ir_text_spelling.specs.Spellings.{rows_spelled}
use Rattle.ir_text_spelling.specs.TreeTexts.{tree_text}
use Rattle.ir_text_spelling.proofs.WritingSteps.{all_written}
use Rattle.ir_text_spelling.proofs.spelling.spell.Goals as goal

pub returns-in-Ok-clause-exact : goal.returns-in-Ok-clause-exact
returns-in-Ok-clause-exact c = all_written c.new-out.result.items c.spell_to.new.output.items (rows_spelled c.args.text.now c.args.rows.now) c.spell_to.result c.in-Ok.field-0 c.new-out.ensures.items c.in-Ok.is c.spell_to.ensures.exact

pub returns-in-Ok-clause-tree : goal.returns-in-Ok-clause-tree
returns-in-Ok-clause-tree c = λ b e. all_written c.new-out.result.items c.spell_to.new.output.items (tree_text c.args.text.now b) c.spell_to.result c.in-Ok.field-0 c.new-out.ensures.items c.in-Ok.is (c.spell_to.ensures.tree b e)

pub returns-in-Ok-clause-again : goal.returns-in-Ok-clause-again
returns-in-Ok-clause-again c = λ b e whole spells.
    let text = c.args.text.now in
    let is : c.spell_to.new.output.items ≡ tree_text text b = all_written c.new-out.result.items c.spell_to.new.output.items (tree_text text b) c.spell_to.result c.in-Ok.field-0 c.new-out.ensures.items c.in-Ok.is (c.spell_to.ensures.tree b e) in
    subst (λ (out : List ℕ). SpellsAgain out text b) (sym is) (c.tree_text_spells_again.ensures text b whole spells)
