use Rattle.ir_core_records.specs.Table.{uses_at}
use Rattle.ir_core_replacing.specs.Chosen.{is_chosen}
use Rattle.ir_core_chains.specs.Frames.{keeps-by_values, linked-by_values}
use Rattle.ir_core_replacing.proofs.ForestLemmas.{ok_by, values_redirected}
use Rattle.ir_core_replacing.proofs.redirect.replace_some_uses.Goals as goal

pub returns-clause-linked : goal.returns-clause-linked
returns-clause-linked g c = linked-by_values c.args.records.now c.redirect_some.new.records c.requires.linked c.redirect_some.ensures.rest c.redirect_some.ensures.linked

pub returns-clause-keeps : goal.returns-clause-keeps
returns-clause-keeps g c = keeps-by_values c.args.records.now c.redirect_some.new.records c.redirect_some.ensures.rest

pub returns-clause-forest : goal.returns-clause-forest
returns-clause-forest g c =
    ok_by c.redirect_some.result (λ names. values_redirected c.args.records.now c.redirect_some.new.records (is_chosen (uses_at c.args.records.now c.args.from) c.args.answers.now) c.args.to c.redirect_some.ensures.rest names) c.redirect_some.ensures.names
