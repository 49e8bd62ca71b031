use Rattle.ir_core_chains.specs.Frames.{keeps-by_successors, linked-by_blocks}
use Rattle.ir_core_replacing.proofs.ForestLemmas.{ok_by, blocks_replaced}
use Rattle.ir_core_replacing.proofs.redirect.retarget_all_preds.Goals as goal

pub returns-clause-linked : goal.returns-clause-linked
returns-clause-linked g c = linked-by_blocks c.args.records.now c.redirect_all.new.records c.requires.linked c.redirect_all.ensures.rest c.redirect_all.ensures.linked

pub returns-clause-keeps : goal.returns-clause-keeps
returns-clause-keeps g c = keeps-by_successors c.args.records.now c.redirect_all.new.records c.redirect_all.ensures.rest

pub returns-clause-forest : goal.returns-clause-forest
returns-clause-forest g c =
    ok_by c.redirect_all.result (λ names. blocks_replaced c.args.records.now c.redirect_all.new.records c.args.from c.args.to c.redirect_all.ensures.rest names) c.redirect_all.ensures.names
