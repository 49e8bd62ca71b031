use Rattle.ir_core_records.specs.Meaning.{use_of}
use Rattle.ir_core_chains.specs.Frames.{keeps-by_successors, linked-by_blocks}
use Rattle.ir_core_replacing.specs.Chosen.{same_use}
use Rattle.ir_core_replacing.proofs.ForestLemmas.{ok_by, blocks_redirected}
use Rattle.ir_core_replacing.proofs.redirect.retarget_pred.Goals as goal

pub returns-clause-linked : goal.returns-clause-linked
returns-clause-linked g c = linked-by_blocks c.args.records.now c.redirect_use.new.records c.requires.linked c.redirect_use.ensures.rest c.redirect_use.ensures.linked

pub returns-clause-keeps : goal.returns-clause-keeps
returns-clause-keeps g c = keeps-by_successors c.args.records.now c.redirect_use.new.records c.redirect_use.ensures.rest

pub returns-clause-forest : goal.returns-clause-forest
returns-clause-forest g c =
    ok_by c.redirect_use.result (λ names. blocks_redirected c.args.records.now c.redirect_use.new.records (same_use (use_of c.args.used)) c.args.to c.redirect_use.ensures.rest names) c.redirect_use.ensures.names
