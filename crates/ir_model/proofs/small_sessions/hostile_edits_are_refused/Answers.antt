use Rattle.ir_model.proofs.HostileRows.{hostile_edits, erase_inner_successor}
use Rattle.ir_model.proofs.small_sessions.hostile_edits_are_refused.Goals as goal

pub returns-clause-hostile_edits : goal.returns-clause-hostile_edits
returns-clause-hostile_edits c = hostile_edits

pub returns-clause-erase_inner_successor : goal.returns-clause-erase_inner_successor
returns-clause-erase_inner_successor c = erase_inner_successor
