use Rattle.ir_model.proofs.CallRows.{saved_rows, body_rows, handle_rows, dominance_rows, parent_rows, predecessor_rows, part_rows, aux_rows, verifier_rows, key_rows}
use Rattle.ir_model.proofs.call_examples.call_rows.Goals as goal

pub returns-clause-saved : goal.returns-clause-saved
returns-clause-saved c = saved_rows

pub returns-clause-bodies : goal.returns-clause-bodies
returns-clause-bodies c = body_rows

pub returns-clause-handles : goal.returns-clause-handles
returns-clause-handles c = handle_rows

pub returns-clause-dominance : goal.returns-clause-dominance
returns-clause-dominance c = dominance_rows

pub returns-clause-parents : goal.returns-clause-parents
returns-clause-parents c = parent_rows

pub returns-clause-predecessors : goal.returns-clause-predecessors
returns-clause-predecessors c = predecessor_rows

pub returns-clause-parts : goal.returns-clause-parts
returns-clause-parts c = part_rows

pub returns-clause-aux : goal.returns-clause-aux
returns-clause-aux c = aux_rows

pub returns-clause-verifiers : goal.returns-clause-verifiers
returns-clause-verifiers c = verifier_rows

pub returns-clause-keys : goal.returns-clause-keys
returns-clause-keys c = key_rows
