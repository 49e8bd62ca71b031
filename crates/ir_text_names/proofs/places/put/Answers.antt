use Rattle.ir_text_names.proofs.places.put.Goals as goal

pub returns-in-Ok-clause-puts : goal.returns-in-Ok-clause-puts
returns-in-Ok-clause-puts c = λ s n. c.in-Ok.ensures.updates.0 (s, record { ref_ptr = (0, 0); now = n })
