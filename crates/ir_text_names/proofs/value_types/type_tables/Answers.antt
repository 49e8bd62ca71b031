use Rattle.ir_text_names.proofs.value_types.type_tables.Goals as goal

pub returns-clause-tables : goal.returns-clause-tables
returns-clause-tables c = record {
  few = c.requires.operations.few;
  own = c.in_ok-own.ensures.types;
  results = c.in_ok-results.ensures;
  next_room = c.in_ok-next.ensures.room;
  next = c.in_ok-next.ensures.next;
  before_room = c.in_ok-before.ensures.room;
  before = c.in_ok-before.ensures.results;
}
