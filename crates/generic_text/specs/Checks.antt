-- What is compared.
use Rattle.ir_text_described.specs.Written.{Setting}
use Rattle.ir_core_records.specs.Meaning.{closed}
use Rattle.ir_core_queries.specs.State.{forest_of}
use Rattle.generic_dialect.specs.declared.generic.GenericLoc.{GenericLoc}
use Rattle.generic_dialect.specs.declared.generic.GenericSaved.{GenericSaved}
use Rattle.generic_dialect.specs.declared.generic.GenericType.{GenericType}
use Rattle.generic_dialect.specs.declared.generic.KeptAttr.{KeptAttr}
use Rattle.generic_text.specs.declared.check.Check.{Check}
use Rattle.generic_text.specs.GenericWords.{generic_words, named_tree}
use Rattle.generic_text.specs.Tables.{meanings_of}

-- the forest and the tree that are compared
abbrev pub setting_of : Check → Setting (closed KeptAttr GenericType (Unit {0}) GenericSaved (Unit {0}) GenericLoc)
setting_of c = record { forest = forest_of c.ctx.now; words = generic_words c.ctx.now; located = c.located; tree = named_tree c.text.now c.rows.now c.names.now; meanings = meanings_of c.table.now }
