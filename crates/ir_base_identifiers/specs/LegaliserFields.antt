-- What lies under a `Legaliser`.
use Rattle.ir_model.specs.Legaliser.{Given}
use Rattle.ir_base_identifiers.specs.LegaliserTables.{given_by}
use Rattle.ir_base_identifiers.specs.declared.legaliser.Legaliser.TheInside.{Inside}

-- what the fields of a legaliser say it gave
abbrev pub given_of : Inside → Given
given_of fields = given_by fields.names fields.counter
