use Rattle.ir_base_dialects.proofs.PlaceLemmas.{places}
use Rattle.ir_base_dialects.proofs.store_laws.equal_places_for_equal_values.Goals as goal

pub returns : goal.returns
returns g c = λ values a b. places g.T.PartialEq.eq g.met.T.Eq.laws values a b
