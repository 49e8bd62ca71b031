use Rattle.ir_base_dialects.proofs.KeyLemmas.{same_at_each_key}
use Rattle.ir_base_dialects.proofs.store_laws.dictionaries_compare_by_keys.Goals as goal

pub returns : goal.returns
returns g c = same_at_each_key g.D.Attr.PartialEq.eq
