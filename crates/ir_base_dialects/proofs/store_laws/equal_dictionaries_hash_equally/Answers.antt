use Rattle.ir_base_dialects.specs.AttributeLaws.{by_key-equal}
use Rattle.ir_base_dialects.proofs.store_laws.equal_dictionaries_hash_equally.Goals as goal

pub returns : goal.returns
returns g c = by_key-equal g.D.Attr.Hash.hash_input g.D.Attr.PartialEq.eq g.met.D.Attr.Hash.respects_eq
