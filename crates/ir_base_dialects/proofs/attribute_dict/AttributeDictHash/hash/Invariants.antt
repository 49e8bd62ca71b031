use Rattle.std.proofs.Common.{◌≡◌, length, fold}
use Rattle.std.specs.Option.{option_copied}
use Rattle.ir_base_dialects.specs.Attributes.{by_key, dict_input}
use Rattle.ir_base_dialects.proofs.HashLemmas.{rest, still}
use Rattle.ir_base_dialects.proofs.attribute_dict.AttributeDictHash.hash.Given as goal

abbrev pub invariant-pairs : goal.invariant-pairs
invariant-pairs g l = fold g.H.Hasher.write l.state (still g.D.Attr.Hash.hash_input (option_copied l.last) l.self) ≡ fold g.H.Hasher.write l.fn.state (dict_input g.D.Attr.Hash.hash_input l.self)

abbrev pub decreases-pairs : goal.decreases-pairs
decreases-pairs g l = length (rest (option_copied l.last) (by_key g.D.Attr.Hash.hash_input l.self))
