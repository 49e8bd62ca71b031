use Rattle.std.proofs.Common.{sym, ◌∙◌}
use Rattle.std.specs.Option.{option_copied}
use Rattle.ir_base_dialects.proofs.KeyLemmas.{distinct_keys}
use Rattle.ir_base_dialects.proofs.HashLemmas.{still-less, fed-start, fed-next, fed-end}
use Rattle.ir_base_dialects.proofs.attribute_dict.AttributeDictHash.hash.Goals as goal

pub pairs-init : goal.pairs-init
pairs-init g c = fed-start g.D.Attr.Hash.hash_input g.H.Hasher.write c.args.self.now ((distinct_keys c.args.self.now).1 c.len.ensures.distinct) c.args.state.now c.hash.new.state c.len.result c.len.ensures.count c.hash.ensures

pub pairs-smaller : goal.pairs-smaller
pairs-smaller g c = still-less g.D.Attr.Hash.hash_input (option_copied c.pairs.last) c.args.self.now c.in-Some.key.now c.in-Some.attr.now c.in-Some.ensures.next

pub pairs-preserved : goal.pairs-preserved
pairs-preserved g c =
    fed-next g.D.Attr.Hash.hash_input g.H.Hasher.write (option_copied c.pairs.last) c.args.self.now c.in-Some.key.now c.in-Some.attr.now c.in-Some.ensures.next
    c.pairs.state c.hash-in-Some.new.state c.hash-in-Some-2.new.state c.hash-in-Some.ensures c.hash-in-Some-2.ensures
    ∙ c.pairs.invariant

pub returns : goal.returns
returns g c = sym (fed-end g.D.Attr.Hash.hash_input g.H.Hasher.write (option_copied c.pairs.last) c.args.self.now c.in_default.ensures.next c.pairs.state) ∙ c.pairs.invariant
