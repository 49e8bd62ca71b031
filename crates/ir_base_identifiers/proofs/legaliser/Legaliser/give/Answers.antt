use Rattle.std.proofs.Common.{sym, ◌∙◌}
use Rattle.std.specs.HashMap.{get_by_text}
use Rattle.ir_base_identifiers.specs.LegaliserTables.{source_at}
use Rattle.ir_base_identifiers.proofs.LegaliserLemmas.{name_in, free_in, given_by-put, AreInverse-put, AreInverse-along}
use Rattle.ir_base_identifiers.proofs.legaliser.Legaliser.give.Goals as goal

pub put_pair-requires-clause-unknown : goal.put_pair-requires-clause-unknown
put_pair-requires-clause-unknown c = sym (name_in c.self.inside.names c.self.inside.sources c.self.inside.counter c.args.self.now c.self.view_is c.args.source.now) ∙ c.requires.unknown

pub put_pair-requires-clause-free : goal.put_pair-requires-clause-free
put_pair-requires-clause-free c =
    free_in c.self.inside.names c.self.inside.sources c.self.inside.counter c.args.self.now c.self.view_is c.self.invariant c.args.name c.requires.free

pub invariant_of-self-2 : goal.invariant_of-self-2
invariant_of-self-2 c =
    AreInverse-along _ _ _ _ c.in_ok-put_pair.ensures.names c.in_ok-put_pair.ensures.sources
    (AreInverse-put (get_by_text c.self.inside.names) (source_at c.self.inside.sources) c.args.source.now c.args.name c.self.invariant
    (sym (name_in c.self.inside.names c.self.inside.sources c.self.inside.counter c.args.self.now c.self.view_is c.args.source.now) ∙ c.requires.unknown)
    (free_in c.self.inside.names c.self.inside.sources c.self.inside.counter c.args.self.now c.self.view_is c.self.invariant c.args.name c.requires.free))

pub returns-clause-given : goal.returns-clause-given
returns-clause-given c =
    rw (← c.self.view_is) (given_by-put c.self.inside.names c.put_pair.new.names c.self.inside.counter c.args.counter c.args.source.now c.args.name c.in_ok-put_pair.ensures.names)
