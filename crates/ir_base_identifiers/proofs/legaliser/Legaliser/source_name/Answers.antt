use Rattle.std.proofs.Common.{◌≡◌, Some, None, string_bytes, sym, ap, ◌∙◌, rules}
use Rattle.std.specs.HashMap.{get_by_text}
use Rattle.ir_model.specs.Legaliser.{name_of}
use Rattle.ir_base_identifiers.specs.LegaliserTables.{source_at}
use Rattle.ir_base_identifiers.proofs.LegaliserLemmas.{name_of-given_by, free_from_none}
use Rattle.ir_base_identifiers.proofs.legaliser.Legaliser.source_name.Goals as goal

pub returns-in_ok-clone-in-Some-clause-found : goal.returns-in_ok-clone-in-Some-clause-found
returns-in_ok-clone-in-Some-clause-found c =
    let found : source_at c.self.inside.sources c.args.name.now ≡ Some (string_bytes c.in_ok-clone-in-Some.field-0) = search rules in
    rw (← c.self.view_is) (name_of-given_by c.self.inside.names c.self.inside.counter _ ∙ c.self.invariant.back _ _ found)

pub returns-in-None-clause-none : goal.returns-in-None-clause-none
returns-in-None-clause-none c =
    let none : source_at c.self.inside.sources c.args.name.now ≡ None = search rules in
    λ source is.
    free_from_none (get_by_text c.self.inside.names) (source_at c.self.inside.sources) c.args.name.now c.self.invariant none source
    (sym (name_of-given_by c.self.inside.names c.self.inside.counter source) ∙ ap (λ s. name_of s source) c.self.view_is ∙ is)
