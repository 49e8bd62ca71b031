use Rattle.std.proofs.Common.{◌≡◌, Some, None, Err, ◌∙◌, rules}
use Rattle.std.specs.HashMap.{get_by_text}
use Rattle.ir_model.specs.Legaliser.{IsFree, HasNoName, IsSpent}
use Rattle.ir_base_identifiers.specs.LegaliserTables.{source_at}
use Rattle.ir_model.proofs.Legalisers.{chosen_free}
use Rattle.ir_base_identifiers.proofs.LegaliserLemmas.{name_in, Gives-known, Gives-result, Chooses-in, HasNoName-in, SpentOnlyWhere-along}
use Rattle.ir_base_identifiers.proofs.legaliser.Legaliser.legalise.Goals as goal

pub returns-in-Some-clause-given : goal.returns-in-Some-clause-given
returns-in-Some-clause-given c =
    let found : get_by_text c.self.inside.names c.args.source.now ≡ Some c.in_ok-clone.field-0 = search rules in
    Gives-known _ _ _ (name_in c.self.inside.names c.self.inside.sources c.self.inside.counter c.args.self.now c.self.view_is c.args.source.now ∙ found)

pub give-requires-clause-unknown : goal.give-requires-clause-unknown
give-requires-clause-unknown c =
    let none : get_by_text c.self.inside.names c.args.source.now ≡ None = search rules in
    name_in c.self.inside.names c.self.inside.sources c.self.inside.counter c.args.self.now c.self.view_is c.args.source.now ∙ none

pub give-requires-clause-free : goal.give-requires-clause-free
give-requires-clause-free c =
    chosen_free (IsFree c.args.self.now) c.args.self.now.counter c.args.source.now c.in_ok-name.name c.in_ok-name.next
    (Chooses-in c.self.inside.names c.self.inside.sources c.self.inside.counter c.args.self.now c.self.view_is c.self.invariant c.args.source.now c.in_ok-name.name c.in_ok-name.next c.in_ok-name.ensures.chosen)

pub returns-in_err-name-clause-refused : goal.returns-in_err-name-clause-refused
returns-in_err-name-clause-refused c =
    let none : get_by_text c.self.inside.names c.args.source.now ≡ None = search rules in
    let is : c.from_residual-in_err-name.result ≡ Err c.in_err-name.field-0.0 = search rules in
    rw is
    (SpentOnlyWhere-along (HasNoName (λ text. source_at c.self.inside.sources text ≡ None) c.self.inside.counter c.args.source.now) (IsSpent c.args.self.now c.args.source.now) c.in_err-name.field-0.0
    (λ spent. record {
      unknown = name_in c.self.inside.names c.self.inside.sources c.self.inside.counter c.args.self.now c.self.view_is c.args.source.now ∙ none;
      no_name = HasNoName-in c.self.inside.names c.self.inside.sources c.self.inside.counter c.args.self.now c.self.view_is c.self.invariant c.args.source.now spent;
    })
    c.in_err-name.ensures.refused)

pub returns-clause-given : goal.returns-clause-given
returns-clause-given c =
    let none : get_by_text c.self.inside.names c.args.source.now ≡ None = search rules in
    Gives-result c.give.result c.args.self.now _ c.args.source.now c.in_ok-name.name c.in_ok-name.next
    (name_in c.self.inside.names c.self.inside.sources c.self.inside.counter c.args.self.now c.self.view_is c.args.source.now ∙ none)
    (Chooses-in c.self.inside.names c.self.inside.sources c.self.inside.counter c.args.self.now c.self.view_is c.self.invariant c.args.source.now c.in_ok-name.name c.in_ok-name.next c.in_ok-name.ensures.chosen)
    c.give.ensures.name c.give.ensures.given
