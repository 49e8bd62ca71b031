use Rattle.std.proofs.Common.{◌≡◌, ◌++◌, Some, position, sym, ap, subst, ◌∙◌}
use Rattle.ir_model.specs.Stores.{attribute_at, without_attribute, HasDistinctKeys}
use Rattle.ir_base_dialects.proofs.PairLemmas.{has, HasNone, found_with, none_at, looked, looked_on, taken, taken_on, distinct_without}
use Rattle.ir_base_dialects.proofs.pairs.Pairs.remove.Goals as goal

pub invariant_of-self : goal.invariant_of-self
invariant_of-self g c =
    let few = c.self.inside.few.items in
    let more = c.self.inside.more in
    let key = c.args.key.now in
    let found : Some c.in-Some.place ≡ position (has key) few = sym c.in-Some.is ∙ c.place_of.ensures ∙ ap (position (has key)) c.deref.ensures.value in
    let first = found_with key few c.in-Some.place c.remove_at.result found c.remove_at.ensures.value in
    subst HasDistinctKeys (taken key more few c.in-Some.place first.0 first.1 ∙ ap (λ ps. ps ++ more) (sym c.remove_at.ensures.rest)) (distinct_without key (few ++ more) c.self.invariant)

pub invariant_of-self-in-None : goal.invariant_of-self-in-None
invariant_of-self-in-None g c =
    let few = c.self.inside.few.items in
    let more = c.self.inside.more in
    let key = c.args.key.now in
    let missing : HasNone key few = none_at key few (sym c.in-None.is ∙ c.place_of.ensures ∙ ap (position (has key)) c.deref.ensures.value) in
    subst HasDistinctKeys (taken_on key more few missing ∙ ap (λ ps. few ++ ps) (sym c.remove.ensures.rest)) (distinct_without key (few ++ more) c.self.invariant)

pub returns-in-Some-clause-value : goal.returns-in-Some-clause-value
returns-in-Some-clause-value g c =
    let few = c.self.inside.few.items in
    let more = c.self.inside.more in
    let key = c.args.key.now in
    let found : Some c.in-Some.place ≡ position (has key) few = sym c.in-Some.is ∙ c.place_of.ensures ∙ ap (position (has key)) c.deref.ensures.value in
    let first = found_with key few c.in-Some.place c.remove_at.result found c.remove_at.ensures.value in
    first.2 ∙ sym (looked key more few c.in-Some.place first.0 first.1) ∙ ap (λ ps. attribute_at ps key) c.self.view_is

pub returns-in-Some-clause-rest : goal.returns-in-Some-clause-rest
returns-in-Some-clause-rest g c =
    let few = c.self.inside.few.items in
    let more = c.self.inside.more in
    let key = c.args.key.now in
    let found : Some c.in-Some.place ≡ position (has key) few = sym c.in-Some.is ∙ c.place_of.ensures ∙ ap (position (has key)) c.deref.ensures.value in
    let first = found_with key few c.in-Some.place c.remove_at.result found c.remove_at.ensures.value in
    ap (λ ps. ps ++ more) c.remove_at.ensures.rest ∙ sym (taken key more few c.in-Some.place first.0 first.1) ∙ ap (λ ps. without_attribute ps key) c.self.view_is

pub returns-in-None-clause-value : goal.returns-in-None-clause-value
returns-in-None-clause-value g c =
    let few = c.self.inside.few.items in
    let more = c.self.inside.more in
    let key = c.args.key.now in
    let missing : HasNone key few = none_at key few (sym c.in-None.is ∙ c.place_of.ensures ∙ ap (position (has key)) c.deref.ensures.value) in
    c.remove.ensures.value ∙ sym (looked_on key more few missing) ∙ ap (λ ps. attribute_at ps key) c.self.view_is

pub returns-in-None-clause-rest : goal.returns-in-None-clause-rest
returns-in-None-clause-rest g c =
    let few = c.self.inside.few.items in
    let more = c.self.inside.more in
    let key = c.args.key.now in
    let missing : HasNone key few = none_at key few (sym c.in-None.is ∙ c.place_of.ensures ∙ ap (position (has key)) c.deref.ensures.value) in
    ap (λ ps. few ++ ps) c.remove.ensures.rest ∙ sym (taken_on key more few missing) ∙ ap (λ ps. without_attribute ps key) c.self.view_is
