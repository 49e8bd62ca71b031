use Rattle.std.proofs.Common.{◌≡◌, ◌++◌, Some, position, inr, sym, ap, subst, ◌∙◌}
use Rattle.ir_model.specs.Stores.{attribute_at, set_attribute, HasDistinctKeys}
use Rattle.ir_base_dialects.proofs.AttributeWrites.{same_writes}
use Rattle.ir_base_dialects.proofs.PairLemmas.{has, IsFirst, HasNone, found_at, none_at, looked, looked_on, put, put_on, still_distinct}
use Rattle.ir_base_dialects.proofs.pairs.Pairs.get_mut.Goals as goal

pub invariant_of-self-lent : goal.invariant_of-self-lent
invariant_of-self-lent g c =
    let few = c.self.inside.few.items in
    let more = c.self.inside.more in
    let key = c.args.key.now in
    let pair = c.index_mut.result.now in
    let found : Some c.in-Some.place ≡ position (has key) few = sym c.in-Some.is ∙ c.place_of.ensures ∙ ap (position (has key)) c.deref.ensures.value in
    let first : IsFirst key few c.in-Some.place pair = found_at key few c.in-Some.place pair found c.index_mut.ensures.value in
    λ w. subst HasDistinctKeys (put key more few c.in-Some.place pair first w) (still_distinct key (few ++ more) w c.self.invariant)

pub invariant_of-self-lent-in-Some-get_mut : goal.invariant_of-self-lent-in-Some-get_mut
invariant_of-self-lent-in-Some-get_mut g c =
    let few = c.self.inside.few.items in
    let more = c.self.inside.more in
    let key = c.args.key.now in
    let missing : HasNone key few = none_at key few (sym c.in-None.is ∙ c.place_of.ensures ∙ ap (position (has key)) c.deref.ensures.value) in
    λ w. subst HasDistinctKeys (put_on key more few missing w) (still_distinct key (few ++ more) w c.self.invariant)

pub returns-in-Some : goal.returns-in-Some
returns-in-Some g c =
    let few = c.self.inside.few.items in
    let more = c.self.inside.more in
    let key = c.args.key.now in
    let pair = c.index_mut.result.now in
    let found : Some c.in-Some.place ≡ position (has key) few = sym c.in-Some.is ∙ c.place_of.ensures ∙ ap (position (has key)) c.deref.ensures.value in
    let first : IsFirst key few c.in-Some.place pair = found_at key few c.in-Some.place pair found c.index_mut.ensures.value in (
      same_writes _ _ _ (λ (w : g.row.A.Denot). sym (put key more few c.in-Some.place pair first w) ∙ ap (λ ps. set_attribute ps key w) c.self.view_is),
      record { writes_back = tt; value = sym (looked key more few c.in-Some.place pair first) ∙ ap (λ ps. attribute_at ps key) c.self.view_is },
    )

pub returns-in-Some-get_mut : goal.returns-in-Some-get_mut
returns-in-Some-get_mut g c =
    let few = c.self.inside.few.items in
    let more = c.self.inside.more in
    let key = c.args.key.now in
    let missing : HasNone key few = none_at key few (sym c.in-None.is ∙ c.place_of.ensures ∙ ap (position (has key)) c.deref.ensures.value) in (
      same_writes _ _ _ (λ (w : g.row.A.Denot). sym (put_on key more few missing w) ∙ ap (λ ps. set_attribute ps key w) c.self.view_is),
      record { writes_back = tt; value = c.in-Some-get_mut.ensures.value ∙ sym (looked_on key more few missing) ∙ ap (λ ps. attribute_at ps key) c.self.view_is },
    )

pub returns-in-None-get_mut : goal.returns-in-None-get_mut
returns-in-None-get_mut g c =
    let few = c.self.inside.few.items in
    let more = c.self.inside.more in
    let key = c.args.key.now in
    let missing : HasNone key few = none_at key few (sym c.in-None.is ∙ c.place_of.ensures ∙ ap (position (has key)) c.deref.ensures.value) in
    (ap inr c.self.view_is, record { writes_back = tt; value = c.in-None-get_mut.ensures.value ∙ sym (looked_on key more few missing) ∙ ap (λ ps. attribute_at ps key) c.self.view_is })
