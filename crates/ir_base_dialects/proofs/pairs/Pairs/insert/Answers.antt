use Rattle.std.proofs.Common.{◌≡◌, ◌++◌, None, Some, position, refl, sym, ap, subst, ◌∙◌, rules}
use Rattle.ir_model.specs.Stores.{attribute_at, set_attribute, HasDistinctKeys}
use Rattle.ir_base_dialects.proofs.PairLemmas.{has, IsFirst, HasNone, found_at, none_at, looked_on, put, put_last, put_on, still_distinct}
use Rattle.ir_base_dialects.proofs.pairs.Pairs.insert.Goals as goal

pub invariant_of-self : goal.invariant_of-self
invariant_of-self g c =
    let few = c.self.inside.few.items in
    let more = c.self.inside.more in
    let key = c.args.key in
    let pair = c.index_mut.result.now in
    let found : Some c.in-Some.place ≡ position (has key) few = sym c.in-Some.is ∙ c.place_of.ensures ∙ ap (position (has key)) c.deref.ensures.value in
    let first : IsFirst key few c.in-Some.place pair = found_at key few c.in-Some.place pair found c.index_mut.ensures.value in
    subst HasDistinctKeys (put key more few c.in-Some.place pair first c.args.attr) (still_distinct key (few ++ more) c.args.attr c.self.invariant)

pub returns-in-Some-clause-set : goal.returns-in-Some-clause-set
returns-in-Some-clause-set g c =
    let few = c.self.inside.few.items in
    let more = c.self.inside.more in
    let key = c.args.key in
    let pair = c.index_mut.result.now in
    let found : Some c.in-Some.place ≡ position (has key) few = sym c.in-Some.is ∙ c.place_of.ensures ∙ ap (position (has key)) c.deref.ensures.value in
    let first : IsFirst key few c.in-Some.place pair = found_at key few c.in-Some.place pair found c.index_mut.ensures.value in
    sym (put key more few c.in-Some.place pair first c.args.attr) ∙ ap (λ ps. set_attribute ps key c.args.attr) c.self.view_is

pub returns-in_err-push-clause-only_new : goal.returns-in_err-push-clause-only_new
returns-in_err-push-clause-only_new g c =
    let few = c.self.inside.few.items in
    let more = c.self.inside.more in
    let key = c.args.key in
    let missing : HasNone key few = none_at key few (sym c.in_default.is ∙ c.place_of.ensures ∙ ap (position (has key)) c.deref.ensures.value) in
    let none : attribute_at c.args.self.now key ≡ None = ap (λ ps. attribute_at ps key) (sym c.self.view_is) ∙ looked_on key more few missing ∙ ap (λ ps. attribute_at ps key) (c.if-is_empty.ensures.0 refl) in
    search (rules, none)

pub invariant_of-self-then-is_empty : goal.invariant_of-self-then-is_empty
invariant_of-self-then-is_empty g c =
    let few = c.self.inside.few.items in
    let more = c.self.inside.more in
    let key = c.args.key in
    let missing : HasNone key few = none_at key few (sym c.in_default.is ∙ c.place_of.ensures ∙ ap (position (has key)) c.deref.ensures.value) in
    subst HasDistinctKeys (sym (put_last key more few missing (c.if-is_empty.ensures.0 refl) c.push.new.self.items c.args.attr c.in_ok-push.ensures.items)) (still_distinct key (few ++ more) c.args.attr c.self.invariant)

pub invariant_of-self-in-Continue-branch-2 : goal.invariant_of-self-in-Continue-branch-2
invariant_of-self-in-Continue-branch-2 g c =
    let few = c.self.inside.few.items in
    let more = c.self.inside.more in
    let key = c.args.key in
    let missing : HasNone key few = none_at key few (sym c.in_default.is ∙ c.place_of.ensures ∙ ap (position (has key)) c.deref.ensures.value) in
    subst HasDistinctKeys (put_on key more few missing c.args.attr ∙ ap (λ ps. few ++ ps) (sym c.in_ok-insert.ensures.set)) (still_distinct key (few ++ more) c.args.attr c.self.invariant)

pub returns-in_err-insert-clause-only_new : goal.returns-in_err-insert-clause-only_new
returns-in_err-insert-clause-only_new g c =
    let few = c.self.inside.few.items in
    let more = c.self.inside.more in
    let key = c.args.key in
    let missing : HasNone key few = none_at key few (sym c.in_default.is ∙ c.place_of.ensures ∙ ap (position (has key)) c.deref.ensures.value) in
    let none : attribute_at c.args.self.now key ≡ None = ap (λ ps. attribute_at ps key) (sym c.self.view_is) ∙ looked_on key more few missing ∙ c.in_err-insert.ensures.only_new in
    search (rules, none)

pub returns-in_ok-push-clause-set : goal.returns-in_ok-push-clause-set
returns-in_ok-push-clause-set g c =
    let few = c.self.inside.few.items in
    let more = c.self.inside.more in
    let key = c.args.key in
    let missing : HasNone key few = none_at key few (sym c.in_default.is ∙ c.place_of.ensures ∙ ap (position (has key)) c.deref.ensures.value) in
    put_last key more few missing (c.if-is_empty.ensures.0 refl) c.push.new.self.items c.args.attr c.in_ok-push.ensures.items ∙ ap (λ ps. set_attribute ps key c.args.attr) c.self.view_is

pub returns-in_ok-insert-clause-set : goal.returns-in_ok-insert-clause-set
returns-in_ok-insert-clause-set g c =
    let few = c.self.inside.few.items in
    let more = c.self.inside.more in
    let key = c.args.key in
    let missing : HasNone key few = none_at key few (sym c.in_default.is ∙ c.place_of.ensures ∙ ap (position (has key)) c.deref.ensures.value) in
    ap (λ ps. few ++ ps) c.in_ok-insert.ensures.set ∙ sym (put_on key more few missing c.args.attr) ∙ ap (λ ps. set_attribute ps key c.args.attr) c.self.view_is
