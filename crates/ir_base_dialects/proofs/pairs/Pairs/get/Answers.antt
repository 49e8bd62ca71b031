use Rattle.std.proofs.Common.{◌≡◌, Some, position, sym, ap, ◌∙◌}
use Rattle.ir_model.specs.Stores.{attribute_at}
use Rattle.ir_base_dialects.proofs.PairLemmas.{has, found_at, none_at, looked, looked_on}
use Rattle.ir_base_dialects.proofs.pairs.Pairs.get.Goals as goal

pub returns-in-Some : goal.returns-in-Some
returns-in-Some g c =
    let few = c.self.inside.few.items in
    let key = c.args.key.now in
    let pair = c.index.result.now in
    let found : Some c.in-Some.place ≡ position (has key) few = sym c.in-Some.is ∙ c.place_of.ensures ∙ ap (position (has key)) c.deref.ensures.value in
    sym (looked key c.self.inside.more few c.in-Some.place pair (found_at key few c.in-Some.place pair found c.index.ensures)) ∙ ap (λ ps. attribute_at ps key) c.self.view_is

pub returns-in-None : goal.returns-in-None
returns-in-None g c =
    let few = c.self.inside.few.items in
    let key = c.args.key.now in
    let missing = none_at key few (sym c.in-None.is ∙ c.place_of.ensures ∙ ap (position (has key)) c.deref.ensures.value) in
    c.get.ensures ∙ sym (looked_on key c.self.inside.more few missing) ∙ ap (λ ps. attribute_at ps key) c.self.view_is
