use Rattle.std.proofs.Common.{◌≡◌, refl, ap, ◌∙◌, option_and_then, rules}
use Rattle.ir_model.specs.Stores.{attribute_at, set_attribute}
use Rattle.ir_base_dialects.specs.Attributes.{with_changed}
use Rattle.ir_base_dialects.proofs.AttributeWrites.{put-changed, put-same, asked-there, both}
use Rattle.ir_base_dialects.proofs.attribute_dict.AttributeDict.get_mut.Goals as goal

pub returns-in_ok-attr-in-Some : goal.returns-in_ok-attr-in-Some
returns-in_ok-attr-in-Some g c =
    let pairs = c.deref_mut.result.now in
    let key = c.args.key.now in
    let attr = c.in_ok-attr-in-Some.attr.now in
    let seen = c.in_ok-attr-in-Some.ensures.value in
    let A = g.T.Attribute in
    let is : pairs ≡ c.args.self.now = search rules in (
      both _ _ _ _ _ (λ (w : g.row.T.Denot). search rules ∙ put-changed key pairs (set_attribute pairs key (A.with_value attr w)) attr seen (λ a. A.with_value a w) refl ∙ ap (λ ps. with_changed ps key (λ a. A.with_value a w)) is)
          (search rules ∙ put-same key pairs (set_attribute pairs key attr) attr seen refl ∙ is),
      record { writes_back = tt; value = asked-there key pairs attr A.value_of _ seen c.of_attr_mut.ensures.value ∙ ap (λ ps. option_and_then A.value_of (attribute_at ps key)) is },
    )
