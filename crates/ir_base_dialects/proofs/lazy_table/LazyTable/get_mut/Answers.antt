use Rattle.std.proofs.Common.{◌≡◌, ap, ◌∙◌, rules}
use Rattle.ir_model.specs.Stores.{attribute_at, set_attribute}
use Rattle.ir_base_dialects.proofs.AttributeWrites.{written-set, same_writes}
use Rattle.ir_base_dialects.proofs.lazy_table.LazyTable.get_mut.Goals as goal

pub returns-in_ok-attr-in-Some : goal.returns-in_ok-attr-in-Some
returns-in_ok-attr-in-Some g c =
    let pairs = c.deref_mut.result.now.entries in
    let key = c.args.key.now in
    let attr = c.in_ok-attr-in-Some.attr.now in
    let seen = c.in_ok-attr-in-Some.ensures.value in
    let after = c.get_mut.follows in
    let is : pairs ≡ c.args.self.now = search rules in (
      same_writes _ _ _ (λ (w : g.row.A.Denot). search rules ∙ written-set key pairs (after.lender w).entries attr seen w (after.holds w).0 ∙ ap (λ ps. set_attribute ps key w) is),
      record { writes_back = tt; value = seen ∙ ap (λ ps. attribute_at ps key) is },
    )
