use Rattle.std.proofs.Common.{◌≡◌, ap, ◌∙◌, rules}
use Rattle.ir_model.specs.Stores.{set_attribute}
use Rattle.ir_base_dialects.proofs.AttributeWrites.{insert_entry-is}
use Rattle.ir_base_dialects.proofs.lazy_table.LazyTable.insert.Goals as goal

pub returns-in_ok-insert-in-Some-clause-set : goal.returns-in_ok-insert-in-Some-clause-set
returns-in_ok-insert-in-Some-clause-set g c =
    let pairs = c.deref_mut.result.now.entries in
    let is : pairs ≡ c.args.self.now = search rules in
    c.in_ok-insert-in-Some.ensures.entries ∙ insert_entry-is c.args.key pairs c.args.attr ∙ ap (λ ps. set_attribute ps c.args.key c.args.attr) is
