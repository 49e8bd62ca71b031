use Rattle.std.proofs.Common.{ℕ, length, Option, None, subst}
use Rattle.ir_text_names.specs.Firsts.{IsFirst}
use Rattle.ir_text_names.specs.Values.{IsValueAgain}
use Rattle.ir_text_names.proofs.TypeFaults.{other_is}
use Rattle.ir_text_names.proofs.value_types.other_type.Goals as goal

pub returns-then-well : goal.returns-then-well
returns-then-well c =
    let text = c.args.tables.now.text.now in
    let rows = c.args.tables.now.rows.now in
    other_is text rows c.args.table.now None (subst (λ (o : Option ℕ). IsFirst (IsValueAgain text rows) (length rows) o) c.in-None.is c.requires.again) c.requires.named (c.requires.well c.if-well.true)

pub returns-else-well : goal.returns-else-well
returns-else-well c =
    let text = c.args.tables.now.text.now in
    let rows = c.args.tables.now.rows.now in
    other_is text rows c.args.table.now c.first_other_type.result (subst (λ (o : Option ℕ). IsFirst (IsValueAgain text rows) (length rows) o) c.in-None.is c.requires.again) c.requires.named c.first_other_type.ensures
