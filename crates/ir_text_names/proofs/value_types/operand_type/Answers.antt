use Rattle.std.proofs.Common.{◌≡◌, ◌↔◌, ℕ, Option, Some, sym, subst}
use Rattle.ir_text_names.specs.Types.{IsOperandType}
use Rattle.ir_text_names.proofs.value_types.operand_type.Goals as goal

pub returns : goal.returns
returns c =
    λ t.
    let tables = c.args.tables.now in
    subst (λ (o : Option ℕ). (o ≡ Some t) ↔ IsOperandType tables.rows.now c.args.operand t) (sym c.get.ensures) (c.requires.tables.own c.args.operand t c.requires.within)
