use Rattle.std.proofs.Common.{◌≡◌, ◌↔◌, ℕ, List, Option, Some, None, refl, sym, subst}
use Rattle.ir_text_tree.specs.declared.row.Part.{Part}
use Rattle.ir_text_tree.specs.declared.row.Part.TheVariants as parts
use Rattle.ir_text_tree.specs.declared.row.Row.{Row}
use Rattle.ir_text_names.specs.Types.{IsTypeOf}
use Rattle.ir_text_names.proofs.value_types.value_type.Goals as goal

abbrev no_row_there : Option ℕ
no_row_there = None

none_there : (i : ℕ) → no_row_there ≡ Some i → ⊥
none_there i e = cc

no_type : (p : Part) (text : List ℕ) (rows : List Row) (d k s : ℕ) → (p ≡ parts.Argument → ⊥) → (p ≡ parts.Result → ⊥) → IsTypeOf p text rows d k s → ⊥
no_type parts.Argument text rows d k s a r h = absurd (a refl)
no_type parts.Result text rows d k s a r h = absurd (r refl)
no_type _ text rows d k s a r h = h

pub returns-in-Argument : goal.returns-in-Argument
returns-in-Argument c =
    λ s.
    let tables = c.args.tables.now in
    subst (λ (p : Part). (c.argument_type.result ≡ Some s) ↔ IsTypeOf p tables.text.now tables.rows.now c.args.definition c.args.number s) (sym c.in-Argument.is) (c.argument_type.ensures s)

pub returns-in-Result : goal.returns-in-Result
returns-in-Result c =
    λ s.
    let tables = c.args.tables.now in
    subst (λ (p : Part). (c.result_type.result ≡ Some s) ↔ IsTypeOf p tables.text.now tables.rows.now c.args.definition c.args.number s) (sym c.in-Result.is) (c.result_type.ensures s)
