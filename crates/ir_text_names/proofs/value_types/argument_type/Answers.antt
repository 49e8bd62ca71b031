use Rattle.std.proofs.Common.{◌≡◌, ℕ, sym, subst}
use Rattle.ir_text_tree.specs.declared.row.Part.TheVariants as parts
use Rattle.ir_text_names.specs.Rows.{part_of}
use Rattle.ir_text_names.proofs.value_types.argument_type.Goals as goal

pub returns-then-definition-rows : goal.returns-then-definition-rows
returns-then-definition-rows c =
    λ s.
    let rows = c.args.rows.now in
    let both = c.if_argument_type.ensures s in
    (λ e. let h = both.0 e in (h.0, subst (λ (k : ℕ). part_of rows k ≡ parts.ArgumentType) (sym h.0) h.1), λ a. both.1 (a.0, subst (λ (k : ℕ). part_of rows k ≡ parts.ArgumentType) a.0 a.1))
