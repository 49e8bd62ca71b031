use Rattle.std.proofs.Common.{◌≡◌, ◌∙◌, MatchOption, List, Option, ℕ, length, sym, subst}
use Rattle.ir_text_names.specs.Blocks.{AreBlocksNamed}
use Rattle.ir_text_names.specs.Values.{AreValuesNamed}
use Rattle.ir_text_names.specs.Firsts.{HasNone}
use Rattle.ir_text_names.specs.Resolved.{IsWrong}
use Rattle.ir_text_outline.specs.Reading.{AreNamed}
use Rattle.ir_text_outline.proofs.OneReading.{one_block_table, one_value_table}
use Rattle.ir_text_outline.proofs.source.Source.has_names.Goals as goal
use Rattle.ir_text_outline.proofs.source.Source.has_names.Goals.{then-is_same, else-is_same}

pub returns-after-is_same : goal.returns-after-is_same
returns-after-is_same c =
    let text = c.args.self.text.now in
    let rows = c.args.self.rows.now in
    let own = c.args.self.names.now in
    let names = c.in-Some.names in
    let named : AreNamed text rows names = subst (λ o. MatchOption o (HasNone (IsWrong text rows) (length rows) → ⊥) (λ n. AreNamed text rows n)) c.in-Some.is c.in_ok-names.ensures in (
      λ yes.
          elim c.if-is_same.branch [
            | then-is_same w ↦
                let blocks : own.blocks ≡ names.blocks = c.is_same.ensures.0 w.if-is_same.true in
                let values : own.values ≡ names.values = w.is_same-then-is_same.ensures.0 (sym w.result-is ∙ yes) in
                record {
                  right = named.right;
                  blocks = subst (λ (t : List (Option ℕ)). AreBlocksNamed text rows (length rows) t) (sym blocks) named.blocks;
                  values = subst (λ (t : List (Option ℕ)). AreValuesNamed text rows (length rows) t) (sym values) named.values;
                }
            | else-is_same w ↦ absurd (let no = sym w.result-is ∙ yes in cc)
          ],
      λ are.
          let blocks : own.blocks ≡ names.blocks = one_block_table text rows own names are named (c.names_one_block.ensures text rows) in
          let values : own.values ≡ names.values = one_value_table text rows own names are named (c.names_one_value.ensures text rows) in
          elim c.if-is_same.branch [
            | then-is_same w ↦ w.result-is ∙ w.is_same-then-is_same.ensures.1 values
            | else-is_same w ↦ absurd (let yes = c.is_same.ensures.1 blocks in let no = w.if-is_same.false in cc)
          ],
    )
