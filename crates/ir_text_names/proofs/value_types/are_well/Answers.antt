use Rattle.std.proofs.Common.{◌≡◌, ℕ, ◌<◌, true, length, sym, subst, ◌∙◌, below_more, arith}
use Rattle.ir_text_names.specs.Indices.{IsEntryBeyond}
use Rattle.ir_text_names.specs.Types.{IsEntryOther}
use Rattle.ir_text_names.proofs.value_types.are_well.Goals as goal

pub loop-at-preserved : goal.loop-at-preserved
loop-at-preserved c =
    let l = c.loop-at in
    let text = c.args.tables.now.text.now in
    let rows = c.args.tables.now.rows.now in
    let well : c.is_well.result ≡ true = c.if-not-is_well.false in
    record {
      numbers = below_more (λ (k : ℕ). IsEntryBeyond text rows c.args.table.now k → ⊥) l.at l.invariant.numbers (λ p. c.is_well.ensures.number well p.0 (c.get.ensures ∙ p.1) p.2 p.3);
      types = below_more (λ (k : ℕ). IsEntryOther text rows c.args.table.now k → ⊥) l.at l.invariant.types (λ p. c.is_well.ensures.own_type well p.0 (c.get.ensures ∙ p.1) p.2 p.3);
    }

pub returns-clause-numbers : goal.returns-clause-numbers
returns-clause-numbers c =
    let l = c.loop-at in
    let end : l.at ≡ length c.args.tables.now.rows.now = omega (arith, c.requires.room) in
    λ _. subst (λ (n : ℕ). (k : ℕ) → k < n → IsEntryBeyond c.args.tables.now.text.now c.args.tables.now.rows.now c.args.table.now k → ⊥) end l.invariant.numbers

pub returns-clause-types : goal.returns-clause-types
returns-clause-types c =
    let l = c.loop-at in
    let end : l.at ≡ length c.args.tables.now.rows.now = omega (arith, c.requires.room) in
    λ _. subst (λ (n : ℕ). (k : ℕ) → k < n → IsEntryOther c.args.tables.now.text.now c.args.tables.now.rows.now c.args.table.now k → ⊥) end l.invariant.types
