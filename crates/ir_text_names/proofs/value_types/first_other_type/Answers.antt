use Rattle.std.proofs.Common.{◌≡◌, ◌↔◌, ℕ, ◌<◌, true, length, Option, Some, sym, subst, ◌∙◌, below_more, arith}
use Rattle.std.proofs.lemmas.Bool.{false≢true}
use Rattle.ir_text_names.specs.Types.{HasOtherType, IsEntryOther}
use Rattle.ir_text_names.proofs.value_types.first_other_type.Goals as goal

pub loop-at-preserved : goal.loop-at-preserved
loop-at-preserved c =
    let l = c.loop-at in
    let P : ℕ → Type 0 = IsEntryOther c.args.tables.now.text.now c.args.tables.now.rows.now c.args.table.now in
    let is : (c.is_entry_other.result ≡ true) ↔ P l.at =
    subst (λ (o : Option ℕ). (c.is_entry_other.result ≡ true) ↔ ((d : ℕ) × (o ≡ Some d) × (d < length c.args.tables.now.rows.now) × HasOtherType c.args.tables.now.text.now c.args.tables.now.rows.now l.at d)) c.get.ensures c.is_entry_other.ensures in
    below_more (λ (k : ℕ). P k → ⊥) l.at l.invariant (λ p. false≢true (sym c.if-is_entry_other.false ∙ is.1 p))

pub returns : goal.returns
returns c =
    let l = c.loop-at in
    let end : l.at ≡ length c.args.tables.now.rows.now = omega (arith, c.requires.room) in
    subst (λ (n : ℕ). (k : ℕ) → k < n → IsEntryOther c.args.tables.now.text.now c.args.tables.now.rows.now c.args.table.now k → ⊥) end l.invariant
