use Rattle.std.proofs.Common.{◌≡◌, ◌↔◌, ℕ, ◌<◌, true, length, Option, Some, sym, subst, ◌∙◌, below_more, arith}
use Rattle.std.proofs.lemmas.Bool.{false≢true}
use Rattle.ir_text_names.specs.Indices.{IsOneOf, IsEntryBeyond}
use Rattle.ir_text_names.proofs.value_numbers.first_beyond.Goals as goal

pub loop-at-preserved : goal.loop-at-preserved
loop-at-preserved c =
    let l = c.loop-at in
    let P : ℕ → Type 0 = IsEntryBeyond c.args.text.now c.args.rows.now c.args.table.now in
    let is : (c.is_beyond.result ≡ true) ↔ P l.at =
    subst (λ (o : Option ℕ). (c.is_beyond.result ≡ true) ↔ ((d : ℕ) × (o ≡ Some d) × (d < length c.args.rows.now) × (IsOneOf c.args.text.now c.args.rows.now l.at d → ⊥))) c.get.ensures c.is_beyond.ensures in
    below_more (λ (k : ℕ). P k → ⊥) l.at l.invariant (λ p. false≢true (sym c.if-is_beyond.false ∙ is.1 p))

pub returns : goal.returns
returns c =
    let l = c.loop-at in
    let end : l.at ≡ length c.args.rows.now = omega (arith, c.requires) in
    subst (λ (n : ℕ). (k : ℕ) → k < n → IsEntryBeyond c.args.text.now c.args.rows.now c.args.table.now k → ⊥) end l.invariant
