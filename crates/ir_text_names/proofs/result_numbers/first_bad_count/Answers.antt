use Rattle.std.proofs.Common.{◌≡◌, ◌↔◌, ℕ, true, sym, ◌∙◌, below_more}
use Rattle.std.proofs.lemmas.Bool.{false≢true}
use Rattle.ir_text_names.specs.Numbers.{IsNoCount}
use Rattle.ir_text_names.proofs.result_numbers.first_bad_count.Goals as goal

pub loop-at-preserved : goal.loop-at-preserved
loop-at-preserved c =
    let l = c.loop-at in
    let P : ℕ → Type 0 = IsNoCount c.args.text.now c.args.rows.now in
    let is : (c.is_bad_count.result ≡ true) ↔ P l.at = c.is_bad_count.ensures in
    below_more (λ (k : ℕ). P k → ⊥) l.at l.invariant (λ p. false≢true (sym c.if-is_bad_count.false ∙ is.1 p))
