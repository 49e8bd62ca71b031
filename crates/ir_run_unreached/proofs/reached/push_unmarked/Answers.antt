use Rattle.std.proofs.Common.{◌≡◌, inl, inr, is_some, map, position, refl, sym, ap, ◌∙◌}
use Rattle.std.proofs.lemmas.Bool.{false≢true}
use Rattle.ir_model.specs.ContextIds.{same_id}
use Rattle.ir_model.specs.declared.ids.ArenaIndex.{ArenaIndex}
use Rattle.ir_model.proofs.TwoRuns.{id_tells}
use Rattle.ir_run_unreached.proofs.Parents.{found_in}
use Rattle.ir_run_unreached.proofs.Slices.{seen_push}
use Rattle.ir_run_unreached.proofs.reached.push_unmarked.Goals as goal

pub returns-then-is_some-clause-pushed : goal.returns-then-is_some-clause-pushed
returns-then-is_some-clause-pushed g c =
    let is : c.is_some.result ≡ is_some (position (λ (k : ArenaIndex). same_id k c.args.block.index) c.args.marked.now) = c.is_some.ensures ∙ ap is_some c.get.ensures in
    inl ((found_in same_id id_tells c.args.block.index c.args.marked.now).0 (sym is ∙ c.if-is_some.true), refl)

pub returns-clause-pushed : goal.returns-clause-pushed
returns-clause-pushed g c =
    let is : c.is_some.result ≡ is_some (position (λ (k : ArenaIndex). same_id k c.args.block.index) c.args.marked.now) = c.is_some.ensures ∙ ap is_some c.get.ensures in
    inr (λ h. absurd (false≢true (sym c.if-is_some.false ∙ is ∙ (found_in same_id id_tells c.args.block.index c.args.marked.now).1 h)), ap (λ xs. map (λ p. p.index) xs) c.in_ok-push.ensures.items ∙ seen_push c.args.blocks.now.items (λ p. p.index) c.args.block)
