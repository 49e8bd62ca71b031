use Rattle.std.proofs.Common.{◌≡◌, ◌↔◌, ◌∙◌, ◌<◌, Option, Some, refl, sym, ap, subst}
use Rattle.std.specs.Option.{option_map}
use Rattle.ir_model.specs.ContextIds.{context_ids}
use Rattle.ir_model.specs.Nesting.{itself, Inside}
use Rattle.ir_model.proofs.KeepsErase.{same_tells}
use Rattle.ir_model.proofs.TwoRuns.{lawful}
use Rattle.ir_core_records.specs.declared.record.EntityIndex.{EntityIndex}
use Rattle.ir_core_records.specs.Meaning.{entity_of, forest_in}
use Rattle.ir_core_nesting.specs.Climbs.{Reaches, depth}
use Rattle.ir_core_erasing.proofs.Climbing.{climb-up, climb-less}
use Rattle.ir_core_erasing.proofs.Steps.{differ}
use Rattle.ir_core_erasing.proofs.closed.climbs_into.Goals as goal

pub returns-then-are_one : goal.returns-then-are_one
returns-then-are_one g c =
    let f = forest_in c.args.records.now in
    let root = entity_of c.args.root in
    let here : entity_of c.in-Some.entity ≡ root = same_tells context_ids lawful (entity_of c.in-Some.entity) root (sym c.are_one.ensures ∙ c.if-are_one.true) in
    let i : Inside f root (entity_of c.args.inner) ↔ Inside f root (entity_of c.in-Some.entity)
    = subst (λ (o : Option EntityIndex). Inside f root (entity_of c.args.inner) ↔ Reaches f root (option_map entity_of o)) c.in-Some.is c.loop-current.invariant in
    (λ _. i.1 (subst (Inside f root) (sym here) itself), λ _. refl)

pub returns-then-are_one-2 : goal.returns-then-are_one-2
returns-then-are_one-2 g c =
    let f = forest_in c.args.records.now in
    let root = entity_of c.args.root in
    let here : entity_of c.in-Some.entity ≡ entity_of c.args.home = same_tells context_ids lawful (entity_of c.in-Some.entity) (entity_of c.args.home) (sym c.are_one-in-Some.ensures ∙ c.if-are_one-2.true) in
    let i : Inside f root (entity_of c.args.inner) ↔ Inside f root (entity_of c.in-Some.entity)
    = subst (λ (o : Option EntityIndex). Inside f root (entity_of c.args.inner) ↔ Reaches f root (option_map entity_of o)) c.in-Some.is c.loop-current.invariant in
    (λ _. i.1 (subst (Inside f root) (sym here) c.requires.home), λ _. refl)

pub loop-current-smaller : goal.loop-current-smaller
loop-current-smaller g c =
    let t = c.args.records.now in
    let was : depth t (option_map entity_of c.loop-current.current) ≡ depth t (Some (entity_of c.in-Some.entity)) = ap (λ (o : Option EntityIndex). depth t (option_map entity_of o)) c.in-Some.is in
    subst (λ n. depth t (option_map entity_of c.parent_of-current.result) < n) (sym was)
    (climb-less c.recall_depths_follow.ensures.below t c.requires.nested c.requires.formed (entity_of c.in-Some.entity) (option_map entity_of c.parent_of-current.result) c.parent_of-current.ensures)

pub loop-current-preserved : goal.loop-current-preserved
loop-current-preserved g c =
    let f = forest_in c.args.records.now in
    let root = entity_of c.args.root in
    let i : Inside f root (entity_of c.args.inner) ↔ Inside f root (entity_of c.in-Some.entity)
    = subst (λ (o : Option EntityIndex). Inside f root (entity_of c.args.inner) ↔ Reaches f root (option_map entity_of o)) c.in-Some.is c.loop-current.invariant in
    let u = climb-up f c.requires.formed root (entity_of c.in-Some.entity) (option_map entity_of c.parent_of-current.result) (differ (entity_of c.in-Some.entity) root (sym c.are_one.ensures ∙ c.if-are_one.false)) c.parent_of-current.ensures in
    (λ k. u.0 (i.0 k), λ r. i.1 (u.1 r))
