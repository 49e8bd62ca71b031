use Rattle.std.proofs.Common.{◌≡◌, ◌<◌, Some, None, Option, sym, ap, subst}
use Rattle.std.specs.Option.{option_map}
use Rattle.ir_core_records.specs.declared.record.EntityIndex.{EntityIndex}
use Rattle.ir_core_records.specs.Meaning.{entity_of, forest_in}
use Rattle.ir_core_erasing.specs.Walks.{subtree}
use Rattle.ir_core_erasing.proofs.Drops.{DropsListed, drops-start}
use Rattle.ir_core_erasing.proofs.Dropped.{Dropping, dropping-end, dropping-smaller, dropping-step, formed-same, here-live, keeps-refl, keeps-trans}
use Rattle.ir_core_erasing.proofs.Steps.{passing-start, remaining}
use Rattle.ir_core_erasing.proofs.dropping.drop_all_uses.Goals as goal

pub loop-current-init : goal.loop-current-init
loop-current-init g c =
    let t = c.args.records.now in
    record {
      passing = passing-start (subtree t (entity_of c.args.entity)) (λ before. DropsListed (forest_in t) before (forest_in t)) (Some (entity_of c.deepest.result)) (sym c.deepest.ensures.first) (drops-start (forest_in t));
      keeps = keeps-refl t;
      linked = c.requires.linked;
    }

pub drop_uses-requires-clause-live : goal.drop_uses-requires-clause-live
drop_uses-requires-clause-live g c =
    let first = c.args.records.now in
    let now = c.loop-current.records in
    let root = entity_of c.args.entity in
    let w : Dropping first now root (Some (entity_of c.in-Some.here)) = subst (λ (o : Option EntityIndex). Dropping first now root (option_map entity_of o)) c.in-Some.is c.loop-current.invariant in
    here-live first now c.requires.nested c.requires.formed root (entity_of c.in-Some.here) (c.recall_subtrees_listed.ensures first root c.requires.nested c.requires.formed) c.requires.live w

pub next_inside-current-requires-clause-formed : goal.next_inside-current-requires-clause-formed
next_inside-current-requires-clause-formed g c =
    let first = c.args.records.now in
    let now = c.loop-current.records in
    let root = entity_of c.args.entity in
    let w : Dropping first now root (Some (entity_of c.in-Some.here)) = subst (λ (o : Option EntityIndex). Dropping first now root (option_map entity_of o)) c.in-Some.is c.loop-current.invariant in
    let next = c.drop_uses.new.records in
    let kept = keeps-trans first now next w.keeps c.drop_uses.ensures.keeps in
    formed-same first next c.requires.nested kept c.requires.formed

pub loop-current-preserved : goal.loop-current-preserved
loop-current-preserved g c =
    let first = c.args.records.now in
    let now = c.loop-current.records in
    let root = entity_of c.args.entity in
    let w : Dropping first now root (Some (entity_of c.in-Some.here)) = subst (λ (o : Option EntityIndex). Dropping first now root (option_map entity_of o)) c.in-Some.is c.loop-current.invariant in
    let next = c.drop_uses.new.records in
    dropping-step first now c.requires.nested c.requires.formed root (entity_of c.in-Some.here) (c.recall_subtrees_listed.ensures first root c.requires.nested c.requires.formed) c.requires.live w
    next c.drop_uses.ensures.keeps (option_map entity_of c.next_inside-current.result) c.next_inside-current.ensures c.drop_uses.ensures.linked c.drop_uses.ensures.forest

pub loop-current-smaller : goal.loop-current-smaller
loop-current-smaller g c =
    let first = c.args.records.now in
    let now = c.loop-current.records in
    let root = entity_of c.args.entity in
    let w : Dropping first now root (Some (entity_of c.in-Some.here)) = subst (λ (o : Option EntityIndex). Dropping first now root (option_map entity_of o)) c.in-Some.is c.loop-current.invariant in
    let next = c.drop_uses.new.records in
    let less : remaining (subtree first root) (option_map entity_of c.next_inside-current.result) < remaining (subtree first root) (Some (entity_of c.in-Some.here)) =
    dropping-smaller first now c.requires.nested c.requires.formed root (entity_of c.in-Some.here) (c.recall_subtrees_listed.ensures first root c.requires.nested c.requires.formed) c.requires.live w
    next c.drop_uses.ensures.keeps (option_map entity_of c.next_inside-current.result) c.next_inside-current.ensures in
    let was : remaining (subtree first root) (option_map entity_of c.loop-current.current) ≡ remaining (subtree first root) (Some (entity_of c.in-Some.here)) = ap (λ (o : Option EntityIndex). remaining (subtree first root) (option_map entity_of o)) c.in-Some.is in
    subst (λ n. remaining (subtree first root) (option_map entity_of c.next_inside-current.result) < n) (sym was) less

pub returns-clause-forest : goal.returns-clause-forest
returns-clause-forest g c =
    let first = c.args.records.now in
    let now = c.loop-current.records in
    let root = entity_of c.args.entity in
    let w : Dropping first now root None = subst (λ (o : Option EntityIndex). Dropping first now root (option_map entity_of o)) c.in_default.is c.loop-current.invariant in
    dropping-end first now root (c.recall_subtrees_listed.ensures first root c.requires.nested c.requires.formed) w
