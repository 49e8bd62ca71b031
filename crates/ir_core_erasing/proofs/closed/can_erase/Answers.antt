use Rattle.std.proofs.Common.{◌≡◌, ◌∙◌, ◌<◌, ◌∷◌, [], Option, Some, None, refl, sym, ap, subst}
use Rattle.std.specs.Option.{option_map}
use Rattle.std.proofs.lemmas.Bool.{false≢true}
use Rattle.ir_model.specs.Nesting.{Inside}
use Rattle.ir_core_records.specs.declared.record.EntityIndex.{EntityIndex}
use Rattle.ir_core_records.specs.Meaning.{entity_of, forest_in}
use Rattle.ir_core_erasing.specs.Walks.{subtree}
use Rattle.ir_core_erasing.proofs.ClosedListings.{AllClosed, all-append, closed-entity, closed-listed}
use Rattle.ir_core_erasing.proofs.Dropped.{inside-live}
use Rattle.ir_core_erasing.proofs.Steps.{Passing, passing-end, passing-in, passing-smaller, passing-start, passing-step, remaining}
use Rattle.ir_core_erasing.proofs.closed.can_erase.Goals as goal

pub loop-current-init : goal.loop-current-init
loop-current-init g c =
    let t = c.args.records.now in
    let root = entity_of c.args.entity in
    passing-start (subtree t root) (AllClosed (forest_in t) root) (Some (entity_of c.deepest.result)) (sym c.deepest.ensures.first) tt

pub keeps_its_users-requires-clause-live : goal.keeps_its_users-requires-clause-live
keeps_its_users-requires-clause-live g c =
    let t = c.args.records.now in
    let root = entity_of c.args.entity in
    let here = entity_of c.in-Some.here in
    let w : Passing (subtree t root) (AllClosed (forest_in t) root) (Some here) = subst (λ (o : Option EntityIndex). Passing (subtree t root) (AllClosed (forest_in t) root) (option_map entity_of o)) c.in-Some.is c.loop-current.invariant in
    let formed = c.requires.formed.1.nested in
    let i : Inside (forest_in t) root here = ((c.recall_subtrees_listed.ensures t root c.requires.nested formed).exact here).0 (passing-in (subtree t root) (AllClosed (forest_in t) root) here w) in
    inside-live (forest_in t) formed root here c.requires.live i

pub keeps_its_users-requires-clause-inside : goal.keeps_its_users-requires-clause-inside
keeps_its_users-requires-clause-inside g c =
    let t = c.args.records.now in
    let root = entity_of c.args.entity in
    let here = entity_of c.in-Some.here in
    let w : Passing (subtree t root) (AllClosed (forest_in t) root) (Some here) = subst (λ (o : Option EntityIndex). Passing (subtree t root) (AllClosed (forest_in t) root) (option_map entity_of o)) c.in-Some.is c.loop-current.invariant in
    ((c.recall_subtrees_listed.ensures t root c.requires.nested c.requires.formed.1.nested).exact here).0 (passing-in (subtree t root) (AllClosed (forest_in t) root) here w)

pub returns-then-not-keeps_its_users : goal.returns-then-not-keeps_its_users
returns-then-not-keeps_its_users g c =
    let t = c.args.records.now in
    let root = entity_of c.args.entity in
    let here = entity_of c.in-Some.here in
    let w : Passing (subtree t root) (AllClosed (forest_in t) root) (Some here) = subst (λ (o : Option EntityIndex). Passing (subtree t root) (AllClosed (forest_in t) root) (option_map entity_of o)) c.in-Some.is c.loop-current.invariant in
    let i : Inside (forest_in t) root here = ((c.recall_subtrees_listed.ensures t root c.requires.nested c.requires.formed.1.nested).exact here).0 (passing-in (subtree t root) (AllClosed (forest_in t) root) here w) in
    (λ e. absurd (false≢true e), λ closed. absurd (false≢true (sym c.if-not-keeps_its_users.true ∙ c.keeps_its_users.ensures.1 (closed-entity (forest_in t) root here closed i))))

pub loop-current-preserved : goal.loop-current-preserved
loop-current-preserved g c =
    let t = c.args.records.now in
    let root = entity_of c.args.entity in
    let here = entity_of c.in-Some.here in
    let w : Passing (subtree t root) (AllClosed (forest_in t) root) (Some here) = subst (λ (o : Option EntityIndex). Passing (subtree t root) (AllClosed (forest_in t) root) (option_map entity_of o)) c.in-Some.is c.loop-current.invariant in
    passing-step (subtree t root) (AllClosed (forest_in t) root) here w (option_map entity_of c.next_inside-current.result) c.next_inside-current.ensures (AllClosed (forest_in t) root)
    (λ before all. (all-append (forest_in t) root before (here ∷ [])).1 (all, (c.keeps_its_users.ensures.0 c.if-not-keeps_its_users.false, tt)))

pub loop-current-smaller : goal.loop-current-smaller
loop-current-smaller g c =
    let t = c.args.records.now in
    let root = entity_of c.args.entity in
    let here = entity_of c.in-Some.here in
    let w : Passing (subtree t root) (AllClosed (forest_in t) root) (Some here) = subst (λ (o : Option EntityIndex). Passing (subtree t root) (AllClosed (forest_in t) root) (option_map entity_of o)) c.in-Some.is c.loop-current.invariant in
    let less : remaining (subtree t root) (option_map entity_of c.next_inside-current.result) < remaining (subtree t root) (Some here) =
    passing-smaller (subtree t root) (AllClosed (forest_in t) root) here w (option_map entity_of c.next_inside-current.result) c.next_inside-current.ensures (c.recall_subtrees_listed.ensures t root c.requires.nested c.requires.formed.1.nested).once in
    let was : remaining (subtree t root) (option_map entity_of c.loop-current.current) ≡ remaining (subtree t root) (Some here) = ap (λ (o : Option EntityIndex). remaining (subtree t root) (option_map entity_of o)) c.in-Some.is in
    subst (λ n. remaining (subtree t root) (option_map entity_of c.next_inside-current.result) < n) (sym was) less

pub returns : goal.returns
returns g c =
    let t = c.args.records.now in
    let root = entity_of c.args.entity in
    let w : Passing (subtree t root) (AllClosed (forest_in t) root) None = subst (λ (o : Option EntityIndex). Passing (subtree t root) (AllClosed (forest_in t) root) (option_map entity_of o)) c.in_default.is c.loop-current.invariant in
    let all = passing-end (subtree t root) (AllClosed (forest_in t) root) w in
    let lists = c.recall_subtrees_listed.ensures t root c.requires.nested c.requires.formed.1.nested in
    (λ _. (closed-listed (forest_in t) root c.requires.formed.0 c.requires.formed.1 (subtree t root) lists).1 all, λ _. refl)
