use Rattle.std.proofs.Common.{◌≡◌, ◌↔◌, ◌∙◌, ◌<◌, suc, true, false, Option, Some, refl, sym, ap, subst, arith}
use Rattle.std.specs.Option.{option_map}
use Rattle.ir_model.specs.ContextIds.{context_ids}
use Rattle.ir_model.specs.Forest.{Entity, same_entity}
use Rattle.ir_model.specs.Nesting.{itself, Inside}
use Rattle.ir_model.proofs.KeepsErase.{same_self, same_tells}
use Rattle.ir_model.proofs.TwoRuns.{lawful}
use Rattle.ir_core_records.specs.Meaning.{entity_of, forest_in}
use Rattle.ir_core_records.specs.Tree.{tree_of, ops_in, blocks_in}
use Rattle.ir_core_nesting.specs.Climbs.{Reaches, depth}
use Rattle.ir_core_nesting.proofs.ForestParents.{inside-up}
use Rattle.ir_core_nesting.proofs.Depth.{depth-up}
use Rattle.ir_core_nesting.proofs.parents.is_inside.Goals as goal

differ : (x y : Entity context_ids) → x ≡ y → same_entity context_ids x y ≡ false → ⊥
differ x y e f =
    let h : same_entity context_ids x y ≡ true = ap (λ z. same_entity context_ids x z) (sym e) ∙ same_self context_ids lawful x in
    cc

pub returns-then-are_one : goal.returns-then-are_one
returns-then-are_one g c =
    let t = c.args.records.now in
    let here : entity_of c.in-Some.entity ≡ entity_of c.args.outer = same_tells context_ids lawful (entity_of c.in-Some.entity) (entity_of c.args.outer) (sym c.are_one.ensures ∙ c.if-are_one.true) in
    let i : Inside (forest_in t) (entity_of c.args.outer) (entity_of c.args.inner) ↔ Inside (forest_in t) (entity_of c.args.outer) (entity_of c.in-Some.entity)
    = subst (λ (o : Option _). Inside (forest_in t) (entity_of c.args.outer) (entity_of c.args.inner) ↔ Reaches (forest_in t) (entity_of c.args.outer) (option_map entity_of o)) c.in-Some.is c.loop-current.invariant in
    (λ _. i.1 (subst (Inside (forest_in t) (entity_of c.args.outer)) (sym here) itself), λ _. refl)

pub loop-current-smaller : goal.loop-current-smaller
loop-current-smaller g c =
    let t = c.args.records.now in
    let was : depth t (option_map entity_of c.loop-current.current) ≡ depth t (Some (entity_of c.in-Some.entity)) = ap (λ (o : Option _). depth t (option_map entity_of o)) c.in-Some.is in
    let up : depth t (Some (entity_of c.in-Some.entity)) ≡ suc (depth t (option_map entity_of c.parent_in_record-current.result))
    = depth-up t c.requires.nested c.requires.formed
    (c.lists_hold_nodes.ensures.container t.ops t.blocks (ops_in (tree_of t)) c.requires.nested.op_lists)
    (c.lists_hold_nodes-2.ensures.container t.blocks t.regions (blocks_in (tree_of t)) c.requires.nested.block_lists)
    (entity_of c.in-Some.entity) ∙ ap (λ o. suc (depth t o)) (sym c.parent_in_record-current.ensures) in
    subst (λ n. depth t (option_map entity_of c.parent_in_record-current.result) < n) (sym (was ∙ up)) (omega arith)

pub loop-current-preserved : goal.loop-current-preserved
loop-current-preserved g c =
    let t = c.args.records.now in
    let i : Inside (forest_in t) (entity_of c.args.outer) (entity_of c.args.inner) ↔ Inside (forest_in t) (entity_of c.args.outer) (entity_of c.in-Some.entity)
    = subst (λ (o : Option _). Inside (forest_in t) (entity_of c.args.outer) (entity_of c.args.inner) ↔ Reaches (forest_in t) (entity_of c.args.outer) (option_map entity_of o)) c.in-Some.is c.loop-current.invariant in
    let other : entity_of c.in-Some.entity ≡ entity_of c.args.outer → ⊥ = (λ e. absurd (differ (entity_of c.in-Some.entity) (entity_of c.args.outer) e (sym c.are_one.ensures ∙ c.if-are_one.false))) in
    let u = inside-up t c.requires.nested c.requires.formed
    (c.lists_hold_nodes.ensures.container t.ops t.blocks (ops_in (tree_of t)) c.requires.nested.op_lists)
    (c.lists_hold_nodes-2.ensures.container t.blocks t.regions (blocks_in (tree_of t)) c.requires.nested.block_lists)
    (entity_of c.args.outer) (entity_of c.in-Some.entity) other in
    let back = subst (Reaches (forest_in t) (entity_of c.args.outer)) (sym c.parent_in_record-current.ensures) in
    let forth = subst (Reaches (forest_in t) (entity_of c.args.outer)) c.parent_in_record-current.ensures in
    (λ k. back (u.0 (i.0 k)), λ r. i.1 (u.1 (forth r)))
