use Rattle.std.proofs.Common.{◌∙◌, Option, sym, subst}
use Rattle.std.specs.Option.{option_map}
use Rattle.ir_model.specs.ContextIds.{context_ids}
use Rattle.ir_model.proofs.KeepsErase.{same_tells}
use Rattle.ir_model.proofs.TwoRuns.{lawful}
use Rattle.ir_core_records.specs.declared.record.EntityIndex.{EntityIndex}
use Rattle.ir_core_records.specs.Meaning.{entity_of}
use Rattle.ir_core_erasing.proofs.Steps.{differ}
use Rattle.ir_core_erasing.proofs.Teardown.{Tearing, Tears, start, leaf-live, leaf-bare, leaf-unnamed, next-step, last-step}
use Rattle.ir_core_erasing.proofs.erasing.tear_down.Goals as goal
use Rattle.ir_core_erasing.proofs.erasing.tear_down.Goals.{then-are_one, else-are_one}

pub loop-current-init : goal.loop-current-init
loop-current-init g c = start c.args.records.now (entity_of c.args.root) c.requires.formed.0 c.requires.formed.1 c.requires.nested c.requires.live c.requires.bare c.requires.unnamed

pub remove_leaf-requires-clause-live : goal.remove_leaf-requires-clause-live
remove_leaf-requires-clause-live g c =
    let first = c.args.records.now in
    let now = c.loop-current.records in
    let root = entity_of c.args.root in
    let here = entity_of c.in-Some.entity in
    let w : Tearing first now root here = subst (λ (o : Option EntityIndex). Tears first now root (option_map entity_of o)) c.in-Some.is c.loop-current.invariant in
    leaf-live first now root here (entity_of c.deepest-leaf.result) w c.deepest-leaf.ensures.inside

pub remove_leaf-requires-clause-bare : goal.remove_leaf-requires-clause-bare
remove_leaf-requires-clause-bare g c =
    let first = c.args.records.now in
    let now = c.loop-current.records in
    let root = entity_of c.args.root in
    let here = entity_of c.in-Some.entity in
    let w : Tearing first now root here = subst (λ (o : Option EntityIndex). Tears first now root (option_map entity_of o)) c.in-Some.is c.loop-current.invariant in
    leaf-bare first now root here (entity_of c.deepest-leaf.result) w c.deepest-leaf.ensures.inside

pub remove_leaf-requires-clause-unnamed : goal.remove_leaf-requires-clause-unnamed
remove_leaf-requires-clause-unnamed g c =
    let first = c.args.records.now in
    let now = c.loop-current.records in
    let root = entity_of c.args.root in
    let here = entity_of c.in-Some.entity in
    let w : Tearing first now root here = subst (λ (o : Option EntityIndex). Tears first now root (option_map entity_of o)) c.in-Some.is c.loop-current.invariant in
    leaf-unnamed first now root here (entity_of c.deepest-leaf.result) w c.deepest-leaf.ensures.inside

pub loop-current-preserved : goal.loop-current-preserved
loop-current-preserved g c =
    let first = c.args.records.now in
    let now = c.loop-current.records in
    let next = c.remove_leaf.new.records in
    let root = entity_of c.args.root in
    let here = entity_of c.in-Some.entity in
    let leaf = entity_of c.deepest-leaf.result in
    let w : Tearing first now root here = subst (λ (o : Option EntityIndex). Tears first now root (option_map entity_of o)) c.in-Some.is c.loop-current.invariant in
    let e = c.deepest-leaf.ensures in
    let done : Tears first next root (option_map entity_of c.if-are_one.current) =
    elim c.if-are_one.branch [
      | then-are_one b ↦ subst (λ (o : Option EntityIndex). Tears first next root (option_map entity_of o)) (sym b.current-is)
          (last-step first now root here leaf w e.inside e.leaf next c.remove_leaf.ensures (same_tells context_ids lawful leaf root (sym c.are_one.ensures ∙ b.if-are_one.true)))
      | else-are_one b ↦ subst (λ (o : Option EntityIndex). Tears first next root (option_map entity_of o)) (sym b.current-is)
          (next-step first now root here leaf w e.inside e.leaf next c.remove_leaf.ensures (differ leaf root (sym c.are_one.ensures ∙ b.if-are_one.false)) (option_map entity_of b.parent_of-current.result) b.parent_of-current.ensures)
    ] in
    done
