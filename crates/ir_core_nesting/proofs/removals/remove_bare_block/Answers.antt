use Rattle.std.proofs.Common.{◌≡◌, [], OnSome, refl, sym, ap, subst, ◌∙◌}
use Rattle.ir_model.specs.declared.ids.ArenaIndex.{ArenaIndex}
use Rattle.ir_base_arenas.specs.Arena.{Arena, get, cut}
use Rattle.ir_core_records.specs.declared.record.BasicBlock.{BasicBlock}
use Rattle.ir_core_records.specs.Lists.{in_record, uses_with}
use Rattle.ir_core_records.specs.Meaning.{forest_in}
use Rattle.ir_core_records.specs.Tree.{tree_of, ops_in, blocks_in}
use Rattle.ir_core_nesting.specs.Leaves.{without_block}
use Rattle.ir_core_nesting.proofs.Readings.{found-at}
use Rattle.ir_core_nesting.proofs.Kept.{Becomes}
use Rattle.ir_core_nesting.proofs.Listed.{listed-block, ops_of-is}
use Rattle.ir_core_nesting.proofs.Growths.{removed}
use Rattle.ir_core_nesting.proofs.BlockRemoval.{block-left}
use Rattle.ir_core_nesting.proofs.removals.remove_bare_block.Goals as goal

pub returns : goal.returns
returns g c =
    let old = c.args.records.now in
    let block = c.args.block in
    let at = found-at old.blocks block c.requires.live in
    let is : c.remove.new.self ≡ cut old.blocks block = removed old.blocks c.remove.new.self block c.remove.result c.requires.live (c.remove.ensures.value ∙ ap (get old.blocks) c.from_index.ensures) (subst (λ (u : ArenaIndex). OnSome c.remove.result (c.remove.new.self ≡ cut old.blocks u)) c.from_index.ensures c.remove.ensures.cut) in
    let op_lists = c.container_changes_keep_lists.ensures.removed old.ops old.blocks (ops_in (tree_of old)) c.requires.nested.op_lists block c.requires.live (sym (ops_of-is old c.requires.nested block) ∙ c.requires.empty) in
    let block_lists = c.node_changes_keep_lists.ensures.removed old.blocks old.regions (blocks_in (tree_of old)) c.requires.nested.block_lists block c.requires.live
    (λ k. let place = (c.lists_hold_nodes.ensures.linked old.blocks old.regions (blocks_in (tree_of old)) c.requires.nested.block_lists block).0 k in c.requires.unlinked (listed-block old c.requires.nested block place.0 place.1)) in
    let left = block-left old block at.0 at.1 c.lists_are_one.ensures c.lists_are_one-2.ensures c.requires.nested op_lists block_lists
    (λ n. ap (λ m. uses_with (in_record (λ x. x.arguments) [] m) n) (sym at.1) ∙ c.requires.unused n)
    (ap (in_record (λ x. x.uses) []) (sym at.1) ∙ c.requires.unnamed) in
    let told = subst (λ (a : Arena (BasicBlock _ _ _ _ _ _ _)). Becomes old (record old { blocks = a }) (without_block (forest_in old) block)) (sym is) left in
    record {
      forest = told.forest;
      ops = refl;
      blocks = is;
      regions = refl;
      nested = told.nested;
      chains = told.chains;
      own = told.own;
    }
