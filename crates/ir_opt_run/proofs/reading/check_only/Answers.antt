use Rattle.std.proofs.Common.{◌+◌, ◌≤◌, length, map, subst, arith}
use Rattle.std.proofs.lemmas.List.{length-map}
use Rattle.ir_model.specs.Forest.{an_op}
use Rattle.ir_model.specs.Nesting.{IsLive}
use Rattle.ir_base_arenas.specs.Arena.{arena_len}
use Rattle.ir_core_queries.specs.Entities.{meant}
use Rattle.ir_core_queries.specs.State.{forest_of}
use Rattle.ir_opt_run.proofs.OnlyInside.{all_mapped, only-closes, only-inside}
use Rattle.ir_opt_run.proofs.reading.check_only.Goals as goal

pub returns-then-regions-count-clause-only : goal.returns-then-regions-count-clause-only
returns-then-regions-count-clause-only c =
    let found = c.in_ok-all_inside.field-0.items in
    let first = c.if-ops-count.true in
    let then = c.if-blocks-count.true in
    let last = c.if-regions-count.true in
    only-inside c.args.ctx.now.records (an_op c.args.root.index) (map meant found) c.in_ok-all_inside.ensures.each
    (all_mapped (IsLive (forest_of c.args.ctx.now)) meant found c.in_ok-all_inside.ensures.live)
    (subst (λ t. arena_len t.ops + (arena_len t.blocks + arena_len t.regions) ≤ length (map meant found)) c.records-records.ensures
    (omega (arith, first, then, last, c.len-count.ensures, c.in_ok-all_inside.field-0.ok.0, c.len-ops.ensures, c.len-blocks.ensures, c.len-regions.ensures, length-map found meant)))

pub returns-then-regions-count-clause-closed : goal.returns-then-regions-count-clause-closed
returns-then-regions-count-clause-closed c = only-closes (forest_of c.args.ctx.now) (an_op c.args.root.index) (returns-then-regions-count-clause-only c)
