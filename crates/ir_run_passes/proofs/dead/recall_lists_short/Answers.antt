use Rattle.std.proofs.Common.{◌≡◌, ap, ◌∙◌, arith}
use Rattle.ir_model.specs.Nesting.{ops_of}
use Rattle.ir_model.specs.Arenas.{get, arena_len}
use Rattle.ir_core_records.specs.declared.records.Records.{Records}
use Rattle.ir_core_records.specs.Meaning.{op_record}
use Rattle.ir_core_queries.specs.State.{forest_of}
use Rattle.ir_run_passes.proofs.Ranks.{listed_live, once}
use Rattle.ir_model.proofs.LiveIds.{live_few}
use Rattle.ir_run_passes.proofs.BlockWalks.{live_under}
use Rattle.ir_run_passes.proofs.dead.recall_lists_short.Goals as goal

pub returns : goal.returns
returns g c =
    let t = c.args.ctx.now.records in
    let f = forest_of c.args.ctx.now in
    let b = c.args.block.index in
    let n = c.recall_well_formed.ensures.nested in
    let few = live_few t.ops (ops_of f b) (once f b n) (λ o h. live_under op_record (get t.ops o) (listed_live f b n o h)) in
    let same : c.len-most.result ≡ arena_len t.ops = c.len-most.ensures ∙ ap (λ (r : Records _ _ _ _ _ _ _). arena_len r.ops) c.records.ensures in
    omega (arith, few, same)
