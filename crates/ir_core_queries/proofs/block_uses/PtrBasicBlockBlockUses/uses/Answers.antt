use Rattle.std.proofs.Common.{◌≡◌, rules, map}
use Rattle.std.specs.Prelude.{IfOk}
use Rattle.ir_model.specs.Forest.{the_block}
use Rattle.ir_model.specs.Uses.{AreUses}
use Rattle.ir_core_records.specs.Meaning.{use_of}
use Rattle.ir_core_records.specs.Values.{IsLiveBlockUse}
use Rattle.ir_core_context.specs.State.{block_uses_of, forest_of}
use Rattle.ir_core_queries.proofs.FindIndex.{each-copied}
use Rattle.ir_core_queries.proofs.block_uses.PtrBasicBlockBlockUses.uses.Goals as goal

pub returns-clause-live : goal.returns-clause-live
returns-clause-live g c =
    let kept : IfOk c.copy_uses.result (λ uses. map (λ u. use_of u.index) uses.items ≡ block_uses_of c.args.ctx.now c.args.self.index) = search rules in
    let are : AreUses (forest_of c.args.ctx.now) (the_block c.args.self.index) (block_uses_of c.args.ctx.now c.args.self.index) = search rules in
    each-copied (λ u. use_of u.index) (λ uses. uses.items) (block_uses_of c.args.ctx.now c.args.self.index) (IsLiveBlockUse (forest_of c.args.ctx.now)) (λ u h. (c.args.self.index, (are.exact u).0 h)) c.copy_uses.result kept
