use Rattle.std.proofs.Common.{◌≡◌, rules, map}
use Rattle.std.specs.Prelude.{IfOk}
use Rattle.ir_model.specs.Forest.{a_value}
use Rattle.ir_model.specs.Uses.{AreUses}
use Rattle.ir_core_records.specs.Meaning.{use_of, value_of}
use Rattle.ir_core_records.specs.Values.{IsLiveUse}
use Rattle.ir_core_context.specs.Named.{live-value}
use Rattle.ir_core_context.specs.State.{forest_of, uses_of}
use Rattle.ir_core_queries.proofs.FindIndex.{each-copied}
use Rattle.ir_core_queries.proofs.value.ValueValueQueries.uses.Goals as goal

pub uses-requires : goal.uses-requires
uses-requires g c = rw c.records.ensures (live-value c.args.ctx.now.records c.args.self.index c.requires)

pub returns-clause-live : goal.returns-clause-live
returns-clause-live g c =
    let kept : IfOk c.copy_uses.result (λ uses. map (λ u. use_of u.index) uses.items ≡ uses_of c.args.ctx.now c.args.self.index) = search rules in
    let are : AreUses (forest_of c.args.ctx.now) (a_value (value_of c.args.self.index)) (uses_of c.args.ctx.now c.args.self.index) = search rules in
    each-copied (λ u. use_of u.index) (λ uses. uses.items) (uses_of c.args.ctx.now c.args.self.index) (IsLiveUse (forest_of c.args.ctx.now)) (λ u h. (value_of c.args.self.index, (are.exact u).0 h)) c.copy_uses.result kept
