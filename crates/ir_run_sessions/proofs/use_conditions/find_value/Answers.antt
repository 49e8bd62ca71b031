use Rattle.std.proofs.Common.{ap, map}
use Rattle.ir_model.specs.Forest.{a_value}
use Rattle.ir_model.specs.Nesting.{IsLiveNamed}
use Rattle.ir_core_records.specs.Meaning.{value_of}
use Rattle.ir_core_queries.specs.State.{forest_of}
use Rattle.ir_run_sessions.specs.SessionTables.{entries_of}
use Rattle.ir_run_sessions.proofs.Placing.{looked_up}
use Rattle.ir_run_sessions.proofs.use_conditions.find_value.Goals as goal

pub returns : goal.returns
returns g c =
    let f = forest_of c.args.ctx.now in
    looked_up (λ v. IsLiveNamed f (a_value v)) (λ v. value_of v.index) (λ v. IsLiveNamed f (a_value (value_of v.index))) (λ v. (λ l. l, λ l. l)) c.deref.result.now (entries_of c.args.tables.now).values (ap (map (λ v. value_of v.index)) c.deref.ensures.value) c.args.number
    c.live_entry.result c.live_entry.ensures.found c.live_entry.ensures.live c.live_entry.ensures.missing
