use Rattle.std.proofs.Common.{ℕ, rules}
use Rattle.std.specs.Prelude.{slice_get}
use Rattle.std.proofs.lemmas.Iterator.{cases_from_all, YieldsList-from_slice}
use Rattle.ir_model.specs.Edits.{The}
use Rattle.ir_core_queries.specs.State.{forest_of}
use Rattle.ir_run_sessions.specs.SessionLists.{Each-from_cases}
use Rattle.ir_run_sessions.proofs.lookups.all_live.Goals as goal

pub returns : goal.returns
returns g c =
    let P : ℕ → Type 0 = λ n. The (slice_get c.args.table.now n) (λ entry. g.E.Entry.IsLiveIn (forest_of c.args.ctx.now) entry) in
    Each-from_cases P c.all.result c.args.numbers.now
    (cases_from_all _ _ _ P (λ n. P n → ⊥) c.all.ensures.ran (YieldsList-from_slice c.args.numbers.now cc) (λ x q k. search rules) (λ x q k. search rules))
