use Rattle.std.proofs.Common.{refl, sym, ◌∙◌}
use Rattle.ir_core_queries.proofs.FindIndex.{finds-definition, found-tells, lacks-definition, missing-tells}
use Rattle.ir_core_queries.proofs.value.ValueValueQueries.try_find_index.Goals as goal

pub returns-in-Some-find-clause-found : goal.returns-in-Some-find-clause-found
returns-in-Some-find-clause-found g c =
    finds-definition c.args.ctx.now.records c.args.self.index c.in-Some.definitions.now (rw c.records.ensures at c.in-Some.ensures.found) c.in-Some-find.index (sym c.find.ensures ∙ c.in-Some-find.is)

pub returns-in-Some-find-clause-no_result : goal.returns-in-Some-find-clause-no_result
returns-in-Some-find-clause-no_result g c = (found-tells _ c.args.self.index c.in-Some-find.index (returns-in-Some-find-clause-found g c)).no_result

pub returns-in-Some-find-clause-no_argument : goal.returns-in-Some-find-clause-no_argument
returns-in-Some-find-clause-no_argument g c = (found-tells _ c.args.self.index c.in-Some-find.index (returns-in-Some-find-clause-found g c)).no_argument

pub returns-in-None-find-clause-missing : goal.returns-in-None-find-clause-missing
returns-in-None-find-clause-missing g c =
    λ _. lacks-definition c.args.ctx.now.records c.args.self.index c.in-Some.definitions.now (rw c.records.ensures at c.in-Some.ensures.found) (sym c.find.ensures ∙ c.in-None-find.is)

pub returns-in-None-find-clause-no_result : goal.returns-in-None-find-clause-no_result
returns-in-None-find-clause-no_result g c =
    let live = rw c.records.ensures at c.in-Some.ensures.live in
    let found = rw c.records.ensures at c.in-Some.ensures.found in
    rw c.missing.ensures
    (missing-tells _ c.args.self.index (live.0 refl) (lacks-definition c.args.ctx.now.records c.args.self.index c.in-Some.definitions.now found (sym c.find.ensures ∙ c.in-None-find.is))).no_result

pub returns-in-None-find-clause-no_argument : goal.returns-in-None-find-clause-no_argument
returns-in-None-find-clause-no_argument g c =
    let live = rw c.records.ensures at c.in-Some.ensures.live in
    let found = rw c.records.ensures at c.in-Some.ensures.found in
    rw c.missing.ensures
    (missing-tells _ c.args.self.index (live.0 refl) (lacks-definition c.args.ctx.now.records c.args.self.index c.in-Some.definitions.now found (sym c.find.ensures ∙ c.in-None-find.is))).no_argument
