use Rattle.std.proofs.Common.{List, position, ◌==◌, sym, ap, subst, ◌∙◌}
use Rattle.ir_core_records.specs.declared.record.BlockIndex.{BlockIndex}
use Rattle.ir_core_records.specs.declared.record.UsePlace.{UsePlace}
use Rattle.ir_core_records.specs.Lists.{HaveDistinctUses}
use Rattle.ir_base_arenas.specs.Arena.{get}
use Rattle.ir_core_records.specs.Meaning.{use_of}
use Rattle.ir_core_context.specs.State.{forest_of}
use Rattle.ir_core_queries.proofs.FindIndex.{finds-successor, lacks-successor, successors-differ, placed-block-live}
use Rattle.ir_core_queries.proofs.value.UsePtrBasicBlockBlockUseQueries.try_find_index.Goals as goal

pub find_successor-requires : goal.find_successor-requires
find_successor-requires g c =
    let at = rw c.records.ensures at c.in-Some.ensures in
    subst (λ (xs : List (UsePlace BlockIndex)). HaveDistinctUses xs) (sym c.as_slice.ensures)
    (successors-differ c.args.ctx.now.records c.args.self.index c.in-Some.op.now (at ∙ ap (get c.args.ctx.now.records.ops) c.from_index.ensures) c.recall_holds_together.ensures.linked)

pub returns-in-Some-find_successor-clause-found : goal.returns-in-Some-find_successor-clause-found
returns-in-Some-find_successor-clause-found g c =
    let at = rw c.records.ensures at c.in-Some.ensures in
    finds-successor c.args.ctx.now.records c.args.self.index c.in-Some.op.now (at ∙ ap (get c.args.ctx.now.records.ops) c.from_index.ensures) c.in-Some-find_successor.index (sym (c.find_successor.ensures ∙ ap (λ (xs : List (UsePlace BlockIndex)). position (λ a. a.number == c.args.self.index.number) xs) c.as_slice.ensures) ∙ c.in-Some-find_successor.is)

pub returns-in-Some-find_successor-clause-live : goal.returns-in-Some-find_successor-clause-live
returns-in-Some-find_successor-clause-live g c = placed-block-live (forest_of c.args.ctx.now) (use_of c.args.self.index) c.in-Some-find_successor.index (returns-in-Some-find_successor-clause-found g c)

pub returns-in-None-find_successor-clause-missing : goal.returns-in-None-find_successor-clause-missing
returns-in-None-find_successor-clause-missing g c =
    let at = rw c.records.ensures at c.in-Some.ensures in
    λ _. lacks-successor c.args.ctx.now.records c.args.self.index c.in-Some.op.now (at ∙ ap (get c.args.ctx.now.records.ops) c.from_index.ensures) (sym (c.find_successor.ensures ∙ ap (λ (xs : List (UsePlace BlockIndex)). position (λ a. a.number == c.args.self.index.number) xs) c.as_slice.ensures) ∙ c.in-None-find_successor.is)
