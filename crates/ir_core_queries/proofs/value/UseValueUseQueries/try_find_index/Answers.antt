use Rattle.std.proofs.Common.{List, position, ◌==◌, sym, ap, subst, ◌∙◌}
use Rattle.ir_core_records.specs.declared.record.ValueIndex.{ValueIndex}
use Rattle.ir_core_records.specs.declared.record.UsePlace.{UsePlace}
use Rattle.ir_core_records.specs.Lists.{HaveDistinctUses}
use Rattle.ir_base_arenas.specs.Arena.{get}
use Rattle.ir_core_records.specs.Meaning.{use_of}
use Rattle.ir_core_context.specs.State.{forest_of}
use Rattle.ir_core_queries.proofs.FindIndex.{finds-operand, lacks-operand, operands-differ, placed-live}
use Rattle.ir_core_queries.proofs.value.UseValueUseQueries.try_find_index.Goals as goal

pub find_operand-requires : goal.find_operand-requires
find_operand-requires g c =
    let at = rw c.records.ensures at c.in-Some.ensures in
    subst (λ (xs : List (UsePlace ValueIndex)). HaveDistinctUses xs) (sym c.as_slice.ensures)
    (operands-differ c.args.ctx.now.records c.args.self.index c.in-Some.op.now (at ∙ ap (get c.args.ctx.now.records.ops) c.from_index.ensures) c.recall_holds_together.ensures.linked)

pub returns-in-Some-find_operand-clause-found : goal.returns-in-Some-find_operand-clause-found
returns-in-Some-find_operand-clause-found g c =
    let at = rw c.records.ensures at c.in-Some.ensures in
    finds-operand c.args.ctx.now.records c.args.self.index c.in-Some.op.now (at ∙ ap (get c.args.ctx.now.records.ops) c.from_index.ensures) c.in-Some-find_operand.index (sym (c.find_operand.ensures ∙ ap (λ (xs : List (UsePlace ValueIndex)). position (λ a. a.number == c.args.self.index.number) xs) c.as_slice.ensures) ∙ c.in-Some-find_operand.is)

pub returns-in-Some-find_operand-clause-live : goal.returns-in-Some-find_operand-clause-live
returns-in-Some-find_operand-clause-live g c = placed-live (forest_of c.args.ctx.now) (use_of c.args.self.index) c.in-Some-find_operand.index (returns-in-Some-find_operand-clause-found g c)

pub returns-in-None-find_operand-clause-missing : goal.returns-in-None-find_operand-clause-missing
returns-in-None-find_operand-clause-missing g c =
    let at = rw c.records.ensures at c.in-Some.ensures in
    λ _. lacks-operand c.args.ctx.now.records c.args.self.index c.in-Some.op.now (at ∙ ap (get c.args.ctx.now.records.ops) c.from_index.ensures) (sym (c.find_operand.ensures ∙ ap (λ (xs : List (UsePlace ValueIndex)). position (λ a. a.number == c.args.self.index.number) xs) c.as_slice.ensures) ∙ c.in-None-find_operand.is)
