use Rattle.std.proofs.Common.{◌∙◌, ap, arith}
use Rattle.std.proofs.lemmas.List.{length-map}
use Rattle.ir_model.specs.Forest.{of_block}
use Rattle.ir_model.specs.Nesting.{ops_of}
use Rattle.ir_core_records.specs.Meaning.{definer_of, block_record, value_of}
use Rattle.ir_core_queries.specs.State.{forest_of}
use Rattle.ir_run_sessions.specs.DefinitionEntries.{argument_count, argument_number}
use Rattle.ir_run_sessions.specs.SessionTables.{entries_of, with_value}
use Rattle.ir_run_sessions.proofs.DefinitionSteps.{value_by}
use Rattle.ir_run_sessions.proofs.definition_steps.enter_argument.Goals as goal

pub get_argument-requires : goal.get_argument-requires
get_argument-requires g c = omega (arith, argument_count (forest_of c.args.ctx.now) c.args.block.index (block_record (ops_of (forest_of c.args.ctx.now) c.args.block.index) c.deref.result.now) c.deref.ensures.found.found, c.requires.there)

pub returns-clause-number : goal.returns-clause-number
returns-clause-number g c = omega (arith, c.len-number.ensures, c.args.tables.now.values.ok, length-map c.args.tables.now.values.items (λ v. value_of v.index))

pub returns-clause-entered : goal.returns-clause-entered
returns-clause-entered g c =
    let v = value_of c.get_argument.result.index in
    record {
      value = v.number;
      found = argument_number (forest_of c.args.ctx.now) c.args.block.index (block_record (ops_of (forest_of c.args.ctx.now) c.args.block.index) c.deref.result.now) c.deref.ensures.found.found c.args.at v.number c.get_argument.ensures.number;
      holds = c.enter_value.ensures ∙ ap (λ d. with_value (entries_of c.args.tables.now) (value_by d v.number)) (ap definer_of c.get_argument.ensures.definer ∙ ap of_block c.deref.ensures.found.own);
    }
