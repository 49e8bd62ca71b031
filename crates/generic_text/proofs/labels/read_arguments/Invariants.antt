use Rattle.ir_core_queries.specs.State.{forest_of}
use Rattle.ir_model.specs.Forest.{of_block}
use Rattle.ir_model.specs.Nesting.{definition_types_of}
use Rattle.ir_text_described.specs.Written.{IsArgument, Leads}
use Rattle.generic_text.proofs.Lists.{Gone}
use Rattle.generic_text.specs.Checks.{setting_of}
use Rattle.generic_text.proofs.labels.read_arguments.Given as goal

abbrev pub invariant-loop-ty : goal.invariant-loop-ty
invariant-loop-ty l = Gone (definition_types_of (forest_of l.check.ctx.now) (of_block l.block.index)) l.ty-iterator l.index × Leads (IsArgument (setting_of l.check) l.block.index) l.from l.index l.at
