-- What the index of a value means, by what defines it.
use mathlib.Core.Path.{◌≡◌, ap}
use Rattle.ir_model.specs.declared.ids.ArenaIndex.{ArenaIndex}
use Rattle.ir_model.specs.ContextIds.{context_ids}
use Rattle.ir_model.specs.Forest.{Definer as DefinedBy, of_op, of_block, Value}
use Rattle.ir_core_records.specs.declared.record.ValueIndex.{ValueIndex}
use Rattle.ir_core_records.specs.declared.record.Definer.TheVariants.{Op, Block}
use Rattle.ir_core_records.specs.Meaning.{definer_of, value_of}

-- a value of which this is the definer
abbrev pub defined_by : DefinedBy context_ids → ValueIndex → Value context_ids
defined_by d v = record { definer = d; number = v.number }

pub result_means : (v : ValueIndex) (o : ArenaIndex) → v.definer ≡ Op o → value_of v ≡ defined_by (of_op o) v
result_means v o e = ap (λ d. defined_by (definer_of d) v) e

pub argument_means : (v : ValueIndex) (b : ArenaIndex) → v.definer ≡ Block b → value_of v ≡ defined_by (of_block b) v
argument_means v b e = ap (λ d. defined_by (definer_of d) v) e
