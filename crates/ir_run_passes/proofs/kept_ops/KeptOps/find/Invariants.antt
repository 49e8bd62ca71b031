use Rattle.ir_base_dialects.specs.Attributes.{dict_input, same_pairs}
use Rattle.ir_model_passes.specs.Merging.{Alike}
use Rattle.ir_core_queries.specs.State.{forest_of}
use Rattle.ir_core_records.specs.DialectAnswers.{behaviour_of}
use Rattle.ir_run_passes.specs.AlikeHash.{hash_in}
use Rattle.ir_run_passes.proofs.Chains.{Looking, chain_left}
use Rattle.ir_run_passes.proofs.kept_ops.KeptOps.find.Given as goal

-- none of those that the chain has passed is alike
abbrev pub invariant-loop-place : goal.invariant-loop-place
invariant-loop-place g l =
    Looking (hash_in (dict_input g.D.Attr.Hash.hash_input) (forest_of l.ctx)) l.self l.fn.hash
    (λ k. Alike (behaviour_of g.D.Dialects g.D.TypeKey.PartialEq.eq) (same_pairs g.D.Attr.PartialEq.eq) (forest_of l.ctx) k l.op.index) l.place

abbrev pub decreases-loop-place : goal.decreases-loop-place
decreases-loop-place g l = chain_left l.place
