use Rattle.std.proofs.Common.{length}
use Rattle.ir_core_queries.specs.State.{forest_of, types_of}
use Rattle.generic_text.specs.GenericWords.{generic_words}
use Rattle.ir_opt_run.specs.GenericBehaviour.{AreGenericWords, generic_behaviour, generic_same}
use Rattle.ir_opt_run.proofs.RunMade.{run_made, words_are_generic, words_stay}
use Rattle.ir_opt_run.proofs.optimising.work.Goals as goal

pub returns-clause-worked : goal.returns-clause-worked
returns-clause-worked g c = λ out said.
    let before = c.read_module.new.ctx in
    let after = c.run_all.new.ctx in
    run_made generic_behaviour generic_same AreGenericWords c.args.options.now.passes.items c.args.options.now.prints_locations c.args.text.now (forest_of before) (forest_of after) (generic_words before) (generic_words after) (length (types_of before))
    c.in_ok-module.module.root.index out c.in_ok-module.ensures.said (words_are_generic before c.recall_saved_apart.ensures c.recall_types_exact.ensures, c.in_ok-module.ensures.closed, c.recall_well_formed.ensures) c.in_ok-run_all.ensures.lead (words_stay before after c.in_ok-run_all.ensures.rest) said
