use Rattle.std.proofs.Common.{List, subst, sym}
use Rattle.ir_core_queries.specs.State.{forest_of}
use Rattle.ir_model.specs.declared.ids.ArenaIndex.{ArenaIndex}
use Rattle.generic_text.specs.Enclosing.{Encloses, alone}
use Rattle.generic_text.specs.GenericWords.{generic_words}
use Rattle.ir_opt_run.proofs.reading.root_of.Goals as goal

pub returns-in-Some-clause-encloses : goal.returns-in-Some-clause-encloses
returns-in-Some-clause-encloses c = subst (λ (xs : List ArenaIndex). Encloses (forest_of c.args.ctx.now) (generic_words c.args.ctx.now) c.in-Some.root.index xs) (sym c.in-Some.ensures.only) alone
