use Rattle.std.proofs.Common.{sym, subst}
use Rattle.std.specs.Option.{option_map}
use Rattle.ir_model.specs.Nesting.{ops_of}
use Rattle.ir_model.specs.SweepLaws.{NoneIsClosed}
use Rattle.ir_core_queries.specs.State.{forest_of}
use Rattle.ir_run_passes.specs.Going.{NoneGoesUpTo, rank}
use Rattle.ir_run_passes.proofs.BlockWalks.{head_listed, none_from_head, none_from_tail, tail_listed}
use Rattle.ir_run_passes.proofs.dead.start_of.Goals as goal
use Rattle.ir_core_records.specs.DialectAnswers.{behaviour_of}

pub returns-then-to_end-clause-listed : goal.returns-then-to_end-clause-listed
returns-then-to_end-clause-listed g c =
    head_listed (behaviour_of g.D.Dialects g.D.TypeKey.PartialEq.eq) (forest_of c.args.ctx.now) c.args.block.index c.recall_well_formed.ensures.nested (λ p. p.index) c.get_head.result c.get_head.ensures.first

pub returns-then-to_end-clause-all : goal.returns-then-to_end-clause-all
returns-then-to_end-clause-all g c =
    let B = (behaviour_of g.D.Dialects g.D.TypeKey.PartialEq.eq) in
    let f = forest_of c.args.ctx.now in
    let b = c.args.block.index in
    subst (λ t. NoneGoesUpTo B f t b (rank t (option_map (λ p. p.index) c.get_head.result) (ops_of f b)) → NoneIsClosed B f b) (sym c.if-to_end.true)
    (none_from_head B f b c.recall_well_formed.ensures.nested (λ p. p.index) c.get_head.result c.get_head.ensures.first)

pub returns-else-to_end-clause-listed : goal.returns-else-to_end-clause-listed
returns-else-to_end-clause-listed g c =
    tail_listed (behaviour_of g.D.Dialects g.D.TypeKey.PartialEq.eq) (forest_of c.args.ctx.now) c.args.block.index c.recall_well_formed.ensures.nested (λ p. p.index) c.get_tail.result c.get_tail.ensures.last

pub returns-else-to_end-clause-all : goal.returns-else-to_end-clause-all
returns-else-to_end-clause-all g c =
    let B = (behaviour_of g.D.Dialects g.D.TypeKey.PartialEq.eq) in
    let f = forest_of c.args.ctx.now in
    let b = c.args.block.index in
    subst (λ t. NoneGoesUpTo B f t b (rank t (option_map (λ p. p.index) c.get_tail.result) (ops_of f b)) → NoneIsClosed B f b) (sym c.if-to_end.false)
    (none_from_tail B f b c.recall_well_formed.ensures.nested (λ p. p.index) c.get_tail.result c.get_tail.ensures.last)
