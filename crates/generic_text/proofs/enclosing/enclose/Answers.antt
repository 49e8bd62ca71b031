use Rattle.ir_core_queries.specs.State.{bare, forest_of, types_of}
use Rattle.generic_text.proofs.Apart.{apart-none}
use Rattle.generic_text.proofs.NewModules.{filled_encloses}
use Rattle.generic_text.proofs.enclosing.enclose.Goals as goal

pub returns-in_err-root-clause-left : goal.returns-in_err-root-clause-left
returns-in_err-root-clause-left c = let f = forest_of c.args.ctx.now in (c.in_err-root.ensures.apart f (apart-none f c.recall_well_formed.ensures.nested)).left

pub returns-in_err-put_in-clause-left : goal.returns-in_err-put_in-clause-left
returns-in_err-put_in-clause-left c = let f = forest_of c.args.ctx.now in c.put_in.ensures.left f (c.in_ok-root.ensures.apart f (apart-none f c.recall_well_formed.ensures.nested)) c.in_ok-root.ensures.new

pub returns-clause-left : goal.returns-clause-left
returns-clause-left c = let f = forest_of c.args.ctx.now in c.put_in.ensures.left f (c.in_ok-root.ensures.apart f (apart-none f c.recall_well_formed.ensures.nested)) c.in_ok-root.ensures.new

pub returns-clause-encloses : goal.returns-clause-encloses
returns-clause-encloses c = let around = c.in_ok-put_in.ensures.around in filled_encloses (forest_of c.put_in.new.ctx) (bare c.put_in.new.ctx).beside.saved (types_of c.put_in.new.ctx) c.in_ok-root.root.index around.0 _ around.1
