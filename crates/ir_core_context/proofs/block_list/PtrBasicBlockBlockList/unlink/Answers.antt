use Rattle.std.proofs.Common.{sym}
use Rattle.ir_core_context.proofs.Edited.{block-out-edited}
use Rattle.ir_core_context.proofs.GoingBack.{block-unlinked-goes-back, block-unlinked-may-go-back}
use Rattle.ir_core_context.proofs.block_list.PtrBasicBlockBlockList.unlink.Goals as goal
use Rattle.ir_core_records.specs.DialectAnswers.{behaviour_of}

pub invariant_of-ctx : goal.invariant_of-ctx
invariant_of-ctx g c =
    let e = c.unlink.ensures in
    (block-out-edited c.ctx.invariant e.keeps e.nested c.args.self.index e.forest).sound

pub returns-clause-forest : goal.returns-clause-forest
returns-clause-forest g c = rw (sym c.ctx.view_is) c.unlink.ensures.forest

pub returns-clause-rest : goal.returns-clause-rest
returns-clause-rest g c =
    let e = c.unlink.ensures in
    rw (sym c.ctx.view_is) (block-out-edited c.ctx.invariant e.keeps e.nested c.args.self.index e.forest).rest

pub returns-clause-keeps : goal.returns-clause-keeps
returns-clause-keeps g c =
    let e = c.unlink.ensures in
    rw (sym c.ctx.view_is) (block-out-edited c.ctx.invariant e.keeps e.nested c.args.self.index e.forest).keeps

pub returns-clause-may_go_back : goal.returns-clause-may_go_back
returns-clause-may_go_back g c =
    let linked = rw (sym c.ctx.view_is) at c.requires.linked in
    rw (sym c.ctx.view_is) (block-unlinked-may-go-back (behaviour_of g.D.Dialects g.D.TypeKey.PartialEq.eq) c.ctx.invariant c.unlink.new.records c.args.self.index linked c.unlink.ensures.forest)

pub returns-clause-goes_back : goal.returns-clause-goes_back
returns-clause-goes_back g c = rw (sym c.ctx.view_is) (block-unlinked-goes-back (behaviour_of g.D.Dialects g.D.TypeKey.PartialEq.eq) c.ctx.invariant c.unlink.new.records c.args.self.index c.unlink.ensures.forest)
