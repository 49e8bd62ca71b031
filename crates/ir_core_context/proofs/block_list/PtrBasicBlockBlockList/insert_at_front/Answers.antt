use Rattle.std.proofs.Common.{◌∷◌, sym}
use Rattle.ir_model.proofs.Entries.{here}
use Rattle.ir_core_context.proofs.Edited.{block-into-edited}
use Rattle.ir_core_context.proofs.block_list.PtrBasicBlockBlockList.insert_at_front.Goals as goal

pub invariant_of-ctx : goal.invariant_of-ctx
invariant_of-ctx g c =
    let e = c.insert_at_front.ensures in
    let live = rw (sym c.ctx.view_is) at c.requires.live in
    let may = rw (sym c.ctx.view_is) at c.requires.may_go in
    (block-into-edited c.ctx.invariant e.keeps e.nested c.args.self.index c.args.container.index (λ xs. c.args.self.index ∷ xs) (λ xs. here) live may e.forest).sound

pub returns-clause-forest : goal.returns-clause-forest
returns-clause-forest g c = rw (sym c.ctx.view_is) c.insert_at_front.ensures.forest

pub returns-clause-rest : goal.returns-clause-rest
returns-clause-rest g c =
    let e = c.insert_at_front.ensures in
    let live = rw (sym c.ctx.view_is) at c.requires.live in
    let may = rw (sym c.ctx.view_is) at c.requires.may_go in
    rw (sym c.ctx.view_is) (block-into-edited c.ctx.invariant e.keeps e.nested c.args.self.index c.args.container.index (λ xs. c.args.self.index ∷ xs) (λ xs. here) live may e.forest).rest

pub returns-clause-keeps : goal.returns-clause-keeps
returns-clause-keeps g c =
    let e = c.insert_at_front.ensures in
    let live = rw (sym c.ctx.view_is) at c.requires.live in
    let may = rw (sym c.ctx.view_is) at c.requires.may_go in
    rw (sym c.ctx.view_is) (block-into-edited c.ctx.invariant e.keeps e.nested c.args.self.index c.args.container.index (λ xs. c.args.self.index ∷ xs) (λ xs. here) live may e.forest).keeps
