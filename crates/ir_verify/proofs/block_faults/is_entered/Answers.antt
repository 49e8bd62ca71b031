use Rattle.std.proofs.Common.{◌∙◌, sym}
use Rattle.std.proofs.lemmas.Bool.{false≢true}
use Rattle.ir_view_parts.specs.State.{forest_of}
use Rattle.ir_verify.proofs.Blocks.{named-used, used-named}
use Rattle.ir_verify.proofs.block_faults.is_entered.Goals as goal

pub returns-then-is_entry : goal.returns-then-is_entry
returns-then-is_entry g c =
    let f = forest_of c.args.ctx.now in
    let b = c.args.block.index in (
      λ e. (c.is_entry.ensures.0 c.if-is_entry.true, (let u = c.has_pred.ensures.0 e in (u.0.user, used-named f b u.0 u.1))),
      λ h. c.has_pred.ensures.1 (let u = named-used f b h.1.0 h.1.1 in (u.0, u.1)),
    )

pub returns-else-is_entry : goal.returns-else-is_entry
returns-else-is_entry g c = (λ e. absurd cc, λ h. absurd (false≢true (sym c.if-is_entry.false ∙ c.is_entry.ensures.1 h.0)))
