use Rattle.std.proofs.Common.{None, Some, ◌∙◌}
use Rattle.ir_core_data.proofs.WrappedArenas.{seen-get}
use Rattle.ir_core_data.proofs.aux_arena.AuxArena.get.Goals as goal

pub returns-in_err-get : goal.returns-in_err-get
returns-in_err-get g c =
    rw (c.from_residual.ensures, ← c.from_index.ensures) (seen-get c.self.inside.items c.args.self.now c.self.invariant c.self.view_is c.from_index.result.index None c.in_err-get.ensures)

pub returns : goal.returns
returns g c =
    rw (← c.from_index.ensures) (c.as_ref.ensures.value ∙ seen-get c.self.inside.items c.args.self.now c.self.invariant c.self.view_is c.from_index.result.index (Some c.in_ok-get.field-0.now) c.in_ok-get.ensures)
