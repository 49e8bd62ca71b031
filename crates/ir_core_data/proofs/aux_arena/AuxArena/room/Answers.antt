use Rattle.std.proofs.Common.{◌∙◌}
use Rattle.ir_core_data.proofs.WrappedArenas.{seen-room, seen-whole}
use Rattle.ir_core_data.proofs.aux_arena.AuxArena.room.Goals as goal

pub returns-clause-value : goal.returns-clause-value
returns-clause-value g c = c.room.ensures.value ∙ seen-room c.self.inside.items c.args.self.now c.self.invariant c.self.view_is

pub returns-clause-whole : goal.returns-clause-whole
returns-clause-whole g c = seen-whole c.self.inside.items c.args.self.now c.self.invariant c.self.view_is c.room.ensures.whole
