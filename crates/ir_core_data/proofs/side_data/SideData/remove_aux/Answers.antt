use Rattle.std.proofs.Common.{◌≡◌, rules}
use Rattle.std.specs.Prelude.{OnSome}
use Rattle.ir_base_arenas.specs.Arena.{cut, get}
use Rattle.ir_core_data.proofs.AuxLemmas.{takes}
use Rattle.ir_core_data.proofs.side_data.SideData.remove_aux.Goals as goal

pub returns-clause-removed : goal.returns-clause-removed
returns-clause-removed g c =
    let i = c.args.index.index in
    let found : c.remove.result ≡ get c.args.self.now.aux i = search rules in
    let some : OnSome c.remove.result (c.remove.new.self ≡ cut c.args.self.now.aux i) = search rules in
    takes c.args.self.now i c.remove.result c.remove.new.self found some c.remove.ensures.absent
