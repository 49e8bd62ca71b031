use Rattle.std.proofs.Common.{◌≡◌, rules}
use Rattle.std.specs.Option.{option_copied_mut}
use Rattle.ir_base_arenas.specs.Arena.{get}
use Rattle.ir_core_data.proofs.AuxLemmas.{lent-live, writes}
use Rattle.ir_core_data.proofs.side_data.SideData.get_aux_mut.Goals as goal

pub returns : goal.returns
returns g c =
    let i = c.args.index.index in
    let value : option_copied_mut c.get_mut.result ≡ get c.args.self.now.aux i = search rules in (
      search rules,
      record { writes_back = tt; value = value; written = λ some v. writes c.args.self.now i (lent-live c.get_mut.result (get c.args.self.now.aux i) value some) v },
    )
