use Rattle.std.proofs.Common.{◌≡◌, None, rules}
use Rattle.ir_view.proofs.neighbours.next_beside.Goals as goal

pub returns-in_err-get_next-in-Op : goal.returns-in_err-get_next-in-Op
returns-in_err-get_next-in-Op g c =
    let none : c.from_residual.result ≡ None = search rules in
    rw (none, c.in-Op.is) c.in_err-get_next-in-Op.ensures.next

pub returns-in_err-get_next-in-Block : goal.returns-in_err-get_next-in-Block
returns-in_err-get_next-in-Block g c =
    let none : c.from_residual-in_err-get_next-in-Block.result ≡ None = search rules in
    rw (none, c.in-Block.is) c.in_err-get_next-in-Block.ensures.next

pub returns-in_err-next_region-in-Region : goal.returns-in_err-next_region-in-Region
returns-in_err-next_region-in-Region g c =
    let none : c.from_residual-in_err-next_region-in-Region.result ≡ None = search rules in
    rw (none, c.in-Region.is) c.in_err-next_region-in-Region.ensures
