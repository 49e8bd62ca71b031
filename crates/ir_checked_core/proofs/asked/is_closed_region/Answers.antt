use Rattle.std.proofs.Common.{◌∙◌, ap, slice_get}
use Rattle.ir_model.specs.Nesting.{list_of}
use Rattle.ir_checked_core.proofs.Unnamed.{said_there}
use Rattle.ir_checked_core.proofs.asked.is_closed_region.Goals as goal

pub returns : goal.returns
returns g c =
    said_there c.get_region-region.result.index (ap (λ o. slice_get (list_of (λ r. r.regions) o) c.args.index) c.deref.ensures.found.found ∙ c.get_region-region.ensures)
    c.can_erase.result c.can_erase.ensures
