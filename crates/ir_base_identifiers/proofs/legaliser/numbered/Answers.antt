use Rattle.std.proofs.Common.{◌≡◌, string_bytes, rules}
use Rattle.ir_model.specs.Legaliser.{numbered_text}
use Rattle.ir_base_identifiers.proofs.LegaliserLemmas.{numbered-IsIdentifier}
use Rattle.ir_base_identifiers.proofs.legaliser.numbered.Goals as goal

pub from_valid-requires : goal.from_valid-requires
from_valid-requires c =
    let text : string_bytes c.in_ok-text.text ≡ numbered_text c.args.base.now c.args.number = search rules in
    rw text (numbered-IsIdentifier c.args.base.now c.args.number c.as_str.ensures.valid c.ranges.number.fits)
