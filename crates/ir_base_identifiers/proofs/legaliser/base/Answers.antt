use Rattle.std.proofs.Common.{◌≡◌, string_bytes, rules}
use Rattle.std.specs.Str.{chars}
use Rattle.ir_model.specs.Legaliser.{replaced}
use Rattle.ir_base_identifiers.proofs.LegaliserLemmas.{replaced-IsIdentifier}
use Rattle.ir_base_identifiers.proofs.legaliser.base.Goals as goal
use Rattle.ir_base_identifiers.proofs.legaliser.base.Goals.{then-is_valid+in_ok-text, else-is_valid+in_ok-text-2}

pub from_valid-requires : goal.from_valid-requires
from_valid-requires c = elim c.if-is_valid.branch [
  | then-is_valid+in_ok-text w ↦ search rules
  | else-is_valid+in_ok-text-2 w ↦
      let text : string_bytes c.if-is_valid.text ≡ replaced (chars c.args.source.now) = search rules in
      rw text (replaced-IsIdentifier (chars c.args.source.now))
]
