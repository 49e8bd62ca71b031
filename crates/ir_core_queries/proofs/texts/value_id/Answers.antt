use Rattle.std.proofs.Common.{◌≡◌, refl, rules, string_bytes}
use Rattle.std.specs.Prelude.{codes}
use Rattle.ir_model.specs.Names.{value_id}
use Rattle.ir_core_queries.proofs.Numbered.{before-decimal}
use Rattle.ir_core_queries.proofs.texts.value_id.Goals as goal

pub from_valid-requires : goal.from_valid-requires
from_valid-requires c =
    let text : string_bytes c.in_ok-text.text ≡ value_id c.args.number = search rules in
    rw text (before-decimal (codes "v") c.args.number refl c.ranges.number.fits)
