use Rattle.std.proofs.Common.{◌++◌, refl}
use Rattle.std.specs.Prelude.{codes}
use Rattle.ir_core_queries.proofs.texts.unique_name.Goals as goal

pub from_valid-requires : goal.from_valid-requires
from_valid-requires c =
    let more = c.joins_are_identifiers.ensures (codes "_") c.args.id refl c.as_str-2.ensures.valid in
    let valid = c.joins_are_identifiers.ensures c.in-Some.name.now (codes "_" ++ c.args.id) c.as_str.ensures.valid more in
    rw (c.in_ok-text.ensures.ok, c.as_str.ensures.value, c.as_str-2.ensures.value) valid
