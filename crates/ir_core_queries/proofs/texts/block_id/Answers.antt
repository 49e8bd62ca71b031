use Rattle.std.proofs.Common.{◌∙◌, ◌++◌, ◌<◌, ◌^◌, refl, append_assoc, subst, arith}
use Rattle.std.specs.Prelude.{codes, decimal}
use Rattle.ir_model.specs.Identifier.{IsIdentifier}
use Rattle.ir_core_queries.proofs.Numbered.{before-decimal}
use Rattle.ir_core_queries.proofs.texts.block_id.Goals as goal

pub from_valid-requires : goal.from_valid-requires
from_valid-requires c =
    let slot = decimal c.args.index.slot in
    let version = decimal c.args.index.version in
    let small : c.args.index.slot < 2 ^ 64 = omega (arith, c.well_formed) in
    let small_too : c.args.index.version < 2 ^ 64 = omega (arith, c.well_formed) in
    let here = before-decimal (codes "block") c.args.index.slot refl small in
    let whole = before-decimal ((codes "block" ++ slot) ++ codes "v") c.args.index.version (c.joins_are_identifiers.ensures (codes "block" ++ slot) (codes "v") here refl) small_too in
    let order = append_assoc (codes "block" ++ slot) (codes "v") version ∙ append_assoc (codes "block") slot (codes "v" ++ version) in
    rw c.in_ok-text.ensures.ok (subst IsIdentifier order whole)
