use Rattle.std.proofs.Common.{◌≡◌, ◌++◌, string_bytes, rules}
use Rattle.ir_base_identifiers.proofs.IdentifierLemmas.{is_identifier-join}
use Rattle.ir_base_identifiers.proofs.identifier.Identifier.join.Goals as goal

pub from_valid-requires : goal.from_valid-requires
from_valid-requires c =
    let joined : string_bytes c.push_str.new.self ≡ c.args.self.now ++ c.args.other.now = search rules in
    rw joined (is_identifier-join c.args.self.now c.args.other.now c.as_str.ensures.valid c.as_str-2.ensures.valid)
