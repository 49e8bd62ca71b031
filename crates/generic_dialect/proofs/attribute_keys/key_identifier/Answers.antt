use Rattle.std.proofs.Common.{◌≡◌, ◌∷◌, true, string_bytes, sym, true≢false, rules, arith}
use Rattle.hex.specs.Hex.{encode_lower}
use Rattle.generic_dialect.specs.Keys.{is_plain}
use Rattle.generic_dialect.proofs.KeyLemmas.{plain_identifier, marked_identifier}
use Rattle.generic_dialect.proofs.attribute_keys.key_identifier.Goals as goal
use Rattle.generic_dialect.proofs.attribute_keys.key_identifier.Goals.{in-Some+in_ok-text-in-Some, in-None+in_ok-text-in-None}

pub unreachable-requires : goal.unreachable-requires
unreachable-requires c = elim c.match-plain.branch [
  | in-Some+in_ok-text-in-Some w ↦
      let same : string_bytes c.match-plain.text ≡ c.args.key.now = search rules in
      let plain : true ≡ is_plain c.args.key.now = w.in-Some.ensures.plain in
      true≢false (sym (c.in-Err.ensures.valid.1 (rw same (plain_identifier c.args.key.now (sym plain)))))
  | in-None+in_ok-text-in-None w ↦
      let same : string_bytes c.match-plain.text ≡ 95 ∷ 95 ∷ encode_lower c.args.key.now = search rules in
      true≢false (sym (c.in-Err.ensures.valid.1 (rw same (marked_identifier c.args.key.now (λ i. omega (arith, c.type_inv.key i))))))
]
