use Rattle.std.proofs.Common.{◌≡◌, Some, string_bytes, rules}
use Rattle.std.proofs.lemmas.Map.Text.{hash_map_updates_text}
use Rattle.ir_base_identifiers.proofs.legaliser.put_pair.Goals as goal

pub returns-clause-names : goal.returns-clause-names
returns-clause-names c =
    λ q.
    let key : string_bytes c.in_ok-source_key.source_key ≡ c.args.source.now = search rules in
    let value : c.in_ok-name_kept.name_kept ≡ c.args.name.now = search rules in
    rw (← key, ← value) (hash_map_updates_text (string_bytes c.in_ok-source_key.source_key) c.args.names.now c.insert.new.self (Some c.in_ok-name_kept.name_kept) c.in_ok-insert.ensures.updates q)
