use Rattle.std.proofs.Common.{◌≡◌, ◌∷◌, List, ℕ, false, bytes_eq, ap, sym, subst, ◌∙◌}
use Rattle.generic_dialect.specs.Keys.{HasNoKey, key_name}
use Rattle.generic_dialect.proofs.KeyLemmas.{none_decoded, other_decoded, other_text}
use Rattle.generic_dialect.proofs.attribute_keys.marked_key.Goals as goal

pub returns-in_default-clause-key : goal.returns-in_default-clause-key
returns-in_default-clause-key c =
    let none = rw c.in_default.is at c.in_ok-key.ensures.bytes in
    subst HasNoKey (sym c.requires) (none_decoded c.args.digits.now none)

pub returns-else-branch-clause-key : goal.returns-else-branch-clause-key
returns-else-branch-clause-key c =
    let name = c.args.name.now in
    let found = c.in-Some.key.items in
    let bytes = rw c.in-Some.is at c.in_ok-key.ensures.bytes in
    let apart : bytes_eq (key_name found) name ≡ false = ap (λ (key : List ℕ). bytes_eq (key_name key) name) (sym c.as_slice.ensures.value) ∙ sym c.in_ok-is_name_of.ensures.same ∙ c.if-branch.false in
    let other = λ (e : key_name found ≡ 95 ∷ 95 ∷ c.args.digits.now). other_text (key_name found) name apart (e ∙ sym c.requires) in
    subst HasNoKey (sym c.requires) (other_decoded c.args.digits.now found bytes other)
