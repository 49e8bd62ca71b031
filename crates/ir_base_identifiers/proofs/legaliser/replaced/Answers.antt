use Rattle.std.proofs.Common.{◌≡◌, ◌≢◌, ◌++◌, ◌∷◌, [], ◌==◌, Bool, true, false, String, string_bytes, rules, arith, length, sym, ◌∙◌}
use Rattle.std.proofs.lemmas.Grind.{common_steps}
use Rattle.std.specs.String.{string_len}
use Rattle.std.proofs.lemmas.Iterator.{YieldsList-from_chars}
use Rattle.std.proofs.lemmas.Iterator.Consumers.{YieldsList-end}
use Rattle.std.specs.Str.{chars}
use Rattle.ir_base_identifiers.proofs.LegaliserLemmas.{map-same, replaced-none, replaced-some}
use Rattle.ir_base_identifiers.proofs.legaliser.replaced.Goals as goal
use Rattle.ir_base_identifiers.proofs.legaliser.replaced.Goals.{then-is_empty+in_ok-push-2, else-is_empty}

-- a text that is told to be empty has no byte
empty_text : {Y : Type 0} (text : String Y) (b : Bool) → b ≡ (string_len text == 0) → b ≡ true → length (string_bytes text) ≡ 0
empty_text text b e is = let counted : text.bytes.len ≡ length text.bytes.items = text.bytes.ok.0 in grind (arith, common_steps)

-- and one that is told not to be has some
filled_text : {Y : Type 0} (text : String Y) (b : Bool) → b ≡ (string_len text == 0) → b ≡ false → length (string_bytes text) ≢ 0
filled_text text b e is = let counted : text.bytes.len ≡ length text.bytes.items = text.bytes.ok.0 in grind (arith, common_steps)

pub returns-clause-text : goal.returns-clause-text
returns-clause-text c =
    let ended = YieldsList-end (YieldsList-from_chars c.args.source.now c.utf8.source cc) c.loop-character.yielded _ c.loop-character.yielded_by _ _ c.in-None.is c.next.ensures.steps in
    let all : c.loop-character.yielded ≡ chars c.args.source.now = sym (map-same c.loop-character.yielded) ∙ ended.0 in
    elim c.if-is_empty.branch [
      | then-is_empty+in_ok-push-2 w ↦
          let pushed : string_bytes c.if-is_empty.text ≡ string_bytes c.loop-character.text ++ 95 ∷ [] = search rules in
          let none : length (string_bytes c.loop-character.text) ≡ 0 = empty_text c.loop-character.text c.is_empty-2.result c.is_empty-2.ensures w.if-is_empty.true in
          rw (pushed, ← all) (replaced-none c.loop-character.yielded _ c.loop-character.invariant none)
      | else-is_empty w ↦
          let same : string_bytes c.if-is_empty.text ≡ string_bytes c.loop-character.text = search rules in
          let some : length (string_bytes c.loop-character.text) ≢ 0 = filled_text c.loop-character.text c.is_empty-2.result c.is_empty-2.ensures w.if-is_empty.false in
          rw (same, ← all) (replaced-some c.loop-character.yielded _ c.loop-character.invariant some)
    ]
