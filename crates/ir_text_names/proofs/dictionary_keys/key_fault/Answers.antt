use Rattle.std.proofs.Common.{ℕ, List, length, get_or, sym, ap, subst, ◌∙◌}
use Rattle.ir_text_names.specs.Firsts.{IsFirst, IsFirstWrong}
use Rattle.ir_text_names.specs.Keys.{IsKeyAgain, IsKeyWrong}
use Rattle.ir_text_names.specs.Operations.{number_of}
use Rattle.ir_text_names.proofs.KeyFaults.{key_wrong, keys_asked, key_again}
use Rattle.ir_text_names.proofs.dictionary_keys.key_fault.Goals as goal

pub given-requires-clause-counted : goal.given-requires-clause-counted
given-requires-clause-counted c = ap length c.as_slice-numbers.ensures.value ∙ c.requires.operations.long

pub given-requires-clause-asked : goal.given-requires-clause-asked
given-requires-clause-asked c =
    let rows = c.args.rows.now in
    keys_asked rows c.args.operations.now.numbers.items c.as_slice-numbers.result.now c.deref-2.result.now c.as_slice-numbers.ensures.value c.requires.operations.numbers
    (λ o is le. ap (λ (xs : List ℕ). get_or xs (number_of rows o) 0) c.deref-2.ensures.value ∙ c.requires.counts.counted o is le)

pub returns : goal.returns
returns c =
    let text = c.args.text.now in
    let rows = c.args.rows.now in
    let first : IsFirst (IsKeyAgain text rows) (length rows) c.in_ok-given.given.again =
    key_again text rows c.args.operations.now.numbers.items c.as_slice-numbers.result.now c.in_ok-given.given.again c.as_slice-numbers.ensures.value c.requires.operations.numbers c.in_ok-given.ensures.again in
    subst (IsFirstWrong (IsKeyWrong text rows) (length rows)) (sym c.told-found.ensures) (key_wrong text rows c.in_ok-given.given.again first)
