-- The faults of keys.
use Rattle.std.proofs.Common.{◌≡◌, ℕ, ◌+◌, ◌-◌, ◌<◌, ◌≤◌, true, nat_eq, List, length, get_or, Option, refl, sym, ap, subst, ◌∙◌, lt-ltb, eq-eqb, arith}
use Rattle.std.proofs.lemmas.Bool.{and_from}
use Rattle.ir_text_tree.specs.declared.row.Part.TheVariants as parts
use Rattle.ir_text_tree.specs.declared.row.Row.{Row}
use Rattle.ir_text_names.specs.declared.fault.Wrong.{Wrong}
use Rattle.ir_text_names.specs.declared.fault.Wrong.TheVariants as wrongs
use Rattle.ir_text_names.specs.Firsts.{IsFirst, IsFirstWrong, told}
use Rattle.ir_text_names.specs.Keys.{IsKeyAgain, IsKeyWrong}
use Rattle.ir_text_names.proofs.FirstRows.{told_first, first_as, first_wrong_as}
use Rattle.ir_text_names.specs.declared.counting.Counted.TheVariants as counted
use Rattle.ir_text_names.specs.declared.given.NameKind.TheVariants as kinds
use Rattle.ir_text_names.specs.Counts.{tally, is_counted, belongs, how_many}
use Rattle.ir_text_names.specs.Given.{is_asked, IsAgain, AreAsked}
use Rattle.ir_text_names.specs.Operations.{number_of, IsOperation}
use Rattle.ir_text_names.specs.Rows.{part_of}
use Rattle.ir_text_names.specs.Types.{operation_of, place_of}
use Rattle.ir_text_names.proofs.Numbering.{number_once, operation_is}
use Rattle.ir_text_names.proofs.PlacedRows.{place_less}
use Rattle.ir_text_names.proofs.Scopes.{operation_at_most}
use Rattle.ir_text_names.proofs.Tallies.{tally_is, tally_grows}

wrong_to : (text : List ℕ) (rows : List Row) (v : Wrong) (i : ℕ) → (v ≡ wrongs.KeyTwice) × IsKeyAgain text rows i → IsKeyWrong text rows v i
wrong_to text rows v i h = subst (λ (w : Wrong). IsKeyWrong text rows w i) (sym h.0) h.1

wrong_from : (text : List ℕ) (rows : List Row) (v : Wrong) (i : ℕ) → IsKeyWrong text rows v i → (v ≡ wrongs.KeyTwice) × IsKeyAgain text rows i
wrong_from text rows wrongs.KeyTwice i h = (refl, h)
wrong_from text rows _ i h = absurd h

pub key_wrong : (text : List ℕ) (rows : List Row) (o : Option ℕ) → IsFirst (IsKeyAgain text rows) (length rows) o → IsFirstWrong (IsKeyWrong text rows) (length rows) (told o wrongs.KeyTwice)
key_wrong text rows o h =
    first_wrong_as (λ v i. (v ≡ wrongs.KeyTwice) × IsKeyAgain text rows i) (IsKeyWrong text rows) (length rows) (told o wrongs.KeyTwice) (wrong_to text rows) (wrong_from text rows) (told_first (IsKeyAgain text rows) wrongs.KeyTwice (length rows) o h)

-- ---- keys by the number of their operation

-- where two keys stand in one operation, it has more than one
several : (rows : List Row) (i j : ℕ) → i < j → j < length rows → part_of rows i ≡ parts.Key → part_of rows j ≡ parts.Key → operation_of rows i ≡ operation_of rows j → 1 < how_many counted.Keys rows (operation_of rows j)
several rows i j lt within one other same =
    let test = belongs counted.Keys rows (operation_of rows j) in
    let up : (i + 1) + (j - (i + 1)) ≡ j = omega (arith, lt) in
    let less = place_less counted.Keys rows i (j - (i + 1)) (ap (is_counted counted.Keys) one) (same ∙ ap (operation_of rows) (sym up)) in
    let there : place_of counted.Keys rows ((i + 1) + (j - (i + 1))) ≡ tally test j = ap (place_of counted.Keys rows) up in
    let here : test j ≡ true = and_from (is_counted counted.Keys (part_of rows j)) (nat_eq (operation_of rows j) (operation_of rows j)) (ap (is_counted counted.Keys) other) (eq-eqb (operation_of rows j) (operation_of rows j) refl) in
    let step = tally_is test j here in
    let grows = tally_grows test (j + 1) (length rows - (j + 1)) in
    let end : (j + 1) + (length rows - (j + 1)) ≡ length rows = omega (arith, within) in
    let all : tally test ((j + 1) + (length rows - (j + 1))) ≡ tally test (length rows) = ap (tally test) end in
    omega (arith, less, there, step, grows, all)

pub keys_asked : (rows : List Row) (numbers scopes counts : List ℕ) → scopes ≡ numbers → ((i : ℕ) → i < length rows → get_or numbers i 0 ≡ number_of rows (operation_of rows i))
    → ((o : ℕ) → IsOperation rows o → o ≤ length rows → get_or counts (number_of rows o) 0 ≡ how_many counted.Keys rows o) → AreAsked parts.Key rows scopes (is_asked kinds.Key counts)
keys_asked rows numbers scopes counts same numbered counted_keys i j lt within one other e =
    let before : i < length rows = omega (arith, lt, within) in
    let at : (k : ℕ) → k < length rows → get_or scopes k 0 ≡ number_of rows (operation_of rows k) = λ k l. ap (λ (xs : List ℕ). get_or xs k 0) same ∙ numbered k l in
    let op = number_once rows (operation_of rows i) (operation_of rows j) (operation_is rows i before) (operation_is rows j within) (sym (at i before) ∙ e ∙ at j within) in
    let most = operation_at_most rows j in
    let some = several rows i j lt within one other op in
    let how : get_or counts (get_or scopes j 0) 0 ≡ how_many counted.Keys rows (operation_of rows j) =
    ap (λ (k : ℕ). get_or counts k 0) (at j within) ∙ counted_keys (operation_of rows j) (operation_is rows j within) (omega (arith, most, within)) in
    lt-ltb 1 (get_or counts (get_or scopes j 0) 0) (omega (arith, some, how))

-- keys that are the same by the number of their operation
pub key_again : (text : List ℕ) (rows : List Row) (numbers scopes : List ℕ) (o : Option ℕ) → scopes ≡ numbers → ((i : ℕ) → i < length rows → get_or numbers i 0 ≡ number_of rows (operation_of rows i)) → IsFirst (IsAgain parts.Key text rows scopes) (length rows) o
    → IsFirst (IsKeyAgain text rows) (length rows) o
key_again text rows numbers scopes o same numbered h =
    let at : (k : ℕ) → k < length rows → get_or scopes k 0 ≡ number_of rows (operation_of rows k) = λ k l. ap (λ (xs : List ℕ). get_or xs k 0) same ∙ numbered k l in
    first_as (IsAgain parts.Key text rows scopes) (IsKeyAgain text rows) (length rows) o
    (λ i lt a.
    let j = a.1.0 in
    let g = a.1.2 in
    let before : j < length rows = omega (arith, a.1.1, lt) in
    (a.0, (j, a.1.1, (g.0, number_once rows (operation_of rows j) (operation_of rows i) (operation_is rows j before) (operation_is rows i lt) (sym (at j before) ∙ g.1 ∙ at i lt), g.2))))
    (λ i lt a.
    let j = a.1.0 in
    let g = a.1.2 in
    let before : j < length rows = omega (arith, a.1.1, lt) in
    (a.0, (j, a.1.1, (g.0, at j before ∙ ap (number_of rows) g.1 ∙ sym (at i lt), g.2)))) h
