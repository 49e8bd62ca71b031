-- The order in which the parts of an operation stand.
use Rattle.std.proofs.Common.{◌≡◌, ℕ, ◌+◌, ◌<◌, ◌≤◌, Bool, true, false, length, refl, sym, ap, ◌∙◌, ⊎_elim, true≢false, arith}
use Rattle.std.proofs.lemmas.Bool.{cases_lt}
use Rattle.std.proofs.lemmas.List.{get_or_past}
use Rattle.ir_text_tree.specs.declared.row.Part.{Part}
use Rattle.ir_text_tree.specs.declared.row.Part.TheVariants as parts
use Rattle.ir_text_names.specs.Rows.{no_row}
use Rattle.ir_text_names.specs.Values.{defines}
use Rattle.ir_text_described.specs.Trees.{NamedTree, part_at}
use Rattle.ir_text_described.specs.Written.{is_result_type, begins_operation}

-- the place of a part that may stand first among what is left of an operation, from behind its name on; 9 behind the operation; 0 for what never stands first
abbrev pub rank : Part → ℕ
rank parts.Operand = 1
rank parts.Argument = 1
rank parts.Successor = 2
rank parts.Properties = 3
rank parts.Open = 4
rank parts.Key = 5
rank parts.OperandType = 6
rank parts.ResultType = 7
rank parts.OnlyResultType = 7
rank parts.Location = 8
rank parts.Result = 9
rank parts.Name = 9
rank parts.Label = 9
rank parts.Close = 9
rank _ = 0

abbrev pub rank_at : NamedTree → ℕ → ℕ
rank_at t n = rank (part_at t n)

pub type_rank : (p : Part) → is_result_type p ≡ true → rank p ≡ 7
type_rank parts.ResultType e = refl
type_rank parts.OnlyResultType e = refl
type_rank _ e = absurd (true≢false (sym e))

pub begins_rank : (p : Part) → begins_operation p ≡ true → rank p ≡ 9
begins_rank parts.Result e = refl
begins_rank parts.Name e = refl
begins_rank _ e = absurd (true≢false (sym e))

-- the part names what is defined: values, or a block
abbrev pub gives : Part → Bool
gives parts.Result = true
gives parts.Argument = true
gives parts.Label = true
gives _ = false

-- what ranks below 9, and is no argument, names nothing that is defined
pub low_gives : (p : Part) → rank p < 9 → (p ≡ parts.Argument → ⊥) → gives p ≡ false
low_gives parts.Result lt other = absurd (omega arith)
low_gives parts.Label lt other = absurd (omega arith)
low_gives parts.Argument lt other = absurd (other refl)
low_gives _ lt other = refl

pub gives_value : (p : Part) → defines p ≡ true → gives p ≡ true
gives_value parts.Result e = refl
gives_value parts.Argument e = refl
gives_value _ e = absurd (true≢false (sym e))

-- a value is named by a result or an argument
pub defining : (p : Part) → defines p ≡ true → (p ≡ parts.Result → ⊥) → p ≡ parts.Argument
defining parts.Result e other = absurd (other refl)
defining parts.Argument e other = refl
defining _ e other = absurd (true≢false (sym e))

-- past the last row results are read
pub past : (t : NamedTree) (n : ℕ) → length t.rows ≤ n → part_at t n ≡ parts.Result
past t n le = ap (λ r. r.part) (get_or_past t.rows n no_row le)

-- any other part is a row
pub is_row : (t : NamedTree) (n : ℕ) → (part_at t n ≡ parts.Result → ⊥) → n < length t.rows
is_row t n other = ⊎_elim (λ lt. lt) (λ le. absurd (other (past t n le))) (cases_lt n (length t.rows))

-- none of these rows names what is defined
abbrev pub GiveNothing : NamedTree → ℕ → ℕ → Type 0
GiveNothing t a b = (r : ℕ) → a ≤ r → r < b → gives (part_at t r) ≡ false

pub none_give : (t : NamedTree) (a b : ℕ) → a ≡ b → GiveNothing t a b
none_give t a b e r from to = absurd (omega arith)

pub one_gives : (t : NamedTree) (a b : ℕ) → b ≡ a + 1 → gives (part_at t a) ≡ false → GiveNothing t a b
one_gives t a b e other r from to = let same : r ≡ a = omega arith in ap (λ n. gives (part_at t n)) same ∙ other

pub more_give : (t : NamedTree) (a b c : ℕ) → GiveNothing t a b → GiveNothing t b c → GiveNothing t a c
more_give t a b c front back r from to = ⊎_elim (λ lt. front r from lt) (λ le. back r le to) (cases_lt r b)
