-- What the judge of the small dialect answers: each check has a code of its own, by its number and by what it is given.
use Rattle.std.specs.Prelude.{◌≡◌, ◌≢◌, ◌==◌, if◌then◌else◌, ℕ, ◌+◌, ◌*◌, List, [], ◌∷◌}
use Rattle.ir_model.specs.declared.ids.ArenaIndex.{ArenaIndex}
use Rattle.ir_model.specs.Verifiers.{Answers, Verifiers}
use Rattle.ir_core_records.specs.Meaning.{closed}
use Rattle.ir_verify.specs.Shown.{Shown}
use Rattle.testkit_lab.specs.declared.small_dialect.SmallAttr.{SmallAttr}
use Rattle.testkit_lab.specs.declared.small_dialect.SmallAttr.TheVariants.{Marked, Plain}
use Rattle.testkit_lab.specs.declared.small_dialect.SmallType.{SmallType}
use Rattle.testkit_lab.specs.declared.small_dialect.SmallType.TheVariants.{Bare, Listed, Pair, Sized}

-- the numbers that are listed for a kind of operations
abbrev pub op_list : ℕ → List ℕ
op_list kind = if kind == 5 then 2 ∷ [] else (if kind == 4 then 1 ∷ [] else [])

-- the numbers that are listed for a kind of attributes
abbrev pub attr_list : ℕ → List ℕ
attr_list kind = if kind == 0 then 1 ∷ 2 ∷ [] else []

-- the numbers that are listed for a kind of types
abbrev pub type_list : ℕ → List ℕ
type_list kind = if kind == 0 then 2 ∷ 1 ∷ [] else (if kind == 1 then 1 ∷ [] else [])

-- the number that an attribute is
abbrev pub number_in : SmallAttr → ℕ
number_in (Marked a) = a.number
number_in (Plain a) = a.number

-- the number that a type has: a pair has none
abbrev pub number_of : SmallType → ℕ
number_of (Sized t) = t.number
number_of (Listed t) = t.number
number_of (Pair t) = 0
number_of (Bare n) = n

-- a check with this code answers it where it is asked for, and that memory ran out where it is spent and not asked for
abbrev pub answers : {X S : Type 0} → ℕ → ℕ → (X → ℕ) → Answers X S
answers asked spent code_of = record {
  Code = λ x state code. (code ≡ asked) × (code_of x ≡ asked);
  Memory = λ x state. (code_of x ≡ spent) × (code_of x ≢ asked);
}

-- a check of the code itself
abbrev pub itself : ℕ → ℕ → Answers ℕ (Unit {0})
itself asked spent = answers asked spent (λ code. code)

-- checks of operations begin at 0, those of attributes at 100 and those of types at 200; number n has n in its tens, and what is checked is added
module _ {B S X L : Type 0} where
  abbrev pub judging : ℕ → ℕ → Verifiers (closed SmallAttr SmallType B S X L) (Shown (closed SmallAttr SmallType B S X L))
  judging asked spent = record {
    op_verifiers = op_list;
    attr_verifiers = attr_list;
    type_verifiers = type_list;
    op_interface = λ n. answers asked spent (λ (o : ArenaIndex). n * 10 + o.slot);
    attr_interface = λ n. answers asked spent (λ a. 100 + n * 10 + number_in a);
    type_interface = λ n. answers asked spent (λ key. 200 + n * 10 + number_of key);
    op_itself = answers asked spent (λ (o : ArenaIndex). o.slot);
    attr_itself = answers asked spent (λ a. 100 + number_in a);
    type_itself = answers asked spent (λ key. 200 + number_of key);
  }
