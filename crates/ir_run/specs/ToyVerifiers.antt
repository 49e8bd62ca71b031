-- What the checks of the dialect Toy find.
use Rattle.std.specs.Prelude.{◌≡◌, ◌≢◌, ℕ, length}
use Rattle.ir_model.specs.declared.ids.ArenaIndex.{ArenaIndex}
use Rattle.ir_model.specs.Edits.{The}
use Rattle.ir_model.specs.Verifiers.{Verifiers}
use Rattle.ir_core_records.specs.Meaning.{closed}
use Rattle.toy_dialect.specs.declared.toy.ToyType.{ToyType}
use Rattle.toy_dialect.specs.declared.toy.ToyType.TheVariants.{Int, Named}
use Rattle.ir_verify.specs.Own.{Own, own_alone, silent}
use Rattle.ir_verify.specs.Shown.{Shown}

-- integers have a width, or code 1 stands
abbrev pub TypeCode : ToyType → ℕ → Type 0
TypeCode (Int width) code = (width ≡ 0) × (code ≡ 1)
TypeCode (Named name) code = ⊥

-- of the closed types of Toy only the keys of types matter
module _ {A B S X L : Type 0} where
  -- an addition has two operands, or code 2 stands
  abbrev pub OpCode : ArenaIndex → Shown (closed A ToyType B S X L) → ℕ → Type 0
  OpCode op state code = The (state.forest.ops op) λ r. (r.kind ≡ 1) × (length r.operands ≢ 2) × (code ≡ 2)

  -- what each check finds
  abbrev pub toy_checks : Own (closed A ToyType B S X L) (Shown (closed A ToyType B S X L))
  toy_checks = record {
    op = record { Code = OpCode; Memory = λ op state. ⊥ };
    attr = silent;
    key = record { Code = λ key state code. TypeCode key code; Memory = λ key state. ⊥ };
  }

  -- no check is listed for any kind; of the own ones types and operations have one
  abbrev pub toy_verifiers : Verifiers (closed A ToyType B S X L) (Shown (closed A ToyType B S X L))
  toy_verifiers = own_alone toy_checks
