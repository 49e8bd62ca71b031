-- What the checks of the dialect Calc find.
use Rattle.std.specs.Prelude.{◌≡◌, ◌≢◌, ℕ, length}
use Rattle.ir_base.specs.Model.declared.ids.ArenaIndex.{ArenaIndex}
use Rattle.ir_base.specs.Model.Edits.{The}
use Rattle.ir_core.specs.Records.Meaning.{closed}
use Rattle.ir_verify.specs.Own.{Own, silent}
use Rattle.ir_verify.specs.Shown.{Shown}
use Rattle.example.specs.declared.calc.CalcType.{CalcType}
use Rattle.example.specs.declared.calc.CalcType.TheVariants.{Number}

-- a type of numbers has bits, or code 1 stands
abbrev pub TypeCode : CalcType → ℕ → Type 0
TypeCode (Number number) code = (number.bits ≡ 0) × (code ≡ 1)
TypeCode _ code = ⊥

-- of the closed types of Calc only the keys of types matter
module _ {A B S X L : Type 0} where
  -- a comparison has two operands, or code 2 stands
  abbrev pub OpCode : ArenaIndex → Shown (closed A CalcType B S X L) → ℕ → Type 0
  OpCode op state code = The (state.forest.ops op) λ r. (r.kind ≡ 1) × (length r.operands ≢ 2) × (code ≡ 2)

  -- what each check finds
  abbrev pub calc_checks : Own (closed A CalcType B S X L) (Shown (closed A CalcType B S X L))
  calc_checks = record {
    op = record { Code = OpCode; Memory = λ op state. ⊥ };
    attr = silent;
    key = record { Code = λ key state code. TypeCode key code; Memory = λ key state. ⊥ };
  }
