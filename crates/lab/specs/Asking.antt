-- What the checks answer that ask for memory: never a code, and where memory is refused, that it ran out.
use Rattle.std.specs.Prelude.{ℕ, [], ◌∷◌}
use Rattle.ir_model.specs.Verifiers.{Answers, Verifiers}
use Rattle.ir_core_records.specs.Meaning.{closed}
use Rattle.ir_verify.specs.Shown.{Shown}

-- a check that finds nothing, and may run out of memory
abbrev pub asks : {X S : Type 0} → Answers X S
asks = record { Code = λ x state code. ⊥; Memory = λ x state. Unit {0} }

-- one check is listed for each kind, and each kind has its own
module _ {A K B S X L : Type 0} where
  abbrev pub asking : Verifiers (closed A K B S X L) (Shown (closed A K B S X L))
  asking = record {
    op_verifiers = λ kind. 1 ∷ [];
    attr_verifiers = λ kind. 1 ∷ [];
    type_verifiers = λ kind. 1 ∷ [];
    op_interface = λ number. asks;
    attr_interface = λ number. asks;
    type_interface = λ number. asks;
    op_itself = asks;
    attr_itself = asks;
    type_itself = asks;
  }
