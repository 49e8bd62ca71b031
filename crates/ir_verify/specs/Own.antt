-- Checks without numbers: what each of the three finds, and what it is to hand in them alone.
use Rattle.std.specs.Prelude.{[]}
use Rattle.ir_model.specs.declared.ids.ArenaIndex.{ArenaIndex}
use Rattle.ir_model.specs.Forest.{Dialect}
use Rattle.ir_model.specs.Verifiers.{Answers, Verifiers}

-- what the own checks of operations, of attributes and of types find
pub record Own (W : Dialect) (S : Type 0) : Type 1 where
  pub op : Answers ArenaIndex S
  pub attr : Answers W.Attr S
  pub key : Answers W.Key S

-- a check that finds nothing
abbrev pub silent : {X S : Type 0} → Answers X S
silent = record { Code = λ x state code. ⊥; Memory = λ x state. ⊥ }

-- no check is listed for any kind, and none has a number: only the own checks find anything
abbrev pub own_alone : {W : Dialect} {S : Type 0} → Own W S → Verifiers W S
own_alone own = record {
  op_verifiers = λ kind. [];
  attr_verifiers = λ kind. [];
  type_verifiers = λ kind. [];
  op_interface = λ number. silent;
  attr_interface = λ number. silent;
  type_interface = λ number. silent;
  op_itself = own.op;
  attr_itself = own.attr;
  type_itself = own.key;
}
