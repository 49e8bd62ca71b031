-- Uses that are redirected: their places name another definition, under the same use numbers, and all else is as before.
use Rattle.std.specs.Prelude.{Bool, if◌then◌else◌, map}
use Rattle.std.specs.Option.{option_map}
use Rattle.ir_model.specs.Ids.{Ids}
use Rattle.ir_model.specs.Forest.{Dialect, Forest, Operand, Successor, Value}
use Rattle.ir_model.specs.Changes.{on_operands, on_successors}
use Rattle.ir_model.specs.Uses.{Use}

module _ {N : Ids} {W : Dialect} where
  -- the operands whose use is in the set name the value
  abbrev pub redirect_uses : Forest N W → (Use N → Bool) → Value N → Forest N W
  redirect_uses f set value = record f {
    ops = λ o. option_map (on_operands (map (λ (a : Operand N). if set (record { user = o; number = a.use_number }) then record a { value = value } else a))) (f.ops o);
  }

  -- the successors whose use is in the set name the block
  abbrev pub retarget_uses : Forest N W → (Use N → Bool) → N.Block → Forest N W
  retarget_uses f set block = record f {
    ops = λ o. option_map (on_successors (map (λ (a : Successor N). if set (record { user = o; number = a.use_number }) then record a { block = block } else a))) (f.ops o);
  }
