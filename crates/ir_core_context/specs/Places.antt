-- What an edit of operands or successors promises.
use Rattle.std.specs.Prelude.{◌≡◌, ℕ, [], ◌∷◌, ◌++◌}
use Rattle.std.specs.List.{insert, remove}
use Rattle.ir_model.specs.declared.ids.ArenaIndex.{ArenaIndex}
use Rattle.ir_model.specs.ContextIds.{context_ids}
use Rattle.ir_model.specs.Changes.{on_op, on_operands, on_successors, operand, successor}
use Rattle.ir_model.specs.Forest.{Dialect, Forest, Value}
use Rattle.ir_model.specs.Edits.{one_use}
use Rattle.ir_model.specs.Sessions.{Session}
use Rattle.ir_core_context.specs.Calls.{HandsOut}

module _ {W : Dialect} where
  -- one new use number was handed out, and the forest is what is made with it
  pub record MakesUse (old new : Session W) (make : ℕ → Forest context_ids W) : Type 0 where
    pub number : ℕ
    pub handed : HandsOut old new one_use (record { ops = []; blocks = []; regions = []; numbers = []; uses = number ∷ [] })
    pub forest : new.state.forest ≡ make number

  -- the operation has an operand more, the last, that names the value
  abbrev pub operand_pushed : Forest context_ids W → ArenaIndex → Value context_ids → ℕ → Forest context_ids W
  operand_pushed f o v n = on_op f o (on_operands (λ ps. ps ++ operand (n, v) ∷ []))

  -- the operation has an operand more, at this place, that names the value
  abbrev pub operand_inserted : Forest context_ids W → ArenaIndex → ℕ → Value context_ids → ℕ → Forest context_ids W
  operand_inserted f o at v n = on_op f o (on_operands (λ ps. insert ps at (operand (n, v))))

  -- the operation has another operand at this place, which names the value
  abbrev pub operand_replaced : Forest context_ids W → ArenaIndex → ℕ → Value context_ids → ℕ → Forest context_ids W
  operand_replaced f o at v n = on_op f o (on_operands (λ ps. insert (remove ps at) at (operand (n, v))))

  -- the operation has a successor more, the last, that names the block
  abbrev pub successor_pushed : Forest context_ids W → ArenaIndex → ArenaIndex → ℕ → Forest context_ids W
  successor_pushed f o b n = on_op f o (on_successors (λ ps. ps ++ successor (n, b) ∷ []))

  -- the operation has a successor more, at this place, that names the block
  abbrev pub successor_inserted : Forest context_ids W → ArenaIndex → ℕ → ArenaIndex → ℕ → Forest context_ids W
  successor_inserted f o at b n = on_op f o (on_successors (λ ps. insert ps at (successor (n, b))))

  -- the operation has another successor at this place, which names the block
  abbrev pub successor_replaced : Forest context_ids W → ArenaIndex → ℕ → ArenaIndex → ℕ → Forest context_ids W
  successor_replaced f o at b n = on_op f o (on_successors (λ ps. insert (remove ps at) at (successor (n, b))))
