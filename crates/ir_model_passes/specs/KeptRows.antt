-- What a pass has to keep of what stays, part by part.
use Rattle.std.specs.Prelude.{[], ◌∷◌, None, Some}
use Rattle.ir_model.specs.Forest.{OpRecord, BlockRecord, Forest}
use Rattle.ir_model.specs.SmallForests.{n0, n1, n2, small_ids, table, result, operand, successor}
use Rattle.ir_model_passes.specs.Meaning.{OnlyPureGo}
use Rattle.ir_model_passes.specs.MarkedForests.{marked, two_pure, constant, effect, block_with, one_block, one_mark}

-- the forest of n0 and n1 with the record of n1 changed
abbrev pub changed : (OpRecord small_ids marked → OpRecord small_ids marked) → Forest small_ids marked
changed change = one_block (constant n0 1 ∷ change (effect (result n0 n0)) ∷ []) (n0 ∷ n1 ∷ [])

-- and with the record of the block changed
abbrev pub changed_block : (BlockRecord small_ids marked → BlockRecord small_ids marked) → Forest small_ids marked
changed_block change = record (one_mark 1) { blocks = table (change (block_with (n0 ∷ n1 ∷ [])) ∷ []) }

-- no pass that lets only pure operations go leaves this
abbrev pub IsRefused : Forest small_ids marked → Type 0
IsRefused g = OnlyPureGo two_pure (one_mark 1) g → ⊥

-- a pure operation whose region has an empty block, and the block alone
abbrev pub with_block : Forest small_ids marked
with_block = record { ops = table (record (constant n0 1) { regions = n0 ∷ [] } ∷ []); blocks = table (block_with [] ∷ []); regions = table ((n0 ∷ []) ∷ []) }

abbrev pub block_alone : Forest small_ids marked
block_alone = record { ops = table []; blocks = table (block_with [] ∷ []); regions = table [] }

-- each change of what stays is refused but that of the values that are named
pub record KeptRows : Type 0 where
  pub nothing_changed : OnlyPureGo two_pure (one_mark 1) (one_mark 1)
  pub other_kind : IsRefused (changed (λ r. record r { kind = 2 }))
  pub other_attributes : IsRefused (changed (λ r. record r { attributes = ([], 1) ∷ [] }))
  pub other_location : IsRefused (changed (λ r. record r { loc = 1 }))
  pub new_result : IsRefused (changed (λ r. record r { results = record { number = n1; ty = 0; name = None } ∷ [] }))
  pub new_successor : IsRefused (changed (λ r. record r { successors = successor n1 n0 ∷ [] }))
  pub new_region : IsRefused (changed (λ r. record r { regions = n0 ∷ [] }))
  pub other_use_number : IsRefused (changed (λ r. record r { operands = operand n1 (result n0 n0) ∷ [] }))
  pub operand_gone : IsRefused (changed (λ r. record r { operands = [] }))
  pub other_name : IsRefused (one_block (record (constant n0 1) { results = record { number = n0; ty = 0; name = Some [] } ∷ [] } ∷ effect (result n0 n0) ∷ []) (n0 ∷ n1 ∷ []))
  pub new_operation : IsRefused (one_block (constant n0 1 ∷ effect (result n0 n0) ∷ constant n2 1 ∷ []) (n0 ∷ n1 ∷ []))
  pub other_order : IsRefused (changed_block (λ r. record r { ops = n1 ∷ n0 ∷ [] }))
  pub unlisted : IsRefused (changed_block (λ r. record r { ops = n0 ∷ [] }))
  pub new_label : IsRefused (changed_block (λ r. record r { label = Some [] }))
  pub new_argument : IsRefused (changed_block (λ r. record r { arguments = record { number = n1; ty = 0; name = None } ∷ [] }))
  pub new_block_attribute : IsRefused (changed_block (λ r. record r { attributes = ([], 1) ∷ [] }))
  pub other_block_location : IsRefused (changed_block (λ r. record r { loc = 1 }))
  pub block_gone : IsRefused (record (one_mark 1) { blocks = table [] })
  pub region_appears : IsRefused (record (one_mark 1) { regions = table ([] ∷ []) })
  pub unlisted_block : OnlyPureGo two_pure with_block (record with_block { regions = table ([] ∷ []) }) → ⊥
  -- what lies inside a pure operation that went has to go too
  pub left_inside : OnlyPureGo two_pure with_block block_alone → ⊥
