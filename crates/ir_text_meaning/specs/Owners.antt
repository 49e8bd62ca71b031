-- What belongs to an operation: its name, the parts behind it, and how many there are of each sort.
use Rattle.std.specs.Prelude.{◌≡◌, ◌≢◌, ◌⊎◌, ℕ, ◌+◌, length}
use Rattle.ir_text_tree.specs.declared.row.Row.{Row}
use Rattle.ir_text_tree.specs.Trees.{Body, ResultTypes, bare, listed}
use Rattle.ir_text_meaning.specs.Parts.{Operation, result_parts, operand_parts, tail_parts, named_size, head_size, regions_size, HasOperation, IsAmong}
use Rattle.ir_text_meaning.specs.Regions.{IsWithin}

-- Part i, which is x, stands behind the name of the operation that begins with part k, and in none of its regions.
abbrev pub IsBehindName : Operation → ℕ → ℕ → Row → Type 0
IsBehindName o k i x = IsAmong (operand_parts o.head) (k + named_size o.head) i x ⊎ IsAmong (tail_parts o.tail) (k + head_size o.head + regions_size o.regions) i x

-- Part i is the name of an operation.
pub record IsName (b : Body) (i : ℕ) : Type 0 where
  pub body : Body
  pub body_at : ℕ
  pub owner : Operation
  pub owner_at : ℕ
  pub in_tree : IsWithin body body_at b 0
  pub in_body : HasOperation body body_at owner owner_at
  pub is_name : owner_at + length (result_parts owner.head) ≡ i

-- how many result types there are
abbrev pub result_type_count : ResultTypes → ℕ
result_type_count (bare name is_name group) = 1
result_type_count (listed ts) = length ts

-- Part i is the name of an operation that has not as many operand types as operands.
abbrev pub HasOtherTypesAt : Body → ℕ → Type 0
HasOtherTypesAt b i = (name : IsName b i) × (length name.owner.head.operands ≢ length name.owner.tail.operand_types)
