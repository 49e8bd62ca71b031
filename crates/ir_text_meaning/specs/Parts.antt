-- The parts of a tree, each with its number: how many parts of the text begin before it.
use Rattle.std.specs.Prelude.{◌≡◌, ◌⊎◌, ℕ, suc, ◌+◌, ◌<◌, List, [], length}
use Rattle.ir_text_tree.specs.declared.row.Part.TheVariants as parts
use Rattle.ir_text_tree.specs.declared.row.Row.{Row}
use Rattle.ir_text_tree.specs.Rows.{row}
use Rattle.ir_text_tree.specs.Trees.{Head, Tail, Label, Body, Regions, done, op, block, none, one, result_rows, use_rows, successor_rows, maybe_row, tail_rows, label_rows}
use Rattle.ir_text_names.specs.Rows.{row_of}

-- an operation: what stands before its regions, its regions, and what stands behind them
pub record Operation : Type 0 where
  pub head : Head
  pub regions : Regions
  pub tail : Tail

abbrev pub operation : Head → Regions → Tail → Operation
operation h rs t = record { head = h; regions = rs; tail = t }

-- ---- the parts that are in no region of the operation

-- the names of its results, before its own name
abbrev pub result_parts : Head → List Row
result_parts h = result_rows h.results []

-- its operands, successors and properties, from behind its name up to its regions
abbrev pub operand_parts : Head → List Row
operand_parts h = use_rows h.operands (successor_rows h.successors (maybe_row parts.Properties h.properties []))

-- its attributes, types and location, behind its regions
abbrev pub tail_parts : Tail → List Row
tail_parts t = tail_rows t []

-- a block's name and its arguments
abbrev pub label_parts : Label → List Row
label_parts l = label_rows l []

-- ---- how many parts there are

-- before an operation's name, and with it
abbrev pub named_size : Head → ℕ
named_size h = suc (length (result_parts h))

-- before its regions
abbrev pub head_size : Head → ℕ
head_size h = named_size h + length (operand_parts h)

-- A region has the parts of its body, and those that open and close it.
unfoldable mutual
  pub body_size : Body → ℕ
  body_size done = 0
  body_size (op h rs t b) = head_size h + regions_size rs + length (tail_parts t) + body_size b
  body_size (block l b) = length (label_parts l) + body_size b

  pub regions_size : Regions → ℕ
  regions_size none = 0
  regions_size (one from b to rs) = suc (body_size b + suc (regions_size rs))

-- in an operation, with all that is in its regions
abbrev pub operation_size : Operation → ℕ
operation_size o = head_size o.head + regions_size o.regions + length (tail_parts o.tail)

-- ---- where they stand

-- Part i, which is x, is one of these parts, of which the first has number n.
abbrev pub IsAmong : List Row → ℕ → ℕ → Row → Type 0
IsAmong ys n i x = (j : ℕ) × (j < length ys) × (i ≡ n + j) × (row_of ys j ≡ x)

-- The operation stands in the body itself and not in a region in it, from part k on; the body begins with part n.
abbrev pub HasOperation : Body → ℕ → Operation → ℕ → Type 0
HasOperation done n o k = ⊥
HasOperation (op h rs t b) n o k = ((operation h rs t ≡ o) × (n ≡ k)) ⊎ HasOperation b (n + operation_size (operation h rs t)) o k
HasOperation (block l b) n o k = HasOperation b (n + length (label_parts l)) o k

-- The block's head stands in the body itself, from part k on; the body begins with part n.
abbrev pub HasLabel : Body → ℕ → Label → ℕ → Type 0
HasLabel done n m k = ⊥
HasLabel (op h rs t b) n m k = HasLabel b (n + operation_size (operation h rs t)) m k
HasLabel (block l b) n m k = ((l ≡ m) × (n ≡ k)) ⊎ HasLabel b (n + length (label_parts l)) m k

-- One of the regions has that body, from part m on; the first region begins with part n.
abbrev pub HasRegion : Regions → ℕ → Body → ℕ → Type 0
HasRegion none n c m = ⊥
HasRegion (one from b to rs) n c m = ((b ≡ c) × (suc n ≡ m)) ⊎ HasRegion rs (suc n + suc (body_size b)) c m

-- Part i, which is x, opens one of the regions, of which the first begins with part n.
abbrev pub IsOpening : Regions → ℕ → ℕ → Row → Type 0
IsOpening none n i x = ⊥
IsOpening (one from b to rs) n i x = ((n ≡ i) × (row parts.Open from ≡ x)) ⊎ IsOpening rs (suc n + suc (body_size b)) i x
