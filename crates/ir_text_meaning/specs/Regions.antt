-- Regions in a tree: what stands in which, at what depth.
use Rattle.std.specs.Prelude.{◌≡◌, ◌⊎◌, ℕ, ◌+◌, length}
use Rattle.ir_text_tree.specs.declared.row.Part.TheVariants as parts
use Rattle.ir_text_tree.specs.declared.row.Row.{Row}
use Rattle.ir_text_tree.specs.Rows.{row}
use Rattle.ir_text_tree.specs.Trees.{Label, Body}
use Rattle.ir_text_meaning.specs.Parts.{Operation, result_parts, operand_parts, tail_parts, label_parts, named_size, head_size, body_size, regions_size, HasOperation, HasLabel, HasRegion, IsOpening, IsAmong}

-- The body c, from part m on, is that of a region of an operation that stands in the body b itself, which begins with part n.
abbrev pub IsRegionOf : Body → ℕ → Body → ℕ → Type 0
IsRegionOf c m b n = (o : Operation) × (k : ℕ) × HasOperation b n o k × HasRegion o.regions (k + head_size o.head) c m

-- The body c, from part m on, is the body b, from part n on, or that of a region in it, at whatever depth.
pub data IsWithin (c : Body) (m : ℕ) : Body → ℕ → Type 0 where
  itself : IsWithin c m c m
  deeper : {b d : Body} {n k : ℕ} → IsRegionOf d k b n → IsWithin c m d k → IsWithin c m b n

-- Part i, which is x, is a part of the operation that begins with part k, and of no operation in its regions.
abbrev pub IsPartOf : Operation → ℕ → ℕ → Row → Type 0
IsPartOf o k i x =
    (IsAmong (result_parts o.head) k i x ⊎ ((k + length (result_parts o.head) ≡ i) × (row parts.Name o.head.name ≡ x)))
    ⊎ (IsAmong (operand_parts o.head) (k + named_size o.head) i x ⊎ (IsOpening o.regions (k + head_size o.head) i x ⊎ IsAmong (tail_parts o.tail) (k + head_size o.head + regions_size o.regions) i x))

-- Part i, which is x, stands in the body itself, which begins with part n: it is a part of an operation there, or of a block's head.
abbrev pub StandsIn : Body → ℕ → ℕ → Row → Type 0
StandsIn c n i x = ((o : Operation) × (k : ℕ) × HasOperation c n o k × IsPartOf o k i x) ⊎ ((l : Label) × (k : ℕ) × HasLabel c n l k × IsAmong (label_parts l) k i x)

-- Part i stands in the region of the tree whose body begins with part r, or outside all regions if r is 0: in its body itself, or it closes the region.
abbrev pub IsInRegionAt : Body → ℕ → ℕ → Type 0
IsInRegionAt b i r = (c : Body) × IsWithin c r b 0 × (((x : Row) × StandsIn c r i x) ⊎ (i ≡ r + body_size c))
