-- What is written, as what stands in one another.
use Rattle.std.proofs.Common.{◌≡◌, ℕ, ◌+◌, ◌<◌, ◌≤◌, true, false, List, [], ◌∷◌, ◌++◌, map, length, refl, sym, ap, ◌∙◌, subst, true≢false, arith}
use Rattle.ir_model.specs.declared.ids.ArenaIndex.{ArenaIndex}
use Rattle.ir_model.specs.Forest.{Dialect}
use Rattle.ir_model.specs.Nesting.{regions_of, ops_of, blocks_of}
use Rattle.ir_text_tree.specs.declared.row.Part.TheVariants as parts
use Rattle.ir_text_described.specs.declared.item.Item.{Item}
use Rattle.ir_text_described.specs.declared.item.Item.TheVariants as items
use Rattle.ir_text_described.specs.Trees.{NamedTree, part_at}
use Rattle.ir_text_described.specs.Written.{Setting, IsHead, IsTail, IsLabel, IsPlain, AreWritten, nothing, operation, tail, region, plain, close, block, begins_operation}
use Rattle.ir_text_described.proofs.Ranks.{rank, rank_at, begins_rank, past}
use Rattle.ir_text_described.proofs.Heads.{head_begins}

module _ {W : Dialect} (s : Setting W) where
  mutual
    -- the operations are the rows from one row up to another
    pub data OpsAt : List ArenaIndex → ℕ → ℕ → Type 0 where
      no_ops : {at : ℕ} → OpsAt [] at at
      ops : {o : ArenaIndex} {os : List ArenaIndex} {at a b c next : ℕ} → IsHead s o at a → RegionsAt (regions_of s.forest o) a b → IsTail s o b c → OpsAt os c next → OpsAt (o ∷ os) at next

    pub data RegionsAt : List ArenaIndex → ℕ → ℕ → Type 0 where
      no_regions : {at : ℕ} → RegionsAt [] at at
      regions : {g : ArenaIndex} {gs : List ArenaIndex} {at a next : ℕ} → RegionAt g at a → RegionsAt gs a next → RegionsAt (g ∷ gs) at next

    pub data RegionAt : ArenaIndex → ℕ → ℕ → Type 0 where
      all_labelled : {g : ArenaIndex} {at a next : ℕ} → part_at s.tree at ≡ parts.Open → BlocksAt (blocks_of s.forest g) (at + 1) a → part_at s.tree a ≡ parts.Close → next ≡ a + 1 → RegionAt g at next
      first_plain : {g b : ArenaIndex} {bs : List ArenaIndex} {at a m next : ℕ} → part_at s.tree at ≡ parts.Open → blocks_of s.forest g ≡ b ∷ bs → IsPlain s b (at + 1) → OpsAt (ops_of s.forest b) (at + 1) m → BlocksAt bs m a → part_at s.tree a ≡ parts.Close → next ≡ a + 1 → RegionAt g at next

    pub data BlocksAt : List ArenaIndex → ℕ → ℕ → Type 0 where
      no_blocks : {at : ℕ} → BlocksAt [] at at
      blocks : {b : ArenaIndex} {bs : List ArenaIndex} {at a m next : ℕ} → IsLabel s b at a → OpsAt (ops_of s.forest b) a m → BlocksAt bs m next → BlocksAt (b ∷ bs) at next

  -- the items one behind another, each as what stands in it, up to the last row
  abbrev Items : List Item → ℕ → Type 0
  Items [] at = at ≡ length s.tree.rows
  Items (items.Op o ∷ rest) at = (a : ℕ) × (b : ℕ) × (c : ℕ) × IsHead s o at a × RegionsAt (regions_of s.forest o) a b × IsTail s o b c × Items rest c
  Items (items.Tail o ∷ rest) at = (c : ℕ) × IsTail s o at c × Items rest c
  Items (items.Region g ∷ rest) at = (a : ℕ) × RegionAt g at a × Items rest a
  Items (items.Block b ∷ rest) at = (a : ℕ) × (m : ℕ) × IsLabel s b at a × OpsAt (ops_of s.forest b) a m × Items rest m
  Items (items.Close ∷ rest) at = (part_at s.tree at ≡ parts.Close) × Items rest (at + 1)

  ops_first : (os : List ArenaIndex) (rest : List Item) (at : ℕ) → Items (map items.Op os ++ rest) at → (e : ℕ) × OpsAt os at e × Items rest e
  ops_first [] rest at n = (at, no_ops, n)
  ops_first (o ∷ os) rest at n = let r = ops_first os rest n.2 n.6 in (r.0, ops n.3 n.4 n.5 r.1, r.2)

  regions_first : (gs : List ArenaIndex) (rest : List Item) (at : ℕ) → Items (map items.Region gs ++ rest) at → (e : ℕ) × RegionsAt gs at e × Items rest e
  regions_first [] rest at n = (at, no_regions, n)
  regions_first (g ∷ gs) rest at n = let r = regions_first gs rest n.0 n.2 in (r.0, regions n.1 r.1, r.2)

  blocks_first : (bs : List ArenaIndex) (rest : List Item) (at : ℕ) → Items (map items.Block bs ++ rest) at → (e : ℕ) × BlocksAt bs at e × Items rest e
  blocks_first [] rest at n = (at, no_blocks, n)
  blocks_first (b ∷ bs) rest at n = let r = blocks_first bs rest n.1 n.4 in (r.0, blocks n.2 n.3 r.1, r.2)

  items_at : {is : List Item} {at : ℕ} → AreWritten s is at → Items is at
  items_at (nothing e) = e
  items_at (operation {o = o} {rest = rest} {next = next} head written) =
      let r = regions_first (regions_of s.forest o) (items.Tail o ∷ rest) next (items_at written) in
      (next, r.0, r.2.0, head, r.1, r.2.1, r.2.2)
  items_at (tail {next = next} t written) = (next, t, items_at written)
  items_at (region {g = g} {rest = rest} {at = at} part written) =
      let r = blocks_first (blocks_of s.forest g) (items.Close ∷ rest) (at + 1) (items_at written) in
      (r.0 + 1, all_labelled part r.1 r.2.0 refl, r.2.1)
  items_at (plain {g = g} {b = b} {bs = bs} {rest = rest} {at = at} part is no_head written) =
      let r = ops_first (ops_of s.forest b) (map items.Block bs ++ items.Close ∷ rest) (at + 1) (items_at written) in
      let q = blocks_first bs (items.Close ∷ rest) r.0 r.2 in
      (q.0 + 1, first_plain part is no_head r.1 q.1 q.2.0 refl, q.2.1)
  items_at (close part written) = (part, items_at written)
  items_at (block {b = b} {rest = rest} {next = next} label written) =
      let r = ops_first (ops_of s.forest b) rest next (items_at written) in
      (next, r.0, label, r.1, r.2)

  only_ops : (os : List ArenaIndex) (at : ℕ) → Items (map items.Op os) at → OpsAt os at (length s.tree.rows)
  only_ops [] at n = subst (λ x. OpsAt [] at x) n no_ops
  only_ops (o ∷ os) at n = ops n.3 n.4 n.5 (only_ops os n.2 n.6)

  -- operations that are written are all rows
  pub ops_written : (os : List ArenaIndex) → AreWritten s (map items.Op os) 0 → OpsAt os 0 (length s.tree.rows)
  ops_written os written = only_ops os 0 (items_at written)

-- ---- what stands first

-- no operation goes on there
pub record Stops (t : NamedTree) (n : ℕ) : Type 0 where
  pub far : 9 ≤ rank_at t n
  pub stops : n < length t.rows → begins_operation (part_at t n) ≡ true → ⊥

pub rows_end : (t : NamedTree) → Stops t (length t.rows)
rows_end t = let is : rank_at t (length t.rows) ≡ 9 = ap rank (past t (length t.rows) (omega arith)) in record { far = omega arith; stops = λ lt e. omega arith }

-- a block's head or the end of a region
pub record IsBlocksRow (t : NamedTree) (n : ℕ) : Type 0 where
  pub far : 9 ≤ rank_at t n
  pub begins : begins_operation (part_at t n) ≡ false

pub blocks_row_stops : (t : NamedTree) (n : ℕ) → IsBlocksRow t n → Stops t n
blocks_row_stops t n h = record { far = h.far; stops = λ lt e. true≢false (sym e ∙ h.begins) }

module _ {W : Dialect} (s : Setting W) where
  pub ops_far : {os : List ArenaIndex} {at next : ℕ} → OpsAt s os at next → 9 ≤ rank_at s.tree next → 9 ≤ rank_at s.tree at
  ops_far no_ops far = far
  ops_far (ops {o = o} {at = at} {a = a} head rs t rest) far =
      let b = head_begins s o at a head in
      let is : rank_at s.tree at ≡ 9 = begins_rank (part_at s.tree at) b.begins in omega arith

  pub region_opens : {g : ArenaIndex} {at next : ℕ} → RegionAt s g at next → part_at s.tree at ≡ parts.Open
  region_opens (all_labelled part bs closes e) = part
  region_opens (first_plain part is no_head os bs closes e) = part

  pub regions_low : {gs : List ArenaIndex} {at next : ℕ} → RegionsAt s gs at next → 5 ≤ rank_at s.tree next → 4 ≤ rank_at s.tree at
  regions_low no_regions far = omega arith
  regions_low (regions {at = at} r rest) far = let is : rank_at s.tree at ≡ 4 = ap rank (region_opens r) in omega arith

  closes_row : (n : ℕ) → part_at s.tree n ≡ parts.Close → IsBlocksRow s.tree n
  closes_row n e = let is : rank_at s.tree n ≡ 9 = ap rank e in record { far = omega arith; begins = ap begins_operation e }

  label_row : (n : ℕ) → part_at s.tree n ≡ parts.Label → IsBlocksRow s.tree n
  label_row n e = let is : rank_at s.tree n ≡ 9 = ap rank e in record { far = omega arith; begins = ap begins_operation e }

  pub blocks_row : {bs : List ArenaIndex} {at next : ℕ} → BlocksAt s bs at next → part_at s.tree next ≡ parts.Close → IsBlocksRow s.tree at
  blocks_row (no_blocks {at = at}) e = closes_row at e
  blocks_row (blocks {at = at} label os rest) e = label_row at label.part
