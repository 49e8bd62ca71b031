-- One step more of what is read, and what is read at last.
use Rattle.std.proofs.Common.{◌≡◌, ℕ, ◌+◌, List, [], ◌∷◌, ◌++◌, map, Some, refl, sym, subst, ap, ◌∙◌}
use Rattle.ir_model.specs.declared.ids.ArenaIndex.{ArenaIndex}
use Rattle.ir_model.specs.Forest.{Dialect, of_op}
use Rattle.ir_model.specs.Nesting.{regions_of, ops_of, blocks_of}
use Rattle.ir_text_tree.specs.declared.row.Part.TheVariants as parts
use Rattle.ir_text_described.specs.declared.item.Item.{Item}
use Rattle.ir_text_described.specs.declared.item.Item.TheVariants as items
use Rattle.ir_text_described.specs.Trees.{part_at, width_at, behind_result}
use Rattle.generic_text.proofs.Lists.{mapped}
use Rattle.ir_text_described.specs.Written.{Setting, AreResults, more_results, IsHead, IsLabel, IsPlain, AreWritten, operation, region, plain, close, block}

-- two constructors differ
close≢block : (b : ArenaIndex) → items.Close ≡ items.Block b → ⊥
close≢block b e = cc

block_same : (a b : ArenaIndex) → items.Block a ≡ items.Block b → a ≡ b
block_same a b e = cc

head_same : {A : Type 0} (x y : A) (xs ys : List A) → x ∷ xs ≡ y ∷ ys → x ≡ y
head_same x y xs ys e = cc

rest_same : {A : Type 0} (x y : A) (xs ys : List A) → x ∷ xs ≡ y ∷ ys → xs ≡ ys
rest_same x y xs ys e = cc

module _ {W : Dialect} (s : Setting W) where
  -- one name of results more
  pub results_more : (o : ArenaIndex) (from k at w count next : ℕ) → part_at s.tree at ≡ parts.Result → s.meanings.values at ≡ Some (record { definer = of_op o; first = k }) → w ≡ width_at s.tree at → count ≡ k + w → next ≡ behind_result s.tree at → AreResults s o from k at → AreResults s o from count next
  results_more o from k at w count next part meant width counted behind before =
      let step : AreResults s o from (k + width_at s.tree at) (behind_result s.tree at) = more_results before part meant in
      subst (λ n. AreResults s o from n next) (sym (counted ∙ ap (λ n. k + n) width)) (subst (λ n. AreResults s o from (k + width_at s.tree at) n) (sym behind) step)

  -- an operation, with what stands behind its head
  pub read_operation : (o : ArenaIndex) (now items' rest : List Item) (at next : ℕ) → IsHead s o at next → now ≡ map items.Region (regions_of s.forest o) ++ items' → items' ≡ items.Tail o ∷ rest → AreWritten s now next → AreWritten s (items.Op o ∷ rest) at
  read_operation o now items' rest at next head e f written =
      operation head (subst (λ xs. AreWritten s xs next) (e ∙ ap (λ xs. map items.Region (regions_of s.forest o) ++ xs) f) written)

  -- a region whose first block has a head
  pub read_region : (g : ArenaIndex) (now items' rest : List Item) (at next : ℕ) → part_at s.tree at ≡ parts.Open → next ≡ at + 1 → now ≡ map items.Block (blocks_of s.forest g) ++ items' → items' ≡ items.Close ∷ rest → AreWritten s now next → AreWritten s (items.Region g ∷ rest) at
  read_region g now items' rest at next part behind e f written =
      region part (subst (λ n. AreWritten s (map items.Block (blocks_of s.forest g) ++ items.Close ∷ rest) n) behind (subst (λ xs. AreWritten s xs next) (e ∙ ap (λ xs. map items.Block (blocks_of s.forest g) ++ xs) f) written))

  plain_of : (g b : ArenaIndex) (bs : List ArenaIndex) (before behind rest : List Item) (at : ℕ) → part_at s.tree at ≡ parts.Open → blocks_of s.forest g ≡ bs → before ≡ map items.Block bs ++ items.Close ∷ rest → before ≡ items.Block b ∷ behind → IsPlain s b (at + 1) → AreWritten s (map items.Op (ops_of s.forest b) ++ behind) (at + 1) → AreWritten s (items.Region g ∷ rest) at
  plain_of g b [] before behind rest at part blocks is was no_head written = absurd (close≢block b (head_same items.Close (items.Block b) rest behind (sym is ∙ was)))
  plain_of g b (c ∷ bs) before behind rest at part blocks is was no_head written =
      let same : c ≡ b = block_same c b (head_same (items.Block c) (items.Block b) (map items.Block bs ++ items.Close ∷ rest) behind (sym is ∙ was)) in
      let others : map items.Block bs ++ items.Close ∷ rest ≡ behind = rest_same (items.Block c) (items.Block b) (map items.Block bs ++ items.Close ∷ rest) behind (sym is ∙ was) in
      plain part (blocks ∙ ap (λ x. x ∷ bs) same) no_head (subst (λ xs. AreWritten s (map items.Op (ops_of s.forest b) ++ xs) (at + 1)) (sym others) written)

  -- a region whose first block has none
  pub read_plain : (g b : ArenaIndex) (now before behind rest : List Item) (at next : ℕ) → part_at s.tree at ≡ parts.Open → next ≡ at + 1 → before ≡ map items.Block (blocks_of s.forest g) ++ items.Close ∷ rest → before ≡ items.Block b ∷ behind → IsPlain s b next → now ≡ map items.Op (ops_of s.forest b) ++ behind → AreWritten s now next → AreWritten s (items.Region g ∷ rest) at
  read_plain g b now before behind rest at next part step is was no_head e written =
      plain_of g b (blocks_of s.forest g) before behind rest at part refl is was (subst (IsPlain s b) step no_head) (subst (λ n. AreWritten s (map items.Op (ops_of s.forest b) ++ behind) n) step (subst (λ xs. AreWritten s xs next) e written))

  -- a block with its head
  pub read_block : (b : ArenaIndex) (now rest : List Item) (at next : ℕ) → IsLabel s b at next → now ≡ map items.Op (ops_of s.forest b) ++ rest → AreWritten s now next → AreWritten s (items.Block b ∷ rest) at
  read_block b now rest at next label e written = block label (subst (λ xs. AreWritten s xs next) e written)

  -- the end of a region
  pub read_close : (rest : List Item) (at next : ℕ) → part_at s.tree at ≡ parts.Close → next ≡ at + 1 → AreWritten s rest next → AreWritten s (items.Close ∷ rest) at
  read_close rest at next part behind written = close part (subst (AreWritten s rest) behind written)

-- what is written are operations by their indices
pub described_by : {W : Dialect} {A : Type 0} (s : Setting W) (xs : List A) (f : A → ArenaIndex) → AreWritten s (map (λ x. items.Op (f x)) xs) 0 → AreWritten s (map items.Op (map f xs)) 0
described_by s xs f written = subst (λ ys. AreWritten s ys 0) (sym (mapped items.Op f xs)) written
