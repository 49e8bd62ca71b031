-- What is made, and what a refused making leaves.
use Rattle.std.specs.Prelude.{◌≡◌, ℕ, ◌<◌, if◌then◌else◌, List, [], ◌∷◌, ◌++◌, length, Some, None, IsSome}
use Rattle.std.specs.List.{list_any}
use Rattle.ir_model.specs.declared.ids.ArenaIndex.{ArenaIndex}
use Rattle.ir_model.specs.ContextIds.{context_ids, same_id}
use Rattle.ir_model.specs.Forest.{Definition, Dialect, Forest}
use Rattle.ir_model.specs.Ids.{Distinct}
use Rattle.ir_model.specs.Nesting.{In, regions_of, use_numbers_of}
use Rattle.ir_model.specs.Changes.{new_op, on_op, on_operands, on_regions, on_successors, rewrite}
use Rattle.ir_core_records.specs.Chains.{chains_of, AreLinked}
use Rattle.ir_core_records.specs.Growth.{Grows, SkipsIds}
use Rattle.ir_core_records.specs.Meaning.{closed, forest_in, operands_from, successors_from}
use Rattle.ir_core_records.specs.Nested.{AreNested}
use Rattle.ir_core_records.specs.Table.{KnowOwn}
use Rattle.ir_core_records.specs.Tree.{tree_of}
use Rattle.ir_core_records.specs.declared.record.BlockIndex.{BlockIndex}
use Rattle.ir_core_records.specs.declared.record.ValueIndex.{ValueIndex}
use Rattle.ir_core_records.specs.declared.records.Records.{Records}

module _ {W : Dialect} where
  -- the forest with these empty regions, the last of the operation
  abbrev pub with_regions : Forest context_ids W → ArenaIndex → List ArenaIndex → Forest context_ids W
  with_regions f o rs = record f {
    ops = rewrite same_id o (on_regions (λ xs. xs ++ rs)) f.ops;
    regions = λ r. if list_any (λ s. same_id s r) rs then Some [] else f.regions r;
  }

  -- the forest where the operation names these values, under use numbers from the first on, and these blocks, under those from the next on
  abbrev pub with_places : Forest context_ids W → ArenaIndex → ℕ → List ValueIndex → ℕ → List BlockIndex → Forest context_ids W
  with_places f o first values next blocks = on_op (on_op f o (on_operands (λ _. operands_from first values))) o (on_successors (λ _. successors_from next blocks))

  -- a live operation without regions was given so many new ones, and all else is the same
  pub record IsGiven (f : Forest context_ids W) (o : ArenaIndex) (rs : List ArenaIndex) (count : ℕ) (g : Forest context_ids W) : Type 0 where
    pub number : length rs ≡ count
    pub distinct : Distinct rs
    pub were_dead : (r : ArenaIndex) → In r rs → f.regions r ≡ None
    pub live : IsSome (f.ops o)
    pub bare : regions_of f o ≡ []
    pub is : g ≡ with_regions f o rs

module _ {D A K B S X L : Type 0} where
  -- uses and places name each other, links are those of lists, and records know their places
  pub record HoldTogether (t : Records D A K B S X L) : Type 0 where
    pub linked : AreLinked (chains_of t)
    pub nested : AreNested (tree_of t)
    pub own : KnowOwn t

  -- these ids of each kind were handed out
  pub record Extends (old new : Records D A K B S X L) (new_ops new_blocks new_regions : List ArenaIndex) : Type 0 where
    pub ops : Grows old.ops new.ops new_ops
    pub blocks : Grows old.blocks new.blocks new_blocks
    pub regions : Grows old.regions new.regions new_regions

  -- the operation was given so many new regions, and names these values and blocks
  abbrev pub Completes : Records D A K B S X L → Records D A K B S X L → ArenaIndex → ℕ → List ValueIndex → ℕ → List BlockIndex → ℕ → Type 0
  Completes old new op first values next blocks count = (rs : List ArenaIndex) × (length rs ≡ count) × (forest_in new ≡ with_places (with_regions (forest_in old) op rs) op first values next blocks) × Extends old new [] [] rs

  -- the operation is new, with these results, so many new regions, and operands and successors that name these values and blocks
  abbrev pub InsertsWhole : L → Records D A K B S X L → Records D A K B S X L → ArenaIndex → ℕ → List (Definition context_ids (closed A K B S X L)) → ℕ → List ValueIndex → ℕ → List BlockIndex → ℕ → Type 0
  InsertsWhole unknown old new op kind results first values next blocks count = (rs : List ArenaIndex) × (length rs ≡ count) × (forest_in new ≡ new_op (forest_in old) op unknown kind results (operands_from first values) (successors_from next blocks) rs) × Extends old new (op ∷ []) [] rs

  -- at most so many ids of each kind were skipped
  pub record SkipsUpTo (old new : Records D A K B S X L) (most_ops most_blocks most_regions : ℕ) : Type 0 where
    pub ops : SkipsIds old.ops new.ops most_ops
    pub blocks : SkipsIds old.blocks new.blocks most_blocks
    pub regions : SkipsIds old.regions new.regions most_regions

-- no place of an operation has this use number or a greater one
pub record AreFresh {W : Dialect} (f : Forest context_ids W) (first : ℕ) : Type 0 where
  pub below : (o : ArenaIndex) (n : ℕ) → In n (use_numbers_of f o) → n < first
