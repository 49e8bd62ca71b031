-- Operations that were kept, and how they are found by their hashes.
use Rattle.std.specs.Prelude.{◌≡◌, ℕ, ◌<◌, ◌≤◌, List, length, map, Option, None, Some, slice_get, nat_eq}
use Rattle.ir_model.specs.declared.ids.ArenaIndex.{ArenaIndex}
use Rattle.ir_model.specs.ContextIds.{context_ids}
use Rattle.ir_model.specs.Forest.{Dialect, Behaviour, Forest, OpRecord}
use Rattle.ir_model_passes.specs.Meaning.{IsPlain}
use Rattle.indexmap.specs.IndexMap.{get}
use Rattle.ir_run_passes.specs.declared.kept_ops.KeptOp.{KeptOp}
use Rattle.ir_run_passes.specs.declared.kept_ops.KeptOps.{KeptOps}

module _ {W : Dialect} (B : Behaviour W) (f : Forest context_ids W) where
  -- the operation is live and plain
  pub record IsPlainOp (o : ArenaIndex) : Type 0 where
    pub of : OpRecord context_ids W
    pub found : f.ops o ≡ Some of
    pub plain : IsPlain B of

-- the operations that were kept, in order
abbrev pub kept_in : KeptOps → List ArenaIndex
kept_in t = map (λ k. k.op) t.ops.items

module _ (hash_of : ArenaIndex → ℕ) where
  -- the operation at this place has the hash
  abbrev pub HasHash : List KeptOp → ℕ → ℕ → Type 0
  HasHash ops hash p = (k : KeptOp) × (slice_get ops p ≡ Some k) × (hash_of k.op ≡ hash)

  -- the answer is the last place below n of an operation that has the hash, where there is one
  abbrev pub IsLast : List KeptOp → ℕ → ℕ → Option ℕ → Type 0
  IsLast ops hash n None = (q : ℕ) → q < n → HasHash ops hash q → ⊥
  IsLast ops hash n (Some p) = (p < n) × HasHash ops hash p × ((q : ℕ) → q < n → HasHash ops hash q → q ≤ p)

  -- each kept one knows the last before it that has its hash, and the table knows the last of all for each hash
  pub record IsIndexed (t : KeptOps) : Type 0 where
    pub chains : (p : ℕ) (k : KeptOp) → slice_get t.ops.items p ≡ Some k → IsLast t.ops.items (hash_of k.op) p k.earlier
    pub last : (hash : ℕ) → IsLast t.ops.items hash (length t.ops.items) (get nat_eq t.latest hash)
