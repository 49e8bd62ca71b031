-- What one step of a merging does: an operation is merged into a kept one that is alike, or is passed.
use Rattle.std.specs.Prelude.{◌≡◌, ◌⊎◌, ℕ, Bool, true, false, List, [], ◌∷◌, ◌++◌, take}
use Rattle.std.specs.List.{zip}
use Rattle.ir_model.specs.declared.ids.ArenaIndex.{ArenaIndex}
use Rattle.ir_model.specs.ContextIds.{context_ids}
use Rattle.ir_model.specs.Forest.{Dialect, Behaviour, Forest, an_op}
use Rattle.ir_model.specs.Nesting.{In}
use Rattle.ir_model.specs.Changes.{Removes}
use Rattle.ir_model_passes.specs.Meaning.{SameAttributes}
use Rattle.ir_model_passes.specs.Merging.{values_given, redirect_each, redirect_results, Alike}
use Rattle.ir_run_passes.specs.declared.kept_ops.KeptOps.{KeptOps}
use Rattle.ir_run_passes.specs.KeptOps.{IsPlainOp, IsIndexed, kept_in}

module _ {W : Dialect} (B : Behaviour W) (f : Forest context_ids W) (kept : KeptOps) where
  -- the kept ones are plain, and each is found by its hash
  pub record FindsKept (hash_of : ArenaIndex → ℕ) : Type 0 where
    pub plain : (k : ArenaIndex) → In k (kept_in kept) → IsPlainOp B f k
    pub indexed : IsIndexed hash_of kept

module _ {W : Dialect} (B : Behaviour W) (same : SameAttributes W) (f : Forest context_ids W) (kept : KeptOps) (o : ArenaIndex) where
  -- it was merged into a kept one that is alike
  pub record MergesInto (g : Forest context_ids W) : Type 0 where
    pub earlier : ArenaIndex
    pub is_kept : In earlier (kept_in kept)
    pub alike : Alike B same f earlier o
    pub removes : Removes (redirect_results f o earlier) (an_op o) g

  -- no kept one is alike; it is kept where it is plain
  pub record Passes (now : KeptOps) : Type 0 where
    pub none_alike : (k : ArenaIndex) → In k (kept_in kept) → Alike B same f k o → ⊥
    pub keeps : ((kept_in now ≡ kept_in kept ++ o ∷ []) × IsPlainOp B f o) ⊎ ((kept_in now ≡ kept_in kept) × (IsPlainOp B f o → ⊥))

  -- what a step leaves that merges the operation, or passes it
  abbrev pub Steps : (ArenaIndex → ℕ) → Forest context_ids W → KeptOps → Bool → Type 0
  Steps hash_of g now true = MergesInto g × (now ≡ kept)
  Steps hash_of g now false = (g ≡ f) × Passes now × IsIndexed hash_of now

  -- some of its results were replaced by those of a kept one that is alike
  pub record ReplacesSome (g : Forest context_ids W) : Type 0 where
    pub earlier : ArenaIndex
    pub is_kept : In earlier (kept_in kept)
    pub alike : Alike B same f earlier o
    pub count : ℕ
    pub replaces : g ≡ redirect_each f (take count (zip (values_given f o) (values_given f earlier)))

  -- what a step leaves that was broken off: nothing was done, or some results were replaced
  abbrev pub BreaksOff : Forest context_ids W → Type 0
  BreaksOff g = (g ≡ f) ⊎ ReplacesSome g
