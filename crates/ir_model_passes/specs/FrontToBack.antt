-- One way through a block, from its front to its end, that merges each operation into an alike one that it kept.
use Rattle.std.specs.Prelude.{◌≡◌, ℕ, zero, suc, List, [], ◌∷◌, ◌++◌}
use Rattle.ir_model.specs.Ids.{Ids}
use Rattle.ir_model.specs.Forest.{Dialect, Behaviour, Forest}
use Rattle.ir_model.specs.Nesting.{In}
use Rattle.ir_model_passes.specs.Meaning.{SameAttributes}
use Rattle.ir_model_passes.specs.Merging.{Alike, MergesOne}

module _ {N : Ids} {W : Dialect} (B : Behaviour W) (same : SameAttributes W) (b : N.Block) where
  -- from the one forest, with these operations kept and those still to be visited, the way ends in the other one, with so many more merged
  pub data FrontToBack : Forest N W → List N.Op → List N.Op → Forest N W → ℕ → Type 0 where
    at_end : {f : Forest N W} {kept : List N.Op} → FrontToBack f kept [] f zero
    -- no kept one is alike: it is kept
    keeps_it : {f g : Forest N W} {kept rest : List N.Op} {n : ℕ} (o : N.Op) → ((k : N.Op) → In k kept → Alike B same f k o → ⊥)
        → FrontToBack f (kept ++ o ∷ []) rest g n → FrontToBack f kept (o ∷ rest) g n
    -- it is merged into a kept one that is alike
    merges_it : {f g h : Forest N W} {kept rest : List N.Op} {n : ℕ} (o : N.Op) (m : MergesOne B same f b g) → m.later ≡ o → In m.earlier kept
        → FrontToBack g kept rest h n → FrontToBack f kept (o ∷ rest) h (suc n)
