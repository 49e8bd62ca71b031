-- What a rewriter notes beside a change itself.
use Rattle.std.specs.Prelude.{◌≡◌, List, ◌++◌, map}
use Rattle.ir_base_arenas.specs.declared.ptr.Ptr.{Ptr}
use Rattle.ir_core_records.specs.declared.record.Operation.{Operation}
use Rattle.ir_rewrite.specs.declared.rewriter.Change.{Change}
use Rattle.ir_rewrite.specs.declared.rewriter.Change.TheVariants.{Touched}

module _ {D A K B S X L : Type 0} where
  -- the second notes are the first, and behind them that some operations were touched
  abbrev pub AddsTouched : List (Change D A K B S X L) → List (Change D A K B S X L) → Type 0
  AddsTouched old new = (touched : List (Ptr (Operation D A K B S X L))) × (new ≡ old ++ map (λ p. Touched p) touched)
