-- What one text says of two forests.
use Rattle.std.specs.Prelude.{ℕ, Bool, List}
use Rattle.ir_model.specs.declared.ids.ArenaIndex.{ArenaIndex}
use Rattle.ir_model.specs.ContextIds.{context_ids}
use Rattle.ir_model.specs.Forest.{Dialect, Forest}
use Rattle.ir_text_described.specs.Words.{Words}
use Rattle.ir_text_described.specs.Alike.{AreAlike}
use Rattle.ir_opt_run.specs.Modules.{Says}

module _ (W V : Dialect) where
  -- what one text says of two forests is alike in all but ids and numbers
  abbrev pub SaidAlike : Type 0
  SaidAlike = (f : Forest context_ids W) (g : Forest context_ids V) (words : Words W) (words' : Words V) (located : Bool) (text : List ℕ) (operations operations' : List ArenaIndex)
      → Says f words located text operations → Says g words' located text operations' → AreAlike f g operations operations' words words' located
