-- Sets of uses that a predicate chose: what it may answer for a use, and that a set is what it answered.
use Rattle.std.specs.Prelude.{◌≡◌, ℕ, Bool, IsTrue, List, Some, length, slice_get}
use Rattle.std.specs.Borrow.{Bor}
use Rattle.std.specs.Fn.{Shared}
use Rattle.ir_model.specs.declared.ids.ArenaIndex.{ArenaIndex}
use Rattle.ir_model.specs.ContextIds.{context_ids}
use Rattle.ir_model.specs.Forest.{Dialect, Forest, Named, Value, a_value, the_block}
use Rattle.ir_model.specs.Redirect.{redirect_uses, retarget_uses}
use Rattle.ir_model.specs.Uses.{IsUse, Use}
use Rattle.ir_core_records.specs.declared.record.UseIndex.{UseIndex}
use Rattle.ir_core_records.specs.Meaning.{use_of}

-- the answer is one that f may give for what it is handed for the use, in a context that is shown
pub record MaySay {F C H : Type 0} (g : Shared F (Bor C × (H × Unit {0})) Bool) (shown : C → Type 0) (is_for : H → Use context_ids → Type 0) (f : F) (u : Use context_ids) (answer : Bool) : Type 0 where
  pub context : Bor C
  pub handle : H
  pub is_shown : shown context.now
  pub is : is_for handle u
  pub says : g.post f (context, (handle, tt)) answer

-- there is one answer for each use, in their order, which may be given for it
pub record AreAnswers (may : Use context_ids → Bool → Type 0) (uses : List UseIndex) (answers : List Bool) : Type 0 where
  pub count : length answers ≡ length uses
  pub each : (k : ℕ) (u : UseIndex) (answer : Bool) → slice_get uses k ≡ Some u → slice_get answers k ≡ Some answer → may (use_of u) answer

-- the set has uses of the definition alone, and whether one of these stands in it is an answer that may be given for it
pub record IsChosenBy {W : Dialect} (f : Forest context_ids W) (d : Named context_ids) (may : Use context_ids → Bool → Type 0) (set : Use context_ids → Bool) : Type 0 where
  pub inside : (u : Use context_ids) → IsTrue (set u) → IsUse f d u
  pub answered : (u : Use context_ids) → IsUse f d u → may u (set u)

module _ {W : Dialect} where
  -- of the uses of a value, those that a predicate chose name another one now, and nothing else has changed
  abbrev pub RedirectsChosen : Forest context_ids W → Forest context_ids W → Value context_ids → Value context_ids → (Use context_ids → Bool → Type 0) → Type 0
  RedirectsChosen old new from to may = (set : Use context_ids → Bool) × IsChosenBy old (a_value from) may set × (new ≡ redirect_uses old set to)

  -- of the uses of a block, those that a predicate chose name another one now, and nothing else has changed
  abbrev pub RetargetsChosen : Forest context_ids W → Forest context_ids W → ArenaIndex → ArenaIndex → (Use context_ids → Bool → Type 0) → Type 0
  RetargetsChosen old new from to may = (set : Use context_ids → Bool) × IsChosenBy old (the_block from) may set × (new ≡ retarget_uses old set to)
