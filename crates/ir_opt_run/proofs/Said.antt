-- Trees read of texts, and what they describe.
use Rattle.std.proofs.Common.{◌≡◌, ◌<◌, ℕ, Bool, List, length, Option, OnOk, Result, Ok, Err, subst}
use Rattle.ir_model.specs.declared.ids.ArenaIndex.{ArenaIndex}
use Rattle.ir_model.specs.ContextIds.{context_ids}
use Rattle.ir_model.specs.Forest.{Dialect, Forest}
use Rattle.ir_text_tree.specs.declared.row.Row.{Row}
use Rattle.ir_text_tree.specs.Trees.{Body, tree_rows}
use Rattle.ir_text_names.specs.Blocks.{IsBlockNamed}
use Rattle.ir_text_names.specs.Values.{IsValueNamed}
use Rattle.ir_text_names.specs.Firsts.{HasNone}
use Rattle.ir_text_names.specs.Resolved.{IsWrong}
use Rattle.ir_text_run.specs.Respellings.{IsTreeOf}
use Rattle.ir_text_described.specs.Words.{Words}
use Rattle.ir_text_described.specs.Described.{IsDescribedBy}
use Rattle.ir_opt_run.specs.Modules.{IsReadAs, Says}

-- what was read of a text without a fault
pub read_as : (text : List ℕ) (rows : List Row) (blocks values : ℕ → Option ℕ) (b : Body) → IsTreeOf text b → rows ≡ tree_rows b → HasNone (IsWrong text rows) (length rows)
    → ((u : ℕ) → u < length rows → IsBlockNamed text rows u (blocks u)) → ((u : ℕ) → u < length rows → IsValueNamed text rows u (values u)) → IsReadAs text rows blocks values
read_as text rows blocks values b is has none named valued = record { tree = b; is_right = (is, subst (λ (rs : List Row). HasNone (IsWrong text rs) (length rs)) has none); has_rows = has; blocks = named; values = valued }

-- what was read says what it describes
pub said : {W : Dialect} (f : Forest context_ids W) (words : Words W) (located : Bool) (text : List ℕ) (rows : List Row) (blocks values : ℕ → Option ℕ) (operations : List ArenaIndex) → IsReadAs text rows blocks values
    → IsDescribedBy f words located (record { text = text; rows = rows; block_named = blocks; value_named = values }) operations → Says f words located text operations
said f words located text rows blocks values operations r described =
    let b = r.tree in
    let is = r.has_rows in
    record {
      tree = b;
      is_right = r.is_right;
      block_named = blocks;
      value_named = values;
      blocks = subst (λ (rs : List Row). (u : ℕ) → u < length rs → IsBlockNamed text rs u (blocks u)) is r.blocks;
      values = subst (λ (rs : List Row). (u : ℕ) → u < length rs → IsValueNamed text rs u (values u)) is r.values;
      described = subst (λ (rs : List Row). IsDescribedBy f words located (record { text = text; rows = rs; block_named = blocks; value_named = values }) operations) is described;
    }

-- what follows where nothing went wrong
pub on_ok : {X E : Type 0} {P Q : Type 0} (r : Result X E) → OnOk r P → (P → Q) → OnOk r Q
on_ok (Ok x) p so = so p
on_ok (Err e) p so = tt
