-- What parsing returned, by cases.
use Rattle.std.proofs.Common.{◌≡◌, ℕ, List, Result, Ok, Err, sym, subst, ◌∙◌, IfOk}
use Rattle.std.specs.Global.{Vec}
use Rattle.ir_text_tree.specs.declared.row.Row.{Row}
use Rattle.ir_text_tree.specs.declared.sort.Piece.{Piece}
use Rattle.ir_text_tree.specs.declared.fault.Fault.{Fault}
use Rattle.ir_text_tree.specs.Parsings.{IsParsing, rows_read}
use Rattle.ir_text_tree.specs.Trees.{Body, IsWholeText, Spells, tree_rows}
use Rattle.ir_text_tree.proofs.TreesRead.{tree_read}
use Rattle.ir_text_tree.proofs.TreesFound.{tree_found}

abbrev fine : List Row → Result (List Row) Fault
fine out = Ok out

same : (a b : List Row) → fine a ≡ fine b → a ≡ b
same a b e = cc

pub is_found : (end : ℕ) (xs : List Piece) (r : Result (Vec Row) Fault) → IsParsing (λ v. v.items) r (rows_read end xs) → IfOk r (λ v. (b : Body) × IsWholeText b × Spells xs b × (v.items ≡ tree_rows b))
is_found end xs (Ok v) given =
    let t = tree_found end xs v.items given in
    (t.0, t.1, t.2, same v.items (tree_rows t.0) (sym given ∙ tree_read end xs t.0 t.1 t.2))
is_found end xs (Err e) given = tt

pub is_only : (end : ℕ) (xs : List Piece) (r : Result (Vec Row) Fault) → IsParsing (λ v. v.items) r (rows_read end xs) → (b : Body) → IsWholeText b → Spells xs b → IsParsing (λ v. v.items) r (Ok (tree_rows b))
is_only end xs r given b whole h = subst (λ (x : Result (List Row) Fault). IsParsing {X = Vec Row} (λ v. v.items) r x) (tree_read end xs b whole h) given

pub one_tree : (xs : List Piece) (b c : Body) → IsWholeText b → IsWholeText c → Spells xs b → Spells xs c → tree_rows b ≡ tree_rows c
one_tree xs b c w v h k = same (tree_rows b) (tree_rows c) (sym (tree_read 0 xs b w h) ∙ tree_read 0 xs c v k)
