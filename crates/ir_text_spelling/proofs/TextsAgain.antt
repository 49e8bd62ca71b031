-- The text of a tree that was read of a text is read as the same tree.
use Rattle.std.proofs.Common.{◌≡◌, ℕ, zero, false, List, [], ◌∷◌, ◌++◌, length, Option, Some, None, Result, Ok, refl, sym, ap, ◌∙◌}
use Rattle.ir_text_tree.specs.declared.row.Part.{Part}
use Rattle.ir_text_tree.specs.declared.row.Row.{Row}
use Rattle.ir_text_tree.specs.declared.sort.Piece.{Piece}
use Rattle.ir_text_tree.specs.declared.fault.Fault.{Fault}
use Rattle.ir_text_tree.specs.Parsings.{rows_read}
use Rattle.ir_text_tree.specs.Rows.{span}
use Rattle.ir_text_tree.specs.Trees.{Body, IsWholeText, Spells, body_then, tree_rows}
use Rattle.ir_text_reader.specs.Pieces.{pieces}
use Rattle.ir_text_reader.specs.Texts.{SpellsTree}
use Rattle.ir_text_spelling.specs.Spellings.{piece, spelled, row_texts}
use Rattle.ir_text_spelling.specs.Marks.{depth_behind, before, ending}
use Rattle.ir_text_spelling.specs.TreeTexts.{tree_text}
use Rattle.ir_text_spelling.specs.RoundTrips.{SpellsAgain}
use Rattle.ir_text_spelling.proofs.Sources.{Source}
use Rattle.ir_text_spelling.proofs.TreesAgain.{whole_told}
use Rattle.ir_text_spelling.proofs.TreesSpelled.{rows_are_tree}

-- ---- what the crate below promises

abbrev pub ParsedIsTree : Type 0
ParsedIsTree = (end : ℕ) (xs : List Piece) (rows : List Row) → rows_read end xs ≡ Ok rows → (b : Body) × IsWholeText b × Spells xs b

abbrev pub TreeIsParsed : Type 0
TreeIsParsed = (end : ℕ) (xs : List Piece) (b : Body) → IsWholeText b → Spells xs b → rows_read end xs ≡ Ok (tree_rows b)

-- ----

abbrev fine : List Row → Result (List Row) Fault
fine out = Ok out

same : (a b : List Row) → fine a ≡ fine b → a ≡ b
same a b e = cc

-- the text of rows rests on their parts and pieces alone
texts_spelled : ℕ → Option Part → List (Part × List ℕ) → List ℕ
texts_spelled d last [] = ending last
texts_spelled d last (x ∷ xs) = before d last x.0 ++ (x.1 ++ texts_spelled (depth_behind x.0 d) (Some x.0) xs)

spelled_is : (text : List ℕ) (d : ℕ) (last : Option Part) (rows : List Row) → spelled text d last rows ≡ texts_spelled d last (row_texts text rows)
unfolding spelled texts_spelled
spelled_is text d last [] = refl
spelled_is text d last (r ∷ rows) = ap (λ (o : List ℕ). before d last r.part ++ (piece text r.span ++ o)) (spelled_is text (depth_behind r.part d) (Some r.part) rows)

alike : (text out : List ℕ) (b c : Body) → row_texts out (tree_rows c) ≡ row_texts text (tree_rows b) → tree_text out c ≡ tree_text text b
alike text out b c e =
    sym (rows_are_tree out (tree_rows c) c refl) ∙ spelled_is out zero None (tree_rows c) ∙ ap (texts_spelled zero None) e ∙ sym (spelled_is text zero None (tree_rows b)) ∙ rows_are_tree text (tree_rows b) b refl

pub spelled_again : ParsedIsTree → TreeIsParsed → (text : List ℕ) (b : Body) → IsWholeText b → SpellsTree text b → SpellsAgain (tree_text text b) text b
spelled_again found parsed text b whole spells =
    let out = tree_text text b in
    let source : Source text (body_then b []) = record { front = []; rest = text; behind = false; tokens = spells.0; whole = refl; covers = spells.1; match = spells.2 } in
    let y = (whole_told text b whole source).told out [] 0 false (length out) [] (span 0 0) refl refl in
    let t = found (length out) (pieces out y.tokens) y.rows y.parsed in
    let rows_are : y.rows ≡ tree_rows t.0 = same y.rows (tree_rows t.0) (sym y.parsed ∙ parsed (length out) (pieces out y.tokens) t.0 t.1 t.2) in
    let texts : row_texts out (tree_rows t.0) ≡ row_texts text (tree_rows b) = ap (row_texts out) (sym rows_are) ∙ y.texts in
    (t.0, t.1, (y.tokens, y.covers, t.2), texts, alike text out b t.0 texts)
