-- What reading a text returned, by cases.
use Rattle.std.proofs.Common.{◌≡◌, ◌≢◌, ◌↔◌, ◌<◌, ◌≤◌, ℕ, false, List, [], ◌∷◌, length, Option, Some, None, Result, Ok, Err, IfOk, IfErr, sym, ap, subst, ◌∙◌, arith}
use Rattle.ir_text_tokens.specs.declared.token.Token.{Token}
use Rattle.ir_text_tokens.specs.declared.fault.Fault.{Fault as TokenFault}
use Rattle.ir_text_tokens.specs.Readings.{scan_of, all_or_fault, read_of}
use Rattle.ir_text_tokens.specs.Coverings.{Covers, GoForward as TokensGoForward}
use Rattle.ir_text_tree.specs.declared.row.Row.{Row}
use Rattle.ir_text_tree.specs.declared.sort.Piece.{Piece}
use Rattle.ir_text_tree.specs.declared.fault.Fault.{Fault as TreeFault}
use Rattle.ir_text_tree.specs.Parsings.{rows_read}
use Rattle.ir_text_tree.specs.Rows.{GoForward, piece_spans, row_spans}
use Rattle.ir_text_tree.specs.Trees.{Body, IsWholeText, Spells, tree_rows}
use Rattle.ir_text_reader.specs.declared.fault.Fault.{Fault}
use Rattle.ir_text_reader.specs.declared.fault.Fault.TheVariants as faults
use Rattle.ir_text_reader.specs.declared.parsing.Tree.{Tree}
use Rattle.ir_text_reader.specs.Pieces.{pieces}
use Rattle.ir_text_reader.specs.Texts.{SpellsTree, rows_or_fault, tokens_read, text_read, IsTree}

-- ---- what the crates below promise

abbrev pub ScanIsRead : Type 0
ScanIsRead = (text : List ℕ) → read_of text ≡ all_or_fault (scan_of text).tokens (scan_of text).fault

abbrev pub ReadCovers : Type 0
ReadCovers = (text : List ℕ) (ts : List Token) → read_of text ≡ Ok ts → Covers 0 false text ts

abbrev pub CoversRead : Type 0
CoversRead = (ts : List Token) (text : List ℕ) → Covers 0 false text ts → read_of text ≡ Ok ts

abbrev pub ParsedIsTree : Type 0
ParsedIsTree = (end : ℕ) (xs : List Piece) (rows : List Row) → rows_read end xs ≡ Ok rows → (b : Body) × IsWholeText b × Spells xs b

abbrev pub TreeIsParsed : Type 0
TreeIsParsed = (end : ℕ) (xs : List Piece) (b : Body) → IsWholeText b → Spells xs b → rows_read end xs ≡ Ok (tree_rows b)

abbrev pub TokensAreOrdered : Type 0
TokensAreOrdered = (ts : List Token) (text : List ℕ) → Covers 0 false text ts → TokensGoForward (length text) 0 ts

abbrev pub RowsAreOrdered : Type 0
RowsAreOrdered = (end : ℕ) (xs : List Piece) (rows : List Row) → rows_read end xs ≡ Ok rows → GoForward end 0 (piece_spans xs) → GoForward end 0 (row_spans rows)

-- ----

abbrev fine : List Row → Result (List Row) TreeFault
fine out = Ok out

same : (a b : List Row) → fine a ≡ fine b → a ≡ b
same a b e = cc

unwrapped : (r : Result (List Row) TreeFault) (rows : List Row) → rows_or_fault r ≡ Ok rows → r ≡ Ok rows
unwrapped (Ok out) rows e = cc
unwrapped (Err e) rows h = absurd cc

found_of : ReadCovers → ParsedIsTree → TreeIsParsed → (text : List ℕ) (ts : List Token) (o : Option TokenFault) (rows : List Row) → read_of text ≡ all_or_fault ts o → tokens_read (length text) (pieces text ts) o ≡ Ok rows
    → (b : Body) × IsWholeText b × SpellsTree text b × (rows ≡ tree_rows b)
found_of covers found parsed text ts (Some f) rows e h = absurd cc
found_of covers found parsed text ts None rows e h =
    let read = unwrapped (rows_read (length text) (pieces text ts)) rows h in
    let t = found (length text) (pieces text ts) rows read in
    (t.0, t.1, (ts, covers text ts e, t.2), same rows (tree_rows t.0) (sym read ∙ parsed (length text) (pieces text ts) t.0 t.1 t.2))

pub is_found : ScanIsRead → ReadCovers → ParsedIsTree → TreeIsParsed → (text : List ℕ) (r : Result Tree Fault) → IsTree (λ t. t.rows.items) r (text_read text)
    → IfOk r (λ t. (b : Body) × IsWholeText b × SpellsTree text b × (t.rows.items ≡ tree_rows b))
is_found scan covers found parsed text (Ok t) given = found_of covers found parsed text (scan_of text).tokens (scan_of text).fault t.rows.items (scan text) given
is_found scan covers found parsed text (Err e) given = tt

pieces_ordered : (text : List ℕ) (ts : List Token) (end at : ℕ) → TokensGoForward end at ts → GoForward end at (piece_spans (pieces text ts))
unfolding TokensGoForward GoForward
pieces_ordered text [] end at h = h
pieces_ordered text (t ∷ ts) end at h = (h.0, h.1, pieces_ordered text ts end t.end h.2)

ordered_of : ReadCovers → TokensAreOrdered → RowsAreOrdered → (text : List ℕ) (ts : List Token) (o : Option TokenFault) (rows : List Row) → read_of text ≡ all_or_fault ts o → tokens_read (length text) (pieces text ts) o ≡ Ok rows
    → GoForward (length text) 0 (row_spans rows)
ordered_of covers tokens ordered text ts (Some f) rows e h = absurd cc
ordered_of covers tokens ordered text ts None rows e h =
    ordered (length text) (pieces text ts) rows (unwrapped (rows_read (length text) (pieces text ts)) rows h) (pieces_ordered text ts (length text) 0 (tokens ts text (covers text ts e)))

pub is_in_order : ScanIsRead → ReadCovers → TokensAreOrdered → RowsAreOrdered → (text : List ℕ) (r : Result Tree Fault) → IsTree (λ t. t.rows.items) r (text_read text) → IfOk r (λ t. GoForward (length text) 0 (row_spans t.rows.items))
is_in_order scan covers tokens ordered text (Ok t) given = ordered_of covers tokens ordered text (scan_of text).tokens (scan_of text).fault t.rows.items (scan text) given
is_in_order scan covers tokens ordered text (Err e) given = tt

tokens_are : (text : List ℕ) (ts us : List Token) (o : Option TokenFault) (end : ℕ) → all_or_fault us o ≡ Ok ts → tokens_read end (pieces text us) o ≡ rows_or_fault (rows_read end (pieces text ts))
tokens_are text ts us None end e = ap (λ (r : Result (List Token) TokenFault). elim r [ Ok vs ↦ rows_or_fault (rows_read end (pieces text vs)) | Err f ↦ rows_or_fault (rows_read end (pieces text us)) ]) e
tokens_are text ts us (Some f) end e = absurd cc

pub is_only : ScanIsRead → CoversRead → TreeIsParsed → (text : List ℕ) (r : Result Tree Fault) → IsTree (λ t. t.rows.items) r (text_read text) → (b : Body) → IsWholeText b → SpellsTree text b → IsTree (λ t. t.rows.items) r (Ok (tree_rows b))
is_only scan read parsed text r given b whole spells =
    let ts = spells.0 in
    let all : all_or_fault (scan_of text).tokens (scan_of text).fault ≡ Ok ts = sym (scan text) ∙ read ts text spells.1 in
    let rows : text_read text ≡ Ok (tree_rows b) = tokens_are text ts (scan_of text).tokens (scan_of text).fault (length text) all ∙ ap rows_or_fault (parsed (length text) (pieces text ts) b whole spells.2) in
    subst (λ (x : Result (List Row) Fault). IsTree {X = Tree} (λ t. t.rows.items) r x) rows given

-- a text that isn't too long isn't said to be
wrapped : Fault → Result Tree Fault
wrapped f = Err f

err_same : (f g : Fault) → wrapped f ≡ wrapped g → f ≡ g
unfolding wrapped
err_same f g e = cc

pub is_too_long : (text : List ℕ) (r : Result Tree Fault) → length text ≤ 4294967295 → IfErr r (λ e. e ≢ faults.TooLong) → (r ≡ Err faults.TooLong) ↔ (4294967295 < length text)
unfolding wrapped
is_too_long text (Ok t) le short = (λ e. absurd cc, λ lt. absurd (omega (arith, le, lt)))
is_too_long text (Err f) le short = (λ e. absurd (short (err_same f faults.TooLong e)), λ lt. absurd (omega (arith, le, lt)))
