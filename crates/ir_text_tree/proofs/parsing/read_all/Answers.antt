use Rattle.std.proofs.Common.{rules, ◌≡◌, ◌+◌, ◌∷◌, List, Err, get_or, drop, reverse, sym, ap, ◌∙◌, arith}
use Rattle.std.proofs.lemmas.List.{drop_more, drop_all}
use Rattle.std.specs.Bool.{⊤}
use Rattle.ir_text_tree.specs.declared.sort.Piece.{Piece}
use Rattle.ir_text_tree.specs.declared.sort.Sort.TheVariants as s
use Rattle.ir_text_tree.specs.Parsings.{behind_rows, parsing_from, rows_read}
use Rattle.ir_text_tree.specs.Rows.{span}
use Rattle.ir_text_tree.proofs.ParsingSteps.{goes_on, loop_stops, loop_breaks_off}
use Rattle.ir_text_tree.proofs.parsing.read_all.Goals as goal

-- the element past the end
abbrev nothing : Piece
nothing = record { sort = s.Value; span = span 0 0 }

pub returns-in_err-state : goal.returns-in_err-state
returns-in_err-state c =
    let all = c.args.pieces.now in
    let l = c.loop-piece in
    let x = get_or all l.piece-index nothing in
    let rest = drop (l.piece-index + 1) all in
    let cut : drop l.piece-index all ≡ x ∷ rest = drop_more all l.piece-index nothing c.loop-piece-test.true in
    let f = c.in_err-state.field-0.0 in
    let is : c.from_residual.result ≡ Err f = search rules in
    rw is (loop_stops c.args.end l.rows.items c.read_piece.new.rows.items (reverse l.brackets.items) (reverse c.read_piece.new.brackets.items) l.state x (drop l.piece-index all) rest (rows_read c.args.end all) f cut c.in_err-state.ensures.reads l.invariant.reads)

pub loop-piece-preserved : goal.loop-piece-preserved
loop-piece-preserved c =
    let all = c.args.pieces.now in
    let l = c.loop-piece in
    let x = get_or all l.piece-index nothing in
    let rest = drop (l.piece-index + 1) all in
    let cut : drop l.piece-index all ≡ x ∷ rest = drop_more all l.piece-index nothing c.loop-piece-test.true in
    record {
      reads = goes_on c.args.end l.rows.items c.read_piece.new.rows.items (reverse l.brackets.items) (reverse c.read_piece.new.brackets.items) l.state c.in_ok-state.state x (drop l.piece-index all) rest (rows_read c.args.end all) cut c.in_ok-state.ensures.reads l.invariant.reads;
      shallow = omega (arith, c.in_ok-state.ensures.deepens, l.invariant.shallow);
    }

pub returns-in_err-finish : goal.returns-in_err-finish
returns-in_err-finish c =
    let all = c.args.pieces.now in
    let l = c.loop-piece in
    let f = c.in_err-finish.field-0.0 in
    let is : c.from_residual-in_err-finish.result ≡ Err f = search rules in
    rw is (loop_breaks_off ⊤ c.args.end l.rows.items c.finish.new.rows.items (reverse l.brackets.items) l.state (drop l.piece-index all) (rows_read c.args.end all) f (drop_all l.piece-index all c.loop-piece-test.false) c.in_err-finish.ensures.reads l.invariant.reads)

pub returns : goal.returns
returns c =
    let all = c.args.pieces.now in
    let l = c.loop-piece in
    let bs = reverse l.brackets.items in
    sym l.invariant.reads
    ∙ ap (λ (ys : List Piece). behind_rows l.rows.items (parsing_from c.args.end l.state bs ys)) (drop_all l.piece-index all c.loop-piece-test.false)
    ∙ c.in_ok-finish.ensures.reads bs
