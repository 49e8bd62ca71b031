-- One step of the loop over the tokens of a text.
use Rattle.std.proofs.Common.{◌≡◌, ℕ, ◌≤◌, Bool, List, ◌∷◌, length, Option, Some, None, Result, Ok, Err, IfSome, true, sym, ap, subst, ◌∙◌}
use Rattle.ir_text_tokens.specs.declared.token.Token.{Token}
use Rattle.ir_text_tokens.specs.declared.fault.Fault.{Fault as TokenFault}
use Rattle.ir_text_tokens.specs.declared.fault.Fault.TheVariants as tokens
use Rattle.ir_text_tokens.specs.Readings.{Scan, nothing_before, before, scan_from, IsNext}
use Rattle.ir_text_tokens.specs.Coverings.{IsWithin}
use Rattle.ir_text_tree.specs.declared.row.Row.{Row}
use Rattle.ir_text_tree.specs.declared.sort.Piece.{Piece}
use Rattle.ir_text_tree.specs.declared.text_step.Bracket.{Bracket}
use Rattle.ir_text_tree.specs.declared.parsing.State.{State}
use Rattle.ir_text_tree.specs.declared.fault.Fault.{Fault as TreeFault}
use Rattle.ir_text_tree.specs.declared.fault.Fault.TheVariants as tree
use Rattle.ir_text_tree.specs.Parsings.{behind_rows, parsing_from, misplaced, misplaced_from, IsReadOn}
use Rattle.ir_text_reader.specs.declared.fault.Fault.{Fault}
use Rattle.ir_text_reader.specs.declared.parsing.Tree.{Tree}
use Rattle.ir_text_reader.specs.Faults.{of_tokens, of_tree}
use Rattle.ir_text_reader.specs.Pieces.{piece, pieces}
use Rattle.ir_text_reader.specs.Texts.{rows_or_fault, earlier_fault, IsTree}

-- what is read from a state on, behind these rows
abbrev pub read_on : ℕ → List Row → State → List Bracket → List Piece → Option TokenFault → Result (List Row) Fault
read_on end front st bs xs None = rows_or_fault (behind_rows front (parsing_from end st bs xs))
read_on end front st bs xs (Some f) = Err (earlier_fault (misplaced_from st bs xs) f)

-- the same of what is scanned
abbrev pub scan_read : List ℕ → List Row → State → List Bracket → Scan → Result (List Row) Fault
scan_read text front st bs s = read_on (length text) front st bs (pieces text s.tokens) s.fault

one_more : (end : ℕ) (front out : List Row) (bs cs : List Bracket) (st to : State) (x : Piece) (xs : List Piece) (o : Option TokenFault) → IsReadOn front bs st x out cs (Ok to) → read_on end front st bs (x ∷ xs) o ≡ read_on end out to cs xs o
one_more end front out bs cs st to x xs None reads = ap rows_or_fault (reads end xs).0
one_more end front out bs cs st to x xs (Some f) reads = ap (λ (m : Option TreeFault). Err (earlier_fault m f)) (reads end xs).1

-- a token was read
pub loop_goes_on : (text : List ℕ) (front out : List Row) (bs cs : List Bracket) (st to : State) (t : Token) (here later : Scan) (total : Result (List Row) Fault) (x : Piece) → here ≡ before t later → x ≡ piece text t → IsReadOn front bs st x out cs (Ok to)
    → scan_read text front st bs here ≡ total → scan_read text out to cs later ≡ total
loop_goes_on text front out bs cs st to t here later total x e is reads h =
    sym (one_more (length text) front out bs cs st to (piece text t) (pieces text later.tokens) later.fault (subst (λ (y : Piece). IsReadOn front bs st y out cs (Ok to)) is reads)) ∙ ap (scan_read text front st bs) (sym e) ∙ h

no_more : (end : ℕ) (front : List Row) (bs : List Bracket) (st : State) (x : Piece) (xs : List Piece) (o : Option TokenFault) (e : TreeFault) → ((end : ℕ) (xs : List Piece) → (parsing_from end st bs (x ∷ xs) ≡ Err e) × (misplaced_from st bs (x ∷ xs) ≡ Some e)) → read_on end front st bs (x ∷ xs) o ≡ Err (of_tree e)
no_more end front bs st x xs None e reads = ap (λ (r : Result (List Row) TreeFault). rows_or_fault (behind_rows front r)) (reads end xs).0
no_more end front bs st x xs (Some f) e reads = ap (λ (m : Option TreeFault). Err (earlier_fault m f)) (reads end xs).1

-- a token can't stand where it stands
pub loop_stops : (text : List ℕ) (front out : List Row) (bs cs : List Bracket) (st : State) (t : Token) (here later : Scan) (total : Result (List Row) Fault) (x : Piece) (e : TreeFault) → here ≡ before t later → x ≡ piece text t → IsReadOn front bs st x out cs (Err e)
    → scan_read text front st bs here ≡ total → IsTree {X = Tree} (λ t. t.rows.items) (Err (of_tree e)) total
loop_stops text front out bs cs st t here later total x tree.OutOfMemory e is reads h = tt
loop_stops text front out bs cs st t here later total x (tree.Expected w at) e is reads h =
    sym h ∙ ap (scan_read text front st bs) e ∙ no_more (length text) front bs st (piece text t) (pieces text later.tokens) later.fault (tree.Expected w at)
    (subst (λ (y : Piece). IsReadOn front bs st y out cs (Err (tree.Expected w at))) is reads)

-- what stands here is no token
no_token : (text : List ℕ) (front : List Row) (bs : List Bracket) (st : State) (here : Scan) (total : Result (List Row) Fault) (f : TokenFault) → here ≡ nothing_before (Some f) → scan_read text front st bs here ≡ total → total ≡ Err (of_tokens f)
unfolding misplaced
no_token text front bs st here total f e h = sym h ∙ ap (scan_read text front st bs) e

pub loop_breaks : (text : List ℕ) (front : List Row) (bs : List Bracket) (st : State) (at : ℕ) (behind : Bool) (total : Result (List Row) Fault) (f : TokenFault) → IsNext at behind text (Err f)
    → scan_read text front st bs (scan_from at behind text) ≡ total → IsTree {X = Tree} (λ t. t.rows.items) (Err (of_tokens f)) total
loop_breaks text front bs st at behind total tokens.OutOfMemory e h = tt
loop_breaks text front bs st at behind total tokens.TooLong e h = no_token text front bs st (scan_from at behind text) total tokens.TooLong e h
loop_breaks text front bs st at behind total (tokens.Character p) e h = no_token text front bs st (scan_from at behind text) total (tokens.Character p) e h
loop_breaks text front bs st at behind total (tokens.Escape p) e h = no_token text front bs st (scan_from at behind text) total (tokens.Escape p) e h
loop_breaks text front bs st at behind total (tokens.OpenString p) e h = no_token text front bs st (scan_from at behind text) total (tokens.OpenString p) e h
loop_breaks text front bs st at behind total (tokens.OpenGroup p) e h = no_token text front bs st (scan_from at behind text) total (tokens.OpenGroup p) e h
loop_breaks text front bs st at behind total (tokens.Bracket p) e h = no_token text front bs st (scan_from at behind text) total (tokens.Bracket p) e h

-- ---- what the next token is, by cases

pub next_some : (at : ℕ) (behind : Bool) (text : List ℕ) (o : Option Token) (t : Token) → o ≡ Some t → IsNext at behind text (Ok o) → scan_from at behind text ≡ before t (scan_from t.end true text)
next_some at behind text o t e h = subst (λ (x : Option Token). IsNext at behind text (Ok x)) e h

pub within_some : (text : List ℕ) (o : Option Token) (t : Token) → o ≡ Some t → IfSome o (IsWithin text) → IsWithin text t
within_some text o t e h = subst (λ (x : Option Token). IfSome x (IsWithin text)) e h

pub behind_some : (at : ℕ) (o : Option Token) (t : Token) → o ≡ Some t → IfSome o (λ x. at ≤ x.start) → at ≤ t.start
behind_some at o t e h = subst (λ (x : Option Token). IfSome x (λ y. at ≤ y.start)) e h
