-- What the tokens of a text are, by cases on what reading returned.
use Rattle.std.proofs.Common.{◌≡◌, ℕ, ◌+◌, ◌<◌, ◌≤◌, ◌≢◌, ◌↔◌, IfErr, Bool, true, false, List, [], ◌∷◌, ◌++◌, length, take, get_or, Result, Ok, Err, refl, sym, ap, subst, ◌∙◌, append_assoc, arith, IfOk}
use Rattle.std.specs.Global.{Vec}
use Rattle.std.specs.List.{All, AllByRecursion}
use Rattle.std.proofs.lemmas.List.Elements.{All-from_recursion}
use Rattle.std.proofs.lemmas.List.{length-append, append-nil, map_more}
use Rattle.ir_text_tokens.specs.declared.byte_class.Class.{Class}
use Rattle.ir_text_tokens.specs.declared.token.Kind.{Kind}
use Rattle.ir_text_tokens.specs.declared.token.Token.{Token}
use Rattle.ir_text_tokens.specs.declared.fault.Fault.{Fault}
use Rattle.ir_text_tokens.specs.declared.fault.Fault.TheVariants as faults
use Rattle.ir_text_tokens.specs.declared.reader_step.Mode.{Mode}
use Rattle.ir_text_tokens.specs.declared.reader_step.Mode.TheVariants as mode
use Rattle.ir_text_tokens.specs.declared.token.Bracket.{Bracket}
use Rattle.ir_text_tokens.specs.Readings.{IsReading, read_of}
use Rattle.ir_text_tokens.specs.Coverings.{Completes, Covers, GoForward, IsWithin, Lexeme, lexemes, lexeme, one_spelling, space, HaveSpelling, spelling, placed, GivesAgain}
use Rattle.ir_text_tokens.proofs.Respelling.{covers_read, spelling_covers, lexemes_placed}
use Rattle.ir_text_tokens.proofs.Covering.{reading_covers}
use Rattle.ir_text_tokens.proofs.Following.{covers_fits}

pub is_found : (text : List ℕ) (r : Result (Vec Token) Fault) → IsReading (λ v. v.items) r (read_of text) → IfOk r (λ v. Covers 0 false text v.items)
is_found text (Ok v) given = reading_covers text v.items given
is_found text (Err e) given = tt

completes_some : (m : Mode) (s : List Bracket) (k : Kind) (piece : List ℕ) (n : Class) → Completes m s k piece n → 0 < length piece
unfolding Completes
completes_some m s k [] n h = absurd h
completes_some m s k (b ∷ piece) n h = omega arith

pub covers_within : (ts : List Token) (front : List ℕ) (at : ℕ) (behind : Bool) (rest text : List ℕ) → text ≡ front ++ rest → at ≡ length front → Covers at behind rest ts → AllByRecursion (IsWithin text) ts
unfolding Covers
covers_within [] front at behind rest text e l h = tt
covers_within (t ∷ ts) front at behind rest text e l h =
    let p = h.0 in
    let before = front ++ p.gap in
    let cut : text ≡ (before ++ p.piece) ++ p.after = e ∙ ap (λ (x : List ℕ). front ++ x) p.whole ∙ sym (append_assoc front p.gap (p.piece ++ p.after)) ∙ sym (append_assoc before p.piece p.after) in
    let some = completes_some mode.Between [] t.kind p.piece _ h.1.is_token in
    let one : length before ≡ t.start = omega (arith, length-append front p.gap, h.1.start) in
    let two : length (before ++ p.piece) ≡ t.end = omega (arith, length-append before p.piece, h.1.end) in
    let all : length text ≡ length (before ++ p.piece) + length p.after = ap length cut ∙ length-append (before ++ p.piece) p.after in
    let here : IsWithin text t = record { forward = omega (arith, h.1.end); within = omega arith } in
    (here, covers_within ts (before ++ p.piece) t.end true p.after text cut (sym two) h.2)

pub is_within : (text : List ℕ) (r : Result (Vec Token) Fault) → IsReading (λ v. v.items) r (read_of text) → IfOk r (λ v. All (IsWithin text) v.items)
is_within text (Ok v) given = All-from_recursion (IsWithin text) v.items (covers_within v.items [] 0 false text text refl refl (reading_covers text v.items given))
is_within text (Err e) given = tt

pub covers_forward : (ts : List Token) (at end : ℕ) (behind : Bool) (rest : List ℕ) → end ≡ at + length rest → Covers at behind rest ts → GoForward end at ts
unfolding Covers GoForward
covers_forward [] at end behind rest e h = omega (arith, e)
covers_forward (t ∷ ts) at end behind rest e h =
    let p = h.0 in
    let some = completes_some mode.Between [] t.kind p.piece _ h.1.is_token in
    let all : length rest ≡ length p.gap + (length p.piece + length p.after) = ap length p.whole ∙ length-append p.gap (p.piece ++ p.after) ∙ ap (λ (n : ℕ). length p.gap + n) (length-append p.piece p.after) in
    (omega (arith, h.1.start), omega (arith, some, h.1.end), covers_forward ts t.end end true p.after (omega (arith, e, all, h.1.start, h.1.end)) h.2)

pub is_in_order : (text : List ℕ) (r : Result (Vec Token) Fault) → IsReading (λ v. v.items) r (read_of text) → IfOk r (λ v. GoForward (length text) 0 v.items)
is_in_order text (Ok v) given = covers_forward v.items 0 (length text) false text (omega arith) (reading_covers text v.items given)
is_in_order text (Err e) given = tt

pub is_spelled : (text : List ℕ) (r : Result (Vec Token) Fault) → IsReading (λ v. v.items) r (read_of text) → IfOk r (λ v. HaveSpelling false (lexemes text v.items))
is_spelled text (Ok v) given = covers_fits v.items [] 0 false text text refl refl (reading_covers text v.items given)
is_spelled text (Err e) given = tt

pub is_only : (text : List ℕ) (r : Result (Vec Token) Fault) → IsReading (λ v. v.items) r (read_of text) → (ts : List Token) → Covers 0 false text ts → IsReading (λ v. v.items) r (Ok ts)
is_only text r given ts covers = subst (λ (x : Result (List Token) Fault). IsReading {X = Vec Token} (λ v. v.items) r x) (covers_read ts 0 false text covers) given

again_read : (text : List ℕ) (xs : List Lexeme) → HaveSpelling false xs → text ≡ spelling xs → read_of text ≡ Ok (placed 0 xs)
again_read text xs fits e = ap read_of e ∙ covers_read (placed 0 xs) 0 false (spelling xs) (spelling_covers xs 0 false fits)

-- no spelling is refused
refused : (text : List ℕ) (xs : List Lexeme) (f : Fault) → HaveSpelling false xs → text ≡ spelling xs → read_of text ≡ Err f → ⊥
refused text xs f fits e given =
    let read : read_of text ≡ Ok (placed 0 xs) = again_read text xs fits e in
    cc

pub is_again : (text : List ℕ) (r : Result (Vec Token) Fault) → IsReading (λ v. v.items) r (read_of text) → (xs : List Lexeme) → HaveSpelling false xs → text ≡ spelling xs → GivesAgain text r xs
is_again text (Ok v) given xs fits e =
    let read : read_of text ≡ Ok (placed 0 xs) = ap read_of e ∙ covers_read (placed 0 xs) 0 false (spelling xs) (spelling_covers xs 0 false fits) in
    let same : v.items ≡ placed 0 xs = cc in
    ap (lexemes text) same ∙ lexemes_placed xs [] text 0 e refl
is_again text (Err faults.OutOfMemory) given xs fits e = tt
is_again text (Err faults.TooLong) given xs fits e = refused text xs faults.TooLong fits e given
is_again text (Err (faults.Character at)) given xs fits e = refused text xs (faults.Character at) fits e given
is_again text (Err (faults.Escape at)) given xs fits e = refused text xs (faults.Escape at) fits e given
is_again text (Err (faults.OpenString at)) given xs fits e = refused text xs (faults.OpenString at) fits e given
is_again text (Err (faults.OpenGroup at)) given xs fits e = refused text xs (faults.OpenGroup at) fits e given
is_again text (Err (faults.Bracket at)) given xs fits e = refused text xs (faults.Bracket at) fits e given

-- a text that isn't too long isn't said to be
wrapped : Fault → Result (Vec Token) Fault
wrapped f = Err f

err_same : (f g : Fault) → wrapped f ≡ wrapped g → f ≡ g
unfolding wrapped
err_same f g e = cc

pub is_too_long : (text : List ℕ) (r : Result (Vec Token) Fault) → length text ≤ 4294967295 → IfErr r (λ e. e ≢ faults.TooLong) → (r ≡ Err faults.TooLong) ↔ (4294967295 < length text)
unfolding wrapped
is_too_long text (Ok v) le short = (λ e. absurd cc, λ lt. absurd (omega (arith, le, lt)))
is_too_long text (Err f) le short = (λ e. absurd (short (err_same f faults.TooLong e)), λ lt. absurd (omega (arith, le, lt)))

-- ---- spelling, one token after another

pub spelling_push : (xs : List Lexeme) (x : Lexeme) → spelling (xs ++ x ∷ []) ≡ spelling xs ++ one_spelling x
spelling_push [] x = ap (λ (t : List ℕ). space x.glued ++ t) (append-nil x.text)
spelling_push (y ∷ xs) x = ap (λ (t : List ℕ). space y.glued ++ (y.text ++ t)) (spelling_push xs x) ∙ simp append_assoc

pub lexemes_more : (text : List ℕ) (ts : List Token) (i : ℕ) (d : Token) → i < length ts → spelling (lexemes text (take (i + 1) ts)) ≡ spelling (lexemes text (take i ts)) ++ one_spelling (lexeme text (get_or ts i d))
lexemes_more text ts i d lt = ap spelling (map_more (lexeme text) ts i d lt) ∙ spelling_push (lexemes text (take i ts)) (lexeme text (get_or ts i d))
