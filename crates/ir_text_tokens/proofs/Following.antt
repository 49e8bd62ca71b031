-- The tokens that are read of a text have a spelling, in which they are read again.
use Rattle.std.proofs.Common.{◌≡◌, ℕ, ◌-◌, Bool, true, false, List, [], ◌∷◌, ◌++◌, length, drop, refl, sym, ap, subst, ◌∙◌, append_assoc, arith}
use Rattle.std.proofs.lemmas.List.{take_at, drop_at, length-append}
use Rattle.ir_text_tokens.specs.declared.byte_class.Class.{Class}
use Rattle.ir_text_tokens.specs.declared.token.Kind.{Kind}
use Rattle.ir_text_tokens.specs.declared.token.Token.{Token}
use Rattle.ir_text_tokens.specs.declared.reader_step.Mode.TheVariants as mode
use Rattle.ir_text_tokens.specs.ByteClasses.{class_ahead, blank}
use Rattle.ir_text_tokens.specs.Endings.{completes_calm, other_calm, blank_calm, first_same}
use Rattle.ir_text_tokens.specs.Coverings.{IsToken, Skips, is_empty, both, Parts, StandsAt, Covers, lexeme, lexemes, space, spelling, HaveSpelling}

-- ---- the token before

-- what follows in the text, and in the spelling
follows : (gap piece rest after more before : List ℕ) (kind k : Kind) (g : Bool) → after ≡ gap ++ (piece ++ rest) → Skips mode.Between gap (class_ahead (piece ++ rest)) mode.Between → g ≡ is_empty gap
    → IsToken k piece (class_ahead rest) → IsToken kind before (class_ahead after) → IsToken kind before (class_ahead (space g ++ (piece ++ more)))
follows [] piece rest after more before kind k g whole blank glued behind token =
    let same_class : class_ahead after ≡ class_ahead (piece ++ more) = ap class_ahead whole ∙ first_same piece rest more mode.Between [] k (class_ahead rest) behind in
    subst (λ (b : Bool). IsToken kind before (class_ahead (space b ++ (piece ++ more)))) (sym glued) (subst (λ (n : Class). IsToken kind before n) same_class token)
follows (b ∷ gap) piece rest after more before kind k g whole blank glued behind token =
    subst (λ (c : Bool). IsToken kind before (class_ahead (space c ++ (piece ++ more)))) (sym glued) (completes_calm before mode.Between [] kind (class_ahead after) (class_ahead (32 ∷ (piece ++ more))) (blank_calm (piece ++ more)) token)

both_again : (g e : Bool) → both g (both g e) ≡ both g e
both_again true e = refl
both_again false e = refl

-- the piece that a token's span names
piece_is : (front : List ℕ) (at : ℕ) (behind : Bool) (rest text : List ℕ) (t : Token) (p : Parts rest) → text ≡ front ++ rest → at ≡ length front → StandsAt mode.Between at behind rest p t → (lexeme text t).text ≡ p.piece
piece_is front at behind rest text t p e l h =
    let before = front ++ p.gap in
    let cut : text ≡ before ++ (p.piece ++ p.after) = e ∙ ap (λ (x : List ℕ). front ++ x) p.whole ∙ sym (append_assoc front p.gap (p.piece ++ p.after)) in
    let long : length before ≡ t.start = omega (arith, length-append front p.gap, h.start) in
    let size : t.end - t.start ≡ length p.piece = omega (arith, h.end) in
    let dropped : drop t.start text ≡ p.piece ++ p.after = ap (drop t.start) cut ∙ drop_at before (p.piece ++ p.after) t.start long in
    rw (size, dropped) (take_at p.piece p.after (length p.piece) refl)

next_token : (ts : List Token) (kind : Kind) (before front : List ℕ) (at : ℕ) (after text : List ℕ) → text ≡ front ++ after → at ≡ length front → Covers at true after ts → IsToken kind before (class_ahead after)
    → IsToken kind before (class_ahead (spelling (lexemes text ts)))
unfolding Covers
next_token [] kind before front at after text e l h token = completes_calm before mode.Between [] kind (class_ahead after) (class_ahead []) other_calm token
next_token (t ∷ ts) kind before front at after text e l h token =
    subst (λ (x : List ℕ). IsToken kind before (class_ahead (space t.glued ++ (x ++ spelling (lexemes text ts))))) (sym (piece_is front at true after text t h.0 e l h.1))
    (follows h.0.gap h.0.piece h.0.after after (spelling (lexemes text ts)) before kind t.kind t.glued h.0.whole h.1.blank h.1.glued h.1.is_token token)

pub covers_fits : (ts : List Token) (front : List ℕ) (at : ℕ) (behind : Bool) (rest text : List ℕ) → text ≡ front ++ rest → at ≡ length front → Covers at behind rest ts → HaveSpelling behind (lexemes text ts)
unfolding Covers
covers_fits [] front at behind rest text e l h = tt
covers_fits (t ∷ ts) front at behind rest text e l h =
    let p = h.0 in
    let before = front ++ p.gap in
    let cut : text ≡ (before ++ p.piece) ++ p.after = e ∙ ap (λ (x : List ℕ). front ++ x) p.whole ∙ sym (append_assoc front p.gap (p.piece ++ p.after)) ∙ sym (append_assoc before p.piece p.after) in
    let end : t.end ≡ length (before ++ p.piece) = omega (arith, length-append front p.gap, length-append before p.piece, h.1.start, h.1.end) in
    let glued : both behind t.glued ≡ t.glued = ap (both behind) h.1.glued ∙ both_again behind (is_empty p.gap) ∙ sym h.1.glued in
    let token = next_token ts t.kind p.piece (before ++ p.piece) t.end p.after text cut end h.2 h.1.is_token in
    (glued, subst (λ (x : List ℕ). IsToken t.kind x (class_ahead (spelling (lexemes text ts)))) (sym (piece_is front at behind rest text t p e l h.1)) token, covers_fits ts (before ++ p.piece) t.end true p.after text cut end h.2)
