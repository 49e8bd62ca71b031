-- Tokens and blanks in front of what tokens cover, and pieces of a text by their places.
use Rattle.std.proofs.Common.{◌≡◌, ℕ, ◌+◌, ◌-◌, Bool, true, false, List, [], ◌∷◌, ◌++◌, length, take, drop, refl, sym, ap, ◌∙◌, append_assoc, arith}
use Rattle.std.specs.Prelude.{codes}
use Rattle.std.specs.Str.{bytes_eq}
use Rattle.std.proofs.lemmas.List.{take_at, drop_at, length-append}
use Rattle.ir_text_tokens.specs.declared.byte_class.Class.{Class}
use Rattle.ir_text_tokens.specs.declared.token.Bracket.TheVariants as brackets
use Rattle.ir_text_tokens.specs.declared.token.Mark.TheVariants as marks
use Rattle.ir_text_tokens.specs.declared.token.Kind.{Kind}
use Rattle.ir_text_tokens.specs.declared.token.Kind.TheVariants as kinds
use Rattle.ir_text_tokens.specs.declared.token.Token.{Token}
use Rattle.ir_text_tokens.specs.declared.reader_step.Mode.TheVariants as mode
use Rattle.ir_text_tokens.specs.declared.reader_step.Nesting.TheVariants as nesting
use Rattle.ir_text_tokens.specs.ByteClasses.{class_of_byte, class_ahead, class_of_sign, class_of_mark, blank, digit, hex_letter, escape_letter, other_letter}
use Rattle.ir_text_tokens.specs.ReaderSteps.{go, begin_step}
use Rattle.ir_text_tokens.specs.Readings.{token}
use Rattle.ir_text_tokens.specs.Coverings.{ahead, Completes, IsToken, Skips, is_empty, both, Covers}
use Rattle.ir_text_tokens.specs.Endings.{Calm, completes_calm, word_calm}
use Rattle.ir_text_tree.specs.declared.sort.Sort.{Sort}
use Rattle.ir_text_tree.specs.declared.sort.Sort.TheVariants as s
use Rattle.ir_text_reader.specs.Pieces.{sort_of}

-- ---- pieces of a text by their places

pub piece_there : (out front p o : List ℕ) (at end : ℕ) → out ≡ front ++ (p ++ o) → at ≡ length front → end ≡ at + length p → take (end - at) (drop at out) ≡ p
piece_there out front p o at end e l m =
    let size : end - at ≡ length p = omega (arith, m) in
    let dropped : drop at out ≡ p ++ o = ap (drop at) e ∙ drop_at front (p ++ o) at (sym l) in
    rw (size, dropped) (take_at p o (length p) refl)

pub cut_more : (out front p o : List ℕ) → out ≡ front ++ (p ++ o) → out ≡ (front ++ p) ++ o
cut_more out front p o e = e ∙ sym (append_assoc front p o)

pub length_more : (front p : List ℕ) (at : ℕ) → at ≡ length front → at + length p ≡ length (front ++ p)
length_more front p at l = omega (arith, l, length-append front p)

-- ---- in front of what is covered

none_glued : (behind e : Bool) → both false e ≡ both behind false
none_glued true e = refl
none_glued false e = refl

both_true : (g : Bool) → g ≡ both g true
both_true true = refl
both_true false = refl

-- a byte that is a gap
abbrev pub IsGap : ℕ → Type 0
IsGap b = (n : Class) → begin_step (class_of_byte b) n ≡ go mode.Between

pub gap_covers : (b : ℕ) (at : ℕ) (behind : Bool) (o : List ℕ) (ts : List Token) → IsGap b → Covers (at + 1) false o ts → Covers at behind (b ∷ o) ts
unfolding Covers Skips
gap_covers b at behind o [] gap h = (h.0, h.1, (mode.Between, gap (ahead o (class_ahead [])), tt, h.2))
gap_covers b at behind o (t ∷ ts) gap h =
    let p = h.0 in (
      record { gap = b ∷ p.gap; piece = p.piece; after = p.after; whole = ap (λ (x : List ℕ). b ∷ x) p.whole },
      record {
        blank = (mode.Between, gap (ahead p.gap (class_ahead (p.piece ++ p.after))), tt, h.1.blank);
        start = h.1.start ∙ omega arith;
        end = h.1.end;
        glued = h.1.glued ∙ none_glued behind (is_empty p.gap);
        is_token = h.1.is_token;
      },
      h.2,
    )

pub token_covers : (p : List ℕ) (k : Kind) (at : ℕ) (behind : Bool) (o : List ℕ) (ts : List Token) → IsToken k p (class_ahead o) → Covers (at + length p) true o ts → Covers at behind (p ++ o) (token k behind at (at + length p) ∷ ts)
unfolding Covers Skips
token_covers p k at behind o ts is_token rest =
    let zero : at ≡ at + length {A = ℕ} [] = omega arith in (
      record { gap = []; piece = p; after = o; whole = refl },
      record { blank = refl; start = zero; end = refl; glued = both_true behind; is_token = is_token },
      rest,
    )

-- a token behind a gap
pub link_covers : (gap piece after text : List ℕ) (k : Kind) (at : ℕ) (behind : Bool) (ts : List Token) → text ≡ gap ++ (piece ++ after) → Skips mode.Between gap (class_ahead (piece ++ after)) mode.Between → IsToken k piece (class_ahead after)
    → Covers ((at + length gap) + length piece) true after ts → Covers at behind text (token k (both behind (is_empty gap)) (at + length gap) ((at + length gap) + length piece) ∷ ts)
unfolding Covers
link_covers gap piece after text k at behind ts whole blank is_token rest = (
  record { gap = gap; piece = piece; after = after; whole = whole },
  record { blank = blank; start = refl; end = refl; glued = refl; is_token = is_token },
  rest,
)

-- ---- the bytes that are written

pub blank_gap : IsGap 32
unfolding class_of_byte blank
blank_gap n = refl

pub line_gap : IsGap 10
unfolding class_of_byte blank digit hex_letter escape_letter other_letter
line_gap n = refl

-- the bytes are a token of this sort, whatever follows
pub record Written (x : Sort) (p : List ℕ) : Type 0 where
  pub kind : Kind
  pub is_token : (n : Class) → IsToken kind p n
  pub sort : sort_of kind (bytes_eq p (codes "loc")) ≡ x

pub comma : Written s.Comma (44 ∷ [])
unfolding Completes class_of_byte class_of_sign class_of_mark blank digit hex_letter escape_letter other_letter
comma = record { kind = kinds.Mark marks.Comma; is_token = λ n. refl; sort = refl }

pub colon : Written s.Colon (58 ∷ [])
unfolding Completes class_of_byte class_of_sign class_of_mark blank digit hex_letter escape_letter other_letter
colon = record { kind = kinds.Mark marks.Colon; is_token = λ n. refl; sort = refl }

pub equals : Written s.Equals (61 ∷ [])
unfolding Completes class_of_byte class_of_sign class_of_mark blank digit hex_letter escape_letter other_letter
equals = record { kind = kinds.Mark marks.Equals; is_token = λ n. refl; sort = refl }

pub open_round : Written s.OpenRound (40 ∷ [])
unfolding Completes class_of_byte class_of_sign class_of_mark blank digit hex_letter escape_letter other_letter
open_round = record { kind = kinds.Mark (marks.Open brackets.Round); is_token = λ n. refl; sort = refl }

pub close_round : Written s.CloseRound (41 ∷ [])
unfolding Completes class_of_byte class_of_sign class_of_mark blank digit hex_letter escape_letter other_letter
close_round = record { kind = kinds.Mark (marks.Close brackets.Round); is_token = λ n. refl; sort = refl }

pub open_square : Written s.OpenSquare (91 ∷ [])
unfolding Completes class_of_byte class_of_sign class_of_mark blank digit hex_letter escape_letter other_letter
open_square = record { kind = kinds.Mark (marks.Open brackets.Square); is_token = λ n. refl; sort = refl }

pub close_square : Written s.CloseSquare (93 ∷ [])
unfolding Completes class_of_byte class_of_sign class_of_mark blank digit hex_letter escape_letter other_letter
close_square = record { kind = kinds.Mark (marks.Close brackets.Square); is_token = λ n. refl; sort = refl }

pub open_curly : Written s.OpenCurly (123 ∷ [])
unfolding Completes class_of_byte class_of_sign class_of_mark blank digit hex_letter escape_letter other_letter
open_curly = record { kind = kinds.Mark (marks.Open brackets.Curly); is_token = λ n. refl; sort = refl }

pub close_curly : Written s.CloseCurly (125 ∷ [])
unfolding Completes class_of_byte class_of_sign class_of_mark blank digit hex_letter escape_letter other_letter
close_curly = record { kind = kinds.Mark (marks.Close brackets.Curly); is_token = λ n. refl; sort = refl }

pub arrow : Written s.Arrow (45 ∷ 62 ∷ [])
unfolding Completes class_of_byte class_of_sign class_of_mark blank digit hex_letter escape_letter other_letter
arrow = record { kind = kinds.Arrow; is_token = λ n. (mode.Arrow, nesting.Kept, refl, tt, refl); sort = refl }

-- the word `loc`
pub loc_token : (n : Class) → Calm n → IsToken kinds.Word (codes "loc") n
unfolding Completes class_of_byte class_of_sign class_of_mark blank digit hex_letter escape_letter other_letter
loc_token n h = (mode.Word, nesting.Kept, refl, tt, (mode.Word, nesting.Kept, refl, tt, word_calm n h))

-- ---- what may follow any token

pub comma_calm : Calm (class_of_byte 44)
unfolding Calm class_of_byte class_of_sign class_of_mark blank digit hex_letter escape_letter other_letter
comma_calm = tt

pub colon_calm : Calm (class_of_byte 58)
unfolding Calm class_of_byte class_of_sign class_of_mark blank digit hex_letter escape_letter other_letter
colon_calm = tt

pub open_round_calm : Calm (class_of_byte 40)
unfolding Calm class_of_byte class_of_sign class_of_mark blank digit hex_letter escape_letter other_letter
open_round_calm = tt

pub close_round_calm : Calm (class_of_byte 41)
unfolding Calm class_of_byte class_of_sign class_of_mark blank digit hex_letter escape_letter other_letter
close_round_calm = tt

pub close_square_calm : Calm (class_of_byte 93)
unfolding Calm class_of_byte class_of_sign class_of_mark blank digit hex_letter escape_letter other_letter
close_square_calm = tt

pub close_curly_calm : Calm (class_of_byte 125)
unfolding Calm class_of_byte class_of_sign class_of_mark blank digit hex_letter escape_letter other_letter
close_curly_calm = tt

pub space_calm : Calm (class_of_byte 32)
unfolding Calm class_of_byte class_of_sign class_of_mark blank digit hex_letter escape_letter other_letter
space_calm = tt

pub line_calm : Calm (class_of_byte 10)
unfolding Calm class_of_byte class_of_sign class_of_mark blank digit hex_letter escape_letter other_letter
line_calm = tt

pub token_calm : (p : List ℕ) (k : Kind) (n n' : Class) → Calm n' → IsToken k p n → IsToken k p n'
token_calm p k n n' h l = completes_calm p mode.Between [] k n n' h l

pub ahead_calm : (p after : List ℕ) (k : Kind) (n n' : Class) → Calm n' → IsToken k p (ahead after n) → IsToken k p (ahead after n')
ahead_calm p [] k n n' h l = token_calm p k n n' h l
ahead_calm p (b ∷ after) k n n' h l = l
