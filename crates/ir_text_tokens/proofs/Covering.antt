-- What is read is spelled so: the tokens that are read of a text are all of it.
use Rattle.std.proofs.Common.{◌≡◌, ℕ, ◌+◌, Bool, true, false, cond, ◌⊎◌, inl, inr, List, [], ◌∷◌, ◌++◌, length, Option, Some, None, Result, Ok, Err, refl, sym, ap, subst, ◌∙◌, arith}
use Rattle.std.specs.Bool.{⊤}
use Rattle.ir_text_tokens.specs.declared.byte_class.Class.{Class}
use Rattle.ir_text_tokens.specs.declared.byte_class.Class.TheVariants as is
use Rattle.ir_text_tokens.specs.declared.token.Sign.{Sign}
use Rattle.ir_text_tokens.specs.declared.token.Sign.TheVariants as signs
use Rattle.ir_text_tokens.specs.declared.token.Bracket.{Bracket}
use Rattle.ir_text_tokens.specs.declared.token.Bracket.TheVariants as brackets
use Rattle.ir_text_tokens.specs.declared.token.Kind.{Kind}
use Rattle.ir_text_tokens.specs.declared.token.Kind.TheVariants as kinds
use Rattle.ir_text_tokens.specs.declared.fault.Problem.TheVariants as problems
use Rattle.ir_text_tokens.specs.declared.token.Token.{Token}
use Rattle.ir_text_tokens.specs.declared.fault.Fault.{Fault}
use Rattle.ir_text_tokens.specs.declared.reader_step.Around.{Around}
use Rattle.ir_text_tokens.specs.declared.reader_step.Around.TheVariants as around
use Rattle.ir_text_tokens.specs.declared.reader_step.Mode.{Mode}
use Rattle.ir_text_tokens.specs.declared.reader_step.Mode.TheVariants as mode
use Rattle.ir_text_tokens.specs.declared.reader_step.Nesting.{Nesting}
use Rattle.ir_text_tokens.specs.declared.reader_step.Nesting.TheVariants as nesting
use Rattle.ir_text_tokens.specs.declared.reader_step.Step.{Step}
use Rattle.ir_text_tokens.specs.declared.reader_step.Step.TheVariants.{Go, Emit, Bad}
use Rattle.ir_text_tokens.specs.ByteClasses.{class_of_byte, class_ahead}
use Rattle.ir_text_tokens.specs.Faults.{fault}
use Rattle.ir_text_tokens.specs.ReaderSteps.{go, is_hex, goes_on_word, goes_on_name, word_step, number_step, name_step, name_begins, lone_sign, begin_step, same_bracket, group_end, closing_step, group_step, quote_step, string_step, escape_step, hex_step, comment_step, reader_step, glued_behind, missing_at_end}
use Rattle.ir_text_tokens.specs.Readings.{innermost, renested, with_front, token, read_at_end, reading, read_of}
use Rattle.ir_text_tokens.specs.Coverings.{IsInside, IsOutside, ahead, Completes, Skips, both, Parts, StandsAt, Covers}
use Rattle.ir_text_tokens.proofs.ReadingSteps.{reading_goes, reading_emits, reading_stops}
use Rattle.ir_text_tokens.specs.Endings.{ahead_append}
use Rattle.ir_text_tokens.proofs.Respelling.{inside_start, inside_glued, ahead_nil, outside_start, glue_after, glue_is, outside_ended}

-- ---- a step from inside a token stays inside, or ends it

abbrev StaysInside : Step → Type 0
StaysInside (Go to how) = IsInside to
StaysInside _ = ⊤

chosen_stays : (b : Bool) (x y : Step) → StaysInside x → StaysInside y → StaysInside (cond b x y)
chosen_stays true x y h i = h
chosen_stays false x y h i = i

word_stays : (n : Class) → StaysInside (word_step n)
word_stays n = chosen_stays (goes_on_word n) (go mode.Word) (Emit kinds.Word) tt tt

number_stays : (s : Sign) (n : Class) → StaysInside (number_step s n)
number_stays s is.Digit = tt
number_stays s _ = tt

name_stays : (s : Sign) (n : Class) → StaysInside (name_step s n)
name_stays s n = chosen_stays (goes_on_name n) (go (mode.Name s)) (Emit (kinds.Name s)) tt tt

quote_stays : (a : Around) → StaysInside (quote_step a)
quote_stays around.Nothing = tt
quote_stays around.Group = tt

string_stays : (a : Around) (c : Class) → StaysInside (string_step a c)
string_stays a is.Quote = quote_stays a
string_stays a is.Backslash = tt
string_stays a is.Newline = tt
string_stays a _ = tt

escape_stays : (a : Around) (c : Class) → StaysInside (escape_step a c)
escape_stays a is.Quote = tt
escape_stays a is.Backslash = tt
escape_stays a is.EscapeLetter = tt
escape_stays a is.Digit = tt
escape_stays a is.HexLetter = tt
escape_stays a _ = tt

hex_stays : (a : Around) (c : Class) → StaysInside (hex_step a c)
hex_stays a c = chosen_stays (is_hex c) (go (mode.Quoted a)) (Bad problems.Escape) tt tt

end_stays : (b : Bracket) → StaysInside (group_end b)
end_stays brackets.Angle = tt
end_stays _ = tt

closing_stays : (b : Bracket) (last : Option Bracket) → StaysInside (closing_step b last)
closing_stays b None = end_stays b
closing_stays b (Some a) = chosen_stays (same_bracket a b) (Go mode.Group nesting.Closed) (Bad problems.Bracket) tt tt

dash_stays : (last : Option Bracket) (n : Class) → StaysInside (group_step last is.Dash n)
dash_stays last is.Greater = tt
dash_stays last _ = tt

greater_stays : (last : Option Bracket) (n : Class) → StaysInside (group_step last is.Greater n)
greater_stays last is.Equals = tt
greater_stays last _ = closing_stays brackets.Angle last

group_stays : (last : Option Bracket) (c n : Class) → StaysInside (group_step last c n)
group_stays last is.Quote n = tt
group_stays last is.Less n = tt
group_stays last (is.Open b) n = tt
group_stays last is.Dash n = dash_stays last n
group_stays last is.Greater n = greater_stays last n
group_stays last (is.Close b) n = closing_stays b last
group_stays last _ n = tt

stays : (m : Mode) (last : Option Bracket) (c n : Class) → IsInside m → StaysInside (reader_step m last c n)
stays mode.Between last c n h = absurd h
stays mode.Comment last c n h = absurd h
stays mode.Word last c n h = word_stays n
stays (mode.Number s) last c n h = number_stays s n
stays (mode.Name s) last c n h = name_stays s n
stays mode.Arrow last c n h = tt
stays (mode.Quoted a) last c n h = string_stays a c
stays (mode.Escape a) last c n h = escape_stays a c
stays (mode.Hex a) last c n h = hex_stays a c
stays mode.Group last c n h = group_stays last c n
stays mode.GroupArrow last c n h = tt

-- ---- one outside all tokens opens no bracket; one in a comment stays outside

abbrev OpensNone : Step → Type 0
OpensNone (Go to how) = how ≡ nesting.Kept
OpensNone _ = ⊤

chosen_opens : (b : Bool) (x y : Step) → OpensNone x → OpensNone y → OpensNone (cond b x y)
chosen_opens true x y h i = h
chosen_opens false x y h i = i

word_opens : (n : Class) → OpensNone (word_step n)
word_opens n = chosen_opens (goes_on_word n) (go mode.Word) (Emit kinds.Word) refl tt

name_opens : (s : Sign) (n : Class) → OpensNone (name_begins s n)
name_opens s is.Digit = refl
name_opens s _ = refl

lone_opens : (s : Sign) → OpensNone (lone_sign s)
lone_opens signs.Value = tt
lone_opens signs.Block = tt
lone_opens _ = tt

slash_opens : (n : Class) → OpensNone (begin_step is.Slash n)
slash_opens is.Slash = refl
slash_opens _ = tt

minus_opens : (n : Class) → OpensNone (begin_step is.Dash n)
minus_opens is.Greater = refl
minus_opens _ = tt

opens_none : (c n : Class) → OpensNone (begin_step c n)
opens_none is.Newline n = refl
opens_none is.Blank n = refl
opens_none is.Slash n = slash_opens n
opens_none is.Digit n = word_opens n
opens_none is.HexLetter n = word_opens n
opens_none is.EscapeLetter n = word_opens n
opens_none is.Letter n = word_opens n
opens_none (is.Sign s) n = chosen_opens (goes_on_name n) (name_begins s n) (lone_sign s) (name_opens s n) (lone_opens s)
opens_none is.Quote n = refl
opens_none is.Dash n = minus_opens n
opens_none is.Less n = refl
opens_none _ n = tt

abbrev StaysOutside : Step → Type 0
StaysOutside (Go to how) = IsOutside to × (how ≡ nesting.Kept)
StaysOutside _ = ⊥

comment_stays : (c : Class) → StaysOutside (comment_step c)
comment_stays is.Newline = (tt, refl)
comment_stays _ = (tt, refl)

-- ---- what a text is in which these tokens are read

record InToken (m : Mode) (s : List Bracket) (at start : ℕ) (g : Bool) (text : List ℕ) (ts : List Token) : Type 0 where
  kind : Kind
  piece : List ℕ
  after : List ℕ
  others : List Token
  whole : text ≡ piece ++ after
  leads : Completes m s kind piece (class_ahead after)
  are : ts ≡ token kind g start (at + length piece) ∷ others
  rest : Covers (at + length piece) true after others

Outside : Mode → ℕ → Bool → List ℕ → List Token → Type 0
Outside m at g text [] = (to : Mode) × IsOutside to × Skips m text (class_ahead []) to
Outside m at g text (t ∷ ts) = (p : Parts text) × StandsAt m at g text p t × Covers t.end true p.after ts

record Found (m : Mode) (s : List Bracket) (at start : ℕ) (g : Bool) (text : List ℕ) (ts : List Token) : Type 0 where
  in_token : IsInside m → InToken m s at start g text ts
  outside : IsOutside m → s ≡ [] → start ≡ at → Outside m at g text ts

IsFound : List ℕ → Type 0
IsFound text = (m : Mode) (s : List Bracket) (at start : ℕ) (g : Bool) (ts : List Token) → reading at start g m s text ≡ Ok ts → Found m s at start g text ts

covers_outside : (at : ℕ) (g : Bool) (text : List ℕ) (ts : List Token) → Outside mode.Between at g text ts → Covers at g text ts
unfolding Covers Outside
covers_outside at g text [] h = h
covers_outside at g text (t ∷ ts) h = h

inside_breaks : (m : Mode) (at : ℕ) (ts : List Token) → IsInside m → read_at_end at (missing_at_end m) ≡ Ok ts → ⊥
inside_breaks mode.Between at ts h e = absurd h
inside_breaks mode.Comment at ts h e = absurd h
inside_breaks mode.Word at ts h e = cc
inside_breaks (mode.Number s) at ts h e = cc
inside_breaks (mode.Name s) at ts h e = cc
inside_breaks mode.Arrow at ts h e = cc
inside_breaks (mode.Quoted a) at ts h e = cc
inside_breaks (mode.Escape a) at ts h e = cc
inside_breaks (mode.Hex a) at ts h e = cc
inside_breaks mode.Group at ts h e = cc
inside_breaks mode.GroupArrow at ts h e = cc

ends_outside : (m : Mode) (at : ℕ) (g : Bool) (ts : List Token) → IsOutside m → read_at_end at (missing_at_end m) ≡ Ok ts → Outside m at g [] ts
unfolding Outside Skips
ends_outside m at g [] out e = (m, out, refl)
ends_outside m at g (t ∷ ts) out e = let none : missing_at_end m ≡ None = outside_ended m out in absurd (let f : read_at_end at None ≡ Ok (t ∷ ts) = rw none at e in cc)

found_nil : IsFound []
unfolding IsFound reading
found_nil m s at start g ts e = record { in_token = λ h. absurd (inside_breaks m at ts h e); outside = λ h n i. ends_outside m at g ts h e }

front_ok : (t : Token) (r : Result (List Token) Fault) (ts : List Token) → with_front (t ∷ []) r ≡ Ok ts → (others : List Token) × (r ≡ Ok others) × (ts ≡ t ∷ others)
front_ok t (Ok others) ts e = (others, refl, cc)
front_ok t (Err f) ts e = absurd cc

-- ---- one byte more in front

leads_longer : (m to : Mode) (s : List Bracket) (how : Nesting) (k : Kind) (b : ℕ) (piece after rest : List ℕ) → rest ≡ piece ++ after → reader_step m (innermost s) (class_of_byte b) (class_ahead rest) ≡ Go to how → IsInside to
    → Completes to (renested how s) k piece (class_ahead after) → Completes m s k (b ∷ piece) (class_ahead after)
unfolding Completes
leads_longer m to s how k b [] after rest whole e inside l = absurd l
leads_longer m to s how k b (c ∷ piece) after rest whole e inside l = (to, how, ap (λ (x : List ℕ). reader_step m (innermost s) (class_of_byte b) (class_ahead x)) (sym whole) ∙ e, inside, l)

longer : (b : ℕ) (rest : List ℕ) (m to : Mode) (s : List Bracket) (how : Nesting) (at start : ℕ) (g : Bool) (ts : List Token) → reader_step m (innermost s) (class_of_byte b) (class_ahead rest) ≡ Go to how → IsInside to
    → InToken to (renested how s) (at + 1) start g rest ts → InToken m s at start g (b ∷ rest) ts
longer b rest m to s how at start g ts e inside t =
    let place : (at + 1) + length t.piece ≡ at + length (b ∷ t.piece) = omega arith in
    record {
      kind = t.kind;
      piece = b ∷ t.piece;
      after = t.after;
      others = t.others;
      whole = ap (λ (x : List ℕ). b ∷ x) t.whole;
      leads = leads_longer m to s how t.kind b t.piece t.after rest t.whole e inside t.leads;
      are = subst (λ (x : ℕ). ts ≡ token t.kind g start x ∷ t.others) place t.are;
      rest = subst (λ (x : ℕ). Covers x true t.after t.others) place t.rest;
    }

one_byte : (b : ℕ) (rest : List ℕ) (m : Mode) (s : List Bracket) (k : Kind) (at start : ℕ) (g : Bool) (ts : List Token) → IsFound rest → reader_step m (innermost s) (class_of_byte b) (class_ahead rest) ≡ Emit k
    → reading at start g m s (b ∷ rest) ≡ Ok ts → InToken m s at start g (b ∷ rest) ts
unfolding IsFound Completes
one_byte b rest m s k at start g ts ih e r =
    let f = front_ok (token k g start (at + 1)) (reading (at + 1) (at + 1) true mode.Between [] rest) ts (sym (reading_emits at start g m s b rest k e) ∙ r) in
    let covers = covers_outside (at + 1) true rest f.0 ((ih mode.Between [] (at + 1) (at + 1) true f.0 f.1).outside tt refl refl) in
    record { kind = k; piece = b ∷ []; after = rest; others = f.0; whole = refl; leads = e; are = f.2; rest = covers }

goes_in : (b : ℕ) (rest : List ℕ) (m to : Mode) (s : List Bracket) (how : Nesting) (at start : ℕ) (g : Bool) (ts : List Token) → IsFound rest → reader_step m (innermost s) (class_of_byte b) (class_ahead rest) ≡ Go to how → IsInside to
    → reading at start g m s (b ∷ rest) ≡ Ok ts → InToken m s at start g (b ∷ rest) ts
unfolding IsFound
goes_in b rest m to s how at start g ts ih e inside r =
    let there : reading (at + 1) start g to (renested how s) rest ≡ Ok ts =
    rw (← inside_start to start at inside, ← inside_glued to g inside) (sym (reading_goes at start g m s b rest to how e) ∙ r) in
    longer b rest m to s how at start g ts e inside ((ih to (renested how s) (at + 1) start g ts there).in_token inside)

stops_not : (ts : List Token) (r : Result (List Token) Fault) (f : Fault) → r ≡ Err f → r ≡ Ok ts → ⊥
stops_not ts r f e h = cc

inside_step : (d : Step) (b : ℕ) (rest : List ℕ) (m : Mode) (s : List Bracket) (at start : ℕ) (g : Bool) (ts : List Token) → IsFound rest → reader_step m (innermost s) (class_of_byte b) (class_ahead rest) ≡ d → IsInside m
    → reading at start g m s (b ∷ rest) ≡ Ok ts → InToken m s at start g (b ∷ rest) ts
inside_step (Go to how) b rest m s at start g ts ih e h r = goes_in b rest m to s how at start g ts ih e (subst StaysInside e (stays m (innermost s) (class_of_byte b) (class_ahead rest) h)) r
inside_step (Emit k) b rest m s at start g ts ih e h r = one_byte b rest m s k at start g ts ih e r
inside_step (Bad p) b rest m s at start g ts ih e h r = absurd (stops_not ts _ (fault p at) (reading_stops at start g m s b rest p e) r)

-- ---- outside

both_true : (g : Bool) → g ≡ both g true
both_true true = refl
both_true false = refl

both_false : (g : Bool) → false ≡ both g false
both_false true = refl
both_false false = refl

token_here : (at : ℕ) (g : Bool) (text : List ℕ) (ts : List Token) → InToken mode.Between [] at at g text ts → Outside mode.Between at g text ts
unfolding Outside Skips
token_here at g text ts t =
    let zero : at ≡ at + length {A = ℕ} [] = omega arith in
    let here : Outside mode.Between at g text (token t.kind g at (at + length t.piece) ∷ t.others) = (
      record { gap = []; piece = t.piece; after = t.after; whole = t.whole },
      record { blank = refl; start = zero; end = refl; glued = both_true g; is_token = t.leads },
      t.rest,
    ) in
    subst (λ (x : List Token). Outside mode.Between at g text x) (sym t.are) here

more_gap : (b : ℕ) (rest : List ℕ) (m to : Mode) (at : ℕ) (g : Bool) (ts : List Token) → reader_step m (innermost []) (class_of_byte b) (class_ahead rest) ≡ go to → IsOutside to
    → Outside to (at + 1) (glued_behind to g) rest ts → Outside m at g (b ∷ rest) ts
unfolding Outside Skips
more_gap b rest m to at g [] e out h = (h.0, h.1, (to, ap (λ (n : Class). reader_step m (innermost []) (class_of_byte b) n) (ahead_nil rest) ∙ e, out, h.2))
more_gap b rest m to at g (t ∷ ts) e out h =
    let p = h.0 in
    let follows : ahead p.gap (class_ahead (p.piece ++ p.after)) ≡ class_ahead rest = ahead_append p.gap (p.piece ++ p.after) ∙ ap class_ahead (sym p.whole) in
    let glued : t.glued ≡ both g false = h.1.glued ∙ sym (glue_is (glued_behind to g) p.gap) ∙ glue_after to p.gap (class_ahead (p.piece ++ p.after)) g out h.1.blank ∙ both_false g in (
      record { gap = b ∷ p.gap; piece = p.piece; after = p.after; whole = ap (λ (x : List ℕ). b ∷ x) p.whole },
      record {
        blank = (to, ap (λ (n : Class). reader_step m (innermost []) (class_of_byte b) n) follows ∙ e, out, h.1.blank);
        start = h.1.start ∙ omega arith;
        end = h.1.end;
        glued = glued;
        is_token = h.1.is_token;
      },
      h.2,
    )

side : (m : Mode) → IsInside m ⊎ IsOutside m
side mode.Between = inr tt
side mode.Comment = inr tt
side _ = inl tt

never_both : (m : Mode) → IsInside m → IsOutside m → ⊥
never_both mode.Between i o = i
never_both mode.Comment i o = i
never_both _ i o = o

goes_out : (b : ℕ) (rest : List ℕ) (m to : Mode) (at : ℕ) (g : Bool) (ts : List Token) → IsFound rest → reader_step m (innermost []) (class_of_byte b) (class_ahead rest) ≡ go to → IsOutside to
    → reading at at g m [] (b ∷ rest) ≡ Ok ts → Outside m at g (b ∷ rest) ts
unfolding IsFound
goes_out b rest m to at g ts ih e out r =
    let there : reading (at + 1) (at + 1) (glued_behind to g) to [] rest ≡ Ok ts = subst (λ (x : ℕ). reading (at + 1) x (glued_behind to g) to [] rest ≡ Ok ts) (outside_start to at at out) (sym (reading_goes at at g m [] b rest to nesting.Kept e) ∙ r) in
    more_gap b rest m to at g ts e out ((ih to [] (at + 1) (at + 1) (glued_behind to g) ts there).outside out refl refl)

kept : (m to : Mode) (how : Nesting) (c n : Class) → how ≡ nesting.Kept → reader_step m (innermost []) c n ≡ Go to how → reader_step m (innermost []) c n ≡ go to
kept m to how c n h e = subst (λ (x : Nesting). reader_step m (innermost []) c n ≡ Go to x) h e

between_step : (d : Step) (b : ℕ) (rest : List ℕ) (at : ℕ) (g : Bool) (ts : List Token) → IsFound rest → reader_step mode.Between (innermost []) (class_of_byte b) (class_ahead rest) ≡ d
    → reading at at g mode.Between [] (b ∷ rest) ≡ Ok ts → Outside mode.Between at g (b ∷ rest) ts
between_step (Go to how) b rest at g ts ih e r = elim (side to) [
  | inl i ↦ token_here at g (b ∷ rest) ts (goes_in b rest mode.Between to [] how at at g ts ih e i r)
  | inr o ↦ goes_out b rest mode.Between to at g ts ih (kept mode.Between to how (class_of_byte b) (class_ahead rest) (subst OpensNone e (opens_none (class_of_byte b) (class_ahead rest))) e) o r
]
between_step (Emit k) b rest at g ts ih e r = token_here at g (b ∷ rest) ts (one_byte b rest mode.Between [] k at at g ts ih e r)
between_step (Bad p) b rest at g ts ih e r = absurd (stops_not ts _ (fault p at) (reading_stops at at g mode.Between [] b rest p e) r)

comment_reads : (d : Step) (b : ℕ) (rest : List ℕ) (at : ℕ) (g : Bool) (ts : List Token) → IsFound rest → reader_step mode.Comment (innermost []) (class_of_byte b) (class_ahead rest) ≡ d
    → reading at at g mode.Comment [] (b ∷ rest) ≡ Ok ts → Outside mode.Comment at g (b ∷ rest) ts
comment_reads (Go to how) b rest at g ts ih e r =
    let out : StaysOutside (Go to how) = subst StaysOutside e (comment_stays (class_of_byte b)) in
    goes_out b rest mode.Comment to at g ts ih (kept mode.Comment to how (class_of_byte b) (class_ahead rest) out.1 e) out.0 r
comment_reads (Emit k) b rest at g ts ih e r = absurd (subst StaysOutside e (comment_stays (class_of_byte b)))
comment_reads (Bad p) b rest at g ts ih e r = absurd (subst StaysOutside e (comment_stays (class_of_byte b)))

outside_step : (b : ℕ) (rest : List ℕ) (m : Mode) (at : ℕ) (g : Bool) (ts : List Token) → IsFound rest → IsOutside m
    → reading at at g m [] (b ∷ rest) ≡ Ok ts → Outside m at g (b ∷ rest) ts
outside_step b rest mode.Between at g ts ih out r = between_step (reader_step mode.Between (innermost []) (class_of_byte b) (class_ahead rest)) b rest at g ts ih refl r
outside_step b rest mode.Comment at g ts ih out r = comment_reads (reader_step mode.Comment (innermost []) (class_of_byte b) (class_ahead rest)) b rest at g ts ih refl r
outside_step b rest _ at g ts ih out r = absurd out

at_none : (b : ℕ) (rest : List ℕ) (m : Mode) (s : List Bracket) (at start : ℕ) (g : Bool) (ts : List Token) → s ≡ [] → start ≡ at → reading at start g m s (b ∷ rest) ≡ Ok ts → reading at at g m [] (b ∷ rest) ≡ Ok ts
at_none b rest m s at start g ts n i r = subst (λ (x : List Bracket). reading at at g m x (b ∷ rest) ≡ Ok ts) n (subst (λ (x : ℕ). reading at x g m s (b ∷ rest) ≡ Ok ts) i r)

found_cons : (b : ℕ) (rest : List ℕ) → IsFound rest → IsFound (b ∷ rest)
unfolding IsFound
found_cons b rest ih m s at start g ts r = record {
  in_token = λ h. inside_step (reader_step m (innermost s) (class_of_byte b) (class_ahead rest)) b rest m s at start g ts ih refl h r;
  outside = λ h n i. outside_step b rest m at g ts ih h (at_none b rest m s at start g ts n i r);
}

found : (text : List ℕ) → IsFound text
found [] = found_nil
found (b ∷ rest) = found_cons b rest (found rest)

pub reading_covers : (text : List ℕ) (ts : List Token) → read_of text ≡ Ok ts → Covers 0 false text ts
unfolding IsFound
reading_covers text ts r = covers_outside 0 false text ts ((found text mode.Between [] 0 0 false ts r).outside tt refl refl)
