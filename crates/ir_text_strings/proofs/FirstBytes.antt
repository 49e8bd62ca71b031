-- A text from its first byte on, and texts without escapes.
use Rattle.std.proofs.Common.{◌≡◌, ℕ, ◌+◌, ◌-◌, ◌*◌, ◌<◌, ◌≤◌, ◌&&◌, ◌==◌, Result, Ok, Err, OnErr, Bool, true, false, cond, List, [], ◌∷◌, ◌++◌, length, get_or, drop, refl, sym, ap, ◌∙◌, append_assoc, arith}
use Rattle.std.proofs.Math.Bool.{and-false}
use Rattle.std.proofs.lemmas.Bool.{or_parts, false≢true}
use Rattle.std.proofs.lemmas.List.{drop_more, drop_all, drop-drop, take_rest}
use Rattle.std.specs.Prelude.{slice_range}
use Rattle.ir_text_strings.specs.Escapes.{is_hex, is_number, hex_value, is_mark, marked, is_marked, first_byte, first_more, has_escapes, unescaped}

-- where the first byte begins no escape
plain : (a x y : ℕ) (text : List ℕ) (p q : Bool) → p ≡ false → q ≡ false → cond p x (cond q y a) ∷ unescaped (drop (cond p 1 (cond q 2 0)) text) ≡ a ∷ unescaped text
plain a x y text false false e f = refl
plain a x y text true q e f = absurd (false≢true (sym e))
plain a x y text false true e f = absurd (false≢true (sym f))

one : (a : ℕ) → a ∷ [] ≡ a ∷ unescaped []
unfolding unescaped
one a = refl

two : (a b x y : ℕ) (p q : Bool) → q ≡ false → cond p (x ∷ []) (a ∷ b ∷ []) ≡ cond p x (cond q y a) ∷ unescaped (drop (cond p 1 (cond q 2 0)) (b ∷ []))
unfolding unescaped
two a b x y true q f = refl
two a b x y false false f = refl
two a b x y false true f = absurd (false≢true (sym f))

three : (a b c x y : ℕ) (text : List ℕ) (p q : Bool)
    → cond p (x ∷ unescaped (c ∷ text)) (cond q (y ∷ unescaped text) (a ∷ unescaped (b ∷ c ∷ text))) ≡ cond p x (cond q y a) ∷ unescaped (drop (cond p 1 (cond q 2 0)) (b ∷ c ∷ text))
three a b c x y text true q = refl
three a b c x y text false true = refl
three a b c x y text false false = refl

-- a text is what its first byte stands for, and what comes behind
pub unescaped_first : (a : ℕ) (text : List ℕ) → unescaped (a ∷ text) ≡ first_byte a (get_or text 0 0) (get_or text 1 0) ∷ unescaped (drop (first_more a (get_or text 0 0) (get_or text 1 0)) text)
unfolding unescaped
unescaped_first a [] = one a ∙ sym (plain a (marked 0) (16 * hex_value 0 + hex_value 0) [] (is_marked a 0) (is_number a 0 0) (and-false (a == 92)) (and-false (a == 92)))
unescaped_first a (b ∷ []) = two a b (marked b) (16 * hex_value b + hex_value 0) (is_marked a b) (is_number a b 0) (ap (λ (h : Bool). (a == 92) && h) (and-false (is_hex b)) ∙ and-false (a == 92))
unescaped_first a (b ∷ c ∷ text) = three a b c (marked b) (16 * hex_value b + hex_value c) text (is_marked a b) (is_number a b c)

-- the text from place i on, of which a first byte and some more spell one byte
unescaped_at : (text : List ℕ) (i : ℕ) → i < length text
    → unescaped (drop i text) ≡ first_byte (get_or text i 0) (get_or (drop (i + 1) text) 0 0) (get_or (drop (i + 1) text) 1 0)
    ∷ unescaped (drop (i + 1 + first_more (get_or text i 0) (get_or (drop (i + 1) text) 0 0) (get_or (drop (i + 1) text) 1 0)) text)
unescaped_at text i lt =
    let a = get_or text i 0 in
    let behind = drop (i + 1) text in
    let more = first_more a (get_or behind 0 0) (get_or behind 1 0) in
    ap unescaped (drop_more text i 0 lt) ∙ unescaped_first a behind ∙ ap (λ (t : List ℕ). first_byte a (get_or behind 0 0) (get_or behind 1 0) ∷ unescaped t) (drop-drop more (i + 1) text)

-- the same, where no byte from i on belongs to an escape before
pub next_byte : (text : List ℕ) (i more byte next second third : ℕ) → i < length text → more ≤ 0 → second ≡ get_or (slice_range text (i + 1) (length text)) 0 0 → third ≡ get_or (slice_range text (i + 1) (length text)) 1 0
    → byte ≡ first_byte (get_or text i 0) second third → next ≡ first_more (get_or text i 0) second third → unescaped (drop (i + more) text) ≡ byte ∷ unescaped (drop (i + 1 + next) text)
next_byte text i more byte next second third lt none e f is count =
    let a = get_or text i 0 in
    let behind = drop (i + 1) text in
    let s = get_or behind 0 0 in
    let t = get_or behind 1 0 in
    let cut : slice_range text (i + 1) (length text) ≡ behind = take_rest text (i + 1) in
    let byte_is : byte ≡ first_byte a s t = is ∙ ap (λ (n : ℕ). first_byte a n third) (e ∙ ap (λ (l : List ℕ). get_or l 0 0) cut) ∙ ap (λ (n : ℕ). first_byte a s n) (f ∙ ap (λ (l : List ℕ). get_or l 1 0) cut) in
    let next_is : next ≡ first_more a s t = count ∙ ap (λ (n : ℕ). first_more a n third) (e ∙ ap (λ (l : List ℕ). get_or l 0 0) cut) ∙ ap (λ (n : ℕ). first_more a s n) (f ∙ ap (λ (l : List ℕ). get_or l 1 0) cut) in
    let place : i + more ≡ i = omega (arith, none) in
    ap (λ (k : ℕ). unescaped (drop k text)) place ∙ unescaped_at text i lt
    ∙ ap (λ (b : ℕ). b ∷ unescaped (drop (i + 1 + first_more a s t) text)) (sym byte_is) ∙ ap (λ (n : ℕ). byte ∷ unescaped (drop (i + 1 + n) text)) (sym next_is)

-- a byte more of an escape is passed over
pub passed_over : (text : List ℕ) (i more : ℕ) → 0 < more → unescaped (drop (i + more) text) ≡ unescaped (drop (i + 1 + (more - 1)) text)
passed_over text i more some = let place : i + more ≡ i + 1 + (more - 1) = omega (arith, some) in ap (λ (k : ℕ). unescaped (drop k text)) place

-- the end of the text
pub unescaped_end : (text : List ℕ) (i more : ℕ) → length text ≤ i → unescaped (drop (i + more) text) ≡ []
unfolding unescaped
unescaped_end text i more le = let past : length text ≤ i + more = omega (arith, le) in ap unescaped (drop_all (i + more) text past)

-- what was appended, and what is still to be read
pub appended : (done pushed all text : List ℕ) (here byte next : ℕ) → pushed ≡ done ++ byte ∷ [] → unescaped (drop here text) ≡ byte ∷ unescaped (drop next text) → done ++ unescaped (drop here text) ≡ all → pushed ++ unescaped (drop next text) ≡ all
appended done pushed all text here byte next is e h =
    let later = unescaped (drop next text) in
    ap (λ (o : List ℕ). o ++ later) is ∙ append_assoc done (byte ∷ []) later ∙ ap (λ (l : List ℕ). done ++ l) (sym e) ∙ h

-- a text without a backslash stands for itself
pub unescaped_same : (text : List ℕ) → has_escapes text ≡ false → unescaped text ≡ text
unfolding unescaped
unescaped_same [] e = refl
unescaped_same (a ∷ text) e =
    let parts = or_parts (a == 92) (has_escapes text) e in
    let second = get_or text 0 0 in
    let third = get_or text 1 0 in
    let no_mark : is_marked a second ≡ false = ap (λ (b : Bool). b && is_mark second) parts.0 in
    let no_number : is_number a second third ≡ false = ap (λ (b : Bool). b && (is_hex second && is_hex third)) parts.0 in
    unescaped_first a text ∙ plain a (marked second) (16 * hex_value second + hex_value third) text (is_marked a second) (is_number a second third) no_mark no_number ∙ ap (λ (t : List ℕ). a ∷ t) (unescaped_same text parts.1)

-- what holds in any case holds under an error
pub on_err : {X E : Type 0} (r : Result X E) (P : Type 0) → P → OnErr r P
on_err (Ok x) P p = tt
on_err (Err e) P p = p
