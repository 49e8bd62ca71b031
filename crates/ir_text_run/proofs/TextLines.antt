-- The lines of a text, from its front on.
use Rattle.std.proofs.Common.{◌≡◌, ◌≤◌, ◌<◌, ◌==◌, ◌+◌, ◌-◌, ℕ, suc, length, not, Bool, true, false, All, take, drop, slice_range, position, cond, Option, Some, None, MatchOption, ◌++◌, List, [], ◌∷◌, refl, sym, ap, subst, ◌∙◌, arith, get_or, nat_lt, append-nil, append_assoc, take-append-drop, length-append}
use Rattle.std.proofs.Math.Seq.{take-add, drop-length}
use Rattle.std.proofs.Math.ListN.{drop_of_length-le}
use Rattle.std.proofs.lemmas.Bool.{ltb-true, ltb-false}
use Rattle.std.proofs.lemmas.List.{drop-drop, length-drop, take_rest}
use Rattle.std.proofs.lemmas.List.Elements.{All-nil, All-push}
use Rattle.std.proofs.lemmas.List.Folds.{concat-append, drop_split}
use Rattle.std.specs.Bool.{⊤}
use Rattle.std.specs.List.{onto_first, concat, position_or_len}
use Rattle.ir_text_run.specs.Parts.{IsDivider, IsOnePart, IsDivided, lines_of}

-- up to the first line feed, the first line
by_feed : (is : Bool) (b : ℕ) (bytes : List ℕ) (k : ℕ) → (k < length bytes → lines_of bytes ≡ take (k + 1) bytes ∷ lines_of (drop (k + 1) bytes)) → cond (not is) (1 + k) 0 < length (b ∷ bytes)
    → cond is ((b ∷ []) ∷ lines_of bytes) (onto_first b (lines_of bytes)) ≡ take (cond (not is) (1 + k) 0 + 1) (b ∷ bytes) ∷ lines_of (drop (cond (not is) (1 + k) 0 + 1) (b ∷ bytes))
by_feed true b bytes k so lt = refl
by_feed false b bytes k so lt =
    let more : suc (k + 1) ≡ 1 + k + 1 = omega arith in
    subst (λ (n : ℕ). onto_first b (lines_of bytes) ≡ take n (b ∷ bytes) ∷ lines_of (drop n (b ∷ bytes))) more (ap (onto_first b) (so (omega (arith, lt))))

to_feed : (text : List ℕ) → position_or_len (λ b. b == 10) text < length text
    → lines_of text ≡ take (position_or_len (λ b. b == 10) text + 1) text ∷ lines_of (drop (position_or_len (λ b. b == 10) text + 1) text)
unfolding lines_of
to_feed [] lt = absurd (omega (arith, lt))
to_feed (b ∷ bytes) lt = by_feed (b == 10) b bytes (position_or_len (λ b. b == 10) bytes) (to_feed bytes) lt

-- where no line feed is, there is one line
by_end : (is : Bool) (b c : ℕ) (bytes : List ℕ) (k : ℕ) → (length (c ∷ bytes) ≤ k → lines_of (c ∷ bytes) ≡ (c ∷ bytes) ∷ []) → length (b ∷ c ∷ bytes) ≤ cond (not is) (1 + k) 0
    → cond is ((b ∷ []) ∷ lines_of (c ∷ bytes)) (onto_first b (lines_of (c ∷ bytes))) ≡ (b ∷ c ∷ bytes) ∷ []
by_end true b c bytes k so le = absurd (omega (arith, le))
by_end false b c bytes k so le = ap (onto_first b) (so (omega (arith, le)))

one_byte : (is : Bool) (b : ℕ) → cond is ((b ∷ []) ∷ []) (onto_first b []) ≡ (b ∷ []) ∷ []
one_byte true b = refl
one_byte false b = refl

to_end : (text : List ℕ) → 0 < length text → length text ≤ position_or_len (λ b. b == 10) text → lines_of text ≡ text ∷ []
unfolding lines_of
to_end [] some le = absurd (omega (arith, some))
to_end (b ∷ []) some le = one_byte (b == 10) b
to_end (b ∷ c ∷ bytes) some le = by_end (b == 10) b c bytes (position_or_len (λ b. b == 10) (c ∷ bytes)) (to_end (c ∷ bytes) (omega arith)) le

-- where the first line feed is, and that none is
found : (lt : Bool) (k i : ℕ) → cond lt (Some k) None ≡ Some i → (lt ≡ true) × (k ≡ i)
found true k i e = (refl, subst (λ (o : Option ℕ). MatchOption o ⊥ (λ j. k ≡ j)) e refl)
found false k i e = absurd (subst (λ (o : Option ℕ). MatchOption o ⊤ (λ _. ⊥)) e tt)

not_found : (lt : Bool) (k : ℕ) → cond lt (Some k) None ≡ None → lt ≡ false
not_found true k e = absurd (subst (λ (o : Option ℕ). MatchOption o ⊥ (λ _. ⊤)) e tt)
not_found false k e = refl

pub line_to_feed : (text : List ℕ) (at i : ℕ) → position (λ b. b == 10) (take (length text - at) (drop at text)) ≡ Some i → lines_of (drop at text) ≡ slice_range text at (at + i + 1) ∷ lines_of (drop (at + i + 1) text)
line_to_feed text at i e =
    let behind = drop at text in
    let k = position_or_len (λ b. b == 10) behind in
    let here = found (nat_lt k (length behind)) k i (ap (λ (l : List ℕ). position (λ b. b == 10) l) (sym (take_rest text at)) ∙ e) in
    let is : nat_lt k (length behind) ≡ true = here.0 in
    let first : lines_of behind ≡ take (k + 1) behind ∷ lines_of (drop (k + 1) behind) = to_feed behind (ltb-true k (length behind) is) in
    let there : lines_of behind ≡ take (i + 1) behind ∷ lines_of (drop (i + 1) behind) = subst (λ (n : ℕ). lines_of behind ≡ take (n + 1) behind ∷ lines_of (drop (n + 1) behind)) here.1 first in
    let long : i + 1 ≡ (at + i + 1) - at = omega arith in
    let far : at + (i + 1) ≡ at + i + 1 = omega arith in
    there ∙ (ap (λ (n : ℕ). take n behind ∷ lines_of (drop (i + 1) behind)) long ∙ ap (λ (l : List ℕ). slice_range text at (at + i + 1) ∷ lines_of l) (drop-drop (i + 1) at text ∙ ap (λ (n : ℕ). drop n text) far))

pub line_to_end : (text : List ℕ) (at : ℕ) → at < length text → position (λ b. b == 10) (take (length text - at) (drop at text)) ≡ None → lines_of (drop at text) ≡ slice_range text at (length text) ∷ lines_of (drop (length text) text)
unfolding lines_of
line_to_end text at lt e =
    let behind = drop at text in
    let k = position_or_len (λ b. b == 10) behind in
    let is : nat_lt k (length behind) ≡ false = not_found (nat_lt k (length behind)) k (ap (λ (l : List ℕ). position (λ b. b == 10) l) (sym (take_rest text at)) ∙ e) in
    let size : length behind ≡ length text - at = length-drop at text in
    let all : lines_of behind ≡ behind ∷ [] = to_end behind (omega (arith, size, lt)) (ltb-false k (length behind) is) in
    all ∙ (ap (λ (l : List ℕ). l ∷ []) (sym (take_rest text at)) ∙ ap (λ (l : List ℕ). slice_range text at (length text) ∷ lines_of l) (sym (drop-length text)))

no_lines : lines_of [] ≡ []
unfolding lines_of
no_lines = refl

-- Lines at the front of a text are the lines of what they make.
first_line : (b : ℕ) (bytes : List ℕ) (is : Bool) → (b == 10) ≡ is → lines_of (b ∷ bytes) ≡ cond is ((b ∷ []) ∷ lines_of bytes) (onto_first b (lines_of bytes))
unfolding lines_of
first_line b bytes is e = ap (λ (i : Bool). cond i ((b ∷ []) ∷ lines_of bytes) (onto_first b (lines_of bytes))) e

heads : {X : Type 0} (x y : X) (xs ys : List X) → x ∷ xs ≡ y ∷ ys → x ≡ y
heads x y xs ys e = ap (λ l. get_or l 0 x) e

tails : {X : Type 0} (x y : X) (xs ys : List X) → x ∷ xs ≡ y ∷ ys → xs ≡ ys
tails x y xs ys e = ap (λ l. drop 1 l) e

by_front : (is : Bool) (b : ℕ) (own before ls : List (List ℕ)) → (b == 10) ≡ is → ((others : List (List ℕ)) → own ≡ others ++ ls → lines_of (concat others) ≡ others) → cond is ((b ∷ []) ∷ own) (onto_first b own) ≡ before ++ ls → lines_of (concat before) ≡ before
by_front is b own [] ls e so cut = no_lines
by_front true b own (l ∷ before) ls e so cut =
    let more : lines_of (concat before) ≡ before = so before (tails (b ∷ []) l own (before ++ ls) cut) in
    subst (λ (m : List ℕ). lines_of (m ++ concat before) ≡ m ∷ before) (heads (b ∷ []) l own (before ++ ls) cut)
    (first_line b (concat before) true e ∙ ap (λ (ms : List (List ℕ)). (b ∷ []) ∷ ms) more)
by_front false b [] (l ∷ []) ls e so cut =
    subst (λ (m : List ℕ). lines_of (m ++ []) ≡ m ∷ []) (heads (b ∷ []) l [] ls cut) (first_line b [] false e ∙ ap (onto_first b) no_lines)
by_front false b [] (l ∷ m ∷ before) ls e so cut =
    let none : [] ≡ m ∷ (before ++ ls) = tails (b ∷ []) l [] (m ∷ (before ++ ls)) cut in
    absurd (omega (arith, ap length none))
by_front false b (x ∷ xs) (l ∷ before) ls e so cut =
    let more : lines_of (x ++ concat before) ≡ x ∷ before = so (x ∷ before) (ap (λ (ms : List (List ℕ)). x ∷ ms) (tails (b ∷ x) l xs (before ++ ls) cut)) in
    subst (λ (m : List ℕ). lines_of (m ++ concat before) ≡ m ∷ before) (heads (b ∷ x) l xs (before ++ ls) cut)
    (first_line b (x ++ concat before) false e ∙ ap (onto_first b) more)

lines_at_front : (text : List ℕ) (before ls : List (List ℕ)) → lines_of text ≡ before ++ ls → lines_of (concat before) ≡ before
unfolding lines_of
lines_at_front [] [] ls cut = refl
lines_at_front [] (l ∷ before) ls cut = absurd (omega (arith, ap length cut))
lines_at_front (b ∷ bytes) before ls cut = by_front (b == 10) b (lines_of bytes) before ls refl (λ others. lines_at_front bytes others ls) cut

-- Up to this place the text has whole lines, and none of them divides parts.
pub record Passed (text : List ℕ) (at : ℕ) : Type 0 where
  pub before : List (List ℕ)
  pub joined : take at text ≡ concat before
  pub lines : lines_of text ≡ before ++ lines_of (drop at text)
  pub one : All (λ line. IsDivider line → ⊥) before

pub none_passed : (text : List ℕ) → Passed text 0
none_passed text = record { before = []; joined = refl; lines = refl; one = All-nil (λ line. IsDivider line → ⊥) }

pub one_passed : (text : List ℕ) (at end : ℕ) → at ≤ end → Passed text at → lines_of (drop at text) ≡ slice_range text at end ∷ lines_of (drop end text) → (IsDivider (slice_range text at end) → ⊥) → Passed text end
one_passed text at end le so_far first is_none =
    let line = slice_range text at end in
    let far : end ≡ at + (end - at) = omega (arith, le) in
    let taken : take end text ≡ take at text ++ line = ap (λ (n : ℕ). take n text) far ∙ take-add at (end - at) text in
    record {
      before = so_far.before ++ line ∷ [];
      joined = taken ∙ (ap (λ (l : List ℕ). l ++ line) so_far.joined ∙ sym (concat-append so_far.before (line ∷ []) ∙ ap (λ (l : List ℕ). concat so_far.before ++ l) (append-nil line)));
      lines = so_far.lines ∙ (ap (λ (ls : List (List ℕ)). so_far.before ++ ls) first ∙ sym (append_assoc so_far.before (line ∷ []) (lines_of (drop end text))));
      one = All-push (λ line. IsDivider line → ⊥) so_far.before line so_far.one is_none;
    }

lines_passed : (text : List ℕ) (at : ℕ) (so_far : Passed text at) → lines_of (take at text) ≡ so_far.before
lines_passed text at so_far = ap lines_of so_far.joined ∙ lines_at_front text so_far.before (lines_of (drop at text)) so_far.lines

-- a text is what stands before a line, the line, and what stands behind it
cut_at_line : (text : List ℕ) (at end : ℕ) → at ≤ end → text ≡ take at text ++ (slice_range text at end ++ take (length text - end) (drop end text))
cut_at_line text at end le =
    let behind = ap (λ (l : List ℕ). slice_range text at end ++ l) (sym (take_rest text end)) in
    sym (take-append-drop at text) ∙ ap (λ (l : List ℕ). take at text ++ l) (drop_split text at end le ∙ behind)

-- the line that begins there is the first that divides parts
pub divided_there : (text : List ℕ) (at end : ℕ) → at ≤ end → Passed text at → lines_of (drop at text) ≡ slice_range text at end ∷ lines_of (drop end text) → IsDivider (slice_range text at end)
    → IsDivided text (take at text) (take (length text - end) (drop end text))
divided_there text at end le so_far first is =
    let line = slice_range text at end in
    let same = lines_passed text at so_far in
    let rest = take_rest text end in (
      line,
      is,
      subst (All (λ line. IsDivider line → ⊥)) (sym same) so_far.one,
      so_far.lines ∙ (ap (λ (ls : List (List ℕ)). so_far.before ++ ls) first ∙ (ap (λ (ls : List (List ℕ)). ls ++ (line ∷ lines_of (drop end text))) (sym same) ∙ ap (λ (l : List ℕ). lines_of (take at text) ++ (line ∷ lines_of l)) (sym rest))),
      cut_at_line text at end le,
    )

-- no line of the text divides parts
pub all_passed : (text : List ℕ) (at : ℕ) → length text ≤ at → Passed text at → IsOnePart text
all_passed text at le so_far =
    let none : lines_of (drop at text) ≡ [] = ap lines_of (drop_of_length-le text le) ∙ no_lines in
    subst (All (λ line. IsDivider line → ⊥)) (sym (so_far.lines ∙ (ap (λ (ls : List (List ℕ)). so_far.before ++ ls) none ∙ append-nil so_far.before))) so_far.one

-- the lines that were passed are counted
pub record Counted (text : List ℕ) (at lines : ℕ) : Type 0 where
  pub passed : Passed text at
  pub counted : lines ≡ length passed.before
  pub few : lines ≤ at

pub none_counted : (text : List ℕ) → Counted text 0 0
unfolding none_passed
none_counted text = record { passed = none_passed text; counted = refl; few = omega arith }

pub one_counted : (text : List ℕ) (at end lines : ℕ) → at < end → Counted text at lines → lines_of (drop at text) ≡ slice_range text at end ∷ lines_of (drop end text) → (IsDivider (slice_range text at end) → ⊥) → Counted text end (lines + 1)
unfolding one_passed
one_counted text at end lines lt so_far first is_none =
    let le : at ≤ end = omega (arith, lt) in
    let few : lines ≤ at = so_far.few in
    let one = slice_range text at end ∷ [] in
    record {
      passed = one_passed text at end le so_far.passed first is_none;
      counted = ap (λ (n : ℕ). n + 1) so_far.counted ∙ sym (length-append so_far.passed.before one);
      few = omega (arith, few, lt);
    }

pub counted_here : (text : List ℕ) (at lines : ℕ) (so_far : Counted text at lines) → lines + 1 ≡ length (lines_of (take at text)) + 1
counted_here text at lines so_far = ap (λ (n : ℕ). n + 1) (so_far.counted ∙ ap length (sym (lines_passed text at so_far.passed)))

pub all_counted : (text : List ℕ) (at lines : ℕ) → length text ≤ at → (so_far : Counted text at lines) → lines ≡ length (lines_of text)
all_counted text at lines le so_far =
    let none : lines_of (drop at text) ≡ [] = ap lines_of (drop_of_length-le text le) ∙ no_lines in
    so_far.counted ∙ ap length (sym (so_far.passed.lines ∙ (ap (λ (ls : List (List ℕ)). so_far.passed.before ++ ls) none ∙ append-nil so_far.passed.before)))
