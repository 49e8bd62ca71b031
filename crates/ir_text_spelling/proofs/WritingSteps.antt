-- Writes one behind the other: what was written before, and what is still written, are one total.
use Rattle.std.proofs.Common.{◌≡◌, ◌<◌, ◌≤◌, ℕ, ◌+◌, ◌-◌, ◌*◌, Bool, false, List, [], ◌∷◌, ◌++◌, length, take, drop, replicate, Option, Some, Result, Ok, Err, sym, ap, subst, ◌∙◌, append_assoc, take-append-drop, arith}
use Rattle.std.proofs.lemmas.List.{take_rest, drop-drop, replicate-append-replicate}
use Rattle.std.proofs.Math.Seq.{take-add}
use Rattle.ir_text_tree.specs.declared.row.Span.{Span}
use Rattle.std.specs.Prelude.{if◌then◌else◌}
use Rattle.std.specs.Io.KnownBytes.{Appends, WriteAppends}
use Rattle.std.proofs.KnownBytes.{Appends-trans, Appends-kept}
use Rattle.ir_text_tree.specs.declared.row.Part.{Part}
use Rattle.ir_text_tree.specs.declared.row.Row.{Row}
use Rattle.ir_text_spelling.specs.Marks.{is_joined, joint, closing, opening, to_line_end, depth_behind, levels, blanks, before, between, ending}
use Rattle.ir_text_spelling.specs.Spellings.{piece, spelled}
use Rattle.ir_text_spelling.specs.Writings.{AppendsFront, Writes}
use Rattle.ir_text_spelling.proofs.SpellingSteps.{goes_on, ends}

pub front_here : (a b : Option (List ℕ)) (all done rest : List ℕ) → all ≡ done ++ rest → Appends a b done → AppendsFront a b all
front_here a b all done rest e p = (done, rest, e, p)

front_after : (a b c : Option (List ℕ)) (x y : List ℕ) → Appends a b x → AppendsFront b c y → AppendsFront a c (x ++ y)
front_after a b c x y p q = (x ++ q.0, q.1, ap (λ (l : List ℕ). x ++ l) q.2 ∙ sym (append_assoc x q.0 q.1), Appends-trans a b c x q.0 p q.3)

pub front_of : (a b : Option (List ℕ)) (x y : List ℕ) → AppendsFront a b x → AppendsFront a b (x ++ y)
front_of a b x y p = (p.0, p.1 ++ y, ap (λ (l : List ℕ). l ++ y) p.2 ∙ append_assoc p.0 p.1 y, p.3)

-- a whole write, and then another
pub then_writes : {X E : Type 0} (a b c : Option (List ℕ)) (x y : List ℕ) (r : Result X E) → Appends a b x → Writes b c y r → Writes a c (x ++ y) r
then_writes a b c x y (Ok v) p q = Appends-trans a b c x y p q
then_writes a b c x y (Err e) p q = front_after a b c x y p q

-- ---- the bytes of one write

pub moves_front : (all done rest : List ℕ) (n : ℕ) → all ≡ done ++ rest → all ≡ (done ++ take n rest) ++ take (length rest - n) (drop n rest)
moves_front all done rest n e =
    e ∙ ap (λ (l : List ℕ). done ++ l) (sym (take-append-drop n rest)) ∙ sym (append_assoc done (take n rest) (drop n rest)) ∙ ap (λ (l : List ℕ). (done ++ take n rest) ++ l) (sym (take_rest rest n))

pub bytes_moved : {E : Type 0} (a b c : Option (List ℕ)) (all done rest : List ℕ) (r : Result ℕ E) (n : ℕ) → r ≡ Ok n → all ≡ done ++ rest → Appends a b done → WriteAppends b c r rest
    → (more : List ℕ) × (all ≡ more ++ take (length rest - n) (drop n rest)) × Appends a c more
bytes_moved {E = E} a b c all done rest r n is e p q =
    (done ++ take n rest, moves_front all done rest n e, Appends-trans a b c done (take n rest) p (subst (λ (x : Result ℕ E). WriteAppends b c x rest) is q))

pub bytes_kept : {E : Type 0} (a b c : Option (List ℕ)) (all done rest : List ℕ) (r : Result ℕ E) (f : E) → r ≡ Err f → all ≡ done ++ rest → Appends a b done → WriteAppends b c r rest
    → (more : List ℕ) × (all ≡ more ++ rest) × Appends a c more
bytes_kept {E = E} a b c all done rest r f is e p q = (done, e, Appends-kept a b c done p (subst (λ (x : Result ℕ E). WriteAppends b c x rest) is q))

-- ---- blanks

-- of more levels than one write takes
pub blanks_more : (n : ℕ) → 32 < n → blanks 32 ++ blanks (n - 32) ≡ blanks n
blanks_more n lt =
    let sum : 2 * 32 + 2 * (n - 32) ≡ 2 * n = omega (arith, lt) in
    replicate-append-replicate (2 * 32) (2 * (n - 32)) 32 ∙ ap (λ (k : ℕ). replicate k 32) sum

pub blanks_went : (a b c : Option (List ℕ)) (done chunk : List ℕ) (n all : ℕ) → 32 < n → chunk ≡ blanks 32 → Appends a b done → Appends b c chunk → done ++ blanks n ≡ blanks all → (more : List ℕ) × Appends a c more × (more ++ blanks (n - 32) ≡ blanks all)
blanks_went a b c done chunk n all lt e p q h = (
  done ++ chunk,
  Appends-trans a b c done chunk p q,
  append_assoc done chunk (blanks (n - 32)) ∙ ap (λ (x : List ℕ). done ++ (x ++ blanks (n - 32))) e ∙ ap (λ (x : List ℕ). done ++ x) (blanks_more n lt) ∙ h,
)

pub blanks_broke : (a b c : Option (List ℕ)) (done chunk : List ℕ) (n all : ℕ) → 32 < n → chunk ≡ blanks 32 → Appends a b done → AppendsFront b c chunk → done ++ blanks n ≡ blanks all → AppendsFront a c (blanks all)
blanks_broke a b c done chunk n all lt e p q h =
    let rest = blanks (n - 32) in
    let is : (done ++ chunk) ++ rest ≡ blanks all = append_assoc done chunk rest ∙ ap (λ (x : List ℕ). done ++ (x ++ rest)) e ∙ ap (λ (x : List ℕ). done ++ x) (blanks_more n lt) ∙ h in
    subst (λ (l : List ℕ). AppendsFront a c l) is (front_of a c (done ++ chunk) rest (front_after a b c done chunk p q))

pub blanks_end : {X E : Type 0} (a b c : Option (List ℕ)) (done chunk : List ℕ) (n all : ℕ) (r : Result X E) → chunk ≡ blanks n → Appends a b done → Writes b c chunk r → done ++ blanks n ≡ blanks all → Writes a c (blanks all) r
blanks_end a b c done chunk n all r e p q h =
    subst (λ (l : List ℕ). Writes a c l r) (ap (λ (x : List ℕ). done ++ x) e ∙ h) (then_writes a b c done chunk r p q)

-- ---- what stands between two parts, and at the end

parts_open : (d : ℕ) (p q : Part) (j : Bool) → j ≡ is_joined p q → j ≡ false → between d p q ≡ closing p ++ (opening p q ++ blanks (levels d q))
parts_open d p q j e f = ap (λ (b : Bool). if b then joint p q else (closing p ++ (opening p q ++ blanks (levels d q)))) (sym e ∙ f)

pub opening_broke : (a b : Option (List ℕ)) (p q : Part) (x y : List ℕ) → x ≡ opening p q → AppendsFront a b x → AppendsFront a b (opening p q ++ y)
opening_broke a b p q x y e h = front_of a b (opening p q) y (subst (λ (l : List ℕ). AppendsFront a b l) e h)

pub opening_wrote : {X E : Type 0} (a b c : Option (List ℕ)) (p q : Part) (x y z : List ℕ) (r : Result X E) → x ≡ opening p q → y ≡ z → Appends a b x → Writes b c y r → Writes a c (opening p q ++ z) r
opening_wrote a b c p q x y z r e f h k = then_writes a b c (opening p q) z r (subst (λ (l : List ℕ). Appends a b l) e h) (subst (λ (l : List ℕ). Writes b c l r) f k)

pub between_broke : (a b : Option (List ℕ)) (d : ℕ) (p q : Part) (j : Bool) (x : List ℕ) → j ≡ is_joined p q → j ≡ false → x ≡ closing p → AppendsFront a b x → AppendsFront a b (between d p q)
between_broke a b d p q j x e f g h =
    subst (λ (l : List ℕ). AppendsFront a b l) (sym (parts_open d p q j e f)) (front_of a b (closing p) (opening p q ++ blanks (levels d q)) (subst (λ (l : List ℕ). AppendsFront a b l) g h))

pub between_wrote : {X E : Type 0} (a b c : Option (List ℕ)) (d : ℕ) (p q : Part) (j : Bool) (x : List ℕ) (r : Result X E) → j ≡ is_joined p q → j ≡ false → x ≡ closing p → Appends a b x → Writes b c (opening p q ++ blanks (levels d q)) r → Writes a c (between d p q) r
between_wrote a b c d p q j x r e f g h k =
    subst (λ (l : List ℕ). Writes a c l r) (sym (parts_open d p q j e f)) (then_writes a b c (closing p) (opening p q ++ blanks (levels d q)) r (subst (λ (l : List ℕ). Appends a b l) g h) k)

pub ending_broke : (a b : Option (List ℕ)) (o : Option Part) (p : Part) (x : List ℕ) → o ≡ Some p → x ≡ closing p → AppendsFront a b x → AppendsFront a b (ending o)
ending_broke a b o p x e g h = subst (λ (z : Option Part). AppendsFront a b (ending z)) (sym e) (front_of a b (closing p) (to_line_end p) (subst (λ (l : List ℕ). AppendsFront a b l) g h))

pub ending_wrote : {X E : Type 0} (a b c : Option (List ℕ)) (o : Option Part) (p : Part) (x y : List ℕ) (r : Result X E) → o ≡ Some p → x ≡ closing p → y ≡ to_line_end p → Appends a b x → Writes b c y r → Writes a c (ending o) r
ending_wrote a b c o p x y r e g i h k =
    subst (λ (z : Option Part). Writes a c (ending z) r) (sym e) (then_writes a b c (closing p) (to_line_end p) r (subst (λ (l : List ℕ). Appends a b l) g h) (subst (λ (l : List ℕ). Writes b c l r) i k))

-- ---- the loop over the rows

-- a piece that is left and a mark were not written whole
pub left_broke : (a b : Option (List ℕ)) (left mark part : List ℕ) → AppendsFront a b (left ++ mark) → AppendsFront a b (left ++ (mark ++ part))
left_broke a b left mark part h = subst (λ (l : List ℕ). AppendsFront a b l) (append_assoc left mark part) (front_of a b (left ++ mark) part h)

-- the bytes of a row behind a piece that is left
row_is : (done left mark part : List ℕ) → done ++ (left ++ (mark ++ part)) ≡ ((done ++ left) ++ mark) ++ part
row_is done left mark part = sym (append_assoc done left (mark ++ part)) ∙ sym (append_assoc (done ++ left) mark part)

pub row_wrote : (a b c : Option (List ℕ)) (text done total : List ℕ) (d : ℕ) (last : Option Part) (x : Row) (rows rest : List Row) (left more : Span) → rows ≡ x ∷ rest → Appends a b done → done ++ (piece text left ++ spelled text d last rows) ≡ total
    → (written : List ℕ) × Appends b c written × (written ++ piece text more ≡ piece text left ++ (before d last x.part ++ piece text x.span))
    → (all : List ℕ) × Appends a c all × (all ++ (piece text more ++ spelled text (depth_behind x.part d) (Some x.part) rest) ≡ total)
row_wrote a b c text done total d last x rows rest left more e p h q =
    let w = q.0 in
    let front = done ++ piece text left in
    let behind = spelled text (depth_behind x.part d) (Some x.part) rest in
    let is = append_assoc done w (piece text more) ∙ ap (λ (l : List ℕ). done ++ l) q.2 ∙ row_is done (piece text left) (before d last x.part) (piece text x.span) in (
      done ++ w,
      Appends-trans a b c done w p q.1,
      sym (append_assoc (done ++ w) (piece text more) behind)
          ∙ goes_on text front ((done ++ w) ++ piece text more) total d last x rows rest e is (append_assoc done (piece text left) (spelled text d last rows) ∙ h),
    )

pub row_broke : (a b c : Option (List ℕ)) (text done total : List ℕ) (d : ℕ) (last : Option Part) (x : Row) (rows rest : List Row) (left : Span) → rows ≡ x ∷ rest → Appends a b done → done ++ (piece text left ++ spelled text d last rows) ≡ total
    → AppendsFront b c (piece text left ++ (before d last x.part ++ piece text x.span)) → AppendsFront a c total
row_broke a b c text done total d last x rows rest left e p h q =
    let more = piece text left ++ (before d last x.part ++ piece text x.span) in
    let front = done ++ piece text left in
    subst (λ (l : List ℕ). AppendsFront a c l)
    (goes_on text front (done ++ more) total d last x rows rest e (row_is done (piece text left) (before d last x.part) (piece text x.span)) (append_assoc done (piece text left) (spelled text d last rows) ∙ h))
    (front_of a c (done ++ more) (spelled text (depth_behind x.part d) (Some x.part) rest) (front_after a b c done more p q))

pub end_wrote : {X E : Type 0} (a b c : Option (List ℕ)) (text done total : List ℕ) (d : ℕ) (last : Option Part) (rows : List Row) (left : Span) (r : Result X E) → rows ≡ [] → Appends a b done → done ++ (piece text left ++ spelled text d last rows) ≡ total
    → Writes b c (piece text left ++ ending last) r → Writes a c total r
end_wrote a b c text done total d last rows left r e p h q =
    let is = sym (append_assoc done (piece text left) (ending last)) ∙ ends text (done ++ piece text left) total d last rows e (append_assoc done (piece text left) (spelled text d last rows) ∙ h) in
    subst (λ (l : List ℕ). Writes a c l r) is (then_writes a b c done (piece text left ++ ending last) r p q)

-- two pieces of a text behind each other are one piece
two_pieces : (text : List ℕ) (a b c : ℕ) → a ≤ b → b ≤ c → take (c - a) (drop a text) ≡ take (b - a) (drop a text) ++ take (c - b) (drop b text)
two_pieces text a b c ab bc =
    let sum : c - a ≡ (b - a) + (c - b) = omega (arith, ab, bc) in
    let place : a + (b - a) ≡ b = omega (arith, ab) in
    ap (λ (n : ℕ). take n (drop a text)) sum
    ∙ take-add (b - a) (c - b) (drop a text)
    ∙ ap (λ (l : List ℕ). take (b - a) (drop a text) ++ take (c - b) l) (drop-drop (b - a) a text ∙ ap (λ (n : ℕ). drop n text) place)

-- pieces of a text behind one another are one piece
pub pieces_join : (text : List ℕ) (a b c d : ℕ) → a ≤ b → b ≤ c → c ≤ d → take (d - a) (drop a text) ≡ take (b - a) (drop a text) ++ (take (c - b) (drop b text) ++ take (d - c) (drop c text))
pieces_join text a b c d ab bc cd =
    two_pieces text a b d ab (omega (arith, bc, cd)) ∙ ap (λ (l : List ℕ). take (b - a) (drop a text) ++ l) (two_pieces text b c d bc cd)

-- all was written into a vector that had nothing
pub all_written : {X E : Type 0} (old items bytes : List ℕ) (r : Result X E) (x : X) → old ≡ [] → r ≡ Ok x → Writes (Some old) (Some items) bytes r → items ≡ bytes
all_written {X = X} {E = E} old items bytes r x none e h = subst (λ (y : Result X E). Writes (Some old) (Some items) bytes y) e h ∙ ap (λ (o : List ℕ). o ++ bytes) none
