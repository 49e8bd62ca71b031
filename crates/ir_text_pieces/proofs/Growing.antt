-- What is written stays where it is while the text grows.
use Rattle.std.proofs.Common.{◌≡◌, ℕ, ◌+◌, ◌-◌, ◌≤◌, List, [], ◌∷◌, ◌++◌, length, take, drop, decimal, codes, Some, refl, sym, ap, subst, append_assoc, ◌∙◌, ◌⊎◌, inl, inr, suc, zero, arith, length-append, length-drop, slice_get, slice_range}
use Rattle.std.specs.List.{flat_map, range_with_len}
use Rattle.std.proofs.lemmas.List.{flat_map_more, take-append-drop, take-append-le, drop-append-le}
use Rattle.std.proofs.Math.Seq.{drop-append_seam}
use Rattle.std.proofs.lemmas.Grind.{common_steps}
use Rattle.std.specs.Io.{StartsWith}
use Rattle.ir_text_tree.specs.Rows.{row, span}
use Rattle.ir_text_tree.specs.declared.row.Part.{Part}
use Rattle.ir_text_tree.specs.declared.row.Row.{Row}
use Rattle.ir_text_pieces.specs.declared.description.Description.{Description}
use Rattle.ir_text_tree.specs.declared.row.Span.{Span}
use Rattle.ir_text_pieces.specs.declared.numbered.Numbered.{Numbered}
use Rattle.ir_text_pieces.specs.declared.writer.TreeWriter.{TreeWriter}
use Rattle.ir_text_pieces.specs.Pieces.{AreMarked, AreWritten, IsPiece, PiecesStand, PutsPiece, PutsTwoPieces, mark_of, numbered_texts}

starts_with-append : (old new : List ℕ) → StartsWith new old → new ≡ old ++ drop (length old) new
starts_with-append old new h = sym (take-append-drop (length old) new) ∙ ap (λ t. t ++ drop (length old) new) h

slice_range-append : (xs ys : List ℕ) (i j : ℕ) → i ≤ j → j ≤ length xs → slice_range (xs ++ ys) i j ≡ slice_range xs i j
slice_range-append xs ys i j h k =
    let low : i ≤ length xs = omega arith in
    let high : j - i ≤ length (drop i xs) = simp length-drop (omega arith) in
    ap (take (j - i)) (drop-append-le i xs ys low) ∙ take-append-le (j - i) (drop i xs) ys high

pub IsPiece-grows : (old new : List ℕ) (s : Span) (piece : List ℕ) → StartsWith new old → IsPiece old s piece → IsPiece new s piece
IsPiece-grows old new s piece grown h =
    let e = starts_with-append old new grown in
    let longer : length old ≤ length new = omega (arith, ap length e, length-append old (drop (length old) new)) in
    (h.0, omega arith, ap (λ (t : List ℕ). slice_range t s.start s.end) e ∙ slice_range-append old (drop (length old) new) s.start s.end h.0 h.1 ∙ h.2)

take-length : (xs : List ℕ) → take (length xs) xs ≡ xs
take-length xs = grind (arith, common_steps)

pub IsPiece-behind : (old piece : List ℕ) → IsPiece (old ++ piece) (span (length old) (length (old ++ piece))) piece
IsPiece-behind old piece =
    let e : length (old ++ piece) ≡ length old + length piece = length-append old piece in
    let n : length (old ++ piece) - length old ≡ length piece = omega arith in
    (omega arith, omega arith, ap (take (length (old ++ piece) - length old)) (drop-append_seam old piece) ∙ ap (λ k. take k piece) n ∙ take-length piece)

pub AreWritten-grows : (old new : List ℕ) (n : Numbered) → StartsWith new old → AreWritten old n → AreWritten new n
AreWritten-grows old new n grown h = record { pieces = λ k s e. IsPiece-grows old new s (mark_of n ++ decimal k) grown (h.pieces k s e) }

-- the same of pieces that stay
pub AreWritten-same : (old new : List ℕ) (n m : Numbered) → StartsWith new old → m.spans.items ≡ n.spans.items → mark_of m ≡ mark_of n → AreWritten old n → AreWritten new m
AreWritten-same old new n m grown spans mark h = record {
  pieces = λ k s e.
      subst (λ (w : List ℕ). IsPiece new s (w ++ decimal k)) (sym mark) (IsPiece-grows old new s (mark_of n ++ decimal k) grown (h.pieces k s (ap (λ (xs : List Span). slice_get xs k) (sym spans) ∙ e)));
}

pub slice_get-append : {X : Type 0} (xs ys : List X) (k : ℕ) (x : X) → slice_get xs k ≡ Some x → slice_get (xs ++ ys) k ≡ Some x
slice_get-append [] ys k x e = absurd (cc)
slice_get-append (y ∷ xs) ys zero x e = e
slice_get-append (y ∷ xs) ys (suc k) x e = slice_get-append xs ys k x e

slice_get-behind : {X : Type 0} (xs : List X) (y : X) (k : ℕ) (x : X) → slice_get (xs ++ y ∷ []) k ≡ Some x → (slice_get xs k ≡ Some x) ⊎ ((k ≡ length xs) × (y ≡ x))
slice_get-behind [] y zero x e = inr (refl, cc)
slice_get-behind [] y (suc k) x e = absurd (cc)
slice_get-behind (z ∷ xs) y zero x e = inl e
slice_get-behind (z ∷ xs) y (suc k) x e = elim (slice_get-behind xs y k x e) [ inl h ↦ inl h | inr h ↦ inr (ap suc h.0, h.1) ]

-- the next piece is written behind the text
pub AreWritten-more : (old new : List ℕ) (n m : Numbered) → StartsWith new old → new ≡ old ++ (mark_of n ++ decimal (length n.spans.items))
    → m.spans.items ≡ n.spans.items ++ span (length old) (length new) ∷ [] → mark_of m ≡ mark_of n → AreWritten old n → AreWritten new m
AreWritten-more old new n m grown e spans mark h = record {
  pieces = λ k s at.
      let P : List ℕ → Type 0 = λ w. IsPiece new s (w ++ decimal k) in
      let at_that : slice_get (n.spans.items ++ span (length old) (length new) ∷ []) k ≡ Some s = ap (λ (xs : List Span). slice_get xs k) (sym spans) ∙ at in
      subst P (sym mark) (elim (slice_get-behind n.spans.items (span (length old) (length new)) k s at_that) [
        | inl before ↦ IsPiece-grows old new s (mark_of n ++ decimal k) grown (h.pieces k s before)
        | inr here ↦
            let last : IsPiece new (span (length old) (length new)) (mark_of n ++ decimal (length n.spans.items)) =
            subst (λ (t : List ℕ). IsPiece t (span (length old) (length t)) (mark_of n ++ decimal (length n.spans.items))) (sym e) (IsPiece-behind old (mark_of n ++ decimal (length n.spans.items))) in
            let at_place : IsPiece new (span (length old) (length new)) (mark_of n ++ decimal k) = subst (λ (i : ℕ). IsPiece new (span (length old) (length new)) (mark_of n ++ decimal i)) (sym here.0) last in
            subst (λ (r : Span). IsPiece new r (mark_of n ++ decimal k)) here.1 at_place
      ]);
}

-- Each piece of the one stands in the second text as those of the other do in the first.
pub record Follows (old new : List ℕ) (n m : Numbered) : Type 0 where
  pub mark : mark_of m ≡ mark_of n
  pub written : AreWritten old n → AreWritten new m

pub kept : (old new : List ℕ) (n : Numbered) → StartsWith new old → Follows old new n n
kept old new n grown = record { mark = refl; written = AreWritten-grows old new n grown }

AreMarked-goes : (old new sign : List ℕ) (n m : Numbered) → Follows old new n m → AreMarked old sign n → AreMarked new sign m
AreMarked-goes old new sign n m f h = record { mark = f.mark ∙ h.mark; written = f.written h.written }

pub PiecesStand-goes : (old new : TreeWriter) → StartsWith new.description.text.items old.description.text.items
    → Follows old.description.text.items new.description.text.items old.arguments new.arguments
    → Follows old.description.text.items new.description.text.items old.values new.values
    → Follows old.description.text.items new.description.text.items old.outside_values new.outside_values
    → Follows old.description.text.items new.description.text.items old.blocks new.blocks
    → Follows old.description.text.items new.description.text.items old.outside_blocks new.outside_blocks
    → Follows old.description.text.items new.description.text.items old.indices new.indices
    → new.braces ≡ old.braces → PiecesStand old → PiecesStand new
PiecesStand-goes old new grown arguments values outside_values blocks outside_blocks indices braces h =
    let t = old.description.text.items in
    let u = new.description.text.items in
    record {
      arguments = AreMarked-goes t u _ _ _ arguments h.arguments;
      values = AreMarked-goes t u _ _ _ values h.values;
      outside_values = AreMarked-goes t u _ _ _ outside_values h.outside_values;
      blocks = AreMarked-goes t u _ _ _ blocks h.blocks;
      outside_blocks = AreMarked-goes t u _ _ _ outside_blocks h.outside_blocks;
      indices = AreMarked-goes t u _ _ _ indices h.indices;
      opening = IsPiece-grows t u _ _ grown (subst (λ (s : Span). IsPiece t s (codes "{")) (sym (ap (λ (b : Span × Span). b.0) braces)) h.opening);
      closing = IsPiece-grows t u _ _ grown (subst (λ (s : Span). IsPiece t s (codes "}")) (sym (ap (λ (b : Span × Span). b.1) braces)) h.closing);
    }

-- the same where all pieces stay
pub PiecesStand-grows : (old new : TreeWriter) → StartsWith new.description.text.items old.description.text.items
    → new.arguments ≡ old.arguments → new.values ≡ old.values → new.outside_values ≡ old.outside_values → new.blocks ≡ old.blocks
    → new.outside_blocks ≡ old.outside_blocks → new.indices ≡ old.indices → new.braces ≡ old.braces → PiecesStand old → PiecesStand new
PiecesStand-grows old new grown e1 e2 e3 e4 e5 e6 braces h =
    let t = old.description.text.items in
    let u = new.description.text.items in
    let same : (n m : Numbered) → m ≡ n → Follows t u n m = λ n m e. subst (λ (x : Numbered). Follows t u n x) (sym e) (kept t u n grown) in
    PiecesStand-goes old new grown (same _ _ e1) (same _ _ e2) (same _ _ e3) (same _ _ e4) (same _ _ e5) (same _ _ e6) braces h

-- one row behind another, while the text grows
pub two_pieces : (first second : Part) (one two : List ℕ) (old between new : Description) → StartsWith new.text.items between.text.items
    → PutsPiece first one old between → PutsPiece second two between new → PutsTwoPieces first one second two old new
two_pieces first second one two old between new grown h k =
    let e : new.rows.items ≡ (old.rows.items ++ row first h.0 ∷ []) ++ row second k.0 ∷ [] = k.1 ∙ ap (λ (rs : List Row). rs ++ row second k.0 ∷ []) h.1 in
    (h.0, k.0, e ∙ append_assoc old.rows.items (row first h.0 ∷ []) (row second k.0 ∷ []), IsPiece-grows _ _ h.0 one grown h.2, k.2)

range_with_len-more : (a n : ℕ) → range_with_len a (suc n) ≡ range_with_len a n ++ (a + n) ∷ []
range_with_len-more a zero = ap (λ (k : ℕ). k ∷ []) (omega arith)
range_with_len-more a (suc n) =
    let e : (a + 1) + n ≡ a + suc n = omega arith in
    ap (λ (xs : List ℕ). a ∷ xs) (range_with_len-more (a + 1) n ∙ ap (λ (k : ℕ). range_with_len (a + 1) n ++ k ∷ []) e)

-- the next of the missing pieces
pub numbered_texts-more : (text mark : List ℕ) (from n next m : ℕ) → next ≡ from + n → m ≡ suc n → (text ++ numbered_texts mark from n) ++ (mark ++ decimal next) ≡ text ++ numbered_texts mark from m
numbered_texts-more text mark from n next m e d =
    let f : ℕ → List ℕ = λ k. mark ++ decimal k in
    ap (λ (k : ℕ). (text ++ numbered_texts mark from n) ++ f k) e ∙ flat_map_more f text (range_with_len from n) (from + n) ∙ ap (λ (xs : List ℕ). text ++ flat_map f xs) (sym (range_with_len-more from n))
    ∙ ap (λ (k : ℕ). text ++ numbered_texts mark from k) (sym d)
