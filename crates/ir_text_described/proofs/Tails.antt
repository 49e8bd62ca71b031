-- Operations of two forests that are the same rows from behind their regions on.
use Rattle.std.proofs.Common.{◌≡◌, ℕ, zero, suc, ◌+◌, ◌≤◌, List, [], ◌∷◌, length, drop, Option, Some, None, slice_get, refl, sym, ap, ap₂, ◌∙◌, subst, arith}
use Rattle.std.proofs.lemmas.List.{drop_all}
use Rattle.std.specs.List.{cons_option}
use Rattle.ir_model.specs.declared.ids.ArenaIndex.{ArenaIndex}
use Rattle.ir_model.specs.Forest.{Dialect, of_op}
use Rattle.ir_model.specs.Nesting.{operands_of, definitions_of}
use Rattle.ir_text_tree.specs.declared.row.Part.{Part}
use Rattle.ir_text_tree.specs.declared.row.Part.TheVariants as parts
use Rattle.ir_text_described.specs.Trees.{part_at, bytes_at}
use Rattle.ir_text_described.specs.Written.{Setting, MayStand, StandsAs, IsEntry, IsOperandType, IsResultType, IsTail, attributes_of, location_of}
use Rattle.ir_text_described.specs.Alike.{entries_of, type_texts}
use Rattle.ir_text_described.proofs.Places.{same_by_place}
use Rattle.ir_text_described.proofs.Ranks.{rank, rank_at, type_rank, gives, low_gives, GiveNothing, none_give, one_gives, more_give}
use Rattle.ir_text_described.proofs.Onward.{Onward, there, on, onward, Same, low, meet, steps_give_nothing}
use Rattle.ir_text_described.proofs.Sides.{Sides, one, other, may_rows, may_low, may_meet}

-- ---- entries of attributes

-- these entries are the rows from one row up to another
data Entries {W : Dialect} (s : Setting W) (end : ℕ) : List (List ℕ × Option (List ℕ)) → ℕ → Type 0 where
  done : {at : ℕ} → at ≡ end → Entries s end [] at
  entry : {x : List ℕ × Option (List ℕ)} {xs : List (List ℕ × Option (List ℕ))} {at next : ℕ} → part_at s.tree at ≡ parts.Key → bytes_at s.tree at ≡ x.0 → MayStand s parts.Value x.1 (at + 1) next → Entries s end xs next → Entries s end (x ∷ xs) at

dropped : {A : Type 0} (xs : List A) (k : ℕ) (x : A) → slice_get xs k ≡ Some x → drop k xs ≡ x ∷ drop (k + 1) xs
dropped [] k x e = let none : ⊥ = cc in absurd none
dropped (y ∷ ys) zero x e = let same : y ≡ x = cc in ap (λ z. z ∷ ys) same
dropped (y ∷ ys) (suc k) x e = let more : suc k + 1 ≡ suc (k + 1) = omega arith in dropped ys k x e ∙ ap (λ n. x ∷ drop n (y ∷ ys)) (sym more)

module _ {W : Dialect} (s : Setting W) where
  cons_entry : (e : Option (List ℕ × Option (List ℕ))) (xs : List (List ℕ × Option (List ℕ))) (end at next : ℕ) → StandsAs s e at next → Entries s end xs next → Entries s end (cons_option e xs) at
  cons_entry None xs end at next same rest = subst (Entries s end xs) same rest
  cons_entry (Some x) xs end at next h rest = entry h.0 h.1 h.2 rest

  entries_low : {end at : ℕ} {xs : List (List ℕ × Option (List ℕ))} → Entries s end xs at → 5 ≤ rank_at s.tree end → 5 ≤ rank_at s.tree at
  entries_low (done e) far = let same = ap (rank_at s.tree) e in omega arith
  entries_low (entry key bytes value rest) far = let is : rank_at s.tree _ ≡ 5 = ap rank key in omega arith

  entries_rows : {end at : ℕ} {xs : List (List ℕ × Option (List ℕ))} → Entries s end xs at → GiveNothing s.tree at end
  entries_rows (done e) = none_give s.tree _ _ e
  entries_rows {end = end} {at = at} (entry {x = x} {next = next} key bytes value rest) =
      more_give s.tree at (at + 1) end (one_gives s.tree at (at + 1) refl (ap gives key)) (more_give s.tree (at + 1) next end (may_rows s parts.Value x.1 (at + 1) next refl value) (entries_rows rest))

module _ {W : Dialect} (s : Setting W) (o : ArenaIndex) where
  -- the attributes from that place on, as they are written
  written_from : {end k at : ℕ} → Onward (IsEntry s o) (length (attributes_of s.forest o)) end k at → Entries s end (entries_of s.words (drop k (attributes_of s.forest o))) at
  written_from {end = end} {k = k} {at = at} (there e h) =
      let none_left : drop k (attributes_of s.forest o) ≡ [] = drop_all k (attributes_of s.forest o) (omega arith) in
      subst (λ xs. Entries s end (entries_of s.words xs) at) (sym none_left) (done h)
  written_from {end = end} {k = k} {at = at} (on {next = next} h rest) =
      let a = h.attribute in
      subst (λ xs. Entries s end (entries_of s.words xs) at) (sym (dropped (attributes_of s.forest o) k a h.is_attribute))
      (cons_entry s (s.words.entry a.0 a.1) (entries_of s.words (drop (k + 1) (attributes_of s.forest o))) end at next h.stands (written_from rest))

  -- ---- types

  operand_type_rank : (k at next : ℕ) → IsOperandType s o k at next → rank_at s.tree at ≡ 6
  operand_type_rank k at next h = ap rank h.part

  operand_type_rows : (k at next : ℕ) → IsOperandType s o k at next → GiveNothing s.tree at next
  operand_type_rows k at next h = one_gives s.tree at next h.behind (ap gives h.part)

  result_type_rank : (k at next : ℕ) → IsResultType s o k at next → rank_at s.tree at ≡ 7
  result_type_rank k at next h = type_rank (part_at s.tree at) h.part

  no_argument : (p : Part) → rank p ≡ 7 → p ≡ parts.Argument → ⊥
  no_argument p is e = let differ : rank p ≡ 1 = ap rank e in absurd (omega arith)

  result_type_rows : (k at next : ℕ) → IsResultType s o k at next → GiveNothing s.tree at next
  result_type_rows k at next h = let is = result_type_rank k at next h in one_gives s.tree at next h.behind (low_gives (part_at s.tree at) (omega arith) (no_argument (part_at s.tree at) is))

-- ---- both

module _ {W V : Dialect} (w : Sides W V) where
  record SameEntries (xs ys : List (List ℕ × Option (List ℕ))) (end end' : ℕ) : Type 0 where
    entries : xs ≡ ys
    ends : end ≡ end'

  no_value : (n : ℕ) → 5 ≤ rank_at w.tree n → part_at w.tree n ≡ parts.Value → ⊥
  no_value n far e = let is : rank_at w.tree n ≡ 0 = ap rank e in absurd (omega arith)

  entries_meet : {end end' at : ℕ} {xs ys : List (List ℕ × Option (List ℕ))} → Entries (one w) end xs at → Entries (other w) end' ys at → 6 ≤ rank_at w.tree end → 6 ≤ rank_at w.tree end' → SameEntries xs ys end end'
  entries_meet (done e) (done e') far far' = record { entries = refl; ends = sym e ∙ e' }
  entries_meet (done e) (entry key bytes value rest) far far' = let same = ap (rank_at w.tree) e in let is = ap rank key in absurd (omega arith)
  entries_meet (entry key bytes value rest) (done e) far far' = let same = ap (rank_at w.tree) e in let is = ap rank key in absurd (omega arith)
  entries_meet {end' = end'} {at = at} (entry {x = x} {xs = xs} {next = next} key bytes value rest) (entry {x = y} {xs = ys} {next = next'} key' bytes' value' rest') far far' =
      let low_next : 5 ≤ rank_at w.tree next = entries_low (one w) rest (omega arith) in
      let low_next' : 5 ≤ rank_at w.tree next' = entries_low (other w) rest' (omega arith) in
      let texts = may_meet w parts.Value x.1 y.1 (at + 1) next next' (no_value next low_next) (no_value next' low_next') value value' in
      let r = entries_meet rest (subst (Entries (other w) end' ys) (sym texts.ends) rest') far far' in
      record { entries = ap₂ (λ z zs. z ∷ zs) (ap₂ (λ u v. (u, v)) (sym bytes ∙ bytes') texts.texts) r.entries; ends = r.ends }

-- what stands behind the regions of both operations is the rows from one row up to another
pub record TailPair {W V : Dialect} (w : Sides W V) (o p : ArenaIndex) (at next : ℕ) : Type 0 where
  pub entries : entries_of w.words (attributes_of w.f o) ≡ entries_of w.words' (attributes_of w.g p)
  pub result_types : type_texts w.words (definitions_of w.f (of_op o)) ≡ type_texts w.words' (definitions_of w.g (of_op p))
  pub locations : location_of (one w) o ≡ location_of (other w) p
  pub rows : GiveNothing w.tree at next

pub record TailsMeet {W V : Dialect} (w : Sides W V) (o p : ArenaIndex) (at next next' : ℕ) : Type 0 where
  pub ends : next ≡ next'
  pub pair : TailPair w o p at next

module _ {W V : Dialect} (w : Sides W V) (o p : ArenaIndex) where
  no_location : (n : ℕ) → 9 ≤ rank_at w.tree n → part_at w.tree n ≡ parts.Location → ⊥
  no_location n far e = let is : rank_at w.tree n ≡ 8 = ap rank e in absurd (omega arith)

  same_types : {at n' end end' : ℕ} → Same (IsResultType (one w) o) (IsResultType (other w) p) 0 at (length (definitions_of w.f (of_op o))) n' end end' → n' ≡ length (definitions_of w.g (of_op p)) → type_texts w.words (definitions_of w.f (of_op o)) ≡ type_texts w.words' (definitions_of w.g (of_op p))
  same_types results e = same_by_place (λ d. w.words.type_text d.ty) (λ d. w.words'.type_text d.ty) (definitions_of w.f (of_op o)) (definitions_of w.g (of_op p)) (results.so_many ∙ e) (λ k lt. let both = results.each k (omega arith) lt in both.one.text ∙ sym both.other.text)

  pub tails_meet : (at next next' : ℕ) → IsTail (one w) o at next → IsTail (other w) p at next' → 9 ≤ rank_at w.tree next → 9 ≤ rank_at w.tree next' → TailsMeet w o p at next next'
  tails_meet at next next' h h' far far' =
      let last : 8 ≤ rank_at w.tree h.result_types_end = may_low (one w) parts.Location 8 (location_of (one w) o) h.result_types_end next (omega arith) (omega arith) h.location in
      let last' : 8 ≤ rank_at w.tree h'.result_types_end = may_low (other w) parts.Location 8 (location_of (other w) p) h'.result_types_end next' (omega arith) (omega arith) h'.location in
      let middle : 7 ≤ rank_at w.tree h.operand_types_end = low (rank_at w.tree) 7 (result_type_rank (one w) o) (onward h.result_types) (omega arith) in
      let middle' : 7 ≤ rank_at w.tree h'.operand_types_end = low (rank_at w.tree) 7 (result_type_rank (other w) p) (onward h'.result_types) (omega arith) in
      let first : 6 ≤ rank_at w.tree h.entries_end = low (rank_at w.tree) 6 (operand_type_rank (one w) o) (onward h.operand_types) (omega arith) in
      let first' : 6 ≤ rank_at w.tree h'.entries_end = low (rank_at w.tree) 6 (operand_type_rank (other w) p) (onward h'.operand_types) (omega arith) in
      let written = written_from (one w) o (onward h.entries) in
      let entries = entries_meet w written (written_from (other w) p (onward h'.entries)) first first' in
      let operand_types' : Onward (IsOperandType (other w) p) (length (operands_of w.g p)) h'.operand_types_end 0 h.entries_end = subst (λ x. Onward (IsOperandType (other w) p) (length (operands_of w.g p)) h'.operand_types_end 0 x) (sym entries.ends) (onward h'.operand_types) in
      let operands = meet (rank_at w.tree) 6 (IsOperandType (one w) o) (IsOperandType (other w) p) (operand_type_rank (one w) o) (operand_type_rank (other w) p) (λ k x y y' s s' le le'. s.behind ∙ sym s'.behind) (onward h.operand_types) operand_types' middle middle' in
      let result_types' : Onward (IsResultType (other w) p) (length (definitions_of w.g (of_op p))) h'.result_types_end 0 h.operand_types_end = subst (λ x. Onward (IsResultType (other w) p) (length (definitions_of w.g (of_op p))) h'.result_types_end 0 x) (sym operands.ends) (onward h'.result_types) in
      let results = meet (rank_at w.tree) 7 (IsResultType (one w) o) (IsResultType (other w) p) (result_type_rank (one w) o) (result_type_rank (other w) p) (λ k x y y' s s' le le'. s.behind ∙ sym s'.behind) (onward h.result_types) result_types' last last' in
      let texts = may_meet w parts.Location (location_of (one w) o) (location_of (other w) p) h.result_types_end next next' (no_location next far) (no_location next' far') h.location (subst (λ x. MayStand (other w) parts.Location (location_of (other w) p) x next') (sym results.ends) h'.location) in
      record {
        ends = texts.ends;
        pair = record {
          entries = entries.entries;
          result_types = same_types results refl;
          locations = texts.texts;
          rows = more_give w.tree at h.entries_end next (entries_rows (one w) written)
              (more_give w.tree h.entries_end h.operand_types_end next (steps_give_nothing w.tree (operand_type_rows (one w) o) (onward h.operand_types))
              (more_give w.tree h.operand_types_end h.result_types_end next (steps_give_nothing w.tree (result_type_rows (one w) o) (onward h.result_types))
              (may_rows (one w) parts.Location (location_of (one w) o) h.result_types_end next refl h.location)));
        };
      }

-- what stands behind the regions of an operation begins no region
pub tail_low : {W : Dialect} (s : Setting W) (o : ArenaIndex) (at next : ℕ) → IsTail s o at next → 9 ≤ rank_at s.tree next → 5 ≤ rank_at s.tree at
tail_low s o at next h far =
    let last : 8 ≤ rank_at s.tree h.result_types_end = may_low s parts.Location 8 (location_of s o) h.result_types_end next (omega arith) (omega arith) h.location in
    let middle : 7 ≤ rank_at s.tree h.operand_types_end = low (rank_at s.tree) 7 (result_type_rank s o) (onward h.result_types) (omega arith) in
    let first : 6 ≤ rank_at s.tree h.entries_end = low (rank_at s.tree) 6 (operand_type_rank s o) (onward h.operand_types) (omega arith) in
    entries_low s (written_from s o (onward h.entries)) (omega arith)
