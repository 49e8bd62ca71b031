-- Blocks of two forests whose heads are the same rows.
use Rattle.std.proofs.Common.{◌≡◌, ℕ, ◌+◌, ◌<◌, ◌≤◌, length, Some, refl, sym, ap, ◌∙◌, subst, inl, inr, true≢false, arith}
use Rattle.std.proofs.lemmas.Bool.{cases_eq}
use Rattle.ir_model.specs.declared.ids.ArenaIndex.{ArenaIndex}
use Rattle.ir_model.specs.Forest.{Dialect, of_block}
use Rattle.ir_model.specs.Nesting.{definitions_of}
use Rattle.ir_text_tree.specs.declared.row.Part.TheVariants as parts
use Rattle.ir_text_names.specs.Values.{defines}
use Rattle.ir_text_described.specs.Trees.{part_at}
use Rattle.ir_text_described.specs.Written.{Setting, IsArgument, IsLabel, IsPlain, argument_location_of}
use Rattle.ir_text_described.specs.Alike.{type_texts}
use Rattle.ir_text_described.proofs.Places.{same_by_place}
use Rattle.ir_text_described.proofs.Ranks.{rank, rank_at, gives, GiveNothing, one_gives, more_give}
use Rattle.ir_text_described.proofs.Onward.{onward, Twice, Passed, meet}
use Rattle.ir_text_described.proofs.Sides.{Sides, one, other, Row, plain_row, may_rows, may_meet, may_same}

-- the heads of both blocks are the rows from one row up to another
pub record LabelPair {W V : Dialect} (w : Sides W V) (b c : ArenaIndex) (at next : ℕ) : Type 0 where
  pub argument_types : type_texts w.words (definitions_of w.f (of_block b)) ≡ type_texts w.words' (definitions_of w.g (of_block c))
  pub locations : (k : ℕ) → k < length (definitions_of w.f (of_block b)) → argument_location_of (one w) b k ≡ argument_location_of (other w) c k
  pub rows : (r : ℕ) → at ≤ r → r < next → Row w (of_block b) (of_block c) r

pub record LabelsMeet {W V : Dialect} (w : Sides W V) (b c : ArenaIndex) (at next next' : ℕ) : Type 0 where
  pub ends : next ≡ next'
  pub pair : LabelPair w b c at next

module _ {W : Dialect} (s : Setting W) (b : ArenaIndex) where
  argument_rank : (k at next : ℕ) → IsArgument s b k at next → rank_at s.tree at ≡ 1
  argument_rank k at next h = ap rank h.part

  -- behind the argument's name
  argument_rows : (k at next : ℕ) → IsArgument s b k at next → GiveNothing s.tree (at + 1) next
  argument_rows k at next h = more_give s.tree (at + 1) (at + 2) next (one_gives s.tree (at + 1) (at + 2) (omega arith) (ap gives h.type_part)) (may_rows s parts.ArgumentLocation (argument_location_of s b k) (at + 2) next refl h.location)

module _ {W V : Dialect} (w : Sides W V) (b c : ArenaIndex) where
  no_location : (n : ℕ) → 1 ≤ rank_at w.tree n → part_at w.tree n ≡ parts.ArgumentLocation → ⊥
  no_location n far e = let is : rank_at w.tree n ≡ 0 = ap rank e in absurd (omega arith)

  one_end : (k at next next' : ℕ) → IsArgument (one w) b k at next → IsArgument (other w) c k at next' → 1 ≤ rank_at w.tree next → 1 ≤ rank_at w.tree next' → next ≡ next'
  one_end k at next next' h h' far far' =
      let texts = may_meet w parts.ArgumentLocation (argument_location_of (one w) b k) (argument_location_of (other w) c k) (at + 2) next next' (no_location next far) (no_location next' far') h.location h'.location in
      texts.ends

  argument_row : (at r : ℕ) (k : ℕ) → part_at w.tree at ≡ parts.Argument → w.meanings.values at ≡ Some (record { definer = of_block b; first = k }) → w.meanings'.values at ≡ Some (record { definer = of_block c; first = k }) → at ≡ r → Row w (of_block b) (of_block c) r
  argument_row at r k part meant meant' e = subst (Row w (of_block b) (of_block c)) e (record { value = λ h. (k, meant, meant'); block = λ h. let none : ⊥ = cc in absurd none })

  label_row : (at r : ℕ) → part_at w.tree at ≡ parts.Label → w.meanings.blocks at ≡ Some b → w.meanings'.blocks at ≡ Some c → at ≡ r → Row w (of_block b) (of_block c) r
  label_row at r part meant meant' e = subst (Row w (of_block b) (of_block c)) e (record { value = λ h. absurd (true≢false (sym h ∙ ap defines part)); block = λ h. (b, c, refl, refl, meant, meant') })

  passed_row : (r : ℕ) → Passed (IsArgument (one w) b) (IsArgument (other w) c) r → Row w (of_block b) (of_block c) r
  passed_row r u = elim (cases_eq u.at r) [
    | inl e ↦ argument_row u.at r u.k u.one.part u.one.meant u.other.meant e
    | inr differ ↦ (let from = u.from in plain_row w (of_block b) (of_block c) r (argument_rows (one w) b u.k u.at u.next u.one r (omega arith) u.to))
  ]

  twice_text : (k : ℕ) (u : Twice (IsArgument (one w) b) (IsArgument (other w) c) k) → argument_location_of (one w) b k ≡ argument_location_of (other w) c k
  twice_text k u = may_same w parts.ArgumentLocation (argument_location_of (one w) b k) (argument_location_of (other w) c k) (u.at + 2) u.next u.one.location u.other.location

  pub labels_meet : (at next next' : ℕ) → IsLabel (one w) b at next → IsLabel (other w) c at next' → 9 ≤ rank_at w.tree next → 9 ≤ rank_at w.tree next' → LabelsMeet w b c at next next'
  labels_meet at next next' h h' far far' =
      let same = meet (rank_at w.tree) 1 (IsArgument (one w) b) (IsArgument (other w) c) (argument_rank (one w) b) (argument_rank (other w) c) one_end (onward h.arguments) (onward h'.arguments) (omega arith) (omega arith) in
      record {
        ends = same.ends;
        pair = record {
          argument_types = same_by_place (λ d. w.words.type_text d.ty) (λ d. w.words'.type_text d.ty) (definitions_of w.f (of_block b)) (definitions_of w.g (of_block c)) same.so_many (λ k lt. let both = same.each k (omega arith) lt in both.one.text ∙ sym both.other.text);
          locations = λ k lt. twice_text k (same.each k (omega arith) lt);
          rows = λ r le lt. elim (cases_eq at r) [
            | inl e ↦ label_row at r h.part h.meant h'.meant e
            | inr differ ↦ passed_row r (same.passed r (omega arith) lt)
          ];
        };
      }

  -- two blocks without heads
  pub plain_pair : (at : ℕ) → IsPlain (one w) b at → IsPlain (other w) c at → LabelPair w b c at at
  plain_pair at h h' =
      let none = h.arguments in
      let none' = h'.arguments in
      record {
        argument_types = same_by_place (λ d. w.words.type_text d.ty) (λ d. w.words'.type_text d.ty) (definitions_of w.f (of_block b)) (definitions_of w.g (of_block c)) (h.arguments ∙ sym h'.arguments) (λ k lt. absurd (omega arith));
        locations = λ k lt. absurd (omega arith);
        rows = λ r le lt. absurd (omega arith);
      }
