-- What was counted, from one row to the next.
use Rattle.std.proofs.Common.{◌≡◌, ℕ, Bool, ◌+◌, ◌<◌, ◌≤◌, ◌&&◌, cond, nat_eq, List, replicate, length, get_or, set, sym, ap, ◌∙◌, arith}
use Rattle.std.proofs.lemmas.List.{length-replicate, get_or-replicate}
use Rattle.ir_text_tree.specs.declared.row.Row.{Row}
use Rattle.ir_text_names.specs.declared.counting.Counted.{Counted}
use Rattle.ir_text_names.specs.Counts.{tally, belongs, is_counted}
use Rattle.ir_text_names.specs.Operations.{number_of, AreCounted}
use Rattle.ir_text_names.specs.Rows.{part_of}
use Rattle.ir_text_names.specs.Types.{operation_of}
use Rattle.ir_text_names.proofs.Numbering.{number_at_most, number_same, operation_is}
use Rattle.ir_text_names.proofs.Scopes.{operation_at_most}
use Rattle.ir_text_names.proofs.Tallies.{kept_length, counted_more, tally_at_most, tally_none}

pub none_counted : (sort : Counted) (rows : List Row) (n : ℕ) (xs : List ℕ) → n ≡ number_of rows (length rows) → xs ≡ replicate (n + 1) 0 → AreCounted sort rows 0 xs
none_counted sort rows n xs e f = record {
  room = ap length f ∙ length-replicate (n + 1) 0 ∙ ap (λ (k : ℕ). k + 1) e;
  counted = λ o is le.
      let most = number_at_most rows o (length rows) le in
      ap (λ (ys : List ℕ). get_or ys (number_of rows o) 0) f ∙ get_or-replicate (n + 1) (number_of rows o) 0 0 (omega (arith, most, e)) ∙ sym (tally_none (belongs sort rows o));
}

pub counted_within : (sort : Counted) (rows : List Row) (at w : ℕ) (xs : List ℕ) → AreCounted sort rows at xs → at < length rows → w ≡ number_of rows (operation_of rows at) → w < length xs
counted_within sort rows at w xs h lt is =
    let least = operation_at_most rows at in
    let most = number_at_most rows (operation_of rows at) (length rows) (omega (arith, least, lt)) in
    let room = h.room in
    omega (arith, is, most, room)

pub counted_fit : (sort : Counted) (rows : List Row) (at w : ℕ) (xs : List ℕ) → AreCounted sort rows at xs → at < length rows → length rows < 4294967295 → w ≡ number_of rows (operation_of rows at) → get_or xs w 0 + 1 < 4294967296
counted_fit sort rows at w xs h lt few is =
    let here = operation_of rows at in
    let least = operation_at_most rows at in
    let small : here ≤ length rows = omega (arith, least, lt) in
    let least_tally = tally_at_most (belongs sort rows here) at in
    let same : get_or xs w 0 ≡ tally (belongs sort rows here) at = ap (λ (k : ℕ). get_or xs k 0) is ∙ h.counted here (operation_is rows at lt) small in
    omega (arith, same, least_tally, few, lt)

pub counted_next : (sort : Counted) (rows : List Row) (at w : ℕ) (xs out : List ℕ) → AreCounted sort rows at xs → at < length rows → w ≡ number_of rows (operation_of rows at) → out ≡ cond (is_counted sort (part_of rows at)) (set xs w (get_or xs w 0 + 1)) xs → AreCounted sort rows (at + 1) out
counted_next sort rows at w xs out h lt is e =
    let holds = is_counted sort (part_of rows at) in
    let here = operation_of rows at in
    record {
      room = ap length e ∙ kept_length holds xs w (get_or xs w 0 + 1) ∙ h.room;
      counted = λ o known le.
          counted_more (belongs sort rows o) at (number_of rows o) w holds xs out (counted_within sort rows at w xs h lt is)
          (ap (λ (b : Bool). holds && b) (sym (number_same rows here o (operation_is rows at lt) known)) ∙ ap (λ (k : ℕ). holds && nat_eq k (number_of rows o)) (sym is)) e (h.counted o known le);
    }
