-- The rows of a tree stand in its text.
use Rattle.std.proofs.Common.{ℕ, zero, suc, ◌<◌, ◌≤◌, List, [], ◌∷◌, length, get_or, sym, subst, arith}
use Rattle.ir_text_tree.specs.declared.row.Row.{Row}
use Rattle.ir_text_tree.specs.declared.row.Span.{Span}
use Rattle.ir_text_tree.specs.Rows.{GoForward, row_spans}
use Rattle.ir_text_names.specs.declared.fault.Fault.{Fault as NamesFault}
use Rattle.ir_text_names.specs.declared.fault.Fault.TheVariants as names
use Rattle.ir_text_names.specs.declared.fault.Wrong.{Wrong}
use Rattle.ir_text_names.specs.Firsts.{IsFirstFault}
use Rattle.ir_text_names.specs.Rows.{no_row}
use Rattle.ir_text_run.specs.Faults.{of_naming, StandsWithin}

ends_within : (end at : ℕ) (xs : List Span) → GoForward end at xs → at ≤ end
unfolding GoForward
ends_within end at [] h = h
ends_within end at (x ∷ xs) h = let a : at ≤ x.start = h.0 in let b : x.start < x.end = h.1 in let c : x.end ≤ end = ends_within end x.end xs h.2 in omega arith

begins_within : (rows : List Row) (end at i : ℕ) → GoForward end at (row_spans rows) → i < length rows → (get_or rows i no_row).span.start ≤ end
unfolding GoForward
begins_within [] end at i h lt = absurd (omega (arith, lt))
begins_within (r ∷ rows) end at zero h lt = let b : r.span.start < r.span.end = h.1 in let c : r.span.end ≤ end = ends_within end r.span.end (row_spans rows) h.2 in omega arith
begins_within (r ∷ rows) end at (suc i) h lt = begins_within rows end r.span.end i h.2 (omega (arith, lt))

-- a fault of names stands in the text
pub fault_within : (text : List ℕ) (rows : List Row) (W : Wrong → ℕ → Type 0) (e : NamesFault) → GoForward (length text) 0 (row_spans rows) → IsFirstFault W rows e → StandsWithin text (of_naming e)
fault_within text rows W names.OutOfMemory go first = tt
fault_within text rows W (names.Wrong w at) go first = subst (λ (n : ℕ). n ≤ length text) (sym first.2) (begins_within rows (length text) 0 first.0 go first.1)
