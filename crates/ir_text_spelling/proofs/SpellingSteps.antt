-- One step of the loop over the rows.
use Rattle.std.proofs.Common.{◌≡◌, ◌≤◌, ℕ, zero, suc, ◌+◌, ◌++◌, List, [], ◌∷◌, Option, Some, sym, ap, ◌∙◌, append_assoc, arith}
use Rattle.ir_text_tree.specs.declared.row.Part.{Part}
use Rattle.ir_text_tree.specs.declared.row.Part.TheVariants as parts
use Rattle.ir_text_tree.specs.declared.row.Row.{Row}
use Rattle.ir_text_spelling.specs.Marks.{depth_behind, before, ending}
use Rattle.ir_text_spelling.specs.Spellings.{piece, spelled}

-- a row was written
pub goes_on : (text front out total : List ℕ) (d : ℕ) (last : Option Part) (x : Row) (rows rest : List Row) → rows ≡ x ∷ rest → out ≡ (front ++ before d last x.part) ++ piece text x.span
    → front ++ spelled text d last rows ≡ total → out ++ spelled text (depth_behind x.part d) (Some x.part) rest ≡ total
unfolding spelled
goes_on text front out total d last x rows rest e is h =
    let behind = spelled text (depth_behind x.part d) (Some x.part) rest in
    ap (λ (ys : List ℕ). ys ++ behind) is
    ∙ append_assoc (front ++ before d last x.part) (piece text x.span) behind
    ∙ append_assoc front (before d last x.part) (piece text x.span ++ behind)
    ∙ ap (λ (ys : List Row). front ++ spelled text d last ys) (sym e)
    ∙ h

-- behind the last row
pub ends : (text front total : List ℕ) (d : ℕ) (last : Option Part) (rows : List Row) → rows ≡ [] → front ++ spelled text d last rows ≡ total → front ++ ending last ≡ total
unfolding spelled
ends text front total d last rows e h = ap (λ (ys : List Row). front ++ spelled text d last ys) (sym e) ∙ h

-- each row opens one region at most
pub depth_fits : (p : Part) (d n : ℕ) → d ≤ n → depth_behind p d ≤ n + 1
depth_fits parts.Open d n h = omega (arith, h)
depth_fits parts.Close zero n h = omega arith
depth_fits parts.Close (suc d) n h = omega (arith, h)
depth_fits _ d n h = omega (arith, h)
