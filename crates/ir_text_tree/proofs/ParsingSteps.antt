-- One step of the loop.
use Rattle.std.proofs.Common.{◌≡◌, ◌≤◌, ◌+◌, ℕ, zero, suc, Bool, List, [], ◌∷◌, ◌++◌, Option, Some, None, Result, Ok, Err, refl, sym, ap, ◌∙◌, append_assoc, arith}
use Rattle.std.proofs.lemmas.List.{append-nil}
use Rattle.std.specs.Global.{Vec}
use Rattle.ir_text_tree.specs.declared.row.Part.{Part}
use Rattle.ir_text_tree.specs.declared.row.Row.{Row}
use Rattle.ir_text_tree.specs.declared.row.Span.{Span}
use Rattle.ir_text_tree.specs.declared.sort.Piece.{Piece}
use Rattle.ir_text_tree.specs.declared.sort.Sort.{Sort}
use Rattle.ir_text_tree.specs.declared.fault.Wanted.{Wanted}
use Rattle.ir_text_tree.specs.declared.fault.Fault.{Fault}
use Rattle.ir_text_tree.specs.declared.fault.Fault.TheVariants as faults
use Rattle.ir_text_tree.specs.declared.text_step.Bracket.{Bracket}
use Rattle.ir_text_tree.specs.declared.parsing.State.{State}
use Rattle.ir_text_tree.specs.declared.tree_step.Mode.{Mode}
use Rattle.ir_text_tree.specs.declared.tree_step.Action.{Action}
use Rattle.ir_text_tree.specs.declared.tree_step.Action.TheVariants as action
use Rattle.ir_text_tree.specs.declared.tree_step.Step.{Step}
use Rattle.ir_text_tree.specs.declared.tree_step.Step.TheVariants.{Go, Bad}
use Rattle.ir_text_tree.specs.TextSteps.{innermost}
use Rattle.ir_text_tree.specs.TreeSteps.{tree_step, is_whole, wanted}
use Rattle.ir_text_tree.specs.Parsings.{is_inside, ended_row, token_row, text_behind, brackets_behind, depth_behind, behind_row, behind_rows, listed, parsing, parsing_from, misplaced, IsReadOn, IsReadOut, IsParsing}
use Rattle.ir_text_tree.specs.Reading.{parsing_goes, parsing_stops}

-- two rows more behind those that were read
pub behind_two : (front : List Row) (r q : Option Row) (y : Result (List Row) Fault) → behind_rows ((front ++ listed r) ++ listed q) y ≡ behind_rows front (behind_row r (behind_row q y))
behind_two front r q (Err e) = refl
behind_two front None None (Ok rows) = ap (λ (x : List Row). Ok (x ++ rows)) (append-nil (front ++ []) ∙ append-nil front)
behind_two front None (Some q) (Ok rows) = ap (λ (x : List Row). Ok x) (ap (λ (x : List Row). (x ++ q ∷ []) ++ rows) (append-nil front) ∙ append_assoc front (q ∷ []) rows)
behind_two front (Some r) None (Ok rows) = ap (λ (x : List Row). Ok x) (ap (λ (x : List Row). x ++ rows) (append-nil (front ++ r ∷ [])) ∙ append_assoc front (r ∷ []) rows)
behind_two front (Some r) (Some q) (Ok rows) = ap (λ (x : List Row). Ok x) (append_assoc (front ++ r ∷ []) (q ∷ []) rows ∙ append_assoc front (r ∷ []) (q ∷ rows))

-- what the step of the code is
pub step_is : (m : Mode) (i j : Bool) (a b : Option Bracket) (x : Sort) (r st : Step) → r ≡ tree_step m i a x → i ≡ j → a ≡ b → r ≡ st → tree_step m j b x ≡ st
step_is m i j a b x r st e f g h = ap (λ (k : Bool). tree_step m k b x) (sym f) ∙ ap (λ (o : Option Bracket). tree_step m i o x) (sym g) ∙ sym e ∙ h

-- a token that can't stand where it stands, and one that can
misplaced_goes : (m : Mode) (d : ℕ) (bs : List Bracket) (x : Piece) (xs : List Piece) (ended : Option Part) (a : Action) (to : Mode) → tree_step m (is_inside d) (innermost bs) x.sort ≡ Go ended a to
    → misplaced m d bs (x ∷ xs) ≡ misplaced to (depth_behind a d) (brackets_behind a bs) xs
unfolding misplaced
misplaced_goes m d bs x xs ended a to e = rw (misplaced, e) refl

misplaced_stops : (m : Mode) (d : ℕ) (bs : List Bracket) (x : Piece) (xs : List Piece) → tree_step m (is_inside d) (innermost bs) x.sort ≡ Bad
    → misplaced m d bs (x ∷ xs) ≡ Some (faults.Expected (wanted m (is_inside d)) x.span.start)
unfolding misplaced
misplaced_stops m d bs x xs e = rw (misplaced, e) refl

pub is_bad : (st : Step) → ((ended : Option Part) (a : Action) (to : Mode) → st ≡ Go ended a to → ⊥) → st ≡ Bad
is_bad (Go ended a to) h = absurd (h ended a to refl)
is_bad Bad h = refl

pub told : (m : Mode) (i j : Bool) (w : Wanted) (at : ℕ) (all : Result (List Row) Fault) → w ≡ wanted m i → i ≡ j → all ≡ Err (faults.Expected (wanted m j) at) → all ≡ Err (faults.Expected w at)
told m i j w at all e f h = h ∙ ap (λ (v : Wanted). Err (faults.Expected v at)) (ap (wanted m) (sym f) ∙ sym e)

pub whole_is : (m : Mode) (i j r s : Bool) → r ≡ is_whole m i → i ≡ j → r ≡ s → is_whole m j ≡ s
whole_is m i j r s e f g = ap (is_whole m) (sym f) ∙ sym e ∙ g

-- one token more was read
pub reads_on : (front out : List Row) (r q : Option Row) (st to : State) (bs cs : List Bracket) (x : Piece) (ended : Option Part) (a : Action)
    → tree_step st.mode (is_inside st.depth) (innermost bs) x.sort ≡ Go ended a to.mode
    → out ≡ (front ++ listed r) ++ listed q → r ≡ ended_row ended st.text → q ≡ token_row a x.span st.text
    → to.depth ≡ depth_behind a st.depth → cs ≡ brackets_behind a bs → to.text ≡ text_behind a x.span st.text
    → IsReadOn front bs st x out cs (Ok to)
reads_on front out r q st to bs cs x ended a e rows one two deep nested goes end xs = (
  ap (behind_rows front) (parsing_goes end st.mode st.depth bs st.text x xs ended a to.mode e)
      ∙ ap (λ (o : Option Row). behind_rows front (behind_row o (behind_row (token_row a x.span st.text) (parsing end to.mode (depth_behind a st.depth) (brackets_behind a bs) (text_behind a x.span st.text) xs)))) (sym one)
      ∙ ap (λ (o : Option Row). behind_rows front (behind_row r (behind_row o (parsing end to.mode (depth_behind a st.depth) (brackets_behind a bs) (text_behind a x.span st.text) xs)))) (sym two)
      ∙ sym (behind_two front r q (parsing end to.mode (depth_behind a st.depth) (brackets_behind a bs) (text_behind a x.span st.text) xs))
      ∙ ap (λ (o : List Row). behind_rows o (parsing end to.mode (depth_behind a st.depth) (brackets_behind a bs) (text_behind a x.span st.text) xs)) (sym rows)
      ∙ ap (λ (n : ℕ). behind_rows out (parsing end to.mode n (brackets_behind a bs) (text_behind a x.span st.text) xs)) (sym deep)
      ∙ ap (λ (b : List Bracket). behind_rows out (parsing end to.mode to.depth b (text_behind a x.span st.text) xs)) (sym nested)
      ∙ ap (λ (t : Span). behind_rows out (parsing end to.mode to.depth cs t xs)) (sym goes),
  misplaced_goes st.mode st.depth bs x xs ended a to.mode e
      ∙ ap (λ (n : ℕ). misplaced to.mode n (brackets_behind a bs) xs) (sym deep)
      ∙ ap (λ (b : List Bracket). misplaced to.mode to.depth b xs) (sym nested),
)

-- this one can't stand where it stands
pub stops_on : (front out : List Row) (st : State) (bs cs : List Bracket) (x : Piece) (i : Bool) (w : Wanted) → tree_step st.mode (is_inside st.depth) (innermost bs) x.sort ≡ Bad → w ≡ wanted st.mode i → i ≡ is_inside st.depth
    → IsReadOn front bs st x out cs (Err (faults.Expected w x.span.start))
stops_on front out st bs cs x i w e f g end xs = (
  told st.mode i (is_inside st.depth) w x.span.start (parsing end st.mode st.depth bs st.text (x ∷ xs)) f g (parsing_stops end st.mode st.depth bs st.text x xs e),
  misplaced_stops st.mode st.depth bs x xs e ∙ ap (λ (v : Wanted). Some (faults.Expected v x.span.start)) (ap (wanted st.mode) (sym g) ∙ sym f),
)

-- the loop went on
pub goes_on : (end : ℕ) (front out : List Row) (bs cs : List Bracket) (st to : State) (x : Piece) (ys xs : List Piece) (all : Result (List Row) Fault) → ys ≡ x ∷ xs
    → IsReadOn front bs st x out cs (Ok to) → behind_rows front (parsing_from end st bs ys) ≡ all → behind_rows out (parsing_from end to cs xs) ≡ all
goes_on end front out bs cs st to x ys xs all cut reads h = sym (reads end xs).0 ∙ ap (λ (zs : List Piece). behind_rows front (parsing_from end st bs zs)) (sym cut) ∙ h

pub loop_stops : (end : ℕ) (front out : List Row) (bs cs : List Bracket) (st : State) (x : Piece) (ys xs : List Piece) (all : Result (List Row) Fault) (f : Fault) → ys ≡ x ∷ xs
    → IsReadOn front bs st x out cs (Err f) → behind_rows front (parsing_from end st bs ys) ≡ all → IsParsing {X = Vec Row} (λ v. v.items) (Err f) all
loop_stops end front out bs cs st x ys xs all faults.OutOfMemory cut reads h = tt
loop_stops end front out bs cs st x ys xs all (faults.Expected w at) cut reads h =
    sym h ∙ ap (λ (zs : List Piece). behind_rows front (parsing_from end st bs zs)) cut ∙ ap (behind_rows front) (reads end xs).0

pub loop_breaks_off : (X : Type 0) (end : ℕ) (front out : List Row) (bs : List Bracket) (st : State) (ys : List Piece) (all : Result (List Row) Fault) (f : Fault) → ys ≡ []
    → IsReadOut {X = X} end front st out (Err f) → behind_rows front (parsing_from end st bs ys) ≡ all → IsParsing {X = Vec Row} (λ v. v.items) (Err f) all
loop_breaks_off X end front out bs st ys all faults.OutOfMemory cut reads h = tt
loop_breaks_off X end front out bs st ys all (faults.Expected w at) cut reads h =
    sym h ∙ ap (λ (zs : List Piece). behind_rows front (parsing_from end st bs zs)) cut ∙ ap (behind_rows front) (reads bs)

-- a token opens one region at most
pub deepens : (a : Action) (d : ℕ) → depth_behind a d ≤ d + 1
deepens action.Open d = omega arith
deepens action.Close zero = omega arith
deepens action.Close (suc d) = omega arith
deepens _ d = omega arith
