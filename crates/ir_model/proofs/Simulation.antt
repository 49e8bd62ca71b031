-- Two runs of one list of edits stay equal up to the names that each chose.
use mathlib.Core.Path.{PathP, ◌≡◌, sym, ap, ◌∙◌, subst, subst-∙, to_path_p, from_path_p}
use Rattle.std.proofs.Common.{List, [], ◌∷◌}
use Rattle.ir_model.specs.Ids.{Ids, Fresh, FreshApart, FreshDistinct, counts}
use Rattle.ir_model.proofs.Loops.{Lawful, loop, loop_moves, loop_fixes}

-- what each edit so far made, the last first
abbrev pub History : Ids → Type 0
History N = List (Fresh N)

-- nothing of the history is among the new
abbrev pub NewTo : (N : Ids) → History N → Fresh N → Type 0
NewTo N [] new = Unit {0}
NewTo N (made ∷ history) new = FreshApart N made new × NewTo N history new

abbrev none : (N : Ids) → Fresh N
none N = record { ops = []; blocks = []; regions = []; numbers = []; uses = [] }

abbrev latest : (N : Ids) → History N → Fresh N
latest N [] = none N
latest N (made ∷ history) = made

abbrev earlier : (N : Ids) → History N → History N
earlier N [] = []
earlier N (made ∷ history) = history

loop_keeps : (N : Ids) (L : Lawful N) (old new : Fresh N) (history : History N) → NewTo N history old → NewTo N history new → PathP (λ i. History (loop N L old new i)) history history
loop_keeps N L old new [] a b = λ i. []
loop_keeps N L old new (made ∷ history) a b = λ i. loop_fixes N L old new made a.0 b.0 i ∷ loop_keeps N L old new history a.1 b.1 i

-- a state, and what the edits that led to it made
abbrev pub Past : (Ids → Type 0) → Ids → Type 0
Past S M = S M × History M

module _ (N : Ids) (S : Ids → Type 0) where
  -- a renaming takes the first to the second
  pub record Alike (x y : Past S N) : Type 1 where
    pub names : N ≡ N
    pub over : PathP (λ i. Past S (names i)) x y

  -- each renaming that leaves what was made leaves the state
  abbrev pub RestsOn : Past S N → Type 1
  RestsOn x = (p : N ≡ N) → PathP (λ i. History (p i)) x.1 x.1 → PathP (λ i. S (p i)) x.0 x.0

  pub Alike-then : {x y z : Past S N} → Alike x y → Alike y z → Alike x z
  Alike-then {x} {y} {z} a b = record {
    names = a.names ∙ b.names;
    over = to_path_p (λ i. Past S ((a.names ∙ b.names) i)) (subst-∙ (Past S) a.names b.names x ∙ ap (subst (Past S) b.names) (from_path_p (λ i. Past S (a.names i)) a.over) ∙ from_path_p (λ i. Past S (b.names i)) b.over);
  }

module _ (N : Ids) (L : Lawful N) (S : Ids → Type 0) (Change : (M : Ids) → S M → Fresh M → S M → Type 0)
    (unique : (s a b : S N) (new : Fresh N) → Change N s new a → Change N s new b → a ≡ b) where
  -- a change carried along a renaming is the change of what the renaming leads to
  changes_along : (p : N ≡ N) (s t s' t' : S N) (new made : Fresh N) → PathP (λ i. S (p i)) s t → PathP (λ i. Fresh (p i)) new made
      → Change N s new s' → Change N t made t' → PathP (λ i. S (p i)) s' t'
  changes_along p s t s' t' new made q r c d =
      let line : PathP (λ i. S (p i)) s' (coe 0 1 (i. S (p i)) s') = λ i. coe 0 i (j. S (p j)) s' in
      let carried : Change N t made (coe 0 1 (i. S (p i)) s') = coe 0 1 (i. Change (p i) (q i) (r i) (line i)) c in
      to_path_p (λ i. S (p i)) (unique t (coe 0 1 (i. S (p i)) s') t' made carried d)

  pub RestsOn-more : (x : Past S N) (new : Fresh N) (s' : S N) → RestsOn N S x → Change N x.0 new s' → RestsOn N S (s', new ∷ x.1)
  RestsOn-more x new s' rests c p q = changes_along p x.0 x.0 s' s' new new (rests p (λ i. earlier (p i) (q i))) (λ i. latest (p i) (q i)) c c

  -- after one edit that each run makes with its own new names, they are alike again
  pub Alike-more : (x y : Past S N) (new made : Fresh N) (s' t' : S N) → RestsOn N S y → Alike N S x y
      → NewTo N x.1 new → NewTo N y.1 made → FreshDistinct N new → FreshDistinct N made → counts N new ≡ counts N made
      → Change N x.0 new s' → Change N y.0 made t' → Alike N S (s', new ∷ x.1) (t', made ∷ y.1)
  Alike-more x y new made s' t' rests alike nx ny dx dy same c d =
      let p = alike.names in
      let named = coe 0 1 (i. Fresh (p i)) new in
      let names_line : PathP (λ i. Fresh (p i)) new named = λ i. coe 0 i (j. Fresh (p j)) new in
      let apart : NewTo N y.1 named = coe 0 1 (i. NewTo (p i) (alike.over i).1 (names_line i)) nx in
      let distinct : FreshDistinct N named = coe 0 1 (i. FreshDistinct (p i) (names_line i)) dx in
      let many : counts N named ≡ counts N made = sym (λ i. counts (p i) (names_line i)) ∙ same in
      let carried = coe 0 1 (i. S (p i)) s' in
      let line : PathP (λ i. S (p i)) s' carried = λ i. coe 0 i (j. S (p j)) s' in
      let changes : Change N y.0 named carried = coe 0 1 (i. Change (p i) (alike.over i).0 (names_line i) (line i)) c in
      let turn = loop N L named made in
      let fixed : PathP (λ i. History (turn i)) y.1 y.1 = loop_keeps N L named made y.1 apart ny in
      let moved : PathP (λ i. Fresh (turn i)) named made = loop_moves N L named made many distinct dy in
      let first : Alike N S (s', new ∷ x.1) (carried, named ∷ y.1) = record { names = p; over = λ i. (line i, names_line i ∷ (alike.over i).1) } in
      let second : Alike N S (carried, named ∷ y.1) (t', made ∷ y.1) = record {
        names = turn;
        over = λ i. (changes_along turn y.0 y.0 carried t' named made (rests turn fixed) moved changes d i, moved i ∷ fixed i);
      } in
      Alike-then N S first second
